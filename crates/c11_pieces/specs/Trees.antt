-- The parts of expressions, as the code around them sees them.
use Rattle.std.specs.Prelude.{List, []}
use Rattle.c11_ast.specs.declared.expr.Arg.{Arg}
use Rattle.c11_ast.specs.declared.expr.Expr.{Expr, out-Expr}
use Rattle.c11_ast.specs.declared.expr.Link.{Link}
use Rattle.c11_ast.specs.declared.expr.Target.{Target}
use Rattle.c11_ast.specs.declared.expr.Arg.TheOpen.{Expr-F}
use Rattle.c11_ast.specs.declared.expr.Arg.TheFolds.{fold-Arg, fold-Link, fold-Target}
use Rattle.c11_meaning.specs.Parts.{Object, Part, Given, Linked, arg_step, link_step, target_step, part_step}
use Rattle.c11_flat.specs.Pieces.{Coding, code_step}

abbrev pub given_of : Arg → Given Coding
given_of = fold-Arg (Given Coding) (Part Coding) (Linked Coding) (Object Coding) arg_step (part_step code_step) link_step target_step

abbrev pub linked_of : Link → Linked Coding
linked_of = fold-Link (Given Coding) (Part Coding) (Linked Coding) (Object Coding) arg_step (part_step code_step) link_step target_step

abbrev pub object_of : Target → Object Coding
object_of = fold-Target (Given Coding) (Part Coding) (Linked Coding) (Object Coding) arg_step (part_step code_step) link_step target_step

abbrev pub links_in : Expr-F Arg Expr Link Target → List Link
links_in (Expr-F.Chain first rest) = rest
links_in _ = []

-- the operators behind the first operand, if the expression is a chain
abbrev pub links_of : Expr → List Link
links_of expr = links_in (out-Expr expr)
