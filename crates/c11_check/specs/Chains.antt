-- What is said of lists in expressions.
use Rattle.std.specs.Prelude.{ℕ, List, [], map, get_or}
use Rattle.c11_ast.specs.declared.expr.Expr.{Expr, out-Expr}
use Rattle.c11_ast.specs.declared.expr.Arg.{Arg}
use Rattle.c11_ast.specs.declared.expr.Link.{Link}
use Rattle.c11_ast.specs.declared.expr.Target.{Target}
use Rattle.c11_ast.specs.declared.expr.Arg.TheOpen.{Expr-F}
use Rattle.c11_check.specs.declared.library.Want.{Want}
use Rattle.c11_check.specs.declared.library.Want.TheVariants as want
use Rattle.c11_check.specs.declared.fault.Fault.{Fault}
use Rattle.c11_check.specs.Scopes.{Scope}
use Rattle.c11_check.specs.Expressions.{faults_of_link, links}

abbrev pub behind : Expr-F Arg Expr Link Target → Scope → List Fault
behind (Expr-F.Chain first rest) = links (map faults_of_link rest)
behind _ = λ scope. []

-- the faults behind the operators, if the expression is a chain
abbrev pub links_behind : Expr → Scope → List Fault
links_behind expr = behind (out-Expr expr)

-- what is wanted in a place; behind what is wanted only values are
abbrev pub want_at : List Want → ℕ → Want
want_at wants place = get_or wants place want.Value
