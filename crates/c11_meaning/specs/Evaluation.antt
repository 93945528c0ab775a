-- What an expression does, along its tree.
use Rattle.c11_ast.specs.declared.expr.Expr.{Expr}
use Rattle.c11_ast.specs.declared.expr.Arg.TheOpen.{Expr-F}
use Rattle.c11_ast.specs.declared.expr.Arg.TheFolds.{fold-Expr}
use Rattle.c11_check.specs.Scopes.{denoted}
use Rattle.c11_meaning.specs.Outcome.{Gives, and_then}
use Rattle.c11_meaning.specs.Parts.{Object, Part, Given, Linked, arg_step, link_step, target_step, part_step}
use Rattle.c11_meaning.specs.Expressions.{Valuing, reading, assigning, stepping, condition, chained, prefixed, cast}
use Rattle.c11_meaning.specs.Library.{call}

abbrev pub value_step : Expr-F (Given Valuing) (Part Valuing) (Linked Valuing) (Object Valuing) → Valuing
value_step (Expr-F.Assign target op op_spot value) scope calls st = assigning target op op_spot.line value.value scope calls st
value_step (Expr-F.Cond test one another) scope calls st = condition test one another scope calls st
value_step (Expr-F.Chain first rest) scope calls st = and_then (first.value scope calls st) (λ value st. chained rest value scope calls st)
value_step (Expr-F.Prefix spot op inner) scope calls st = and_then (inner.value scope calls st) (prefixed op spot.line)
value_step (Expr-F.Step spot op_spot target up before) scope calls st = stepping target op_spot.line up before scope calls st
value_step (Expr-F.Cast spot to inner) scope calls st = and_then (inner.value scope calls st) (λ value st. Gives (cast to value) st)
value_step (Expr-F.Call word args) scope calls st = call (denoted scope word.name) word.spot.line args scope calls st
value_step (Expr-F.Literal spot value) scope calls st = Gives value st
value_step (Expr-F.Read target) scope calls st = reading target scope calls st
value_step (Expr-F.Paren spot inner) scope calls st = inner.value scope calls st

abbrev pub part_of : Expr → Part Valuing
part_of = fold-Expr (Given Valuing) (Part Valuing) (Linked Valuing) (Object Valuing) arg_step (part_step value_step) link_step target_step

-- the value of an expression
abbrev pub value_of : Expr → Valuing
value_of expr = (part_of expr).value
