use Rattle.std.proofs.Common.{◌∙◌}
use Rattle.c11_pieces.proofs.Typed.{typed_is}
use Rattle.c11_pieces.proofs.types.type_of.Goals as goal

pub returns-clause-checked : goal.returns-clause-checked
returns-clause-checked c = c.value_type.ensures ∙ typed_is c.args.expr.now c.args.scopes.now
