use Rattle.std.proofs.Common.{List, ap, arith, reverse, ◌∙◌}
use Rattle.c11_flat.specs.declared.slot.Slot.{Slot}
use Rattle.c11_machine.proofs.Stacks.{taken_off}
use Rattle.c11_machine.proofs.moves.take.Goals as goal

pub returns : goal.returns
returns c = ap (λ (xs : List Slot). reverse xs) c.truncate.ensures.items ∙ taken_off c.args.stack.now.items c.args.takes c.saturating_sub-kept.result (omega arith)
