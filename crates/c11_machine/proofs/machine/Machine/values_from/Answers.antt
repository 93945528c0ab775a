use Rattle.std.proofs.Common.{List, ap, arith, sym, ◌-◌, ◌∙◌}
use Rattle.c11_flat.specs.declared.slot.Slot.{Slot}
use Rattle.c11_machine.proofs.Popped.{all_popped, not_popped, short_popped}
use Rattle.c11_machine.specs.Slots.{are_values}
use Rattle.c11_machine.proofs.machine.Machine.values_from.Goals as goal

pub returns-then-count-len : goal.returns-then-count-len
returns-then-count-len c = short_popped c.args.self.now.stack.items c.args.count (omega arith)

pub returns-then-are_values : goal.returns-then-are_values
returns-then-are_values c = all_popped c.args.self.now.stack.items (c.len-len.result - c.args.count) c.args.count (omega arith) (ap (λ (xs : List Slot). are_values xs) (sym c.slots_from.ensures) ∙ (sym c.are_values.ensures ∙ c.if-are_values.true))

pub returns-else-are_values : goal.returns-else-are_values
returns-else-are_values c = not_popped c.args.self.now.stack.items (c.len-len.result - c.args.count) c.args.count (omega arith) (ap (λ (xs : List Slot). are_values xs) (sym c.slots_from.ensures) ∙ (sym c.are_values.ensures ∙ c.if-are_values.false))
