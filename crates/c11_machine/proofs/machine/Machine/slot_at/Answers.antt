use Rattle.std.proofs.Common.{reverse, drop, ap, sym, ◌∙◌, ◌∷◌, ◌+◌, ◌-◌, arith}
use Rattle.c11_flat.specs.declared.slot.Slot.{Slot}
use Rattle.c11_machine.proofs.Stacks.{slot_below}
use Rattle.c11_machine.proofs.machine.Machine.slot_at.Goals as goal

pub returns-then-depth-len-clause-slot : goal.returns-then-depth-len-clause-slot
returns-then-depth-len-clause-slot c =
    let items = c.args.self.now.stack.items in
    slot_below items c.args.depth (c.len-len.result - 1 - c.args.depth) c.index.result.now (omega arith)
    ∙ ap (λ (x : Slot). x ∷ drop (c.args.depth + 1) (reverse items)) (sym c.index.ensures)
