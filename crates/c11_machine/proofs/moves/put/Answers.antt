use Rattle.std.proofs.Common.{List, ap, arith, reverse, take, ◌∙◌, ◌∷◌}
use Rattle.std.proofs.lemmas.List.{take_more_set}
use Rattle.c11_flat.specs.declared.slot.Slot.{Slot}
use Rattle.c11_machine.proofs.Stacks.{on_top, taken_off}
use Rattle.c11_machine.proofs.moves.put.Goals as goal

pub returns-then-kept-len-clause-ok : goal.returns-then-kept-len-clause-ok
returns-then-kept-len-clause-ok c =
    let items = c.args.stack.now.items in let kept = c.saturating_sub-kept.result in
    ap (λ (xs : List Slot). reverse xs) (c.truncate.ensures.items ∙ take_more_set items kept c.args.slot (omega arith))
    ∙ (on_top (take kept items) c.args.slot ∙ ap (λ (xs : List Slot). c.args.slot ∷ xs) (taken_off items c.args.takes kept (omega arith)))
