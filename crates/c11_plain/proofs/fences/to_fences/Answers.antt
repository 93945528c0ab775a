use Rattle.std.proofs.Common.{rules}
use Rattle.c11_events.specs.Lawful.{IsFence}
use Rattle.c11_plain.specs.Pairs.{Holds}
use Rattle.c11_plain.proofs.Filling.{if_ok, selected, same_table}
use Rattle.c11_plain.proofs.fences.to_fences.Goals as goal

pub returns : goal.returns
returns c = if_ok c.only.result c.only.ensures (λ kept s. selected c.args.table.now kept _ (Holds c.args.table.now) (λ _ f. IsFence c.args.events.now f) s
    (same_table c.args.table.now) (λ a b h t. search rules) (λ a b h t p. search rules))
