use Rattle.std.proofs.Common.{rules}
use Rattle.c11_plain.specs.Rules.{ReadsNoOlderThan}
use Rattle.c11_plain.proofs.Filling.{all_of}
use Rattle.c11_plain.proofs.rules.all_read_no_older.Goals as goal

pub returns : goal.returns
returns c =
    let e = all_of c.all.result c.args.table.now _ (ReadsNoOlderThan c.args.events.now c.args.cell c.args.order.now) c.all.ensures
    (λ a b h t. search rules) (λ a b h t g. search rules) in
    (λ h a l x s i t p. (e.0 h a l t).fits x i s p, λ f. e.1 (λ a l t. record { fits = λ x i s p. f a l x s i t p }))
