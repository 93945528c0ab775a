use Rattle.std.proofs.Common.{rules}
use Rattle.c11_plain.specs.Rules.{ReadInOrder}
use Rattle.c11_plain.proofs.Filling.{all_of}
use Rattle.c11_plain.proofs.rules.reads_in_order.Goals as goal

pub returns : goal.returns
returns c =
    let e = all_of c.all.result c.args.table.now _ (ReadInOrder c.args.events.now c.args.cell c.args.order.now) c.all.ensures
    (λ a b h t. search rules) (λ a b h t g. search rules) in
    (λ h l x k y i j t p. (e.0 h l k t).fits x i y j p, λ f. e.1 (λ l k t. record { fits = λ x i y j p. f l x k y i j t p }))
