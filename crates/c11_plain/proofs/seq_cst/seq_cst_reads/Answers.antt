use Rattle.std.proofs.Common.{rules}
use Rattle.c11_plain.specs.SeqCst.{MayReadIt}
use Rattle.c11_plain.proofs.Filling.{all_of}
use Rattle.c11_plain.proofs.seq_cst.seq_cst_reads.Goals as goal

pub returns : goal.returns
returns c =
    let e = all_of c.all.result c.args.order.now _ (MayReadIt c.args.events.now c.args.cell) c.all.ensures
    (λ a b h t. search rules) (λ a b h t g. search rules) in (
      λ h l x a i last. ((e.0 h a l (c.requires.order.complete a l last.before)).may x i).may last,
      λ f. e.1 (λ a l t. record { may = λ x i. record { may = λ last. f l x a i last } }),
    )
