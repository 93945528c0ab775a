use Rattle.std.proofs.Common.{rules}
use Rattle.c11_plain.specs.SeqCst.{IsLaterStore}
use Rattle.c11_plain.proofs.Filling.{none_of}
use Rattle.c11_plain.proofs.seq_cst.has_no_later.Goals as goal

pub returns : goal.returns
returns c =
    let e = none_of c.some_below.result c.args.l _ (IsLaterStore c.args.events.now c.args.cell c.args.l c.args.a) c.some_below.ensures
    (λ k lt t. search rules) (λ k lt t h. search rules) in
    (λ h. record { none = e.0 h }, λ n. e.1 n.none)
