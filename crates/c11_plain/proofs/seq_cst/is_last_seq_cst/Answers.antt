use Rattle.c11_plain.proofs.LastStores.{last_is, no_later}
use Rattle.c11_plain.proofs.Numbers.{apart}
use Rattle.c11_plain.proofs.seq_cst.is_last_seq_cst.Goals as goal

pub returns-then-is_store : goal.returns-then-is_store
returns-then-is_store c = (
  λ h. last_is c.args.events.now c.args.cell c.args.l c.args.a (c.is_store.ensures.0 c.if-is_store.true) (c.seq_cst_before.ensures.0 h) (c.has_no_later.ensures.0 c.if-not-has_no_later.false),
  λ last. c.seq_cst_before.ensures.1 last.before,
)

pub returns-then-not-has_no_later : goal.returns-then-not-has_no_later
returns-then-not-has_no_later c = (
  λ h. cc,
  λ last. absurd (apart c.if-not-has_no_later.true (c.has_no_later.ensures.1 (no_later c.args.events.now c.args.cell c.args.l c.args.a last))),
)
