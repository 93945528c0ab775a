-- An order that keeps chains together and puts first what must precede is lawful.
use Rattle.std.proofs.Common.{ℕ, ◌<◌, List, sym, subst, arith}
use Rattle.c11_events.specs.declared.event.Event.{Event}
use Rattle.c11_events.specs.Events.{IsStore, IsLoad, IsRmw, ReadsEarlier}
use Rattle.c11_events.specs.Lawful.{Precedes, IsNext, IsModificationOrder, Lawful, SeqCstReads, Fenced, before, after, between}
use Rattle.c11_events.specs.Chains.{Cause, write_write, write_read, read_write, read_read, seq_cst, fenced_read, fenced_write, MustPrecede}
use Rattle.c11_events.proofs.Orders.{before_irreflexive, before_transitive}
use Rattle.c11_events.proofs.Rises.{hb_rises}

pub fenced_rises : (events : List Event) (a n : ℕ) → Fenced events a n → a < n
fenced_rises events a n (before f) = omega (arith, f.first.earlier, f.second.earlier)
fenced_rises events a n (after f) = omega (arith, f.first.earlier, f.second.earlier)
fenced_rises events a n (between f) = omega (arith, f.first.earlier, f.between.earlier, f.second.earlier)

module _ (events : List Event) (cell : ℕ) (order : List ℕ) (reads : ReadsEarlier events) (is : IsModificationOrder events cell order)
    (must : (a b : ℕ) → MustPrecede events cell a b → Precedes order a b) where
  rises : (a b : ℕ) → IsStore events cell a → IsStore events cell b → a < b → Cause events cell a b → Precedes order a b
  rises a b sa sb lt cause = must a b (record { first = sa; second = sb; differ = λ same. absurd (omega (arith, same)); cause = cause })

  not_back : (a l x : ℕ) → IsStore events cell a → IsLoad events cell l x → Cause events cell a x → Precedes order x a → ⊥
  not_back a l x sa load cause back =
      before_irreflexive events cell order is a (before_transitive events cell order is a x a
      (must a x (record {
        first = sa;
        second = (reads cell l x load).0;
        cause = cause;
        differ = λ same. before_irreflexive events cell order is a (subst (λ (z : ℕ). Precedes order z a) (sym same) back);
      })) back)

  pub keeps_lawful : ((b x : ℕ) → IsRmw events cell b x → IsNext order x b) → SeqCstReads events cell → Lawful events cell order
  keeps_lawful follows seq = record {
    stores = is;
    write_write_coherence = λ a b sa sb h. rises a b sa sb (hb_rises events a b reads h) (write_write h);
    write_read_coherence = λ a l x sa load h. not_back a l x sa load (write_read h load);
    read_write_coherence = λ l x b load sb h. let e = reads cell l x load in rises x b e.0 sb (omega (arith, e.1, hb_rises events l b reads h)) (read_write load h);
    read_read_coherence = λ l x k y load load' h. not_back x k y (reads cell l x load).0 load' (read_read load load' h);
    rmw_atomicity = follows;
    seq_cst_write_order = λ a b sa sb s. rises a b sa sb s.earlier (seq_cst s);
    seq_cst_read = seq;
    fence_before_read = λ a l x sa load f. not_back a l x sa load (fenced_read (before f) load);
    fence_after_write = λ a l x sa load f. not_back a l x sa load (fenced_read (after f) load);
    fences_between = λ a l x sa load f. not_back a l x sa load (fenced_read (between f) load);
    fences_between_writes = λ a b sa sb f. rises a b sa sb (fenced_rises events a b f) (fenced_write f);
  }
