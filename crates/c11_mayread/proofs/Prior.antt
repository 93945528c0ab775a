-- The lists of prior stores, said of what must precede.
use Rattle.std.proofs.Common.{◌≡◌, ℕ, Bool, true, false, List, Some, refl, sym, subst, ◌∙◌, ◌⊎◌, inl, inr}
use Rattle.c11_events.specs.declared.event.Event.{Event}
use Rattle.c11_events.specs.Events.{IsStore}
use Rattle.c11_events.specs.Chains.{Reach, ChainLawful}
use Rattle.c11_events.specs.Added.{PriorWrite}
use Rattle.c11_events.proofs.Adding.{event_adds}
use Rattle.c11_events.proofs.Reaches.{must_reach}
use Rattle.c11_mayread.specs.Priors.{ListsPriors}
use Rattle.c11_mayread.specs.Listed.{PriorReads, PriorWrites}
use Rattle.c11_mayread.specs.Priors.{IsOrPrecedes, PriorTo, prior, seq_cst}

module _ (events : List Event) (c : ChainLawful events) (cell : ℕ) where
  reached : (a p : ℕ) → IsOrPrecedes events cell a p → (a ≡ p) ⊎ Reach events cell a p
  reached a p (inl same) = inl same
  reached a p (inr must) = inr (must_reach events c cell a p must)

  pub prior_reads : (thread : ℕ) (is_sc : Bool) (list : List ℕ) → ListsPriors events thread cell is_sc false list → PriorReads events thread cell is_sc list
  prior_reads thread is_sc list lists e next loads store =
      let priors = lists e next in
      let adds = event_adds events e c (λ d is. let both : Some cell ≡ Some d = sym loads ∙ is in let same : cell ≡ d = cc in subst (λ (k : ℕ). IsStore events k e.from) same store) in (
        λ p i differ. adds.prior_read cell p loads differ (unwritten p (priors.only p i)),
        λ a must. elim (adds.read cell a loads must) [
          | inl q ↦ (let t = priors.all a (prior q) in inr (t.0, (t.1.0, reached a t.0 t.1.1)))
          | inr r ↦ inl r
        ],
      )
    where
      unwritten : (p : ℕ) → PriorTo events e cell false p → Rattle.c11_events.specs.Priors.Prior events e cell p
      unwritten p (prior q) = q
      unwritten p (seq_cst is s b) = absurd (let clash : false ≡ true = is in cc)

  pub prior_writes : (thread : ℕ) (is_sc : Bool) (list : List ℕ) → ListsPriors events thread cell is_sc true list → PriorWrites events thread cell is_sc list
  prior_writes thread is_sc list lists e next stores reads =
      let priors = lists e next in
      let adds = event_adds events e c reads in (
        λ p i. adds.prior_write cell p stores (of_write p (priors.only p i)),
        λ a must. elim (adds.written cell a must) [
          | inl q ↦ (let t = priors.all a (to_write a q) in inl (t.0, (t.1.0, reached a t.0 t.1.1)))
          | inr r ↦ inr r
        ],
      )
    where
      of_write : (p : ℕ) → PriorTo events e cell true p → PriorWrite events e cell p
      of_write p (prior q) = inl q
      of_write p (seq_cst is s b) = inr (s, b)

      to_write : (a : ℕ) → PriorWrite events e cell a → PriorTo events e cell true a
      to_write a (inl q) = prior q
      to_write a (inr q) = seq_cst refl q.0 q.1
