-- Reach is a strict order of the stores of a cell, and holds what must precede what.
use Rattle.std.proofs.Common.{◌≡◌, ℕ, zero, suc, ◌+◌, ◌<◌, List, refl, sym, ◌∙◌, subst, arith, ◌⊎◌, inl, inr}
use native.Mathlib.Decide.{ℕ_discrete}
use mathlib.Core.Logic.{dite}
use Rattle.c11_events.specs.declared.event.Event.{Event}
use Rattle.c11_events.specs.Closure.{one, join}
use Rattle.c11_events.specs.HappensBefore.{ReleaseSequence, here, next}
use Rattle.c11_events.specs.Lawful.{Precedes, Lawful}
use Rattle.c11_events.specs.Chains.{IsRanked, MustPrecede, Links, Reach, ChainLawful}
use Rattle.c11_events.proofs.Basics.{chain_head}
use Rattle.c11_events.proofs.DecideEvents.{chain_end}
use Rattle.c11_events.proofs.Necessary.{links_before}
use Rattle.c11_events.proofs.Pieces.{members_before, ranks_before}
use Rattle.c11_events.proofs.Ranks.{placed, ranked_same, ranked_one}

-- reach holds in every lawful order
pub reach_before : (events : List Event) (cell : ℕ) (order : List ℕ) → Lawful events cell order → (a b : ℕ) → Reach events cell a b → Precedes order a b
reach_before events cell order lawful a b r = elim r.leads [
  | inl p ↦ members_before events cell order lawful.stores lawful.rmw_atomicity r.h r.k r.i r.j a b r.first r.second (links_before events cell order lawful r.h r.k p.1)
  | inr p ↦ ranks_before events cell order lawful.stores lawful.rmw_atomicity r.h r.i r.j a b r.first (subst (λ (z : ℕ). IsRanked events cell z r.j b) (sym p.0) r.second) p.1
]

module _ (events : List Event) (c : ChainLawful events) (cell : ℕ) where
  -- links lead from a's chain to b's, or a's rank is smaller
  abbrev Leads : ℕ → ℕ → ℕ → ℕ → Type 0
  Leads h k i j = ((h ≡ k → ⊥) × Links events cell h k) ⊎ ((h ≡ k) × (i < j))

  leads_join : (h k m i j n : ℕ) → Leads h k i j → Leads k m j n → Leads h m i n
  leads_join h k m i j n (inl p) (inl q) = let w : Links events cell h m = join p.1 q.1 in inl ((λ same. c.acyclic cell h (subst (λ (z : ℕ). Links events cell h z) (sym same) w)), w)
  leads_join h k m i j n (inl p) (inr q) = inl ((λ same. p.0 (same ∙ sym q.0)), subst (λ (z : ℕ). Links events cell h z) q.0 p.1)
  leads_join h k m i j n (inr p) (inl q) = inl ((λ same. q.0 (sym p.0 ∙ same)), subst (λ (z : ℕ). Links events cell z m) (sym p.0) q.1)
  leads_join h k m i j n (inr p) (inr q) = inr (p.0 ∙ q.0, omega (arith, p.1, q.1))

  leads_not_back : (h i : ℕ) → Leads h h i i → ⊥
  leads_not_back h i (inl p) = p.0 refl
  leads_not_back h i (inr p) = omega (arith, p.1)

  pub reach_join : (a b d : ℕ) → Reach events cell a b → Reach events cell b d → Reach events cell a d
  reach_join a b d r s =
      let both = ranked_same events cell s.h r.k s.i r.j b s.first r.second in
      record {
        h = r.h;
        k = s.k;
        i = r.i;
        j = s.j;
        first = r.first;
        second = s.second;
        leads = leads_join r.h r.k s.k r.i r.j s.j r.leads (subst (λ (z : ℕ). Leads z s.k r.j s.j) both.0 (subst (λ (z : ℕ). Leads s.h s.k z s.j) both.1 s.leads));
      }

  pub reach_irreflexive : (a : ℕ) → Reach events cell a a → ⊥
  reach_irreflexive a r =
      let both = ranked_same events cell r.k r.h r.j r.i a r.second r.first in
      leads_not_back r.h r.i (subst (λ (z : ℕ). Leads r.h z r.i r.i) both.0 (subst (λ (z : ℕ). Leads r.h r.k r.i z) both.1 r.leads))

  pub must_reach : (a b : ℕ) → MustPrecede events cell a b → Reach events cell a b
  must_reach a b m =
      let p = placed events cell c.reads a m.first in
      let q = placed events cell c.reads b m.second in
      record {
        h = p.0;
        k = q.0;
        i = p.1.0;
        j = q.1.0;
        first = p.1.1;
        second = q.1.1;
        leads = dite (ℕ_discrete p.0 q.0)
            (λ (same : p.0 ≡ q.0).
            let rb : IsRanked events cell p.0 q.1.0 b = subst (λ (z : ℕ). IsRanked events cell z q.1.0 b) (sym same) q.1.1 in
            let differ : p.1.0 ≡ q.1.0 → ⊥ = λ e. m.differ (ranked_one events cell (c.once cell) p.0 p.1.0 a b p.1.1 (subst (λ (z : ℕ). IsRanked events cell p.0 z b) (sym e) rb)) in
            let forward : q.1.0 < p.1.0 → ⊥ = c.ranked cell a b p.0 p.1.0 q.1.0 m p.1.1 rb in
            inr (same, omega arith))
            (λ (differ : p.0 ≡ q.0 → ⊥). inl (differ, one (record { differ = differ; a = a; b = b; i = p.1.0; j = q.1.0; first = p.1.1; second = q.1.1; must = m })));
      }

  chain_append : (h i s n x : ℕ) → ReleaseSequence events cell h i s → ReleaseSequence events cell s n x → ReleaseSequence events cell h (i + n) x
  chain_append h i s _ _ k (here is) = let e : i ≡ i + 0 = omega arith in subst (λ (z : ℕ). ReleaseSequence events cell h z s) e k
  chain_append h i s _ _ k (next {n = n} {y = y} {x = x} t r) = let e : suc (i + n) ≡ i + suc n = omega arith in
      subst (λ (z : ℕ). ReleaseSequence events cell h z x) e (next (chain_append h i s n y k t) r)

  -- a chain leads on from each of its stores
  pub chain_reach : (s n x : ℕ) → ReleaseSequence events cell s n x → (s ≡ x) ⊎ Reach events cell s x
  chain_reach s zero x t = inl (chain_end events cell s 0 x t).0
  chain_reach s (suc n) x t =
      let p = placed events cell c.reads s (chain_head events cell s (suc n) x t) in
      inr (record { h = p.0; k = p.0; i = p.1.0; j = p.1.0 + suc n; first = p.1.1; second = record { chain = chain_append p.0 p.1.0 s (suc n) x p.1.1.chain t; first = p.1.1.first }; leads = inr (refl, omega arith) })

  -- what reaches or is a store of a chain reaches or is each later one
  pub reach_on : (a s n x : ℕ) → (a ≡ s) ⊎ Reach events cell a s → ReleaseSequence events cell s n x → (a ≡ x) ⊎ Reach events cell a x
  reach_on a s n x (inl same) t = elim (chain_reach s n x t) [ inl e ↦ inl (same ∙ e) | inr r ↦ inr (subst (λ (z : ℕ). Reach events cell z x) (sym same) r) ]
  reach_on a s n x (inr r) t = elim (chain_reach s n x t) [ inl e ↦ inr (subst (λ (z : ℕ). Reach events cell a z) e r) | inr r' ↦ inr (reach_join a s x r r') ]
