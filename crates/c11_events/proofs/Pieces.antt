-- In an order with each read-modify-write immediately after what it reads a chain stands in one piece.
use Rattle.std.proofs.Common.{◌≡◌, ℕ, suc, ◌+◌, ◌<◌, ◌≤◌, List, Some, slice_get, subst, arith}
use native.Mathlib.Decide.{dec_le}
use mathlib.Core.Logic.{dite}
use Rattle.c11_events.specs.declared.event.Event.{Event}
use Rattle.c11_events.specs.Events.{IsRmw}
use Rattle.c11_events.specs.HappensBefore.{ReleaseSequence, here, next}
use Rattle.c11_events.specs.Lawful.{Precedes, IsNext, IsModificationOrder}
use Rattle.c11_events.specs.Chains.{IsRanked}
use Rattle.c11_events.proofs.Basics.{head_no_rmw, chain_head}
use Rattle.c11_events.proofs.Orders.{same_place}

module _ (events : List Event) (cell : ℕ) (order : List ℕ) (is : IsModificationOrder events cell order) (follows : (b x : ℕ) → IsRmw events cell b x → IsNext order x b) where
  pub place_in_chain : (s n x p : ℕ) → slice_get order p ≡ Some s → ReleaseSequence events cell s n x → slice_get order (p + n) ≡ Some x
  place_in_chain s _ _ p at (here t) = let e : p ≡ p + 0 = omega arith in subst (λ (k : ℕ). slice_get order k ≡ Some s) e at
  place_in_chain s _ _ p at (next {n = n} {y = y} {x = x} c r) =
      let f = follows x y r in
      let e : suc f.place ≡ p + suc n = omega (arith, is.once f.place (p + n) y f.first (place_in_chain s n y p at c)) in
      subst (λ (k : ℕ). slice_get order k ≡ Some x) e f.second

  pub within_chain : (s n x p q h : ℕ) → slice_get order p ≡ Some s → ReleaseSequence events cell s n x → slice_get order q ≡ Some h → p < q → q ≤ p + n → (y : ℕ) × IsRmw events cell h y
  within_chain s _ _ p q h at (here t) at_h lt le = absurd (omega arith)
  within_chain s _ _ p q h at (next {n = n} {y = y} {x = x} c r) at_h lt le =
      dite (dec_le q (p + n)) (λ (l : q ≤ p + n). within_chain s n y p q h at c at_h lt l)
      (λ (no' : q ≤ p + n → ⊥). let same = same_place events cell order is (p + suc n) q x h (place_in_chain s (suc n) x p at (next c r)) at_h (omega arith) in
      (y, subst (λ (z : ℕ). IsRmw events cell z y) same r))

  -- where a head stands before a head, so do all members of their chains
  pub members_before : (h k i j a b : ℕ) → IsRanked events cell h i a → IsRanked events cell k j b → Precedes order h k → Precedes order a b
  members_before h k i j a b ra rb before =
      let at_a = place_in_chain h i a before.i before.first ra.chain in
      let at_b = place_in_chain k j b before.j before.second rb.chain in
      record {
        i = before.i + i;
        j = before.j + j;
        first = at_a;
        second = at_b;
        places = dite (dec_le before.j (before.i + i))
            (λ (le : before.j ≤ before.i + i). let r = within_chain h i a before.i before.j k before.first ra.chain before.second before.places le in absurd (head_no_rmw events cell k r.0 rb.first r.1))
            (λ (no' : before.j ≤ before.i + i → ⊥). omega arith);
      }

  pub ranks_before : (h i j a b : ℕ) → IsRanked events cell h i a → IsRanked events cell h j b → i < j → Precedes order a b
  ranks_before h i j a b ra rb lt =
      let p = is.all h (chain_head events cell h i a ra.chain) in
      record { i = p.0 + i; j = p.0 + j; first = place_in_chain h i a p.0 p.1 ra.chain; second = place_in_chain h j b p.0 p.1 rb.chain; places = omega arith }
