-- Two layouts of a cell are one order.
use Rattle.std.proofs.Common.{◌≡◌, ℕ, zero, suc, ◌+◌, ◌<◌, List, sym, subst, arith, inl, inr}
use native.Mathlib.Decide.{ℕ_discrete, dec_lt}
use mathlib.Core.Logic.{dite}
use Rattle.c11_events.specs.declared.event.Event.{Event}
use Rattle.c11_events.specs.Lawful.{Precedes}
use Rattle.c11_events.specs.Chains.{IsRanked}
use Rattle.c11_events.specs.Layout.{IsHead, IsLayout}
use Rattle.c11_events.specs.Laws.{LayoutIsOne, LayoutRises}
use Rattle.c11_events.proofs.Basics.{chain_head}
use Rattle.c11_events.proofs.Level.{head_of, links_from}
use Rattle.c11_events.proofs.Orders.{before_places, before_irreflexive, before_transitive, before_or}
use Rattle.c11_events.proofs.Pieces.{members_before, ranks_before}
use Rattle.c11_events.proofs.Ranks.{placed, ranked_one}

module _ (events : List Event) (cell : ℕ) (order other : List ℕ) (first : IsLayout events cell order) (second : IsLayout events cell other) where
  -- no two heads stand the other way round, by the sum of the places of h in the one and of k in the other
  turned : (bound h k : ℕ) → IsHead events cell h → IsHead events cell k → (b : Precedes order h k) → (c : Precedes other k h) → b.i + c.i < bound → ⊥
  turned zero h k rh rk b c lt = omega arith
  turned (suc bound) h k rh rk b c lt = dite (dec_lt h k) (λ (less : h < k). by_other (λ h' k' rh' rk' b' c' lt'. turned bound h' k' rh' rk' b' c' lt') less)
      (λ (no' : h < k → ⊥). dite (dec_lt k h) (λ (less : k < h). by_one (λ h' k' rh' rk' b' c' lt'. turned bound h' k' rh' rk' b' c' lt') less)
      (λ (no'' : k < h → ⊥). let same : k ≡ h = omega arith in before_irreflexive events cell order first.stores h (subst (λ (z : ℕ). Precedes order h z) same b)))
    where
      by_other : ((h' k' : ℕ) → IsHead events cell h' → IsHead events cell k' → (b' : Precedes order h' k') → (c' : Precedes other k' h') → b'.i + c'.i < bound → ⊥) → h < k → ⊥
      by_other rest less =
          let t = second.least k h rk rh c less in
          let j_h = first.links t.0 h t.1.0 in
          let j_k = before_transitive events cell order first.stores t.0 h k j_h b in
          elim t.1.1 [
            | inl same ↦ before_irreflexive events cell order first.stores k (subst (λ (z : ℕ). Precedes order z k) same j_k)
            | inr k_j ↦ rest t.0 k (links_from events cell t.0 h t.1.0) rk j_k k_j
                (omega (arith, lt, before_places events cell order first.stores j_k.i b.i t.0 h j_k.first b.first j_h, second.stores.once k_j.i c.i k k_j.first c.first))
          ]

      by_one : ((h' k' : ℕ) → IsHead events cell h' → IsHead events cell k' → (b' : Precedes order h' k') → (c' : Precedes other k' h') → b'.i + c'.i < bound → ⊥) → k < h → ⊥
      by_one rest less =
          let t = first.least h k rh rk b less in
          let j_k = second.links t.0 k t.1.0 in
          let j_h = before_transitive events cell other second.stores t.0 k h j_k c in
          elim t.1.1 [
            | inl same ↦ before_irreflexive events cell other second.stores h (subst (λ (z : ℕ). Precedes other z h) same j_h)
            | inr h_j ↦ rest h t.0 rh (links_from events cell t.0 k t.1.0) h_j j_h
                (omega (arith, lt, before_places events cell other second.stores j_h.i c.i t.0 k j_h.first c.first j_k, first.stores.once h_j.i b.i h h_j.first b.first))
          ]

  heads_alike : (h k : ℕ) → IsHead events cell h → IsHead events cell k → Precedes order h k → Precedes other h k
  heads_alike h k rh rk b = before_or events cell other second.stores h k (chain_head events cell h 0 h rh.chain) (chain_head events cell k 0 k rk.chain)
      (λ same. before_irreflexive events cell order first.stores k (subst (λ (z : ℕ). Precedes order z k) same b))
      (λ c. turned (suc (b.i + c.i)) h k rh rk b c (omega arith))

pub layout_one : LayoutIsOne
layout_one events cell order other c first second x y b =
    let sx = first.stores.only x b.i b.first in
    let sy = first.stores.only y b.j b.second in
    let p = placed events cell c.reads x sx in
    let q = placed events cell c.reads y sy in
    dite (ℕ_discrete p.0 q.0)
    (λ (same : p.0 ≡ q.0).
    let ry : IsRanked events cell p.0 q.1.0 y = subst (λ (z : ℕ). IsRanked events cell z q.1.0 y) (sym same) q.1.1 in
    dite (dec_lt p.1.0 q.1.0)
    (λ (lt : p.1.0 < q.1.0). ranks_before events cell other second.stores second.chains p.0 p.1.0 q.1.0 x y p.1.1 ry lt)
    (λ (no' : p.1.0 < q.1.0 → ⊥). absurd (before_irreflexive events cell order first.stores x (back p.0 p.1.0 q.1.0 p.1.1 ry no'))))
    (λ (differ : p.0 ≡ q.0 → ⊥).
    let rh = head_of events cell p.0 p.1.0 x p.1.1 in
    let rk = head_of events cell q.0 q.1.0 y q.1.1 in
    members_before events cell other second.stores second.chains p.0 q.0 p.1.0 q.1.0 x y p.1.1 q.1.1
    (heads_alike events cell order other first second p.0 q.0 rh rk
    (before_or events cell order first.stores p.0 q.0 (chain_head events cell p.0 0 p.0 rh.chain) (chain_head events cell q.0 0 q.0 rk.chain) differ
    (λ t. before_irreflexive events cell order first.stores x
    (before_transitive events cell order first.stores x y x b (members_before events cell order first.stores first.chains q.0 p.0 q.1.0 p.1.0 y x q.1.1 p.1.1 t))))))
  where
    -- y by a rank that is not above that of x stands before x, or is x
    back : (h i j : ℕ) → IsRanked events cell h i x → IsRanked events cell h j y → (i < j → ⊥) → Precedes order x x
    back h i j rx ry no' = dite (dec_lt j i)
        (λ (lt : j < i). before_transitive events cell order first.stores x y x b (ranks_before events cell order first.stores first.chains h j i y x ry rx lt))
        (λ (no'' : j < i → ⊥). let same : j ≡ i = omega arith in
        let is : y ≡ x = ranked_one events cell (c.once cell) h i y x (subst (λ (z : ℕ). IsRanked events cell h z y) same ry) rx in
        subst (λ (z : ℕ). Precedes order x z) is b)

pub layout_rises : LayoutRises
layout_rises events cell order h k layout unlinked rh rk b = dite (dec_lt h k) (λ (lt : h < k). lt)
    (λ (no' : h < k → ⊥). dite (dec_lt k h) (λ (less : k < h). let t = layout.least h k rh rk b less in absurd (unlinked t.0 k t.1.0))
    (λ (no'' : k < h → ⊥). let same : k ≡ h = omega arith in absurd (before_irreflexive events cell order layout.stores h (subst (λ (z : ℕ). Precedes order h z) same b))))
