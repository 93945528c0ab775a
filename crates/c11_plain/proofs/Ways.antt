-- Ways through a relation, by the numbers that they pass.
use Rattle.std.proofs.Common.{◌≡◌, ℕ, zero, suc, ◌+◌, ◌<◌, add-one, arith, subst, ◌⊎◌, inl, inr, ◌↔◌}
use Rattle.c11_plain.specs.declared.pairs.Pairs.{Pairs}
use Rattle.c11_plain.specs.Pairs.{Holds, IsTableOf}
use native.Mathlib.Decide.{ℕ_discrete}
use mathlib.Core.Logic.{dite}
use Rattle.c11_events.specs.Closure.{Closure, one, join}

module _ (R : ℕ → ℕ → Type 0) where
  -- a way from a to b whose stops are below k
  abbrev pub Way : ℕ → ℕ → ℕ → Type 0
  Way zero a b = R a b
  Way (suc k) a b = Way k a b ⊎ (Way k a k × Way k k b)

  way_closure : (k a b : ℕ) → Way k a b → Closure R a b
  way_closure zero a b r = one r
  way_closure (suc k) a b (inl w) = way_closure k a b w
  way_closure (suc k) a b (inr w) = join (way_closure k a k w.0) (way_closure k k b w.1)

  step_way : (k a b : ℕ) → R a b → Way k a b
  step_way zero a b r = r
  step_way (suc k) a b r = inl (step_way k a b r)

  last_to : (k a : ℕ) → Way (suc k) a k → Way k a k
  last_to k a (inl w) = w
  last_to k a (inr w) = w.0

  last_from : (k b : ℕ) → Way (suc k) k b → Way k k b
  last_from k b (inl w) = w
  last_from k b (inr w) = w.1

  joined : (k a m b : ℕ) → ((x y : ℕ) → Way k x m → Way k m y → Way k x y) → Way (suc k) a m → Way (suc k) m b → Way (suc k) a b
  joined k a m b ways (inl v) (inl w) = inl (ways a b v w)
  joined k a m b ways (inl v) (inr w) = inr (ways a k v w.0, w.1)
  joined k a m b ways (inr v) (inl w) = inr (v.0, ways k b v.1 w)
  joined k a m b ways (inr v) (inr w) = inr (v.0, w.1)

  way_join : (k m : ℕ) → m < k → (a b : ℕ) → Way k a m → Way k m b → Way k a b
  way_join zero m lt a b v w = absurd (omega arith)
  way_join (suc k) m lt a b v w =
      dite (ℕ_discrete m k)
      (λ (same : m ≡ k). inr (last_to k a (subst (λ (z : ℕ). Way (suc k) a z) same v), last_from k b (subst (λ (z : ℕ). Way (suc k) z b) same w)))
      (λ (differ : m ≡ k → ⊥). joined k a m b (way_join k m (omega arith)) v w)

  closure_ends : (n : ℕ) → ((a b : ℕ) → R a b → (a < n) × (b < n)) → (a b : ℕ) → Closure R a b → (a < n) × (b < n)
  closure_ends n ends a b (one r) = ends a b r
  closure_ends n ends a c (join {b = b} v w) = ((closure_ends n ends a b v).0, (closure_ends n ends b c w).1)

  closure_way : (n : ℕ) → ((a b : ℕ) → R a b → (a < n) × (b < n)) → (a b : ℕ) → Closure R a b → Way n a b
  closure_way n ends a b (one r) = step_way n a b r
  closure_way n ends a c (join {b = b} v w) = way_join n b (closure_ends n ends a b v).1 a c (closure_way n ends a b v) (closure_way n ends b c w)

  pub way_is_closure : (n : ℕ) → ((a b : ℕ) → R a b → (a < n) × (b < n)) → (a b : ℕ) → Way n a b ↔ Closure R a b
  way_is_closure n ends a b = (way_closure n a b, closure_way n ends a b)

-- a table of the ways with stops below k, and those through k
pub way_next : (R : ℕ → ℕ → Type 0) (ways more : Pairs) (k : ℕ) → IsTableOf ways (Way R k) → IsTableOf more (λ a b. Holds ways a b ⊎ (Holds ways a k × Holds ways k b)) → IsTableOf more (Way R (k + 1))
way_next R ways more k t t' = rw add-one (record {
  sound = λ a b h. elim (t'.sound a b h) [ inl p ↦ inl (t.sound a b p) | inr p ↦ inr (t.sound a k p.0, t.sound k b p.1) ];
  complete = λ a b w. t'.complete a b (elim w [ inl p ↦ inl (t.complete a b p) | inr p ↦ inr (t.complete a k p.0, t.complete k b p.1) ]);
})

pub way_last : (table ways : Pairs) (n : ℕ) → n ≡ table.count → IsTableOf ways (Way (Holds table) n) → IsTableOf ways (Closure (Holds table))
way_last table ways n same t =
    let e = way_is_closure (Holds table) n (λ x y h. (omega (arith, h.first), omega (arith, h.second))) in
    record { sound = λ a b h. (e a b).0 (t.sound a b h); complete = λ a b w. t.complete a b ((e a b).1 w) }
