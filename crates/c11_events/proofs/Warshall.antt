-- The closure of a decided relation on finitely many numbers is decided.
use Rattle.std.proofs.Common.{◌≡◌, ℕ, zero, suc, ◌<◌, arith, subst, ◌⊎◌, inl, inr}
use native.Mathlib.Decide.{map_dec, ℕ_discrete}
use mathlib.Core.Logic.{dite}
use Rattle.c11_events.specs.Closure.{Closure, one, join}
use Rattle.c11_events.proofs.Decide.{dec_and, dec_or}

module _ (R : ℕ → ℕ → Type 0) where
  -- a way from a to b whose stops are below k
  abbrev Way : ℕ → ℕ → ℕ → Type 0
  Way zero a b = R a b
  Way (suc k) a b = Way k a b ⊎ (Way k a k × Way k k b)

  dec_way : ((a b : ℕ) → Dec (R a b)) → (k a b : ℕ) → Dec (Way k a b)
  dec_way d zero a b = d a b
  dec_way d (suc k) a b = dec_or (dec_way d k a b) (dec_and (dec_way d k a k) (dec_way d k k b))

  way_closure : (k a b : ℕ) → Way k a b → Closure R a b
  way_closure zero a b r = one r
  way_closure (suc k) a b (inl w) = way_closure k a b w
  way_closure (suc k) a b (inr w) = join (way_closure k a k w.0) (way_closure k k b w.1)

  step_way : (k a b : ℕ) → R a b → Way k a b
  step_way zero a b r = r
  step_way (suc k) a b r = inl (step_way k a b r)

  last_to : (k a : ℕ) → Way (suc k) a k → Way k a k
  last_to k a (inl w) = w
  last_to k a (inr w) = w.0

  last_from : (k b : ℕ) → Way (suc k) k b → Way k k b
  last_from k b (inl w) = w
  last_from k b (inr w) = w.1

  joined : (k a m b : ℕ) → ((x y : ℕ) → Way k x m → Way k m y → Way k x y) → Way (suc k) a m → Way (suc k) m b → Way (suc k) a b
  joined k a m b ways (inl v) (inl w) = inl (ways a b v w)
  joined k a m b ways (inl v) (inr w) = inr (ways a k v w.0, w.1)
  joined k a m b ways (inr v) (inl w) = inr (v.0, ways k b v.1 w)
  joined k a m b ways (inr v) (inr w) = inr (v.0, w.1)

  way_join : (k m : ℕ) → m < k → (a b : ℕ) → Way k a m → Way k m b → Way k a b
  way_join zero m lt a b v w = absurd (omega arith)
  way_join (suc k) m lt a b v w =
      dite (ℕ_discrete m k)
      (λ (same : m ≡ k). inr (last_to k a (subst (λ (z : ℕ). Way (suc k) a z) same v), last_from k b (subst (λ (z : ℕ). Way (suc k) z b) same w)))
      (λ (differ : m ≡ k → ⊥). joined k a m b (way_join k m (omega arith)) v w)

  closure_ends : (n : ℕ) → ((a b : ℕ) → R a b → (a < n) × (b < n)) → (a b : ℕ) → Closure R a b → (a < n) × (b < n)
  closure_ends n ends a b (one r) = ends a b r
  closure_ends n ends a c (join {b = b} v w) = ((closure_ends n ends a b v).0, (closure_ends n ends b c w).1)

  closure_way : (n : ℕ) → ((a b : ℕ) → R a b → (a < n) × (b < n)) → (a b : ℕ) → Closure R a b → Way n a b
  closure_way n ends a b (one r) = step_way n a b r
  closure_way n ends a c (join {b = b} v w) = way_join n b (closure_ends n ends a b v).1 a c (closure_way n ends a b v) (closure_way n ends b c w)

  pub dec_closure : (n : ℕ) → ((a b : ℕ) → R a b → (a < n) × (b < n)) → ((a b : ℕ) → Dec (R a b)) → (a b : ℕ) → Dec (Closure R a b)
  dec_closure n ends d a b = map_dec (way_closure n a b) (closure_way n ends a b) (dec_way d n a b)
