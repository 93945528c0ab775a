-- What holds for what a load reads.
use Rattle.std.proofs.Common.{◌≡◌, ℕ, Some, None, Bool, true, IsTrue, refl, subst, ◌↔◌}

module _ (L P : ℕ → Type 0) where
  pub for_some : (x : ℕ) (b : Bool) → ((z : ℕ) → (Some x ≡ Some z) ↔ L z) → (IsTrue b ↔ P x) → IsTrue b ↔ ((z : ℕ) → L z → P z)
  for_some x b loads test = (
    λ h z l. let e : Some x ≡ Some z = (loads z).1 l in let same : x ≡ z = cc in subst P same (test.0 h),
    λ all. test.1 (all x ((loads x).0 refl)),
  )

  pub for_none : ((z : ℕ) → (None ≡ Some z) ↔ L z) → IsTrue true ↔ ((z : ℕ) → L z → P z)
  for_none loads = (λ _ z l. let e : None ≡ Some z = (loads z).1 l in absurd (cc), λ _. refl)
