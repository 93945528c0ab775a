use Rattle.std.proofs.Common.{◌≡◌, Bool, true, false, ℤ, pos, negsuc, ap, refl, ◌∙◌}
use Rattle.std.specs.Ordering.{int_eq}
use Rattle.std.proofs.lemmas.Bool.Decides.{Decides-int_eq}
use Rattle.c11_num.specs.Ranges.{TypedNumber}
use Rattle.c11_events.specs.Values.{no_value}
use Rattle.c11_mayread.specs.declared.asked.Writes.{Writes}
use Rattle.c11_mayread.specs.Asks.{stores_by}
use Rattle.c11_mayread.proofs.asked.may_only_load.Goals as goal

differs : (x y : ℤ) → (x ≡ y → ⊥) → int_eq x y ≡ false
differs x y n = by_case (int_eq x y) refl
  where
    by_case : (b : Bool) → int_eq x y ≡ b → int_eq x y ≡ false
    by_case true is = absurd (n ((Decides-int_eq x y).0 is))
    by_case false is = is

-- a value with another number
another : (z : ℤ) → (value : TypedNumber) × (int_eq value.number z ≡ false)
another (pos n) = (record no_value { number = negsuc 0 }, differs (negsuc 0) (pos n) (λ is. cc))
another (negsuc n) = (record no_value { number = pos 0 }, differs (pos 0) (negsuc n) (λ is. cc))

pub returns-in-Never : goal.returns-in-Never
returns-in-Never c = (λ _. (no_value, ap (λ (w : Writes). stores_by w no_value) c.in-Never.is), λ _. refl)

pub returns-in-Behind : goal.returns-in-Behind
returns-in-Behind c =
    let t = another c.in-Behind.field-0.number in
    (λ _. (t.0, ap (λ (w : Writes). stores_by w t.0) c.in-Behind.is ∙ t.1), λ _. refl)
