-- Totals over the views.
use Rattle.std.proofs.Common.{◌≡◌, ℕ, zero, suc, ◌+◌, ◌≤◌, List, [], ◌∷◌, ◌++◌, refl, sym, ap, arith}
use Rattle.std.proofs.Math.ListN.{set}
use mathlib.Core.Option.{some, some-injective, some-ne-none}
use lib.ListN.{get_elem?}
use Rattle.c11_claims.specs.declared.rule.View.{View}
use Rattle.c11_claims.specs.Claims.{total, Each}
use Rattle.c11_claims.proofs.Counts.{span, span_none, span_add}

-- the total after a change of one view
pub total_set : (f : View → ℕ) (views : List View) (id : ℕ) (v w : View) → get_elem? views id ≡ some v → total f (set views id w) + f v ≡ total f views + f w
total_set f [] id v w at = absurd (some-ne-none v (sym at))
total_set f (x ∷ xs) zero v w at = let e : f x ≡ f v = ap f (some-injective x v at) in omega arith
total_set f (x ∷ xs) (suc id) v w at = omega (arith, total_set f xs id v w at)

pub total_snoc : (f : View → ℕ) (views : List View) (w : View) → total f (views ++ w ∷ []) ≡ total f views + f w
total_snoc f [] w = omega arith
total_snoc f (x ∷ xs) w = omega (arith, total_snoc f xs w)

-- one view's part of the total
pub total_part : (f : View → ℕ) (views : List View) (id : ℕ) (v : View) → get_elem? views id ≡ some v → f v ≤ total f views
total_part f [] id v at = absurd (some-ne-none v (sym at))
total_part f (x ∷ xs) zero v at = let e : f x ≡ f v = ap f (some-injective x v at) in omega arith
total_part f (x ∷ xs) (suc id) v at = omega (arith, total_part f xs id v at)

-- what bounds each view bounds the total
pub total_le : (f g : View → ℕ) (views : List View) → Each (λ v. f v ≤ g v) views → total f views ≤ total g views
total_le f g [] each = omega arith
total_le f g (x ∷ xs) each = omega (arith, each 0 x refl, total_le f g xs (λ id v at. each (suc id) v at))

-- numbers are added up view by view
pub total_span : (f : ℕ → View → ℕ) (views : List View) (c k : ℕ) → span (λ x. total (f x) views) c k ≡ total (λ v. span (λ x. f x v) c k) views
total_span f [] c k = span_none c k
total_span f (v ∷ vs) c k = omega (arith, span_add (λ x. f x v) (λ x. total (f x) vs) c k, total_span f vs c k)

-- where one view has all of g, and f is 0 of each view with none of g, it has all of f
pub total_none : (f g : View → ℕ) (views : List View) → Each (λ v. g v ≡ 0 → f v ≡ 0) views → total g views ≡ 0 → total f views ≡ 0
total_none f g [] each none = refl
total_none f g (v ∷ vs) each none = omega (arith, each 0 v refl (omega arith), total_none f g vs (λ id u at. each (suc id) u at) (omega arith))

pub total_whole : (f g : View → ℕ) (views : List View) (id : ℕ) (v : View) → get_elem? views id ≡ some v → Each (λ u. g u ≡ 0 → f u ≡ 0) views → total g views ≡ g v → total f views ≡ f v
total_whole f g [] id v at each whole = absurd (some-ne-none v (sym at))
total_whole f g (u ∷ us) zero v at each whole =
    let same : u ≡ v = some-injective u v at in
    let share : g u ≡ g v = ap g same in
    let part : f u ≡ f v = ap f same in
    omega (arith, total_none f g us (λ j w at'. each (suc j) w at') (omega arith))
total_whole f g (u ∷ us) (suc id) v at each whole =
    let part : g v ≤ total g us = total_part g us id v at in
    omega (arith, each 0 u refl (omega arith), total_whole f g us id v at (λ j w at'. each (suc j) w at') (omega arith))
