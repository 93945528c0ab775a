-- The numbers 0, 1, 2, .., which workers claim, each once.
use Rattle.std.specs.Prelude.{ℕ, ◌≡◌, ◌+◌, ◌<◌, ◌≤◌, List, [], ◌∷◌, ◌++◌, length, slice_index, All, if◌then◌else◌, nat_eq, nat_lt, nat_le}
use mathlib.Core.Option.{some}
use lib.ListN.{get_elem?}
use Rattle.atomic_table.specs.Table.{State, Me}
use Rattle.atomic_table.specs.Seated.{TableId}
use Rattle.c11_claims.specs.declared.rule.View.{View}

-- which counter it is, and the count below which its numbers are to be claimed
pub record Counter : Type 0 where
  pub table : TableId
  pub count : ℕ

abbrev pub counter : TableId → ℕ → Counter
counter table count = record { table = table; count = count }

-- what a worker's seat shows: its counter, its shares, and the numbers that it claimed, in order
pub record Hand : Type 0 where
  pub claims : Counter
  pub shares : ℕ
  pub claimed : List ℕ

abbrev pub hand : Counter → ℕ → List ℕ → Hand
hand claims shares claimed = record { claims = claims; shares = shares; claimed = claimed }

-- how often the number stands in the list
abbrev pub times : ℕ → List ℕ → ℕ
times x [] = 0
times x (y ∷ ys) = (if nat_eq x y then 1 else 0) + times x ys

-- how many numbers of the list are not below the count
abbrev pub beyond : ℕ → List ℕ → ℕ
beyond count [] = 0
beyond count (y ∷ ys) = (if nat_le count y then 1 else 0) + beyond count ys

-- each number below the count stands in the list once
abbrev pub HoldsEachOnce : ℕ → List ℕ → Type 0
HoldsEachOnce count claimed = (x : ℕ) → x < count → times x claimed ≡ 1

-- 1 below n, else 0
abbrev pub once_below : ℕ → ℕ → ℕ
once_below x n = if nat_lt x n then 1 else 0

-- f of each view, added up
abbrev pub total : (View → ℕ) → List View → ℕ
total f [] = 0
total f (v ∷ vs) = f v + total f vs

-- P holds of each view
abbrev pub Each : (View → Type 0) → List View → Type 0
Each P views = (id : ℕ) (v : View) → get_elem? views id ≡ some v → P v

-- a view that has no share is spent
abbrev pub IsSpent : View → Type 0
IsSpent v = v.shares ≡ 0

-- all views that are not spent hold the same count
abbrev pub OneCount : List View → Type 0
OneCount views = Each (λ v. Each (λ w. ¬ IsSpent v → ¬ IsSpent w → v.count ≡ w.count) views) views

-- The rule, over the words and the views of all seats.
pub record IsClaimed {S : Type 0} (s : State S View) : Type 0 where
  -- there is one word
  pub words : s.words ≡ slice_index s.words 0 ∷ []
  -- all views that are not spent hold the same count
  pub count : OneCount s.views
  -- the views together hold each number below the word once, and no other
  pub once : (x : ℕ) → total (λ v. times x v.claimed) s.views ≡ once_below x (slice_index s.words 0)
  -- the shares of all views sum to 64
  pub shares : total (λ v. v.shares) s.views ≡ 64
  -- a view holds at most as many numbers not below the count as it has shares
  pub within : Each (λ v. beyond v.count v.claimed ≤ v.shares) s.views
  -- a view without a share holds no number
  pub empty : Each (λ v. IsSpent v → v.claimed ≡ []) s.views

abbrev pub view_of : ℕ → ℕ → List ℕ → View
view_of count shares claimed = record { count = count; shares = shares; claimed = claimed }

-- The seat, which has a share and holds no number that is not below the count, gains the number found. That is larger than all that
-- it held, no less than how many these are, and at most 63 above the count, since each share has one number at most beyond it.
pub record Gains {S : Type 0} (before : Me S View) (found : ℕ) (after : Me S View) : Type 0 where
  pub share : ¬ IsSpent before.0
  pub going : beyond before.0.count before.0.claimed ≡ 0
  pub gained : after ≡ (view_of before.0.count before.0.shares (before.0.claimed ++ found ∷ []), before.1)
  pub larger : All (λ m. m < found) before.0.claimed
  pub fewer : length before.0.claimed ≤ found
  pub near : found < before.0.count + 64
