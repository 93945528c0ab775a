-- Runs in the order of their seeds.
use Rattle.std.proofs.Common.{Bool, true, false, ◌≡◌, ℕ, zero, suc, ◌+◌, ◌<◌, List, [], ◌∷◌, ◌++◌, map, refl, ap, sym, subst, ◌∙◌, arith, nat_eq}
use Rattle.std.proofs.lemmas.Bool.{eqb-true}
use Rattle.std.specs.List.Sorted.{IsPermutation}
use Rattle.std.proofs.lemmas.List.Sorted.{IsPermutation-refl, IsPermutation-middle, IsPermutation-cons, IsPermutation-trans}
use Rattle.c11_claims.specs.Claims.{times}
use Rattle.c11_tally.specs.Tallies.{Ran}
use Rattle.c11_campaign.specs.Summaries.{seeds_from}
use Rattle.c11_campaign.proofs.Numbers.{same, same_eq}

abbrev pub seeds : List Ran → List ℕ
seeds rans = map (λ (ran : Ran). ran.seed) rans

-- the first run with the seed, and those before and after it
record Found (seed : ℕ) (rans : List Ran) : Type 0 where
  pub front : List Ran
  pub ran : Ran
  pub back : List Ran
  pub is : rans ≡ front ++ ran ∷ back
  pub seed_is : ran.seed ≡ seed

found : (seed : ℕ) (rans : List Ran) → 0 < times seed (seeds rans) → Found seed rans
found seed [] some = absurd (omega arith)
found seed (ran ∷ rans) some = by (nat_eq seed ran.seed) refl (found seed rans)
  where
    by : (b : Bool) → nat_eq seed ran.seed ≡ b → (0 < times seed (seeds rans) → Found seed rans) → Found seed (ran ∷ rans)
    by true e rest = record { front = []; ran = ran; back = rans; is = refl; seed_is = sym (eqb-true seed ran.seed e) }
    by false e rest =
        let here : same seed ran.seed ≡ 0 = rw e refl in
        let f = rest (omega (arith, some, here)) in
        record { front = ran ∷ f.front; ran = f.ran; back = f.back; is = ap (λ (rs : List Ran). ran ∷ rs) f.is; seed_is = f.seed_is }

-- how often a seed stands in a list with a run in the middle
times_middle : (s : ℕ) (front : List Ran) (ran : Ran) (back : List Ran) → times s (seeds (front ++ ran ∷ back)) ≡ times s (ran.seed ∷ seeds (front ++ back))
times_middle s [] ran back = refl
times_middle s (r ∷ front) ran back = omega (arith, times_middle s front ran back)

-- the runs in the order of their seeds
pub record InOrder (first count : ℕ) (rans : List Ran) : Type 0 where
  pub ordered : List Ran
  pub permutes : IsPermutation rans ordered
  pub seeds_are : seeds ordered ≡ seeds_from first count

none_left : (rans : List Ran) → ((s : ℕ) → times s (seeds rans) ≡ 0) → rans ≡ []
none_left [] none = refl
none_left (ran ∷ rans) none = absurd (let here : same ran.seed ran.seed ≡ 1 = same_eq ran.seed in omega (arith, none ran.seed, here))

pub in_order : (first count : ℕ) (rans : List Ran) → ((s : ℕ) → times s (seeds rans) ≡ times s (seeds_from first count)) → InOrder first count rans
in_order first zero rans equal = let is : rans ≡ [] = none_left rans equal in record { ordered = []; permutes = subst (λ (rs : List Ran). IsPermutation rs []) (sym is) (IsPermutation-refl []); seeds_are = refl }
in_order first (suc count) rans equal =
    let here : same first first ≡ 1 = same_eq first in
    let f = found first rans (omega (arith, equal first, here)) in
    let rest : (s : ℕ) → times s (seeds (f.front ++ f.back)) ≡ times s (seeds_from (first + 1) count) =
    λ s. (let whole : times s (seeds rans) ≡ times s (f.ran.seed ∷ seeds (f.front ++ f.back)) = ap (λ (rs : List Ran). times s (seeds rs)) f.is ∙ times_middle s f.front f.ran f.back in
    let at : times s (f.ran.seed ∷ seeds (f.front ++ f.back)) ≡ times s (first ∷ seeds (f.front ++ f.back)) = ap (λ (x : ℕ). times s (x ∷ seeds (f.front ++ f.back))) f.seed_is in
    omega (arith, whole, at, equal s)) in
    let o = in_order (first + 1) count (f.front ++ f.back) rest in
    record {
      ordered = f.ran ∷ o.ordered;
      permutes = subst (λ (rs : List Ran). IsPermutation rs (f.ran ∷ o.ordered)) (sym f.is)
          (IsPermutation-trans (f.front ++ f.ran ∷ f.back) (f.ran ∷ (f.front ++ f.back)) (f.ran ∷ o.ordered)
          (IsPermutation-middle f.front f.ran f.back) (IsPermutation-cons f.ran (f.front ++ f.back) o.ordered o.permutes));
      seeds_are = ap (λ (x : ℕ). x ∷ seeds o.ordered) f.seed_is ∙ ap (λ (xs : List ℕ). first ∷ xs) o.seeds_are;
    }
