-- The counts of all outputs sum to the number of runs.
use Rattle.std.proofs.Common.{◌≡◌, ℕ, Bool, true, false, cond, not, List, [], ◌∷◌, length, sum_by, sym, refl, ap, ◌∙◌, arith}
use Rattle.std.specs.List.{filter}
use Rattle.std.specs.Str.{bytes_eq}
use Rattle.std.proofs.lemmas.Cmp.{nat_list_eq_equiv}
use Rattle.std.proofs.lemmas.List.Filters.{length-filter_both, sum_by-filter_both}
use Rattle.std.proofs.lemmas.List.Sums.{length-filter, sum_by-cons}
use Rattle.std.proofs.lemmas.Slice.Eq.{bytes_eq-Decides}
use Rattle.c11_report.specs.Outputs.{AreInOrder}
use Rattle.c11_tally.proofs.Listing.{share, listed-cons, first_only, rest_in_order}
use Rattle.c11_tally.proofs.Printed.{printed}
use Rattle.c11_tally.specs.Tallies.{Ran, AreOutputsOf, listed, counted}

abbrev is_it : List ℕ → Ran → Bool
is_it bytes ran = bytes_eq ran.output bytes

abbrev is_other : List ℕ → Ran → Bool
is_other bytes ran = not (bytes_eq ran.output bytes)

same_of : (xs ys : List ℕ) → bytes_eq xs ys ≡ true → xs ≡ ys
same_of xs ys is = (bytes_eq-Decides xs ys).0 is

-- what is 0 wherever the test holds sums to 0 over what passes it
none_passes : {X : Type 0} (p : X → Bool) (f : X → ℕ) → ((x : X) → p x ≡ true → f x ≡ 0) → (xs : List X) → sum_by f (filter p xs) ≡ 0
none_passes p f none [] = refl
none_passes p f none (x ∷ xs) = by (p x) refl (none_passes p f none xs)
  where
    by : (b : Bool) → p x ≡ b → sum_by f (filter p xs) ≡ 0 → sum_by f (cond b (x ∷ filter p xs) (filter p xs)) ≡ 0
    by true is rest = omega (arith, sum_by-cons f x (filter p xs), none x is, rest)
    by false is rest = rest

-- of the runs that printed these bytes none printed others, and of the others none printed these
none_of_it : (key bytes : List ℕ) → bytes_eq key bytes ≡ false → (ran : Ran) → is_it key ran ≡ true → printed bytes ran ≡ 0
none_of_it key bytes differs ran is = ap (λ (xs : List ℕ). cond (bytes_eq xs bytes) 1 0) (same_of ran.output key is) ∙ ap (λ (b : Bool). cond b 1 0) differs

none_of_other : (key : List ℕ) (ran : Ran) → is_other key ran ≡ true → printed key ran ≡ 0
none_of_other key ran is = by (bytes_eq ran.output key) is
  where
    by : (b : Bool) → not b ≡ true → cond {A = ℕ} b 1 0 ≡ 0
    by true clash = absurd cc
    by false fits = refl

-- where the first pair counts its bytes, the others count the runs that printed other bytes
others_counted : (p : List ℕ × ℕ) (ps : List (List ℕ × ℕ)) (rans : List Ran) → AreInOrder (p ∷ ps) → ((bytes : List ℕ) → listed (p ∷ ps) bytes ≡ sum_by (printed bytes) rans)
    → (bytes : List ℕ) → listed ps bytes ≡ sum_by (printed bytes) (filter (is_other p.0) rans)
others_counted p ps rans ordered same bytes = by (bytes_eq p.0 bytes) refl
  where
    at_first : listed ps p.0 ≡ sum_by (printed p.0) (filter (is_other p.0) rans)
    at_first =
        let here : share p.0 p ≡ p.1 = ap (λ (b : Bool). cond b p.1 0) (nat_list_eq_equiv.refl p.0) in
        omega (arith, first_only p ps ordered, listed-cons p ps p.0, here, none_passes (is_other p.0) (printed p.0) (none_of_other p.0) rans)

    by : (b : Bool) → bytes_eq p.0 bytes ≡ b → listed ps bytes ≡ sum_by (printed bytes) (filter (is_other p.0) rans)
    by true is = let at = same_of p.0 bytes is in rw (sym at) at_first
    by false is =
        let here : share bytes p ≡ 0 = ap (λ (b : Bool). cond b p.1 0) is in
        let both = sum_by-filter_both (is_it p.0) (is_other p.0) (λ x. refl) (printed bytes) rans in
        omega (arith, same bytes, listed-cons p ps bytes, here, both, none_passes (is_it p.0) (printed bytes) (none_of_it p.0 bytes is) rans)

counted_by : (pairs : List (List ℕ × ℕ)) (rans : List Ran) → AreInOrder pairs → ((bytes : List ℕ) → listed pairs bytes ≡ sum_by (printed bytes) rans) → counted pairs ≡ length rans
counted_by [] [] ordered same = refl
counted_by [] (r ∷ rans) ordered same =
    let here : printed r.output r ≡ 1 = ap (λ (b : Bool). cond b 1 0) (nat_list_eq_equiv.refl r.output) in
    let none : 0 ≡ sum_by (printed r.output) (r ∷ rans) = same r.output in
    absurd (omega (arith, none, sum_by-cons (printed r.output) r rans, here))
counted_by (p ∷ ps) rans ordered same =
    let tail = counted_by ps (filter (is_other p.0) rans) (rest_in_order p ps ordered) (others_counted p ps rans ordered same) in
    let both = length-filter_both (is_it p.0) (is_other p.0) (λ x. refl) rans in
    let it : length (filter (is_it p.0) rans) ≡ sum_by (printed p.0) rans = length-filter (is_it p.0) rans in
    omega (arith, sum_by-cons (λ (pair : List ℕ × ℕ). pair.1) p ps, first_only p ps ordered, same p.0, tail, both, it)

pub outputs_are_counted : (rans : List Ran) (pairs : List (List ℕ × ℕ)) → AreOutputsOf rans pairs → counted pairs ≡ length rans
outputs_are_counted rans pairs h = counted_by pairs rans h.ordered h.counts
