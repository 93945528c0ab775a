-- The turns of a loop over a map's outputs.
use Rattle.std.proofs.Common.{◌≡◌, ℕ, ◌+◌, ◌<◌, List, [], ◌∷◌, ◌++◌, Some, Vec, map, sym, refl, ap, ◌∙◌, arith}
use Rattle.std.specs.Iterator.{Yields}
use Rattle.std.specs.Map.{values_of}
use Rattle.std.specs.Map.Iter.{TakesFirst}
use Rattle.std.proofs.lemmas.List.Elements.{All-pop}
use Rattle.std.proofs.lemmas.List.Sums.{sum_by-append, sum_by-cons}
use Rattle.std.proofs.lemmas.Map.Iter.{rest_so_far}
use Rattle.c11_tally.proofs.Listing.{share, some_pairs, some_values, found_share}
use Rattle.c11_tally.specs.Pairs.{pairs_of, Raises, Adds}
use Rattle.c11_tally.specs.Tallies.{listed}

same_map : {A : Type 0} (xs : List A) → map (λ (x : A). x) xs ≡ xs
same_map [] = refl
same_map {A} (x ∷ xs) = ap (λ (ys : List A). x ∷ ys) (same_map xs)

-- what was yielded, and what is left
pub yielded_and_left : {A : Type 0} (all start yielded left : List A) → start ≡ all → Yields (TakesFirst (λ (x : A). x)) start yielded left → all ≡ yielded ++ left
yielded_and_left {A} all start yielded left is y = sym is ∙ (rest_so_far (λ (x : A). x) yielded start left y ∙ ap (λ (xs : List A). xs ++ left) (same_map yielded))

pairs-append : {Z : Type 0} (xs ys : List (Vec ℕ Z × ℕ)) → pairs_of (xs ++ ys) ≡ pairs_of xs ++ pairs_of ys
pairs-append [] ys = refl
pairs-append (x ∷ xs) ys = ap (λ (ps : List (List ℕ × ℕ)). (x.0.items, x.1) ∷ ps) (pairs-append xs ys)

listed-append : {Z : Type 0} (xs ys : List (Vec ℕ Z × ℕ)) (bytes : List ℕ) → listed (pairs_of (xs ++ ys)) bytes ≡ listed (pairs_of xs) bytes + listed (pairs_of ys) bytes
listed-append xs ys bytes = ap (λ (ps : List (List ℕ × ℕ)). listed ps bytes) (pairs-append xs ys) ∙ sum_by-append (share bytes) (pairs_of xs) (pairs_of ys)

-- what has been added is within what is to be added
pub turn_fits : {Z : Type 0} (old now : List (List ℕ × ℕ)) (all yielded rest : List (Vec ℕ Z × ℕ)) (key : Vec ℕ Z) (count n : ℕ) → all ≡ yielded ++ (key, count) ∷ rest
    → Adds (pairs_of yielded) old now → listed old key.items + listed (pairs_of all) key.items < n → listed now key.items + count < n
turn_fits old now all yielded rest key count n is a lt =
    let parts : listed (pairs_of all) key.items ≡ listed (pairs_of yielded) key.items + listed (pairs_of ((key, count) ∷ rest)) key.items
    = ap (λ (es : List (Vec ℕ _ × ℕ)). listed (pairs_of es) key.items) is ∙ listed-append yielded ((key, count) ∷ rest) key.items in
    let first = sum_by-cons (share key.items) (key.items, count) (pairs_of rest) in let here = found_share key.items key.items count refl in
    omega (arith, a.counts key.items)

values-append : {Z : Type 0} (xs : List (Vec ℕ Z × ℕ)) (key : Vec ℕ Z) (count : ℕ) → values_of (xs ++ (key, count) ∷ []) ≡ values_of xs ++ count ∷ []
values-append [] key count = refl
values-append (x ∷ xs) key count = ap (λ (vs : List ℕ). x.1 ∷ vs) (values-append xs key count)

pub turn_adds : {Z : Type 0} (old now new : List (List ℕ × ℕ)) (yielded : List (Vec ℕ Z × ℕ)) (key : Vec ℕ Z) (count : ℕ)
    → Adds (pairs_of yielded) old now → Raises key.items count now new → Adds (pairs_of (yielded ++ (key, count) ∷ [])) old new
turn_adds old now new yielded key count a r = record {
  ordered = λ h. r.ordered (a.ordered h);
  some = λ others h.
      let parts = All-pop (λ count. 0 < count) (values_of (yielded ++ (key, count) ∷ [])) (values_of yielded) (Some count) (values-append yielded key count)
      (some_values (yielded ++ (key, count) ∷ []) others) in
      r.some parts.1 (a.some (some_pairs yielded parts.0) h);
  counts = λ bytes.
      let last = listed-append yielded ((key, count) ∷ []) bytes in let one = sum_by-cons (share bytes) (key.items, count) [] in
      omega (arith, a.counts bytes, r.counts bytes);
}
