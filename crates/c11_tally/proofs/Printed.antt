-- The outputs of runs.
use Rattle.std.proofs.Common.{◌≡◌, ℕ, ◌≤◌, Bool, true, false, cond, List, [], ◌∷◌, ◌++◌, sym, refl, ◌∙◌, arith}
use Rattle.std.specs.List.Sorted.{IsPermutation, IsStrictlySortedBy}
use Rattle.std.specs.Str.{bytes_eq}
use Rattle.std.proofs.lemmas.List.Sorted.{sum_by-IsPermutation}
use Rattle.std.proofs.lemmas.List.Sums.{sum_by-append, sum_by_push}
use Rattle.c11_tally.proofs.Listing.{outputs_are_one}
use Rattle.c11_tally.proofs.Tallying.{tallies_are_one, tallies_permutation}
use Rattle.c11_tally.specs.Pairs.{Raises, Adds}
use Rattle.c11_tally.specs.Tallies.{Ran, AreOutputsOf, Kept, StandsFor}

abbrev pub printed : List ℕ → Ran → ℕ
printed bytes ran = cond (bytes_eq ran.output bytes) 1 0

pub outputs_none : AreOutputsOf [] []
unfolding IsStrictlySortedBy
outputs_none = record { ordered = tt; some = λ k d lt. absurd (omega arith); counts = λ bytes. refl }

pub outputs_more : (rans : List Ran) (x : Ran) (old new : List (List ℕ × ℕ)) → AreOutputsOf rans old → Raises x.output 1 old new → AreOutputsOf (rans ++ x ∷ []) new
outputs_more rans x old new h r = record {
  ordered = r.ordered h.ordered;
  some = r.some (omega arith) h.some;
  counts = λ bytes. omega (arith, r.counts bytes, h.counts bytes, sum_by_push (printed bytes) rans x);
}

pub outputs_add : (xs ys : List Ran) (others old new : List (List ℕ × ℕ)) → AreOutputsOf xs old → AreOutputsOf ys others → Adds others old new → AreOutputsOf (xs ++ ys) new
outputs_add xs ys others old new h g a = record {
  ordered = a.ordered h.ordered;
  some = a.some g.some h.some;
  counts = λ bytes. omega (arith, a.counts bytes, h.counts bytes, g.counts bytes, sum_by-append (printed bytes) xs ys);
}

pub order_is_free : (xs ys : List Ran) (kept : Kept) → IsPermutation xs ys → StandsFor kept xs → StandsFor kept ys
order_is_free xs ys kept p h = record {
  tallies = tallies_permutation xs ys kept.tallies p h.tallies;
  outputs = record {
    ordered = h.outputs.ordered;
    some = h.outputs.some;
    counts = λ bytes. h.outputs.counts bytes ∙ sym (sum_by-IsPermutation (printed bytes) xs ys p);
  };
}

pub kept_is_one : (rans : List Ran) (kept other : Kept) → StandsFor kept rans → StandsFor other rans → kept ≡ other
kept_is_one rans kept other h g =
    let tallies = tallies_are_one rans kept.tallies other.tallies h.tallies g.tallies in
    let outputs = outputs_are_one kept.outputs other.outputs h.outputs.ordered g.outputs.ordered h.outputs.some g.outputs.some (λ bytes. h.outputs.counts bytes ∙ sym (g.outputs.counts bytes)) in
    λ i. record { tallies = tallies i; outputs = outputs i }

pub share_le : (b : Bool) (count : ℕ) → cond b count 0 ≤ count
share_le true count = omega arith
share_le false count = omega arith
