-- With a store more what is kept is still sound.
use Rattle.std.proofs.Common.{◌≡◌, ℕ, ◌<◌, ◌≤◌, ◌+◌, List, [], ◌∷◌, ◌++◌, Bool, Some, false, true, max, length, slice_get, slice_set, vec_len, vec_capacity, sym, ap, ◌∙◌, subst, arith, length-append, inl, inr}
use Rattle.std.specs.Global.{Vec}
use Rattle.std.proofs.lemmas.List.{length-set}
use Rattle.c11_mograph.specs.declared.kept.Kept.{Kept}
use Rattle.c11_mograph.specs.Lists.{HasPushed, HaveRoomBut}
use Rattle.c11_mograph.specs.Spread.{row, number_in, with_number, AreWide}
use Rattle.c11_mograph.specs.Words.{Words, AreSafe}
use Rattle.c11_mograph.proofs.Places.{more_at}
use Rattle.c11_mograph.proofs.Tables.{wide_number}

module _ (words : Words) (safe : AreSafe words) (ready : words.ready ≡ true) (number : ℕ) (kept : Kept) (room : length words.numbers < words.size) (head : kept.head ≤ length words.numbers)
    (rank : kept.rank ≤ length words.numbers) (thread : kept.thread < words.threads) (cell : kept.cell < length words.lists) (numbers : List ℕ) (all : List Kept) (numbers_are : numbers ≡ words.numbers ++ number ∷ []) (all_are : all ≡ words.kept ++ kept ∷ []) where
  count : length numbers ≡ length words.numbers + 1
  count = ap (λ (xs : List ℕ). length xs) numbers_are ∙ length-append words.numbers (number ∷ [])

  each : length all ≡ length numbers
  each = ap (λ (xs : List Kept). length xs) all_are ∙ (length-append words.kept (kept ∷ []) ∙ (ap (λ (n : ℕ). n + 1) safe.each ∙ sym count))

  pub pushed_safe : (lists : List (Vec ℕ)) (leads : List Bool) (lasts : List (List ℕ)) → length lists ≡ length words.lists → leads ≡ words.clocks.leads ++ false ∷ []
      → lasts ≡ with_number words.lasts kept.cell kept.thread number → AreSafe (record words { numbers = numbers; kept = all; lists = lists; lasts = lasts; clocks = record words.clocks { leads = leads }; ready = false })
  pushed_safe lists leads lasts same leads_are lasts_are = record {
    few = omega (arith, count);
    each = each;
    leads = ap (λ (xs : List Bool). length xs) leads_are ∙ (length-append words.clocks.leads (false ∷ []) ∙ (ap (λ (n : ℕ). n + 1) safe.leads ∙ sym count));
    rows = omega (arith, count, safe.spare ready);
    spare = λ e. cc;
    wide = safe.wide;
    lasts = ap (λ (t : List (List ℕ)). length t) lasts_are
        ∙ (length-set words.lasts kept.cell (slice_set (row words.lasts kept.cell) kept.thread (max (number_in words.lasts kept.cell kept.thread) number)) ∙ (safe.lasts ∙ sym same));
    wide_lasts = subst (λ (t : List (List ℕ)). AreWide words.threads t) (sym lasts_are) (wide_number words.threads words.lasts kept.cell kept.thread number safe.wide_lasts);
    small = safe.small;
    heads = λ place k at. elim (more_at words.kept place kept k (subst (λ (xs : List Kept). slice_get xs place ≡ Some k) all_are at)) [
      | inl old ↦ omega (arith, count, safe.heads place k old)
      | inr new ↦ omega (arith, count, ap (λ (z : Kept). z.head) new.1)
    ];
    ranks = λ place k at. elim (more_at words.kept place kept k (subst (λ (xs : List Kept). slice_get xs place ≡ Some k) all_are at)) [
      | inl old ↦ safe.ranks place k old
      | inr new ↦ omega (arith, safe.each, new.0, ap (λ (z : Kept). z.rank) new.1)
    ];
    within = λ place k at. elim (more_at words.kept place kept k (subst (λ (xs : List Kept). slice_get xs place ≡ Some k) all_are at)) [
      | inl old ↦ safe.within place k old
      | inr new ↦ omega (arith, ap (λ (z : Kept). z.thread) new.1)
    ];
    cells = λ place k at. elim (more_at words.kept place kept k (subst (λ (xs : List Kept). slice_get xs place ≡ Some k) all_are at)) [
      | inl old ↦ omega (arith, same, safe.cells place k old)
      | inr new ↦ omega (arith, same, ap (λ (z : Kept). z.cell) new.1)
    ];
    room = λ e. cc;
  }

-- the list that took the number alone may be full
pub pushed_full : (old new : List (Vec ℕ)) (number cell : ℕ) → cell < length old → ((other : ℕ) (list : Vec ℕ) → slice_get old other ≡ Some list → vec_len list < vec_capacity list) → HasPushed old new cell number
    → (full : ℕ) → Some cell ≡ Some full → HaveRoomBut full new
pushed_full old new number cell within room pushed full same =
    let is : cell ≡ full = cc in
    subst (λ (n : ℕ). HaveRoomBut n new) is (record {
      within = omega (arith, pushed.count);
      room = λ other list apart at. room other list (pushed.others other list apart at);
    })
