-- The clocks of a table, one changed at a time.
use Rattle.std.proofs.Common.{◌≡◌, ℕ, zero, suc, ◌<◌, ◌≤◌, ◌+◌, List, [], ◌∷◌, ◌++◌, max, length, replicate, slice_index, slice_set, length-append, refl, sym, ap, ◌∙◌, subst, arith, inl, inr}
use Rattle.std.proofs.lemmas.Option.{slice_get_within}
use Rattle.std.proofs.lemmas.List.{get_or-set_same, get_or-set_other, length-set, length-replicate, get_or_append_left}
use native.Mathlib.Decide.{ℕ_discrete, dec_lt}
use mathlib.Core.Logic.{dite}
use Rattle.c11_clock.specs.Clocks.{joined, HasBelow}
use Rattle.c11_clock.proofs.Joined.{is_joined}
use Rattle.c11_mograph.specs.declared.kept.Kept.{Kept}
use Rattle.c11_mograph.specs.Heads.{IsHead, IsNewest}
use Rattle.c11_mograph.specs.Spread.{row, number_in, with_number, AreWide, Covers, IsSpread, IsSpreadTo, MayGain}

pub row_at : (table : List (List ℕ)) (i : ℕ) (clock : List ℕ) → i < length table → row (slice_set table i clock) i ≡ clock
row_at table i clock lt = get_or-set_same table i clock [] lt

pub row_else : (table : List (List ℕ)) (i : ℕ) (clock : List ℕ) (j : ℕ) → (j ≡ i → ⊥) → row (slice_set table i clock) j ≡ row table j
row_else table i clock j other = get_or-set_other table i j clock [] other

pub wide_set : (threads : ℕ) (table : List (List ℕ)) (i : ℕ) (clock : List ℕ) → AreWide threads table → (i < length table → length clock ≡ threads) → AreWide threads (slice_set table i clock)
wide_set threads table i clock wide size j lt = dite (ℕ_discrete j i)
    (λ (same : j ≡ i).
    let inside : i < length table = omega (arith, length-set table i clock) in
    subst (λ (k : ℕ). length (row (slice_set table i clock) k) ≡ threads) (sym same)
    (ap (λ (c : List ℕ). length c) (row_at table i clock inside) ∙ size inside))
    (λ (other : j ≡ i → ⊥). ap (λ (c : List ℕ). length c) (row_else table i clock j other) ∙ wide j (omega (arith, length-set table i clock)))

-- a table cut at a place
pub set_behind : (front back : List (List ℕ)) (y : List ℕ) → slice_set (front ++ back) (length front) y ≡ front ++ slice_set back 0 y
set_behind [] back y = refl
set_behind (x ∷ front) back y = ap (λ (l : List (List ℕ)). x ∷ l) (set_behind front back y)

pub row_behind : (front back : List (List ℕ)) → row (front ++ back) (length front) ≡ row back 0
row_behind [] back = refl
row_behind (x ∷ front) back = row_behind front back

pub row_before : (front back : List (List ℕ)) (i : ℕ) → i < length front → row (front ++ back) i ≡ row front i
row_before front back i lt = get_or_append_left front back [] i lt

pub set_before : (front back : List (List ℕ)) (i : ℕ) (y : List ℕ) → i < length front → slice_set (front ++ back) i y ≡ slice_set front i y ++ back
set_before [] back i y lt = absurd (omega arith)
set_before (x ∷ front) back zero y lt = refl
set_before (x ∷ front) back (suc i) y lt = ap (λ (l : List (List ℕ)). x ∷ l) (set_before front back i y (omega arith))

-- one head more is spread to; the places down to the next are of no head of the cell
pub spread_step : (kept : List Kept) (old mid new : List (List ℕ)) (to next from cell thread number : ℕ) → IsHead kept cell to → IsNewest kept cell to next → IsSpread kept old mid (to + 1) from cell thread number
    → IsSpreadTo mid new to from thread number → IsSpread kept old new next from cell thread number
spread_step kept old mid new to next from cell thread number head link so_far now = record {
  grown = λ place below other covers. dite (ℕ_discrete place to)
      (λ (here : place ≡ to). subst (λ (p : ℕ). row new p ≡ joined (row old p) (row old from)) (sym here)
      (now.grown (λ e. other (here ∙ e)) (subst (λ (r : List ℕ). number ≤ slice_index r thread) (sym same_row) (subst (λ (p : ℕ). number ≤ number_in old p thread) here covers.covered))
      ∙ (ap (λ (c : List ℕ). joined c (row mid from)) same_row ∙ ap (λ (c : List ℕ). joined (row old to) c) same_from)))
      (λ (elsewhere : place ≡ to → ⊥). dite (dec_lt place to)
      (λ (before : place < to). absurd (link.none place below before covers.head))
      (λ (behind : place < to → ⊥). now.else_where place elsewhere ∙ so_far.grown place (omega arith) other covers));
  left = λ place way. dite (ℕ_discrete place to)
      (λ (here : place ≡ to). subst (λ (p : ℕ). row new p ≡ row old p) (sym here)
      (now.left (elim way [
        | inl before ↦ absurd (omega (arith, link.within))
        | inr w ↦ elim w [ inl e ↦ inl (sym here ∙ e) | inr none ↦ inr (λ le. none (subst (λ (p : ℕ). Covers kept old cell thread number p) (sym here) (record { head = head; covered = subst (λ (r : List ℕ). number ≤ slice_index r thread) same_row le }))) ]
      ]) ∙ same_row))
      (λ (elsewhere : place ≡ to → ⊥). now.else_where place elsewhere ∙ so_far.left place (elim way [ inl before ↦ inl (omega (arith, link.within)) | inr w ↦ inr w ]));
  count = now.count ∙ so_far.count;
}
  where
    same_row : row mid to ≡ row old to
    same_row = so_far.left to (inl (omega arith))

    same_from : row mid from ≡ row old from
    same_from = so_far.left from (inr (inl refl))

-- from the newest head of the cell on there is none
pub nothing_spread : (kept : List Kept) (old : List (List ℕ)) (newest from cell thread number : ℕ) → IsNewest kept cell (length kept) newest → IsSpread kept old old newest from cell thread number
nothing_spread kept old newest from cell thread number link = record {
  grown = λ place below other covers. absurd (link.none place below (slice_get_within kept place covers.head.here covers.head.is) covers.head);
  left = λ place _. refl;
  count = refl;
}

-- a clock behind, or before, the cut takes over one on the other side
pub grown_behind : (table front back : List (List ℕ)) (to from : ℕ) (new : List ℕ) → table ≡ front ++ back → length front ≡ to → from < to → new ≡ joined (row back 0) (row front from)
    → front ++ slice_set back 0 new ≡ slice_set table to (joined (row table to) (row table from))
grown_behind table front back to from new cut size before is =
    let at_to : row table to ≡ row back 0 = ap (λ (t : List (List ℕ)). row t to) cut ∙ (ap (λ (n : ℕ). row (front ++ back) n) (sym size) ∙ row_behind front back) in
    let at_from : row table from ≡ row front from = ap (λ (t : List (List ℕ)). row t from) cut ∙ row_before front back from (omega (arith, size)) in
    ap (λ (y : List ℕ). front ++ slice_set back 0 y) (is ∙ (ap (λ (y : List ℕ). joined y (row front from)) (sym at_to) ∙ ap (λ (y : List ℕ). joined (row table to) y) (sym at_from)))
    ∙ (sym (set_behind front back (joined (row table to) (row table from)))
    ∙ (ap (λ (n : ℕ). slice_set (front ++ back) n (joined (row table to) (row table from))) size ∙ ap (λ (t : List (List ℕ)). slice_set t to (joined (row table to) (row table from))) (sym cut)))

pub grown_before : (table front back : List (List ℕ)) (to from : ℕ) (new : List ℕ) → table ≡ front ++ back → length front ≡ from → to < from → new ≡ joined (row front to) (row back 0)
    → slice_set front to new ++ back ≡ slice_set table to (joined (row table to) (row table from))
grown_before table front back to from new cut size before is =
    let at_from : row table from ≡ row back 0 = ap (λ (t : List (List ℕ)). row t from) cut ∙ (ap (λ (n : ℕ). row (front ++ back) n) (sym size) ∙ row_behind front back) in
    let at_to : row table to ≡ row front to = ap (λ (t : List (List ℕ)). row t to) cut ∙ row_before front back to (omega (arith, size)) in
    ap (λ (y : List ℕ). slice_set front to y ++ back) (is ∙ (ap (λ (y : List ℕ). joined y (row back 0)) (sym at_to) ∙ ap (λ (y : List ℕ). joined (row table to) y) (sym at_from)))
    ∙ (sym (set_before front back to (joined (row table to) (row table from)) (omega (arith, size)))
    ∙ ap (λ (t : List (List ℕ)). slice_set t to (joined (row table to) (row table from))) (sym cut))

-- a clock put where it stood changes nothing
pub set_same : (table : List (List ℕ)) (i : ℕ) → slice_set table i (row table i) ≡ table
set_same [] i = refl
set_same (x ∷ table) zero = refl
set_same (x ∷ table) (suc i) = ap (λ (t : List (List ℕ)). x ∷ t) (set_same table i)

-- nor does a clock that is nowhere larger
pub joined_same : (mine theirs : List ℕ) → length theirs ≡ length mine → (HasBelow mine theirs → ⊥) → joined mine theirs ≡ mine
joined_same mine theirs size none = sym (is_joined mine theirs mine size refl (λ thread lt. dite (dec_lt (slice_index mine thread) (slice_index theirs thread))
    (λ (below : slice_index mine thread < slice_index theirs thread). absurd (none (record { thread = thread; within = lt; smaller = below })))
    (λ (above : slice_index mine thread < slice_index theirs thread → ⊥). omega arith)))

pub blank_clock : (threads thread : ℕ) → slice_index (replicate threads 0) thread ≡ 0
blank_clock zero thread = refl
blank_clock (suc threads) zero = refl
blank_clock (suc threads) (suc thread) = blank_clock threads thread

blank_more : (table : List (List ℕ)) (zeros : List ℕ) (place thread : ℕ) → slice_index zeros thread ≡ 0 → slice_index (row (table ++ zeros ∷ []) place) thread ≡ slice_index (row table place) thread
blank_more [] zeros zero thread blank = blank
blank_more [] zeros (suc place) thread blank = refl
blank_more (x ∷ table) zeros zero thread blank = refl
blank_more (x ∷ table) zeros (suc place) thread blank = blank_more table zeros place thread blank

wide_more : (threads : ℕ) (table : List (List ℕ)) (clock : List ℕ) → length clock ≡ threads → AreWide threads table → AreWide threads (table ++ clock ∷ [])
wide_more threads [] clock size wide zero lt = size
wide_more threads [] clock size wide (suc place) lt = absurd (omega arith)
wide_more threads (x ∷ table) clock size wide zero lt = wide zero (omega arith)
wide_more threads (x ∷ table) clock size wide (suc place) lt = wide_more threads table clock size (λ i less. wide (suc i) (omega arith)) place (omega arith)

-- a further clock that is 0 changes no number
pub gained_same : (threads : ℕ) (old new : List (List ℕ)) → MayGain threads old new → (place thread : ℕ) → number_in new place thread ≡ number_in old place thread
gained_same threads old new (inl same) place thread = ap (λ (t : List (List ℕ)). number_in t place thread) same
gained_same threads old new (inr more) place thread = ap (λ (t : List (List ℕ)). number_in t place thread) more ∙ blank_more old (replicate threads 0) place thread (blank_clock threads thread)

pub gained_wide : (threads : ℕ) (old new : List (List ℕ)) → MayGain threads old new → AreWide threads old → AreWide threads new
gained_wide threads old new (inl same) wide = subst (λ (t : List (List ℕ)). AreWide threads t) (sym same) wide
gained_wide threads old new (inr more) wide = subst (λ (t : List (List ℕ)). AreWide threads t) (sym more) (wide_more threads old (replicate threads 0) (length-replicate threads 0) wide)

pub gained_more : (threads : ℕ) (old new : List (List ℕ)) → MayGain threads old new → length old ≤ length new
gained_more threads old new (inl same) = omega (arith, ap (λ (t : List (List ℕ)). length t) same)
gained_more threads old new (inr more) = omega (arith, ap (λ (t : List (List ℕ)). length t) more, length-append old (replicate threads 0 ∷ []))

-- a clock with a number raised is as wide
pub wide_number : (threads : ℕ) (rows : List (List ℕ)) (place thread number : ℕ) → AreWide threads rows → AreWide threads (with_number rows place thread number)
wide_number threads rows place thread number wide =
    wide_set threads rows place (slice_set (row rows place) thread (max (number_in rows place thread) number)) wide (λ lt. length-set (row rows place) thread (max (number_in rows place thread) number) ∙ wide place lt)
