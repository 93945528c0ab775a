-- What is kept stays within the tables.
use Rattle.std.proofs.Common.{◌≡◌, ℕ, ◌<◌, ◌≤◌, List, Bool, Some, true, false, length, slice_get, slice_set, slice_index, slice_index_or, refl, sym, ap, ◌∙◌, subst, arith, inl, inr}
use Rattle.std.specs.Prelude.{Vec}
use Rattle.std.specs.Vec.{with_items}
use Rattle.std.proofs.lemmas.Option.{slice_get-get_or}
use Rattle.std.proofs.lemmas.List.{length-set, with_items_is}
use native.Mathlib.Decide.{dec_lt}
use mathlib.Core.Logic.{dite}
use Rattle.c11_mograph.specs.declared.kept.Kept.{Kept}
use Rattle.c11_mograph.specs.Spread.{AreWide, IsSpread}
use Rattle.c11_mograph.specs.Made.{AreRising}
use Rattle.c11_mograph.specs.Words.{Words, AreSafe}
use Rattle.c11_mograph.specs.Parts.{AreSized, SpreadsFrom, Marks}
use Rattle.c11_mograph.proofs.Places.{set_cases, set_here, set_there}
use Rattle.c11_mograph.proofs.Tables.{wide_set}

-- a vector after a change of its slice at one place
pub with_set : {Z : Type 0} (v : Vec (List ℕ) Z) (ws : List (List ℕ)) (i : ℕ) (clock : List ℕ) → ws ≡ slice_set v.items i clock → (with_items v ws).items ≡ slice_set v.items i clock
with_set v ws i clock e = with_items_is v ws (ap (λ (l : List (List ℕ)). length l) e ∙ (length-set v.items i clock ∙ sym v.ok.0)) ∙ e

-- one clock changes, and what is noted of links
pub clock_safe : (words : Words) (rows : List (List ℕ)) (leads : List Bool) (i : ℕ) (clock : List ℕ) → AreSafe words → (i < length words.clocks.rows → length clock ≡ words.threads) → rows ≡ slice_set words.clocks.rows i clock
    → length leads ≡ length words.clocks.leads → AreSafe (record words { clocks = record { rows = rows; leads = leads } })
clock_safe words rows leads i clock safe size is same = record {
  few = safe.few;
  each = safe.each;
  leads = same ∙ safe.leads;
  rows = omega (arith, safe.rows, size_is);
  spare = λ ready. omega (arith, safe.spare ready, size_is);
  wide = subst (λ (t : List (List ℕ)). AreWide words.threads t) (sym is) (wide_set words.threads words.clocks.rows i clock safe.wide size);
  lasts = safe.lasts;
  wide_lasts = safe.wide_lasts;
  small = safe.small;
  heads = safe.heads;
  ranks = safe.ranks;
  within = safe.within;
  cells = safe.cells;
  room = safe.room;
}
  where
    size_is : length rows ≡ length words.clocks.rows
    size_is = ap (λ (t : List (List ℕ)). length t) is ∙ length-set words.clocks.rows i clock

sized : (words : Words) → AreSafe words → AreSized words
sized words safe = record { each = safe.each; few = safe.rows; leads = safe.leads; wide = safe.wide; lasts = safe.lasts; wide_lasts = safe.wide_lasts }

-- the clocks change, and are as many and as wide
pub rows_safe : (words : Words) (rows : List (List ℕ)) → AreSafe words → length rows ≡ length words.clocks.rows → AreWide words.threads rows → AreSafe (record words { clocks = record words.clocks { rows = rows } })
rows_safe words rows safe count wide = record {
  few = safe.few;
  each = safe.each;
  leads = safe.leads;
  rows = omega (arith, safe.rows, count);
  spare = λ ready. omega (arith, safe.spare ready, count);
  wide = wide;
  lasts = safe.lasts;
  wide_lasts = safe.wide_lasts;
  small = safe.small;
  heads = safe.heads;
  ranks = safe.ranks;
  within = safe.within;
  cells = safe.cells;
  room = safe.room;
}

-- a clock is spread where a link leads on from its chain, and only there
pub not_spread_from : (words : Words) (from : ℕ) → AreSafe words → from < length words.numbers → slice_get words.clocks.leads from ≡ Some false → SpreadsFrom words words from
not_spread_from words from safe within fresh = record {
  rest = refl;
  number = slice_index words.numbers from;
  kept = slice_index_or words.kept from (record { cell = 0; thread = 0; head = 0; rank = 0; older = 0; ends = false });
  at = slice_get-get_or words.numbers from 0 within;
  is = slice_get-get_or words.kept from (record { cell = 0; thread = 0; head = 0; rank = 0; older = 0; ends = false }) (omega (arith, safe.each));
  sized = sized words safe;
  fresh = λ _. refl;
  spread = λ leads. absurd (let both : Some true ≡ Some false = sym leads ∙ fresh in let clash : true ≡ false = cc in cc);
}

pub is_spread_from : (words : Words) (from number : ℕ) (kept : Kept) (rows : List (List ℕ)) → AreSafe words → slice_get words.numbers from ≡ Some number → slice_get words.kept from ≡ Some kept
    → slice_get words.clocks.leads from ≡ Some true → IsSpread words.kept words.clocks.rows rows 0 from kept.cell kept.thread number → SpreadsFrom words (record words { clocks = record words.clocks { rows = rows } }) from
is_spread_from words from number kept rows safe at is leads spread = record {
  rest = refl;
  number = number;
  kept = kept;
  at = at;
  is = is;
  sized = sized words safe;
  fresh = λ fresh. absurd (let both : Some true ≡ Some false = sym leads ∙ fresh in let clash : true ≡ false = cc in cc);
  spread = λ _. spread;
}

module _ (words : Words) (place y : ℕ) (k : Kept) (is : slice_get words.kept place ≡ Some k) where
  abbrev marked : Words
  marked = record words { kept = slice_set words.kept place (record k { ends = false }) }

  -- a chain goes on
  pub marked_safe : AreSafe words → AreSafe marked
  marked_safe safe = record {
    few = safe.few;
    each = length-set words.kept place (record k { ends = false }) ∙ safe.each;
    leads = safe.leads;
    rows = safe.rows;
    spare = safe.spare;
    wide = safe.wide;
    lasts = safe.lasts;
    wide_lasts = safe.wide_lasts;
    small = safe.small;
    heads = λ i e at. elim (set_cases words.kept place i (record k { ends = false }) e at) [
      | inl p ↦ subst (λ (z : Kept). z.head < length words.numbers) p.1 (safe.heads place k is)
      | inr p ↦ safe.heads i e p.1
    ];
    ranks = λ i e at. elim (set_cases words.kept place i (record k { ends = false }) e at) [
      | inl p ↦ subst (λ (z : Kept). z.rank ≤ i) p.1 (let le = safe.ranks place k is in omega (arith, p.0))
      | inr p ↦ safe.ranks i e p.1
    ];
    within = λ i e at. elim (set_cases words.kept place i (record k { ends = false }) e at) [
      | inl p ↦ subst (λ (z : Kept). z.thread < words.threads) p.1 (safe.within place k is)
      | inr p ↦ safe.within i e p.1
    ];
    cells = λ i e at. elim (set_cases words.kept place i (record k { ends = false }) e at) [
      | inl p ↦ subst (λ (z : Kept). z.cell < length words.lists) p.1 (safe.cells place k is)
      | inr p ↦ safe.cells i e p.1
    ];
    room = safe.room;
  }

  pub marks_at : slice_get words.numbers place ≡ Some y → Marks words marked y
  marks_at number = record {
    rest = refl;
    count = length-set words.kept place (record k { ends = false });
    here = λ rising i e at kept.
        let same : i ≡ place = one_place rising i at in
        let both : Some k ≡ Some e = sym is ∙ (ap (λ (p : ℕ). slice_get words.kept p) (sym same) ∙ kept) in
        let e_is : k ≡ e = cc in
        ap (λ (p : ℕ). slice_get (slice_set words.kept place (record k { ends = false })) p) same
        ∙ (set_here words.kept place (record k { ends = false }) k is ∙ ap (λ (z : Kept). Some (record z { ends = false })) e_is);
    others = λ i e other kept. set_there words.kept place i (record k { ends = false }) (λ same. other (ap (λ (p : ℕ). slice_get words.numbers p) same ∙ number)) ∙ kept;
  }
    where
      one_place : AreRising words.numbers → (i : ℕ) → slice_get words.numbers i ≡ Some y → i ≡ place
      one_place rising i at = dite (dec_lt i place) (λ (lt : i < place). absurd (omega (arith, rising i place y y at number lt)))
          (λ (no' : i < place → ⊥). dite (dec_lt place i) (λ (lt : place < i). absurd (omega (arith, rising place i y y number at lt))) (λ (no'' : place < i → ⊥). omega arith))
