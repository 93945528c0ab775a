-- A graph without a store.
use Rattle.std.proofs.Common.{◌≡◌, ℕ, List, [], Some, None, All, length, replicate, slice_get, zero, suc, ◌<◌, refl, arith, sym, ap, ◌∙◌, subst}
use Rattle.std.specs.Global.{Vec}
use Rattle.std.proofs.lemmas.Option.{get_or_from_slice_get, slice_get_within}
use Rattle.std.proofs.lemmas.List.{length-replicate}
use Rattle.c11_events.specs.Closure.{one, join}
use Rattle.c11_mograph.specs.Spread.{row, number_in, AreWide}
use Rattle.c11_mograph.specs.Made.{Store, nothing_made, IsAdded, Links}
use Rattle.c11_mograph.specs.Words.{Words, WellMade, StandsFor}
use Rattle.c11_mograph.proofs.Tables.{blank_clock}

none_added : (x : ℕ) (P : Store → Type 0) → IsAdded [] x P → ⊥
none_added x P t = let clash : None ≡ Some t.store = t.is in cc

no_links : (h k : ℕ) → Links nothing_made h k → ⊥
no_links h k (one l) = let clash : None ≡ Some l.pair.pair = l.pair.is in cc
no_links h k (join {b = m} v w) = no_links h m v

pub nothing_well : WellMade nothing_made
nothing_well = record {
  rises = λ i j s t at. cc;
  earlier = λ b y t. absurd (none_added b (λ s. s.after ≡ Some y) t);
  once = λ b c y t. absurd (none_added b (λ s. s.after ≡ Some y) t);
  of_cell = λ b y t. absurd (none_added b (λ s. s.after ≡ Some y) t);
  positive = λ i s at. cc;
  paired = λ a b p. let clash : None ≡ Some p.pair = p.is in cc;
  ordered = record { acyclic = λ h l. no_links h h l; ranked = λ a b h i j p. let clash : None ≡ Some p.pair = p.is in cc };
}

pub stands_for_nothing : (words : Words) → words.numbers ≡ [] → All (λ (list : Vec ℕ). list.items ≡ []) words.lists
    → ((cell thread : ℕ) → number_in words.lasts cell thread ≡ 0) → ((place thread : ℕ) → number_in words.clocks.rows place thread ≡ 0) → StandsFor words nothing_made
stands_for_nothing words none empty lasts clear = record {
  well = nothing_well;
  count = ap length none;
  each = λ place store at. cc;
  lists = λ cell list at. ap (λ (l : Vec ℕ). l.items) (sym (get_or_from_slice_get words.lists cell list list at)) ∙ empty cell list (slice_get_within words.lists cell list at);
  lasts = λ cell thread _ _. lasts cell thread;
  clocks = λ place x at. let clash : None ≡ Some x = subst (λ (xs : List ℕ). slice_get xs place ≡ Some x) none at in cc;
  clear = λ place out thread. clear place thread;
  fresh = λ place x at. let clash : None ≡ Some x = subst (λ (xs : List ℕ). slice_get xs place ≡ Some x) none at in cc;
  own = λ a b both less. absurd (none_added a (λ s. IsAdded [] b (λ t. (s.cell ≡ t.cell) × (s.thread ≡ t.thread))) both);
}

-- no clock is 0 everywhere
pub none_blank : (clocks : List (List ℕ)) → clocks ≡ [] → (place thread : ℕ) → number_in clocks place thread ≡ 0
none_blank clocks is place thread = ap (λ (t : List (List ℕ)). number_in t place thread) is

blank_row : (count threads place thread : ℕ) → number_in (replicate count (replicate threads 0)) place thread ≡ 0
blank_row zero threads place thread = refl
blank_row (suc count) threads zero thread = blank_clock threads thread
blank_row (suc count) threads (suc place) thread = blank_row count threads place thread

-- clocks that are 0 everywhere
pub all_blank : (clocks : List (List ℕ)) (count threads : ℕ) → clocks ≡ replicate count (replicate threads 0) → (place thread : ℕ) → number_in clocks place thread ≡ 0
all_blank clocks count threads is place thread = ap (λ (t : List (List ℕ)). number_in t place thread) is ∙ blank_row count threads place thread

pub blank_wide : (clocks : List (List ℕ)) (count threads : ℕ) → clocks ≡ replicate count (replicate threads 0) → AreWide threads clocks
blank_wide clocks count threads is = subst (λ (t : List (List ℕ)). AreWide threads t) (sym is) (λ place less. wide count place (let zeros : List ℕ = replicate threads 0 in omega (arith, length-replicate count zeros)))
  where
    wide : (count place : ℕ) → place < count → length (row (replicate count (replicate threads 0)) place) ≡ threads
    wide zero place lt = absurd (omega arith)
    wide (suc count) zero lt = length-replicate threads 0
    wide (suc count) (suc place) lt = wide count place (omega arith)
