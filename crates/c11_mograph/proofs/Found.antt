-- Where a graph keeps what was made.
use Rattle.std.proofs.Common.{◌≡◌, ℕ, ◌<◌, ◌≤◌, ◌↔◌, Some, None, Bool, true, false, IsTrue, length, slice_get, sym, ap, ◌∙◌, subst, arith, inl, inr}
use Rattle.std.proofs.lemmas.Option.{slice_get_cases, slice_get_within}
use native.Mathlib.Decide.{ℕ_discrete, dec_lt}
use mathlib.Core.Logic.{dite}
use Rattle.c11_mograph.specs.declared.kept.Kept.{Kept}
use Rattle.c11_mograph.specs.Made.{Store, Made, IsAdded, GoesOn, Chain, here, Reach, AreRising}
use Rattle.c11_mograph.specs.Words.{Words, Tracks, StandsFor}
use Rattle.c11_mograph.specs.Parts.{ReachesPlace}
use Rattle.c11_mograph.specs.Spread.{number_in}
use Rattle.c11_mograph.specs.Clocks.{AreOfCell, OwnInOrder}
use Rattle.c11_mograph.proofs.Chains.{chain_added, chain_same, same_store}
use Rattle.c11_mograph.proofs.Cells.{cell_back, cell_join, chain_cell, reach_cell}
use Rattle.c11_mograph.proofs.Clocked.{tells_reach}

module _ (words : Words) (made : Made) (stands : Tracks words made) where
  -- the store of a kept number
  pub store_at : (i x : ℕ) → slice_get words.numbers i ≡ Some x → (s : Store) × ((slice_get made.stores i ≡ Some s) × (s.number ≡ x))
  store_at i x at = elim (slice_get_cases made.stores i).1 [
    | inl p ↦ let both : Some p.0.number ≡ Some x = sym (stands.each i p.0 p.2).number ∙ at in (p.0, (p.2, cc))
    | inr p ↦ absurd (omega (arith, p.0, slice_get_within words.numbers i x at, stands.count))
  ]

  pub rising : AreRising words.numbers
  rising i j x y at at' less =
      let s = store_at i x at in
      let t = store_at j y at' in
      omega (arith, stands.well.rises i j s.0 t.0 s.1.0 t.1.0 less, s.1.1, t.1.1)

  -- the place of a store that was added
  pub number_at : (x : ℕ) (P : Store → Type 0) → IsAdded made.stores x P → (i : ℕ) × (slice_get words.numbers i ≡ Some x)
  number_at x P t = (t.place, (stands.each t.place t.store t.is).number ∙ ap (λ (n : ℕ). Some n) t.number)

  pub same_number : (i j x : ℕ) → slice_get words.numbers i ≡ Some x → slice_get words.numbers j ≡ Some x → i ≡ j
  same_number i j x at at' = dite (dec_lt i j) (λ (lt : i < j). absurd (omega (arith, rising i j x x at at' lt)))
      (λ (no' : i < j → ⊥). dite (dec_lt j i) (λ (lt : j < i). absurd (omega (arith, rising j i x x at' at lt))) (λ (no'' : j < i → ⊥). omega arith))

  -- what is kept at a place is of the store there
  pub chain_at : (i x : ℕ) (k : Kept) → slice_get words.numbers i ≡ Some x → slice_get words.kept i ≡ Some k
      → (h : ℕ) × ((slice_get words.numbers k.head ≡ Some h) × Chain made.stores h k.rank x)
  chain_at i x k at kept =
      let s = store_at i x at in
      let is = stands.each i s.0 s.1.0 in
      let both : Some is.kept ≡ Some k = sym is.is ∙ kept in
      let same : is.kept ≡ k = cc in (
        is.head,
        (
          ap (λ (y : Kept). slice_get words.numbers y.head) (sym same) ∙ is.head_is,
          subst (λ (n : ℕ). Chain made.stores is.head k.rank n) s.1.1 (subst (λ (y : Kept). Chain made.stores is.head y.rank s.0.number) same is.chain),
        ),
      )

  pub ends_at : (i x : ℕ) (k : Kept) → slice_get words.numbers i ≡ Some x → slice_get words.kept i ≡ Some k → IsTrue k.ends ↔ ((b : ℕ) → GoesOn made.stores b x → ⊥)
  ends_at i x k at kept =
      let s = store_at i x at in
      let is = stands.each i s.0 s.1.0 in
      let both : Some is.kept ≡ Some k = sym is.is ∙ kept in
      let same : is.kept ≡ k = cc in
      subst (λ (n : ℕ). IsTrue k.ends ↔ ((b : ℕ) → GoesOn made.stores b n → ⊥)) s.1.1
      (subst (λ (y : Kept). IsTrue y.ends ↔ ((b : ℕ) → GoesOn made.stores b s.0.number → ⊥)) same is.ends)

  -- nothing goes on from a number that is not kept
  pub ends_nowhere : (x : ℕ) → (AreRising words.numbers → (i : ℕ) → slice_get words.numbers i ≡ Some x → ⊥) → (b : ℕ) → GoesOn made.stores b x → ⊥
  ends_nowhere x none b g = let t = number_at x (λ s. x < b) (stands.well.earlier b x g) in none rising t.0 t.1

  pub chain_nowhere : (x : ℕ) → (AreRising words.numbers → (i : ℕ) → slice_get words.numbers i ≡ Some x → ⊥) → (h r : ℕ) → Chain made.stores h r x → ⊥
  chain_nowhere x none h r c = let t = number_at x (λ _. Unit {0}) (chain_added made.stores h r x c) in none rising t.0 t.1

  -- the cell and the thread of what is kept at a place
  pub cell_at : (i x : ℕ) (k : Kept) → slice_get words.numbers i ≡ Some x → slice_get words.kept i ≡ Some k → IsAdded made.stores x (λ s. s.cell ≡ k.cell)
  cell_at i x k at kept =
      let s = store_at i x at in
      let is = stands.each i s.0 s.1.0 in
      let both : Some is.kept ≡ Some k = sym is.is ∙ kept in
      let same : is.kept ≡ k = cc in
      record { place = i; store = s.0; is = s.1.0; number = s.1.1; holds = sym (sym (ap (λ (y : Kept). y.cell) same) ∙ is.cell) }

  pub thread_at : (i x : ℕ) (k : Kept) → slice_get words.numbers i ≡ Some x → slice_get words.kept i ≡ Some k → IsAdded made.stores x (λ s. s.thread ≡ k.thread)
  thread_at i x k at kept =
      let s = store_at i x at in
      let is = stands.each i s.0 s.1.0 in
      let both : Some is.kept ≡ Some k = sym is.is ∙ kept in
      let same : is.kept ≡ k = cc in
      record { place = i; store = s.0; is = s.1.0; number = s.1.1; holds = sym (sym (ap (λ (y : Kept). y.thread) same) ∙ is.thread) }

  -- a store that begins a chain is its own head
  pub head_at : (i x : ℕ) (k : Kept) → slice_get words.numbers i ≡ Some x → slice_get words.kept i ≡ Some k → IsAdded made.stores x (λ s. s.after ≡ None) → k.head ≡ i
  head_at i x k at kept begins =
      let c = chain_at i x k at kept in
      let same = (chain_same made.stores stands.well.rises c.0 k.rank x 0 x c.1.1 (here begins)).0 in
      same_number k.head i x (c.1.0 ∙ ap (λ (n : ℕ). Some n) same) at

  pub kept_there : (i x : ℕ) → slice_get words.numbers i ≡ Some x → (k : Kept) × (slice_get words.kept i ≡ Some k)
  kept_there i x at = let s = store_at i x at in let is = stands.each i s.0 s.1.0 in (is.kept, is.is)

  pub counts_same : length words.kept ≡ length words.numbers → (i : ℕ) → i < length words.numbers → i < length words.kept
  counts_same each i less = omega (arith, each)

  -- each store is in a chain
  pub placed : (x : ℕ) (P : Store → Type 0) → IsAdded made.stores x P → (h : ℕ) × ((i : ℕ) × Chain made.stores h i x)
  placed x P t =
      let n = number_at x P t in
      let k = kept_there n.0 x n.1 in
      let c = chain_at n.0 x k.0 n.1 k.1 in
      (c.0, (k.0.rank, c.1.1))

-- what stands for what was made keeps it
pub tracks_of : (words : Words) (made : Made) → StandsFor words made → Tracks words made
tracks_of words made stands = record { well = stands.well; count = stands.count; each = stands.each; lists = stands.lists; lasts = stands.lasts; clocks = stands.clocks; clear = stands.clear; fresh = stands.fresh }

pub stands_with : (words : Words) (made : Made) → Tracks words made → OwnInOrder made → StandsFor words made
stands_with words made tracks own = record { well = tracks.well; count = tracks.count; each = tracks.each; lists = tracks.lists; lasts = tracks.lasts; clocks = tracks.clocks; clear = tracks.clear; fresh = tracks.fresh; own = own }

-- what the clocks and the ranks say is what is reached
pub reached_at : (words : Words) (made : Made) → StandsFor words made → (i j a b : ℕ) (reached : Bool) → slice_get words.numbers i ≡ Some a → slice_get words.numbers j ≡ Some b → ReachesPlace words i j reached
    → IsTrue reached ↔ Reach made a b
reached_at words made stands i j a b reached at at' r =
    let tracks = tracks_of words made stands in
    let first = chain_at words made tracks i a r.a at r.first in
    let second = chain_at words made tracks j b r.b at' r.second in
    let ha = first.0 in
    let hb = second.0 in
    let heads : r.a.head ≡ r.b.head → ha ≡ hb = λ same. let both : Some ha ≡ Some hb = sym first.1.0 ∙ (ap (λ (n : ℕ). slice_get words.numbers n) same ∙ second.1.0) in cc in
    let places : ha ≡ hb → r.a.head ≡ r.b.head = λ same. same_number words made tracks r.a.head r.b.head ha first.1.0 (second.1.0 ∙ ap (λ (n : ℕ). Some n) (sym same)) in
    dite (ℕ_discrete r.a.head r.b.head)
    (λ (same : r.a.head ≡ r.b.head).
    let w = r.within same in (
      λ t. record { h = ha; k = hb; i = r.a.rank; j = r.b.rank; first = first.1.1; second = second.1.1; leads = inr (heads same, w.0 t) },
      λ reach. w.1 (let p = chain_same made.stores stands.well.rises reach.h reach.i ha r.a.rank a reach.first first.1.1 in
          let q = chain_same made.stores stands.well.rises reach.k reach.j hb r.b.rank b reach.second second.1.1 in
          elim reach.leads [ inl t ↦ absurd (t.0 (p.0 ∙ (heads same ∙ sym q.0))) | inr t ↦ omega (arith, p.1, q.1, t.1) ]),
    ))
    (λ (differ : r.a.head ≡ r.b.head → ⊥). dite (ℕ_discrete r.a.cell r.b.cell)
    (λ (same : r.a.cell ≡ r.b.cell).
    let number_is : r.number ≡ a = let both : Some r.number ≡ Some a = sym r.at ∙ at in cc in
    let cell_a = cell_at words made tracks i a r.a at r.first in
    let cell_b = cell_at words made tracks j b r.b at' r.second in
    let one : AreOfCell made.stores a b = record { place = cell_a.place; store = cell_a.store; is = cell_a.is; number = cell_a.number; holds = record { place = cell_b.place; store = cell_b.store; is = cell_b.is; number = cell_b.number; holds = cell_a.holds ∙ (same ∙ sym cell_b.holds) } } in
    let to_head = cell_join made.stores stands.well.rises a b hb one (cell_back made.stores stands.well.rises hb b (chain_cell made stands.well hb r.b.rank b second.1.1)) in
    let above : 0 < a = omega (arith, stands.well.positive cell_a.place cell_a.store cell_a.is, cell_a.number) in
    let t = tells_reach made stands.well a r.a.thread ha r.a.rank hb (number_in words.clocks.rows r.b.head r.a.thread) (thread_at words made tracks i a r.a at r.first) first.1.1 (stands.own a) to_head
    (stands.clocks r.b.head hb second.1.0 r.a.thread) above (λ e. differ (places e)) b r.b.rank second.1.1 in
    let w = subst (λ (n : ℕ). IsTrue reached ↔ (n ≤ number_in words.clocks.rows r.b.head r.a.thread)) number_is (r.across differ same) in
    ((λ e. t.0 (w.0 e)), λ reach. w.1 (t.1 reach)))
    (λ (other : r.a.cell ≡ r.b.cell → ⊥).
    let no' = r.apart differ other in (
      λ e. let clash : false ≡ true = sym no' ∙ e in cc,
      λ reach.
          let c = reach_cell made stands.well a b reach in
          let cell_a = cell_at words made tracks i a r.a at r.first in
          let cell_b = cell_at words made tracks j b r.b at' r.second in
          let left = same_store made.stores stands.well.rises a (λ s. s.cell ≡ r.a.cell) (λ s. IsAdded made.stores b (λ t. s.cell ≡ t.cell)) cell_a c in
          let right = same_store made.stores stands.well.rises b (λ s. s.cell ≡ r.b.cell) (λ t. c.store.cell ≡ t.cell) cell_b c.holds in
          absurd (other (sym cell_a.holds ∙ (ap (λ (s : Store). s.cell) left ∙ (c.holds.holds ∙ (ap (λ (s : Store). s.cell) (sym right) ∙ cell_b.holds))))),
    )))
