-- A further note keeps the notes linked.
use Rattle.std.proofs.Common.{◌≡◌, ℕ, suc, ◌<◌, ◌+◌, ◌&&◌, Bool, true, false, List, [], ◌∷◌, ◌++◌, Option, Some, slice_get, length, nat_eq, if◌then◌else◌, sym, ap, ◌∙◌, subst, arith, ◌⊎◌, inl, inr}
use Rattle.std.proofs.lemmas.List.{length-append}
use Rattle.std.proofs.lemmas.Bool.Decides.{eqb_tells}
use Rattle.c11_latest.specs.declared.latest.Note.{Note}
use Rattle.c11_latest.specs.declared.links.Link.{Link}
use Rattle.c11_latest.specs.Notes.{note, IsNoted}
use Rattle.c11_latest.specs.Linked.{IsOf, IsLastPlace, IsBehind, IsLinkAfter, same_pair, IsLinked}
use Rattle.c11_latest.proofs.Places.{get_last, old_or_last, inside, one_at, of_more, of_less, place_more, place_past}

same_note : (c t n d u m : ℕ) → note c t n ≡ note d u m → (c ≡ d) × (t ≡ u) × (n ≡ m)
same_note c t n d u m e = (ap (λ (x : Note). x.cell) e, ap (λ (x : Note). x.thread) e, ap (λ (x : Note). x.number) e)

-- pairs are the same or differ in a part
pair_cases : (c t d u : ℕ) → ((same_pair (c, t) (d, u) ≡ true) × (c ≡ d) × (t ≡ u)) ⊎ ((same_pair (c, t) (d, u) ≡ false) × ((c ≡ d) → (t ≡ u) → ⊥))
pair_cases c t d u = elim (eqb_tells c d) [
  | inl cells ↦ elim (eqb_tells t u) [
    | inl threads ↦ inl ((λ i. cells.0 i && threads.0 i), cells.1, threads.1)
    | inr threads ↦ inr ((λ i. cells.0 i && threads.0 i), λ _ s. threads.1 s)
  ]
  | inr cells ↦ inr ((λ i. cells.0 i && nat_eq t u), λ s _. cells.1 s)
]

module _ (notes : List Note) (links : List Link) (tops : ℕ → ℕ → Option ℕ) (linked : IsLinked notes links tops) (c t n : ℕ) (rise : (y : ℕ) → IsNoted notes c t y → y < n)
    (l : Link) (after : IsLinkAfter links (tops c t) l) where
  abbrev longer : List Note
  longer = notes ++ note c t n ∷ []

  -- where the new note leads is a place of its pair
  top : (p : ℕ) → tops c t ≡ Some p → (p < length notes) × IsOf notes c t p
  top p e = let is : IsLastPlace notes c t (length notes) (Some p) = subst (λ (o : Option ℕ). IsLastPlace notes c t (length notes) o) e (linked.last c t) in (is.0, is.1)

  behind : (p far : ℕ) → p < length notes → IsOf notes c t p → IsBehind links p far → (far < length notes) × IsOf notes c t far
  behind p far less o b = elim b [
    | inl same ↦ (omega (arith, same), subst (λ (k : ℕ). IsOf notes c t k) (sym same) o)
    | inr two ↦ let first = linked.back p two.2 two.0 two.3 two.4 in let second = linked.back two.2 far two.1 two.5 two.6 in
        (omega arith, linked.jump c t two.2 far two.1 two.5 two.6 (linked.jump c t p two.2 two.0 two.3 two.4 o))
  ]

  leads : (far : ℕ) → l.jump ≡ Some far → (far < length notes) × IsOf notes c t far
  leads far e = let a = after.jump far e in let is = top a.0 a.1 in behind a.0 far is.0 is.1 a.2

  -- the new note is of its pair alone
  new_pair : (cell thread : ℕ) → IsOf longer cell thread (length notes) → (c ≡ cell) × (t ≡ thread)
  new_pair cell thread o = let s = same_note c t n cell thread o.0 (one_at longer (length notes) (note c t n) (note cell thread o.0) (get_last notes (note c t n)) o.1) in (s.0, s.1)

  rises : (cell thread i j x y : ℕ) → slice_get longer i ≡ Some (note cell thread x) → slice_get longer j ≡ Some (note cell thread y) → i < j → x < y
  rises cell thread i j x y at at' less = elim (old_or_last notes (note c t n) i (note cell thread x) at) [
    | inl old ↦ elim (old_or_last notes (note c t n) j (note cell thread y) at') [
      | inl old' ↦ linked.rises cell thread i j x y old.1 old'.1 less
      | inr new ↦ let s = same_note c t n cell thread y new.1 in
          let is : IsNoted notes c t x = (i, old.1 ∙ (λ k. Some (note (sym s.0 k) (sym s.1 k) x))) in let below = rise x is in omega (arith, s.2)
    ]
    | inr new ↦ let inside' = inside longer j (note cell thread y) at' in absurd (omega (arith, new.0, inside', length-append notes (note c t n ∷ [])))
  ]

  before : (cell thread i : ℕ) (m : Link) → slice_get (links ++ l ∷ []) i ≡ Some m → IsOf longer cell thread i → IsLastPlace longer cell thread i m.before
  before cell thread i m at o = elim (old_or_last links l i m at) [
    | inl old ↦ place_more notes (note c t n) cell thread i m.before (omega (arith, old.0, linked.count))
        (linked.before cell thread i m old.1 (of_less notes (note c t n) cell thread i (omega (arith, old.0, linked.count)) o))
    | inr new ↦ let end : i ≡ length notes = omega (arith, new.0, linked.count) in
        let pair = new_pair cell thread (subst (λ (k : ℕ). IsOf longer cell thread k) end o) in
        let is : m.before ≡ tops cell thread = ap (λ (x : Link). x.before) (sym new.1) ∙ (after.before ∙ (λ k. tops (pair.0 k) (pair.1 k))) in
        subst (λ (k : ℕ). IsLastPlace longer cell thread k m.before) (sym end)
        (subst (λ (p : Option ℕ). IsLastPlace longer cell thread (length notes) p) (sym is) (place_more notes (note c t n) cell thread (length notes) (tops cell thread) (omega arith) (linked.last cell thread)))
  ]

  jump : (cell thread i j : ℕ) (m : Link) → slice_get (links ++ l ∷ []) i ≡ Some m → m.jump ≡ Some j → IsOf longer cell thread i → IsOf longer cell thread j
  jump cell thread i j m at e o = elim (old_or_last links l i m at) [
    | inl old ↦ of_more notes (note c t n) cell thread j (linked.jump cell thread i j m old.1 e (of_less notes (note c t n) cell thread i (omega (arith, old.0, linked.count)) o))
    | inr new ↦ let end : i ≡ length notes = omega (arith, new.0, linked.count) in
        let pair = new_pair cell thread (subst (λ (k : ℕ). IsOf longer cell thread k) end o) in
        let is = leads j (ap (λ (x : Link). x.jump) new.1 ∙ e) in
        subst (λ (p : ℕ × ℕ). IsOf longer p.0 p.1 j) (λ k. (pair.0 k, pair.1 k)) (of_more notes (note c t n) c t j is.1)
  ]

  back : (i j : ℕ) (m : Link) → slice_get (links ++ l ∷ []) i ≡ Some m → m.jump ≡ Some j → j < i
  back i j m at e = elim (old_or_last links l i m at) [
    | inl old ↦ linked.back i j m old.1 e
    | inr new ↦ let is = leads j (ap (λ (x : Link). x.jump) new.1 ∙ e) in omega (arith, new.0, linked.count, is.0)
  ]

  module _ (later : ℕ → ℕ → Option ℕ) (put : (cell thread : ℕ) → later cell thread ≡ (if same_pair (c, t) (cell, thread) then Some (length notes) else tops cell thread)) where
    last : (cell thread : ℕ) → IsLastPlace longer cell thread (length longer) (later cell thread)
    last cell thread = subst (λ (k : ℕ). IsLastPlace longer cell thread k (later cell thread)) (sym (length-append notes (note c t n ∷ []) ∙ omega arith)) (elim (pair_cases c t cell thread) [
      | inl same ↦ subst (λ (o : Option ℕ). IsLastPlace longer cell thread (suc (length notes)) o) (sym (put cell thread ∙ ap (λ (b : Bool). if b then Some (length notes) else tops cell thread) same.0))
          (omega arith, (n, get_last notes (note c t n) ∙ (λ k. Some (note (same.1 k) (same.2 k) n))), λ q above less o. absurd (omega arith))
      | inr other ↦ subst (λ (o : Option ℕ). IsLastPlace longer cell thread (suc (length notes)) o) (sym (put cell thread ∙ ap (λ (b : Bool). if b then Some (length notes) else tops cell thread) other.0))
          (place_past notes (note c t n) cell thread (length notes) (tops cell thread) (λ o. let pair = new_pair cell thread o in other.1 pair.0 pair.1)
          (place_more notes (note c t n) cell thread (length notes) (tops cell thread) (omega arith) (linked.last cell thread)))
    ])

    pub noted : IsLinked (notes ++ note c t n ∷ []) (links ++ l ∷ []) later
    noted = record {
      rises = rises;
      count = length-append links (l ∷ []) ∙ (ap (λ (k : ℕ). k + 1) linked.count ∙ sym (length-append notes (note c t n ∷ [])));
      before = before;
      jump = jump;
      back = back;
      last = last;
    }
