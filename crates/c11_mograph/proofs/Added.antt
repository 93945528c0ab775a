-- A graph with a store more.
use Rattle.std.proofs.Common.{◌≡◌, ℕ, ◌<◌, ◌+◌, ◌↔◌, List, [], ◌∷◌, ◌++◌, Some, None, Option, Bool, true, false, IsTrue, length, slice_get, nat_eq, sym, ap, ◌∙◌, subst, refl, arith, length-append, add-one, append-nil, append_assoc, if◌then◌else◌, ◌⊎◌, inl, inr, ◌≤◌, max, slice_set, slice_index}
use Rattle.std.proofs.lemmas.Option.{slice_get_within, slice_get_cases}
use Rattle.std.proofs.lemmas.Bool.{eq-eqb}
use Rattle.std.proofs.lemmas.Bool.Decides.{eqb_tells}
use Rattle.std.proofs.lemmas.List.{get_or-set_same, get_or-set_other}
use Rattle.std.specs.Global.{Vec}
use native.Mathlib.Decide.{ℕ_discrete}
use mathlib.Core.Logic.{dite}
use Rattle.c11_events.proofs.Prefix.{get_more}
use Rattle.c11_events.proofs.Longer.{get_last}
use Rattle.c11_mograph.specs.declared.kept.Kept.{Kept}
use Rattle.c11_mograph.specs.Spread.{Table, row, number_in, with_number, IsSpread}
use Rattle.c11_mograph.specs.Clocks.{IsInto, IsLargest, IsGrownAt, OwnInOrder}
use Rattle.c11_mograph.specs.Made.{Store, Made, IsAdded, GoesOn, Chain, here, next, Links, CanAdd, stores_of, previous, number_of}
use Rattle.c11_mograph.specs.Words.{Words, WellMade, IsKept, Tracks}
use Rattle.c11_mograph.specs.Parts.{AreSized, SpreadsFrom, NotesStore, IsChained, Marks, Pushes}
use Rattle.c11_mograph.proofs.Chains.{chain_head, added_more, added_last, chain_more}
use Rattle.c11_mograph.proofs.Found.{store_at, rising, number_at, chain_at, head_at, same_number, kept_there}
use Rattle.c11_mograph.proofs.Longer.{larger, links_less, links_longer, links_first, links_last, goes_cases, after_earlier, longer_well}
use Rattle.c11_mograph.proofs.Clocked.{largest_either, largest_same, largest_none}
use Rattle.c11_mograph.proofs.Owning.{into_longer_less, into_longer_keeps, into_longer_new}
use Rattle.c11_mograph.proofs.Spreading.{all_raised, fresh_spread, spread_always}
use Rattle.c11_mograph.proofs.Tables.{row_at, row_else}
use Rattle.c11_mograph.proofs.Places.{more_at}
use Rattle.c11_mograph.proofs.Previous.{lasts_longer}

pub stores_of_more : (cell : ℕ) (stores : List Store) (s : Store) → stores_of cell (stores ++ s ∷ []) ≡ stores_of cell stores ++ stores_of cell (s ∷ [])
stores_of_more cell [] s = refl
stores_of_more cell (t ∷ ts) s =
    ap (λ (rest : List ℕ). (if nat_eq t.cell cell then t.number ∷ [] else []) ++ rest) (stores_of_more cell ts s)
    ∙ sym (append_assoc (if nat_eq t.cell cell then t.number ∷ [] else []) (stores_of cell ts) (stores_of cell (s ∷ [])))

module _ (made : Made) (well : WellMade made) (s : Store) (can : CanAdd made s) where
  abbrev stores : List Store
  stores = made.stores

  abbrev longer : List Store
  longer = made.stores ++ s ∷ []

  abbrev after : Made
  after = record made { stores = made.stores ++ s ∷ [] }

  module _ (words marked new : Words) (stands : Tracks words made) (leads_on : OwnInOrder made) (head rank : ℕ) (chained : IsChained words s.after head rank)
      (begins : s.after ≡ None → marked ≡ words) (marks : (y : ℕ) → s.after ≡ Some y → Marks words marked y)
      (rest : marked ≡ record words { kept = marked.kept }) (count : length marked.kept ≡ length words.kept) (sized : AreSized words)
      (few : length words.numbers < length words.clocks.rows) (cell : s.cell < length words.lists) (thread : s.thread < words.threads)
      (pushes : Pushes marked new s.number (record { cell = s.cell; thread = s.thread; head = head; rank = rank; older = 0; ends = true })) where
    abbrev own : Kept
    own = record { cell = s.cell; thread = s.thread; head = head; rank = rank; older = pushes.older; ends = true }

    numbers_are : new.numbers ≡ words.numbers ++ s.number ∷ []
    numbers_are = pushes.numbers ∙ ap (λ (w : Words). w.numbers ++ s.number ∷ []) rest

    lists_are : marked.lists ≡ words.lists
    lists_are = ap (λ (w : Words). w.lists) rest

    clocks_are : new.clocks ≡ record { rows = words.clocks.rows; leads = words.clocks.leads ++ false ∷ [] }
    clocks_are = pushes.clocks ∙ ap (λ (w : Words). record { rows = w.clocks.rows; leads = w.clocks.leads ++ false ∷ [] }) rest

    number_more : (i x : ℕ) → slice_get words.numbers i ≡ Some x → slice_get new.numbers i ≡ Some x
    number_more i x at = subst (λ (xs : List ℕ). slice_get xs i ≡ Some x) (sym numbers_are) (get_more words.numbers (s.number ∷ []) i x at)

    number_last : slice_get new.numbers (length words.numbers) ≡ Some s.number
    number_last = subst (λ (xs : List ℕ). slice_get xs (length words.numbers) ≡ Some s.number) (sym numbers_are) (get_last words.numbers s.number)

    number_cases : (i x : ℕ) → slice_get new.numbers i ≡ Some x → (slice_get words.numbers i ≡ Some x) ⊎ ((i ≡ length words.numbers) × (s.number ≡ x))
    number_cases i x at = more_at words.numbers i s.number x (subst (λ (xs : List ℕ). slice_get xs i ≡ Some x) numbers_are at)

    kept_more : (i : ℕ) (k : Kept) → slice_get marked.kept i ≡ Some k → slice_get new.kept i ≡ Some k
    kept_more i k at = subst (λ (ks : List Kept). slice_get ks i ≡ Some k) (sym pushes.all) (get_more marked.kept (own ∷ []) i k at)

    kept_last : slice_get new.kept (length words.numbers) ≡ Some own
    kept_last = subst (λ (ks : List Kept). slice_get ks (length words.numbers) ≡ Some own) (sym pushes.all)
        (subst (λ (n : ℕ). slice_get (marked.kept ++ own ∷ []) n ≡ Some own) (count ∙ sized.each) (get_last marked.kept own))

    abbrev IsOld : ℕ → Store → Kept → Type 0
    IsOld i t k = (slice_get new.kept i ≡ Some k) × ((k.cell ≡ t.cell) × ((k.thread ≡ t.thread) × (IsTrue k.ends ↔ ((b : ℕ) → GoesOn longer b t.number → ⊥))))

    module _ (i : ℕ) (t : Store) (at : slice_get stores i ≡ Some t) where
      abbrev is : IsKept made words i t
      is = stands.each i t at

      -- a store that the new one does not go on from
      untouched : (s.after ≡ Some t.number → ⊥) → slice_get new.kept i ≡ Some is.kept → IsTrue is.kept.ends ↔ ((b : ℕ) → GoesOn longer b t.number → ⊥)
      untouched other kept = (
        λ e b g. elim (goes_cases made well s can b t.number g) [ inl old ↦ is.ends.0 e b old | inr now ↦ other now.1 ],
        λ none. is.ends.1 (λ b g. none b (added_more stores s b (λ u. u.after ≡ Some t.number) g)),
      )

      still_kept : (a : Option ℕ) → s.after ≡ a → (k : Kept) × ((slice_get new.kept i ≡ Some k) × ((k.cell ≡ t.cell) × ((k.thread ≡ t.thread) × ((k.head ≡ is.kept.head) × ((k.rank ≡ is.kept.rank)
          × (IsTrue k.ends ↔ ((b : ℕ) → GoesOn longer b t.number → ⊥)))))))
      still_kept None e =
          let kept = kept_more i is.kept (ap (λ (w : Words). slice_get w.kept i) (begins e) ∙ is.is) in
          (is.kept, (kept, (is.cell, (is.thread, (refl, (refl, untouched (λ f. let clash : None ≡ Some t.number = sym e ∙ f in cc) kept))))))
      still_kept (Some y) e = dite (ℕ_discrete y t.number)
          (λ (same : y ≡ t.number).
          let m = marks y e in
          let kept = kept_more i (record is.kept { ends = false }) (m.here (rising words made stands) i is.kept (is.number ∙ ap (λ (n : ℕ). Some n) (sym same)) is.is) in (
            record is.kept { ends = false },
            (
              kept,
              (
                is.cell,
                (
                  is.thread,
                  (
                    refl,
                    (
                      refl,
                      (
                        (λ f. absurd (let clash : false ≡ true = f in cc)),
                        λ none. absurd (none s.number (added_last stores s (λ u. u.after ≡ Some t.number) (e ∙ ap (λ (n : ℕ). Some n) same))),
                      ),
                    ),
                  ),
                ),
              ),
            ),
          ))
          (λ (other : y ≡ t.number → ⊥).
          let m = marks y e in
          let kept = kept_more i is.kept (m.others i is.kept (λ f. let both : Some t.number ≡ Some y = sym is.number ∙ f in other (let q : t.number ≡ y = cc in sym q)) is.is) in
          (is.kept, (kept, (is.cell, (is.thread, (refl, (refl, untouched (λ f. let both : Some y ≡ Some t.number = sym e ∙ f in other (let q : y ≡ t.number = cc in q)) kept)))))))

      old_kept : IsKept after new i t
      old_kept = let k = still_kept s.after refl in record {
        number = number_more i t.number is.number;
        kept = k.0;
        is = k.1.0;
        cell = k.1.1.0;
        thread = k.1.1.1.0;
        head = is.head;
        head_is = ap (λ (n : ℕ). slice_get new.numbers n) k.1.1.1.1.0 ∙ number_more is.kept.head is.head is.head_is;
        chain = subst (λ (n : ℕ). Chain longer is.head n t.number) (sym k.1.1.1.1.1.0) (chain_more stores s is.head is.kept.rank t.number is.chain);
        ends = k.1.1.1.1.1.1;
      }

    -- nothing goes on from the new store
    own_ends : IsTrue true ↔ ((b : ℕ) → GoesOn longer b s.number → ⊥)
    own_ends = (
      λ e b g. elim (goes_cases made well s can b s.number g) [
        | inl old ↦ let t = well.earlier b s.number old in let lt = larger made well s can s.number (λ u. s.number < b) t in omega arith
        | inr now ↦ let t = after_earlier made well s can s.number now.1 in let lt = t.holds in omega arith
      ],
      λ none. refl,
    )

    own_chain : (a : Option ℕ) → s.after ≡ a → (h : ℕ) × ((slice_get new.numbers head ≡ Some h) × Chain longer h rank s.number)
    own_chain None e =
        let c = chained.begins e in (
          s.number,
          (
            ap (λ (n : ℕ). slice_get new.numbers n) c.0 ∙ number_last,
            subst (λ (n : ℕ). Chain longer s.number n s.number) (sym c.1) (here (added_last stores s (λ u. u.after ≡ None) e)),
          ),
        )
    own_chain (Some y) e =
        let t = (can.goes_on y e).of_cell in
        let place = number_at words made stands y (λ u. u.cell ≡ s.cell) t in
        let u = store_at words made stands place.0 y place.1 in
        let k = stands.each place.0 u.0 u.1.0 in
        let c = chained.goes_on y place.0 k.kept e (rising words made stands) place.1 k.is in
        let chain = chain_at words made stands place.0 y k.kept place.1 k.is in (
          chain.0,
          (
            ap (λ (n : ℕ). slice_get new.numbers n) c.0 ∙ number_more k.kept.head chain.0 chain.1.0,
            subst (λ (n : ℕ). Chain longer chain.0 n s.number) (sym (c.1 ∙ add-one k.kept.rank))
                (next (chain_more stores s chain.0 k.kept.rank y chain.1.1) (added_last stores s (λ v. v.after ≡ Some y) e)),
          ),
        )

    own_kept : IsKept after new (length words.numbers) s
    own_kept = let c = own_chain s.after refl in record {
      number = number_last;
      kept = own;
      is = kept_last;
      cell = refl;
      thread = refl;
      head = c.0;
      head_is = c.1.0;
      chain = c.1.1;
      ends = own_ends;
    }

    list_of_cell : (cell : ℕ) (b : Vec ℕ) → slice_get new.lists cell ≡ Some b → b.items ≡ stores_of cell longer
    list_of_cell cell b at = dite (ℕ_discrete cell s.cell)
        (λ (here : cell ≡ s.cell). elim (slice_get_cases marked.lists s.cell).1 [
          | inl p ↦
              let at_here : slice_get new.lists s.cell ≡ Some b = ap (λ (n : ℕ). slice_get new.lists n) (sym here) ∙ at in
              let was : slice_get words.lists cell ≡ Some p.0 = ap (λ (ls : List (Vec ℕ)). slice_get ls cell) (sym lists_are) ∙ (ap (λ (n : ℕ). slice_get marked.lists n) here ∙ p.2) in
              let own_one : stores_of cell (s ∷ []) ≡ s.number ∷ [] = ap (λ (c : Bool). (if c then s.number ∷ [] else []) ++ []) (eq-eqb s.cell cell (sym here)) in
              pushes.lists.here p.0 b p.2 at_here
              ∙ (ap (λ (xs : List ℕ). xs ++ s.number ∷ []) (stands.lists cell p.0 was)
              ∙ (ap (λ (xs : List ℕ). stores_of cell stores ++ xs) (sym own_one) ∙ sym (stores_of_more cell stores s)))
          | inr p ↦ absurd (omega (arith, p.0, slice_get_within new.lists cell b at, pushes.lists.count))
        ])
        (λ (other : cell ≡ s.cell → ⊥).
        let was : slice_get words.lists cell ≡ Some b = ap (λ (ls : List (Vec ℕ)). slice_get ls cell) (sym lists_are) ∙ pushes.lists.others cell b other at in
        let apart : nat_eq s.cell cell ≡ false = elim (eqb_tells s.cell cell) [ inl t ↦ absurd (other (sym t.1)) | inr f ↦ f.0 ] in
        let none : stores_of cell (s ∷ []) ≡ [] = ap (λ (c : Bool). (if c then s.number ∷ [] else []) ++ []) apart in
        stands.lists cell b was ∙ (sym (append-nil (stores_of cell stores)) ∙ (ap (λ (xs : List ℕ). stores_of cell stores ++ xs) (sym none) ∙ sym (stores_of_more cell stores s))))

    lasts_are : new.lasts ≡ with_number words.lasts s.cell s.thread s.number
    lasts_are = pushes.lasts ∙ ap (λ (w : Words). with_number w.lasts s.cell s.thread s.number) rest

    lasts : (cell thread : ℕ) → cell < length new.lists → thread < new.threads → number_in new.lasts cell thread ≡ number_of (previous longer cell thread)
    lasts c t cell_in thread_in =
        let within : s.cell < length words.lasts = omega (arith, cell, sized.lasts) in
        ap (λ (xs : List (List ℕ)). number_in xs c t) lasts_are
        ∙ lasts_longer made well s can words.threads (length words.lists) words.lasts within (omega (arith, thread, sized.wide_lasts s.cell within)) stands.lasts c t
        (omega (arith, cell_in, pushes.lists.count, ap (λ (ls : List (Vec ℕ)). length ls) lists_are)) (omega (arith, thread_in, pushes.threads, ap (λ (w : Words). w.threads) rest))

    -- no link leads on from where none is noted
    fresh : (place x : ℕ) → slice_get new.numbers place ≡ Some x → slice_get new.clocks.leads place ≡ Some false → (y : ℕ) → Links after x y → ⊥
    fresh place x at flag y w = elim (number_cases place x at) [
      | inl old ↦ elim (more_at words.clocks.leads place false false (subst (λ (t : Table). slice_get t.leads place ≡ Some false) clocks_are flag)) [
        | inl none ↦ stands.fresh place x old none y (links_less made well s can x y w)
        | inr last ↦ omega (arith, last.0, slice_get_within words.numbers place x old, sized.leads)
      ]
      | inr now ↦ omega (arith, now.1, links_first made well s can x y (links_less made well s can x y w))
    ]

    -- what is kept keeps the longer list where the clocks are the largest
    tracks_with : (rows : List (List ℕ)) → ((l y : ℕ) → slice_get new.numbers l ≡ Some y → (u : ℕ) → IsLargest (IsInto after u y) (number_in rows l u))
        → ((l : ℕ) → length new.numbers ≤ l → (u : ℕ) → number_in rows l u ≡ 0) → Tracks (record new { clocks = record new.clocks { rows = rows } }) after
    tracks_with rows exact clear = record {
      well = longer_well made well s can;
      count = ap length numbers_are ∙ (length-append words.numbers (s.number ∷ []) ∙ (ap (λ (n : ℕ). n + 1) stands.count ∙ sym (length-append stores (s ∷ []))));
      each = λ place store at. let k = each_kept place store at in
          record { number = k.number; kept = k.kept; is = k.is; cell = k.cell; thread = k.thread; head = k.head; head_is = k.head_is; chain = k.chain; ends = k.ends };
      lists = list_of_cell;
      lasts = lasts;
      clocks = exact;
      clear = clear;
      fresh = fresh;
    }
      where
        each_kept : (place : ℕ) (store : Store) → slice_get longer place ≡ Some store → IsKept after new place store
        each_kept place store at = elim (more_at stores place s store at) [
          | inl old ↦ old_kept place store old
          | inr now ↦ subst (λ (u : Store). IsKept after new place u) now.1 (subst (λ (n : ℕ). IsKept after new n s) (stands.count ∙ sym now.0) own_kept)
        ]

    more_numbers : length new.numbers ≡ length words.numbers + 1
    more_numbers = ap length numbers_are ∙ length-append words.numbers (s.number ∷ [])

    -- the head of the new store's chain
    mine : (h : ℕ) × ((slice_get new.numbers head ≡ Some h) × Chain longer h rank s.number)
    mine = own_chain s.after refl

    abbrev k : ℕ
    k = mine.0

    -- the number at the new store's thread, and 0 at the others
    abbrev n : ℕ → ℕ
    n u = if nat_eq u s.thread then s.number else 0

    abbrev New : ℕ → ℕ → Type 0
    New u x = (x ≡ s.number) × (u ≡ s.thread)

    largest : (u : ℕ) → IsLargest (New u) (n u)
    largest u = elim (eqb_tells u s.thread) [
      | inl t ↦ let e : n u ≡ s.number = ap (λ (b : Bool). if b then s.number else 0) t.0 in
          record { bound = λ a p. omega (arith, e, p.0); met = inr (e, t.1) }
      | inr f ↦ let e : n u ≡ 0 = ap (λ (b : Bool). if b then s.number else 0) f.0 in
          record { bound = λ a p. absurd (f.1 p.1); met = inl e }
    ]

    less : (u y x : ℕ) → IsInto after u y x → IsInto made u y x ⊎ (((k ≡ y) ⊎ Links made k y) × New u x)
    less = into_longer_less made well s can k rank mine.1.1

    keeps : (u y x : ℕ) → IsInto made u y x → IsInto after u y x
    keeps = into_longer_keeps made well s can k rank mine.1.1

    more : (u y x : ℕ) → (k ≡ y) ⊎ Links made k y → New u x → IsInto after u y x
    more u y x led new = subst (λ (z : ℕ). IsInto after u y z) (sym new.0) (subst (λ (z : ℕ). IsInto after z y s.number) (sym new.1) (into_longer_new made well s can k rank mine.1.1 y led))

    -- nothing was into the new store's own place
    none_into : (u x : ℕ) → IsInto made u s.number x → ⊥
    none_into u x t = elim t.leads [
      | inl e ↦ omega (arith, e, larger made well s can t.h (λ v. v.after ≡ None) (chain_head stores t.h t.i x t.chain))
      | inr w ↦ omega (arith, links_last made well s can t.h s.number w)
    ]

    exact : (l y : ℕ) → slice_get new.numbers l ≡ Some y → (u : ℕ) → IsLargest (IsInto made u y) (number_in words.clocks.rows l u)
    exact l y at u = elim (number_cases l y at) [
      | inl old ↦ stands.clocks l y old u
      | inr now ↦
          let blank : 0 ≡ number_in words.clocks.rows l u = sym (stands.clear l (omega (arith, now.0)) u) in
          subst (λ (m : ℕ). IsLargest (IsInto made u y) m) blank (largest_none (IsInto made u y) (λ x t. none_into u x (subst (λ (z : ℕ). IsInto made u z x) (sym now.1) t)))
    ]

    same_place : (i j x : ℕ) → slice_get new.numbers i ≡ Some x → slice_get new.numbers j ≡ Some x → i ≡ j
    same_place i j x at at' = elim (number_cases i x at) [
      | inl old ↦ elim (number_cases j x at') [
        | inl old' ↦ same_number words made stands i j x old old'
        | inr now ↦ let t = store_at words made stands i x old in absurd (omega (arith, can.larger i t.0 t.1.0, t.1.1, now.1))
      ]
      | inr now ↦ elim (number_cases j x at') [
        | inl old' ↦ let t = store_at words made stands j x old' in absurd (omega (arith, can.larger j t.0 t.1.0, t.1.1, now.1))
        | inr now' ↦ now.0 ∙ sym now'.0
      ]
    ]

    kept_cases : (l y : ℕ) (e : Kept) → slice_get words.numbers l ≡ Some y → slice_get new.kept l ≡ Some e → IsAdded stores y (λ t. t.cell ≡ e.cell) × IsAdded stores y (λ t. t.thread ≡ e.thread)
    kept_cases l y e at kept =
        let t = store_at words made stands l y at in
        let o = still_kept l t.0 t.1.0 s.after refl in
        let both : Some o.0 ≡ Some e = sym o.1.0 ∙ kept in
        let same : o.0 ≡ e = cc in (
          record { place = l; store = t.0; is = t.1.0; number = t.1.1; holds = sym o.1.1.0 ∙ ap (λ (z : Kept). z.cell) same },
          record { place = l; store = t.0; is = t.1.0; number = t.1.1; holds = sym o.1.1.1.0 ∙ ap (λ (z : Kept). z.thread) same },
        )

    cells : (l y : ℕ) (e : Kept) → slice_get new.numbers l ≡ Some y → slice_get new.kept l ≡ Some e → (u : ℕ) → 0 < number_in words.clocks.rows l u → IsAdded stores y (λ t. t.cell ≡ e.cell)
    cells l y e at kept u some = elim (number_cases l y at) [
      | inl old ↦ (kept_cases l y e old kept).0
      | inr now ↦ absurd (let z = stands.clear l (omega (arith, now.0)) u in omega arith)
    ]

    abbrev mid : List (List ℕ)
    mid = with_number words.clocks.rows head s.thread s.number

    head_within : head < length words.clocks.rows
    head_within = let w = slice_get_within new.numbers head mine.0 mine.1.0 in omega (arith, more_numbers, few)

    at_head : (u : ℕ) → number_in mid head u ≡ max (number_in words.clocks.rows head u) (n u)
    at_head u =
        let old = row words.clocks.rows head in
        let set = slice_set old s.thread (max (number_in words.clocks.rows head s.thread) s.number) in
        ap (λ (r : List ℕ). slice_index r u) (row_at words.clocks.rows head set head_within) ∙ elim (eqb_tells u s.thread) [
          | inl t ↦
              let inside : s.thread < length old = omega (arith, sized.wide head head_within) in
              let e : slice_index set s.thread ≡ max (number_in words.clocks.rows head s.thread) s.number = get_or-set_same old s.thread (max (number_in words.clocks.rows head s.thread) s.number) 0 inside in
              let f : n u ≡ s.number = ap (λ (b : Bool). if b then s.number else 0) t.0 in
              ap (λ (z : ℕ). slice_index set z) t.1 ∙ (e ∙ omega (arith, f, ap (λ (z : ℕ). number_in words.clocks.rows head z) t.1))
          | inr f ↦
              let e : slice_index set u ≡ slice_index old u = get_or-set_other old s.thread u (max (number_in words.clocks.rows head s.thread) s.number) 0 f.1 in
              let z : n u ≡ 0 = ap (λ (b : Bool). if b then s.number else 0) f.0 in
              e ∙ omega (arith, z)
        ]

    elsewhere : (l : ℕ) → (l ≡ head → ⊥) → row mid l ≡ row words.clocks.rows l
    elsewhere l other = row_else words.clocks.rows head (slice_set (row words.clocks.rows head) s.thread (max (number_in words.clocks.rows head s.thread) s.number)) l other

    -- a store that begins a chain
    begun : s.after ≡ None → (l y : ℕ) → slice_get new.numbers l ≡ Some y → (u : ℕ) → IsLargest (IsInto after u y) (number_in mid l u)
    begun e l y at u = dite (ℕ_discrete l head)
        (λ (same : l ≡ head).
        let y_is : k ≡ y = let both : Some k ≡ Some y = sym mine.1.0 ∙ (ap (λ (p : ℕ). slice_get new.numbers p) (sym same) ∙ at) in cc in
        let e : max (number_in words.clocks.rows l u) (n u) ≡ number_in mid l u = subst (λ (p : ℕ). max (number_in words.clocks.rows p u) (n u) ≡ number_in mid p u) (sym same) (sym (at_head u)) in
        subst (λ (m : ℕ). IsLargest (IsInto after u y) m) e
        (largest_either (IsInto made u y) (New u) (IsInto after u y) (number_in words.clocks.rows l u) (n u) (exact l y at u) (largest u)
        (λ x t. elim (less u y x t) [ inl old ↦ inl old | inr new ↦ inr new.1 ]) (keeps u y) (λ x t. more u y x (inl y_is) t)))
        (λ (other : l ≡ head → ⊥).
        let e : number_in words.clocks.rows l u ≡ number_in mid l u = sym (ap (λ (r : List ℕ). slice_index r u) (elsewhere l other)) in
        subst (λ (m : ℕ). IsLargest (IsInto after u y) m) e
        (largest_same (IsInto made u y) (IsInto after u y) (number_in words.clocks.rows l u) (exact l y at u)
        (λ x t. elim (less u y x t) [ inl old ↦ old | inr new ↦ absurd (not_led l y at other new.0) ]) (keeps u y)))
      where
        head_is : k ≡ s.number
        head_is =
            let c = chained.begins e in
            let both : Some k ≡ Some s.number = sym mine.1.0 ∙ (ap (λ (p : ℕ). slice_get new.numbers p) c.0 ∙ number_last) in cc

        not_led : (l y : ℕ) → slice_get new.numbers l ≡ Some y → (l ≡ head → ⊥) → (k ≡ y) ⊎ Links made k y → ⊥
        not_led l y at other (inl same) = other (same_place l head y at (mine.1.0 ∙ ap (λ (z : ℕ). Some z) same))
        not_led l y at other (inr w) = omega (arith, links_first made well s can k y w, head_is)

    clear_mid : (l : ℕ) → length new.numbers ≤ l → (u : ℕ) → number_in mid l u ≡ 0
    clear_mid l out u =
        let w = slice_get_within new.numbers head mine.0 mine.1.0 in
        ap (λ (r : List ℕ). slice_index r u) (elsewhere l (λ e. omega arith)) ∙ stands.clear l (omega (arith, more_numbers)) u

    -- it has grown at the new store's chain
    grown : IsGrownAt made after k
    grown = record {
      less = λ u y x t. elim (less u y x t) [ inl old ↦ inl old | inr new ↦ inr (new.0, more u k x (inl refl) new.1) ];
      keeps = keeps;
      leads = λ y w. links_longer made well s can k y w;
      led = λ y w. inr (links_less made well s can k y w);
    }

    at_mid : (u : ℕ) → IsLargest (IsInto after u k) (number_in mid head u)
    at_mid u = subst (λ (m : ℕ). IsLargest (IsInto after u k) m) (sym (at_head u))
        (largest_either (IsInto made u k) (New u) (IsInto after u k) (number_in words.clocks.rows head u) (n u) (exact head k mine.1.0 u) (largest u)
        (λ x t. elim (less u k x t) [ inl old ↦ inl old | inr new ↦ inr new.1 ]) (keeps u k) (λ x t. more u k x (inl refl) t))

    there : (l y : ℕ) → slice_get new.numbers l ≡ Some y → (e : Kept) × (slice_get new.kept l ≡ Some e)
    there l y at = elim (number_cases l y at) [
      | inl old ↦ let t = store_at words made stands l y old in let o = still_kept l t.0 t.1.0 s.after refl in (o.0, o.1.0)
      | inr now ↦ (own, subst (λ (p : ℕ). slice_get new.kept p ≡ Some own) (sym now.0) kept_last)
    ]

    heads : (l y : ℕ) (e : Kept) → slice_get new.numbers l ≡ Some y → slice_get new.kept l ≡ Some e → IsAdded stores y (λ u. u.after ≡ None) → e.head ≡ l
    heads l y e at kept begins = elim (number_cases l y at) [
      | inl old ↦
          let t = store_at words made stands l y old in
          let is = stands.each l t.0 t.1.0 in
          let o = still_kept l t.0 t.1.0 s.after refl in
          let both : Some o.0 ≡ Some e = sym o.1.0 ∙ kept in
          let same : o.0 ≡ e = cc in
          sym (ap (λ (z : Kept). z.head) same) ∙ (o.1.1.1.1.0 ∙ head_at words made stands l y is.kept old is.is begins)
      | inr now ↦ absurd (omega (arith, now.1, larger made well s can y (λ u. u.after ≡ None) begins))
    ]

    -- a store that goes on from another is spread
    module _ (y : ℕ) (goes : s.after ≡ Some y) where
      at_y : (i : ℕ) × ((slice_get words.numbers i ≡ Some y) × ((e : Kept) × (slice_get words.kept i ≡ Some e)))
      at_y =
          let place = number_at words made stands y (λ u. u.cell ≡ s.cell) (can.goes_on y goes).of_cell in
          let e = kept_there words made stands place.0 y place.1 in
          (place.0, (place.1, (e.0, e.1)))

      -- the head is an old one
      old_head : (h : ℕ) × ((slice_get words.numbers head ≡ Some h) × IsAdded stores h (λ u. u.after ≡ None))
      old_head =
          let c = chained.goes_on y at_y.0 at_y.1.1.0 goes (rising words made stands) at_y.1.0 at_y.1.1.1 in
          let chain = chain_at words made stands at_y.0 y at_y.1.1.0 at_y.1.0 at_y.1.1.1 in
          (chain.0, (ap (λ (p : ℕ). slice_get words.numbers p) c.0 ∙ chain.1.0, chain_head stores chain.0 at_y.1.1.0.rank y chain.1.1))

      same_head : old_head.0 ≡ k
      same_head = let both : Some old_head.0 ≡ Some k = sym (number_more head old_head.0 old_head.1.0) ∙ mine.1.0 in cc

      spread_longer : (final : Words) → SpreadsFrom (record new { clocks = record new.clocks { rows = mid } }) final head → Tracks final after
      spread_longer final sp =
          let number_is : sp.number ≡ k = let both : Some sp.number ≡ Some k = sym sp.at ∙ mine.1.0 in cc in
          let begins : IsAdded stores k (λ u. u.after ≡ None) = subst (λ (z : ℕ). IsAdded stores z (λ u. u.after ≡ None)) same_head old_head.1.1 in
          let at_old : slice_get words.numbers head ≡ Some k = old_head.1.0 ∙ ap (λ (z : ℕ). Some z) same_head in
          let kept = kept_cases head k sp.kept at_old sp.is in
          let none : slice_get new.clocks.leads head ≡ Some false → (y : ℕ) → Links made k y → ⊥ = λ flag y w. fresh head k mine.1.0 flag y (links_longer made well s can k y w) in
          let spread : IsSpread new.kept mid final.clocks.rows 0 head sp.kept.cell sp.kept.thread k =
          subst (λ (x : ℕ). IsSpread new.kept mid final.clocks.rows 0 head sp.kept.cell sp.kept.thread x) number_is
          (spread_always (record new { clocks = record new.clocks { rows = mid } }) final head sp (λ flag.
          subst (λ (x : ℕ). IsSpread new.kept mid mid 0 head sp.kept.cell sp.kept.thread x) (sym number_is)
          (fresh_spread made well new.numbers new.kept words.clocks.rows same_place there exact cells heads head k sp.kept mine.1.0 sp.is begins kept.1 kept.0 (leads_on k) mid elsewhere sp.sized.each (none flag)))) in
          subst (λ (w : Words). Tracks w after) (sym sp.rest)
          (tracks_with final.clocks.rows
          (all_raised made well new.numbers new.kept words.clocks.rows same_place there exact cells heads head k sp.kept mine.1.0 sp.is begins kept.1 kept.0 (leads_on k) mid elsewhere after (longer_well made well s can) grown at_mid final.clocks.rows spread)
          (λ l out u. ap (λ (r : List ℕ). slice_index r u) (spread.left l (inr (inr (λ c. let w = slice_get_within new.kept l c.head.here c.head.is in omega (arith, sp.sized.each))))) ∙ clear_mid l out u))

    pub tracks_longer : (final : Words) → NotesStore new final s.after head s.thread s.number → Tracks final after
    tracks_longer final notes = by_after s.after refl
      where
        mid_is : with_number new.clocks.rows head s.thread s.number ≡ mid
        mid_is = ap (λ (t : Table). with_number t.rows head s.thread s.number) clocks_are

        by_after : (a : Option ℕ) → s.after ≡ a → Tracks final after
        by_after None e = subst (λ (w : Words). Tracks w after) (sym (notes.begins e ∙ ap (λ (t : List (List ℕ)). record new { clocks = record new.clocks { rows = t } }) mid_is)) (tracks_with mid (begun e) clear_mid)
        by_after (Some y) e = spread_longer y e final (subst (λ (t : List (List ℕ)). SpreadsFrom (record new { clocks = record new.clocks { rows = t } }) final head) mid_is (notes.goes_on y e))
