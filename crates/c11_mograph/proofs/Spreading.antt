-- Clocks that are the largest stay so where that of one chain has grown and is spread to those that it leads to.
use Rattle.std.proofs.Common.{◌≡◌, ℕ, ◌<◌, ◌≤◌, List, Some, None, Bool, true, false, max, length, slice_get, slice_index, sym, ap, ◌∙◌, subst, refl, arith, ◌⊎◌, inl, inr}
use Rattle.std.proofs.lemmas.Option.{slice_get_cases, slice_get_within}
use native.Mathlib.Decide.{ℕ_discrete, dec_le}
use mathlib.Core.Logic.{dite}
use Rattle.c11_clock.proofs.Joined.{joined-each}
use Rattle.c11_mograph.specs.declared.kept.Kept.{Kept}
use Rattle.c11_mograph.specs.Heads.{IsHead}
use Rattle.c11_mograph.specs.Spread.{row, number_in, Covers, IsSpread}
use Rattle.c11_mograph.specs.Made.{Store, Made, IsAdded, here, Links}
use Rattle.c11_mograph.specs.Words.{Words, WellMade}
use Rattle.c11_mograph.specs.Parts.{SpreadsFrom}
use Rattle.c11_mograph.specs.Clocks.{IsInto, IsLargest, AreOfCell, LeadsOn, IsLed, IsGrownAt}
use Rattle.c11_mograph.proofs.Chains.{same_store}
use Rattle.c11_mograph.proofs.Cells.{links_cell, links_head}
use Rattle.c11_mograph.proofs.Clocked.{tells, into_on, largest_either, largest_same, largest_grows}

-- a clock that is spread where a link leads on from it is spread in any case, if elsewhere no clock covers its head
pub spread_always : (words new : Words) (from : ℕ) (s : SpreadsFrom words new from)
    → (slice_get words.clocks.leads from ≡ Some false → IsSpread words.kept words.clocks.rows words.clocks.rows 0 from s.kept.cell s.kept.thread s.number)
    → IsSpread words.kept words.clocks.rows new.clocks.rows 0 from s.kept.cell s.kept.thread s.number
spread_always words new from s fresh = elim (slice_get_cases words.clocks.leads from).1 [
  | inl p ↦ by_flag p.0 p.2
  | inr p ↦ absurd (omega (arith, p.0, s.sized.leads, slice_get_within words.numbers from s.number s.at))
]
  where
    by_flag : (leads : Bool) → slice_get words.clocks.leads from ≡ Some leads → IsSpread words.kept words.clocks.rows new.clocks.rows 0 from s.kept.cell s.kept.thread s.number
    by_flag false is = subst (λ (w : Words). IsSpread words.kept words.clocks.rows w.clocks.rows 0 from s.kept.cell s.kept.thread s.number) (sym (s.fresh is)) (fresh is)
    by_flag true is = s.spread is

module _ (made : Made) (well : WellMade made) (numbers : List ℕ) (kept : List Kept) (table : List (List ℕ)) (unique : (i j x : ℕ) → slice_get numbers i ≡ Some x → slice_get numbers j ≡ Some x → i ≡ j)
    (there : (l y : ℕ) → slice_get numbers l ≡ Some y → (e : Kept) × (slice_get kept l ≡ Some e))
    (exact : (l y : ℕ) → slice_get numbers l ≡ Some y → (u : ℕ) → IsLargest (IsInto made u y) (number_in table l u))
    (cells : (l y : ℕ) (e : Kept) → slice_get numbers l ≡ Some y → slice_get kept l ≡ Some e → (u : ℕ) → 0 < number_in table l u → IsAdded made.stores y (λ t. t.cell ≡ e.cell))
    (heads : (l y : ℕ) (e : Kept) → slice_get numbers l ≡ Some y → slice_get kept l ≡ Some e → IsAdded made.stores y (λ s. s.after ≡ None) → e.head ≡ l)
    (from k : ℕ) (own : Kept) (at : slice_get numbers from ≡ Some k) (is : slice_get kept from ≡ Some own)
    (begins : IsAdded made.stores k (λ s. s.after ≡ None)) (by : IsAdded made.stores k (λ s. s.thread ≡ own.thread)) (of_cell : IsAdded made.stores k (λ s. s.cell ≡ own.cell)) (on : LeadsOn made k) where
  abbrev Covered : ℕ → Type 0
  Covered l = Covers kept table own.cell own.thread k l

  above : 0 < k
  above = omega (arith, well.positive begins.place begins.store begins.is, begins.number)

  covers_leads : (l y : ℕ) → slice_get numbers l ≡ Some y → Covered l → IsLed made k y
  covers_leads l y at_l c =
      let of_y = cells l y c.head.here at_l c.head.is own.thread (omega (arith, above, c.covered)) in
      let one_cell : AreOfCell made.stores k y = record {
        place = of_cell.place;
        store = of_cell.store;
        is = of_cell.is;
        number = of_cell.number;
        holds = record { place = of_y.place; store = of_y.store; is = of_y.is; number = of_y.number; holds = of_cell.holds ∙ (sym c.head.of_cell ∙ sym of_y.holds) };
      } in
      (tells made well k own.thread k 0 y (number_in table l own.thread) by (here begins) on one_cell (exact l y at_l own.thread) above).0 c.covered

  leads_covers : (l y : ℕ) → slice_get numbers l ≡ Some y → IsLed made k y → Covered l
  leads_covers l y at_l (inl e) =
      let same : from ≡ l = unique from l y (at ∙ ap (λ (n : ℕ). Some n) e) at_l in
      subst (λ (p : ℕ). Covered p) same (record {
        head = record { here = own; is = is; of_cell = refl; begins = heads from k own at is begins };
        covered = (exact from k at own.thread).bound k (record { by = by; h = k; i = 0; chain = here begins; leads = inl refl });
      })
  leads_covers l y at_l (inr w) =
      let p = there l y at_l in
      let covered : k ≤ number_in table l own.thread = (exact l y at_l own.thread).bound k (record { by = by; h = k; i = 0; chain = here begins; leads = inr w }) in
      let of_y = cells l y p.0 at_l p.1 own.thread (omega (arith, above, covered)) in
      let c = links_cell made well k y w in
      let left = same_store made.stores well.rises k (λ s. IsAdded made.stores y (λ t. s.cell ≡ t.cell)) (λ s. s.cell ≡ own.cell) c of_cell in
      let right = same_store made.stores well.rises y (λ t. c.store.cell ≡ t.cell) (λ t. t.cell ≡ p.0.cell) c.holds of_y in
      record {
        head = record {
          here = p.0;
          is = p.1;
          of_cell = sym of_y.holds ∙ (ap (λ (s : Store). s.cell) (sym right) ∙ (sym c.holds.holds ∙ (ap (λ (s : Store). s.cell) left ∙ of_cell.holds)));
          begins = heads l y p.0 at_l p.1 (links_head made k y w);
        };
        covered = covered;
      }

  covers_or_not : (l y : ℕ) → slice_get numbers l ≡ Some y → Covered l ⊎ (Covered l → ⊥)
  covers_or_not l y at_l =
      let p = there l y at_l in
      dite (ℕ_discrete p.0.cell own.cell)
      (λ (same : p.0.cell ≡ own.cell). dite (ℕ_discrete p.0.head l)
      (λ (begin : p.0.head ≡ l). dite (dec_le k (number_in table l own.thread))
      (λ (le : k ≤ number_in table l own.thread). inl (record { head = record { here = p.0; is = p.1; of_cell = same; begins = begin }; covered = le }))
      (λ (gt : k ≤ number_in table l own.thread → ⊥). inr (λ c. gt c.covered)))
      (λ (later : p.0.head ≡ l → ⊥). inr (λ c. later (ap (λ (e : Kept). e.head) (one p.0 p.1 c.head) ∙ c.head.begins))))
      (λ (other : p.0.cell ≡ own.cell → ⊥). inr (λ c. other (ap (λ (e : Kept). e.cell) (one p.0 p.1 c.head) ∙ c.head.of_cell)))
    where
      one : (e : Kept) → slice_get kept l ≡ Some e → (h : IsHead kept own.cell l) → e ≡ h.here
      one e at_e h = let both : Some e ≡ Some h.here = sym at_e ∙ h.is in cc

  -- what has grown at the chain of k is put into its clock
  module _ (mid : List (List ℕ)) (else_is : (l : ℕ) → (l ≡ from → ⊥) → row mid l ≡ row table l) where
    moved : (l : ℕ) → (l ≡ from → ⊥) → Covered l → Covers kept mid own.cell own.thread k l
    moved l other c = record { head = c.head; covered = subst (λ (r : List ℕ). k ≤ slice_index r own.thread) (sym (else_is l other)) c.covered }

    back : (l : ℕ) → (l ≡ from → ⊥) → Covers kept mid own.cell own.thread k l → Covered l
    back l other c = record { head = c.head; covered = subst (λ (r : List ℕ). k ≤ slice_index r own.thread) (else_is l other) c.covered }

    -- where k leads nowhere there is nothing to spread it to
    pub fresh_spread : length kept ≡ length numbers → ((y : ℕ) → Links made k y → ⊥) → IsSpread kept mid mid 0 from own.cell own.thread k
    fresh_spread each none = record {
      grown = λ l below other c. elim (slice_get_cases numbers l).1 [
        | inl p ↦ elim (covers_leads l p.0 p.2 (back l other c)) [
          | inl e ↦ absurd (other (sym (unique from l p.0 (at ∙ ap (λ (n : ℕ). Some n) e) p.2)))
          | inr w ↦ absurd (none p.0 w)
        ]
        | inr p ↦ absurd (omega (arith, p.0, each, slice_get_within kept l c.head.here c.head.is))
      ];
      left = λ l way. refl;
      count = refl;
    }

    module _ (made' : Made) (well' : WellMade made') (grown : IsGrownAt made made' k) (largest : (u : ℕ) → IsLargest (IsInto made' u k) (number_in mid from u)) where
      -- where k leads, the larger of both is the largest
      raised : (l y : ℕ) → slice_get numbers l ≡ Some y → IsLed made k y → (u : ℕ) → IsLargest (IsInto made' u y) (max (number_in table l u) (number_in mid from u))
      raised l y at_l led u = largest_either (IsInto made u y) (IsInto made' u k) (IsInto made' u y) (number_in table l u) (number_in mid from u) (exact l y at_l u) (largest u)
          (λ x t. elim (grown.less u y x t) [ inl old ↦ inl old | inr new ↦ inr new.1 ]) (grown.keeps u y) (λ x t. into_on made' well' u k y x t (elim led [ inl e ↦ inl e | inr w ↦ inr (grown.leads y w) ]))

      -- elsewhere it stays
      left : (l y : ℕ) → slice_get numbers l ≡ Some y → (IsLed made k y → ⊥) → (u : ℕ) → IsLargest (IsInto made' u y) (number_in table l u)
      left l y at_l none u = largest_same (IsInto made u y) (IsInto made' u y) (number_in table l u) (exact l y at_l u)
          (λ x t. elim (grown.less u y x t) [ inl old ↦ old | inr new ↦ absurd (none new.0) ]) (grown.keeps u y)

      -- what leads to k leads where k does, so no clock there is smaller
      lower : (l y : ℕ) → slice_get numbers l ≡ Some y → IsLed made k y → (u : ℕ) → number_in table from u ≤ number_in table l u
      lower l y at_l led u = largest_grows (IsInto made u k) (IsInto made u y) (number_in table from u) (number_in table l u) (exact from k at u) (exact l y at_l u) (λ x t. into_on made well u k y x t led)

      -- nothing new is larger
      pub nothing_raised : row mid from ≡ row table from → (l y : ℕ) → slice_get numbers l ≡ Some y → (u : ℕ) → IsLargest (IsInto made' u y) (number_in mid l u)
      nothing_raised same l y at_l u = elim (covers_or_not l y at_l) [
        | inl c ↦ let led = covers_leads l y at_l c in
            let e : max (number_in table l u) (number_in mid from u) ≡ number_in mid l u = omega (arith, lower l y at_l led u, as_table l, as_table from) in
            subst (λ (m : ℕ). IsLargest (IsInto made' u y) m) e (raised l y at_l led u)
        | inr none ↦ subst (λ (m : ℕ). IsLargest (IsInto made' u y) m) (sym (as_table l)) (left l y at_l (λ led. none (leads_covers l y at_l led)) u)
      ]
        where
          as_table : (i : ℕ) → number_in mid i u ≡ number_in table i u
          as_table i = ap (λ (r : List ℕ). slice_index r u) (dite (ℕ_discrete i from) (λ (e : i ≡ from). subst (λ (p : ℕ). row mid p ≡ row table p) (sym e) same) (λ (other : i ≡ from → ⊥). else_is i other))

      -- the clock is spread
      pub all_raised : (new : List (List ℕ)) → IsSpread kept mid new 0 from own.cell own.thread k → (l y : ℕ) → slice_get numbers l ≡ Some y → (u : ℕ) → IsLargest (IsInto made' u y) (number_in new l u)
      all_raised new spread l y at_l u = dite (ℕ_discrete l from)
          (λ (same : l ≡ from).
          let ks : k ≡ y = let both : Some k ≡ Some y = sym at ∙ (ap (λ (p : ℕ). slice_get numbers p) (sym same) ∙ at_l) in cc in
          let e : number_in mid from u ≡ number_in new l u = ap (λ (r : List ℕ). slice_index r u) (sym (spread.left from (inr (inl refl)))) ∙ ap (λ (p : ℕ). number_in new p u) (sym same) in
          subst (λ (m : ℕ). IsLargest (IsInto made' u y) m) e (subst (λ (z : ℕ). IsLargest (IsInto made' u z) (number_in mid from u)) ks (largest u)))
          (λ (other : l ≡ from → ⊥). elim (covers_or_not l y at_l) [
            | inl c ↦
                let led = covers_leads l y at_l c in
                let joined = spread.grown l (omega arith) other (moved l other c) in
                let as_row : number_in new l u ≡ max (number_in mid l u) (number_in mid from u) = ap (λ (r : List ℕ). slice_index r u) joined ∙ joined-each (row mid l) (row mid from) u in
                let was : number_in mid l u ≡ number_in table l u = ap (λ (r : List ℕ). slice_index r u) (else_is l other) in
                let e : max (number_in table l u) (number_in mid from u) ≡ number_in new l u = omega (arith, as_row, was) in
                subst (λ (m : ℕ). IsLargest (IsInto made' u y) m) e (raised l y at_l led u)
            | inr none ↦
                let e : number_in table l u ≡ number_in new l u = sym (ap (λ (r : List ℕ). slice_index r u) (spread.left l (inr (inr (λ c. none (back l other c)))) ∙ else_is l other)) in
                subst (λ (m : ℕ). IsLargest (IsInto made' u y) m) e (left l y at_l (λ led. none (leads_covers l y at_l led)) u)
          ])
