-- A search among the notes of a pair.
use Rattle.std.proofs.Common.{◌≡◌, ℕ, suc, ◌<◌, ◌≤◌, List, Option, Some, None, MatchOption, slice_get, length, sym, ap, ◌∙◌, subst, arith, inl, inr}
use native.Mathlib.Decide.{dec_lt}
use mathlib.Core.Logic.{dite}
use Rattle.c11_latest.specs.declared.latest.Note.{Note}
use Rattle.c11_latest.specs.declared.links.Link.{Link}
use Rattle.c11_latest.specs.Notes.{note, HasNoneUpTo, IsLastUpTo}
use Rattle.c11_latest.specs.Linked.{IsOf, IsLastPlace, IsStep, IsLinked}
use Rattle.c11_latest.proofs.Places.{inside, one_at}

-- the place is of the pair, and all notes of the pair behind it are above the bound; without a place all are
abbrev pub AreAbove : List Note → ℕ → ℕ → ℕ → Option ℕ → Type 0
AreAbove notes cell thread bound place = MatchOption place (HasNoneUpTo notes cell thread bound)
    (λ p. IsOf notes cell thread p × ((q x : ℕ) → p < q → slice_get notes q ≡ Some (note cell thread x) → bound < x))

abbrev pub measure : Option ℕ → ℕ
measure None = 0
measure (Some p) = suc p

module _ (notes : List Note) (cell thread bound : ℕ) where
  pub within : (o : Option ℕ) (p : ℕ) → o ≡ Some p → AreAbove notes cell thread bound o → p < length notes
  within None p e above = cc
  within (Some o) p e above = let same : o ≡ p = cc in let less = inside notes o (note cell thread above.0.0) above.0.1 in omega arith

  pub begin : (o : Option ℕ) → IsLastPlace notes cell thread (length notes) o → AreAbove notes cell thread bound o
  begin None none = λ y is le. none is.0 (inside notes is.0 (note cell thread y) is.1) (y, is.1)
  begin (Some p) is = (is.1, λ q x above at. absurd (is.2 q above (inside notes q (note cell thread x) at) (x, at)))

  module _ (links : List Link) (tops : ℕ → ℕ → Option ℕ) (linked : IsLinked notes links tops) (p : ℕ) (above : AreAbove notes cell thread bound (Some p)) where
    -- what stands at the place has the number noted
    number_is : (m : Note) → slice_get notes p ≡ Some m → m ≡ note cell thread above.0.0
    number_is m at = one_at notes p m (note cell thread above.0.0) at above.0.1

    pub found : (m : Note) → slice_get notes p ≡ Some m → m.number ≤ bound → IsLastUpTo notes cell thread bound m.number
    found m at le =
        let is = ap (λ (x : Note). x.number) (number_is m at) in
        record {
          noted = (p, above.0.1 ∙ (λ k. Some (note cell thread (sym is k))));
          within = le;
          last = λ y noted low. dite (dec_lt p noted.0) (λ (l : p < noted.0). let high = above.1 noted.0 y l noted.1 in absurd (omega arith))
              (λ (no' : p < noted.0 → ⊥). dite (dec_lt noted.0 p) (λ (l : noted.0 < p). let less = linked.rises cell thread noted.0 p y above.0.0 noted.1 above.0.1 l in omega (arith, is))
              (λ (no'' : noted.0 < p → ⊥). let same : noted.0 ≡ p = omega arith in
              let e = ap (λ (x : Note). x.number) (one_at notes p (note cell thread y) (note cell thread above.0.0) (subst (λ (k : ℕ). slice_get notes k ≡ Some (note cell thread y)) same noted.1) above.0.1) in omega (arith, is, e)));
        }

    -- the note here is above the bound too
    module _ (m : Note) (at : slice_get notes p ≡ Some m) (high : bound < m.number) where
      from_here : (x q : ℕ) → slice_get notes q ≡ Some (note cell thread x) → (q < p → ⊥) → bound < x
      from_here x q at' after = dite (dec_lt p q) (λ (l : p < q). above.1 q x l at')
          (λ (no' : p < q → ⊥). let same : q ≡ p = omega arith in
          let e = ap (λ (w : Note). w.number) (one_at notes p (note cell thread x) m (subst (λ (k : ℕ). slice_get notes k ≡ Some (note cell thread x)) same at') at) in omega (arith, e))

      by_before : (o : Option ℕ) → IsLastPlace notes cell thread p o → AreAbove notes cell thread bound o × (measure o < suc p)
      by_before None none = (λ y is le. let more = from_here y is.0 is.1 (λ less. none is.0 less (y, is.1)) in omega arith, omega arith)
      by_before (Some b) is = ((is.1, λ q x behind at'. from_here x q at' (λ less. is.2 q behind less (x, at'))), omega (arith, is.0))

      pub step : (next : Option ℕ) → IsStep notes links p bound next → AreAbove notes cell thread bound next × (measure next < suc p)
      step next s = elim s.2 [
        | inl e ↦ subst (λ (o : Option ℕ). AreAbove notes cell thread bound o × (measure o < suc p)) (sym e) (by_before s.0.before (linked.before cell thread p s.0 s.1 above.0))
        | inr j ↦
            let far = j.0 in
            let of_far = linked.jump cell thread p far s.0 s.1 j.3 above.0 in
            let less = linked.back p far s.0 s.1 j.3 in
            let is = ap (λ (x : Note). x.number) (one_at notes far j.1 (note cell thread of_far.0) j.4 of_far.1) in
            let moved : AreAbove notes cell thread bound (Some far) × (measure (Some far) < suc p) =
            ((of_far, λ q x behind at'. let rise = linked.rises cell thread far q of_far.0 x of_far.1 at' behind in omega (arith, is, j.5)), omega arith) in
            subst (λ (o : Option ℕ). AreAbove notes cell thread bound o × (measure o < suc p)) (sym j.2) moved
      ]
