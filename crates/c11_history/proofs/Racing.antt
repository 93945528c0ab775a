-- The race with the last event.
use Rattle.std.proofs.Common.{◌≡◌, ℕ, suc, ◌+◌, ◌⊎◌, true, false, List, [], ◌∷◌, ◌++◌, Some, None, length, refl, sym, ap, ◌∙◌, subst, arith, inl, inr, length-append}
use Rattle.c11_events.specs.declared.event.Event.{Event}
use Rattle.c11_events.specs.declared.event.EventKind.{EventKind}
use Rattle.c11_events.specs.declared.event.EventKind.TheVariants.{PlainRead, PlainWrite}
use Rattle.c11_events.specs.Events.{At, event_at, read_cell, written_cell}
use Rattle.c11_events.specs.HappensBefore.{HappensBefore}
use Rattle.c11_events.specs.Races.{Races, IsRacing}
use Rattle.c11_events.proofs.Basics.{at_same}
use Rattle.c11_events.proofs.Longer.{new_is, old_or_new}
use Rattle.c11_happens.specs.Covers.{UpTo, CoversExactly, IsLastOf}
use Rattle.c11_mayread.specs.Standing as reading
use Rattle.c11_shadow.specs.Words.{TellsBefore, IsAccess, Answers, accessed}
use Rattle.c11_history.specs.declared.adding.Access.{Access}
use Rattle.c11_history.specs.Past.{IsRaceOfLast}
use Rattle.c11_history.specs.Sound.{access_of}

-- what an access is by its kind

accessed_as : (kind : EventKind) (access : Access) → access_of kind ≡ Some access → accessed access.write kind ≡ Some access.cell
accessed_as (PlainRead cell) access is =
    let same : record { cell = cell; write = false } ≡ access = cc in
    subst (λ (a : Access). accessed a.write (PlainRead cell) ≡ Some a.cell) same refl
accessed_as (PlainWrite cell value) access is =
    let same : record { cell = cell; write = true } ≡ access = cc in
    subst (λ (a : Access). accessed a.write (PlainWrite cell value) ≡ Some a.cell) same refl
accessed_as _ access is = cc

-- e reads or writes the plain cell
abbrev Touches : EventKind → ℕ → Type 0
Touches kind cell = (read_cell kind ≡ Some cell) ⊎ (written_cell kind ≡ Some cell)

one_cell : (kind : EventKind) (access : Access) (cell : ℕ) → access_of kind ≡ Some access → Touches kind cell → access.cell ≡ cell
one_cell (PlainRead c) access cell is touches =
    let same : record { cell = c; write = false } ≡ access = cc in
    elim touches [ inl reads ↦ (let both : c ≡ cell = cc in sym (ap (λ (a : Access). a.cell) same) ∙ both) | inr writes ↦ cc ]
one_cell (PlainWrite c value) access cell is touches =
    let same : record { cell = c; write = true } ≡ access = cc in
    elim touches [ inl reads ↦ cc | inr writes ↦ (let both : c ≡ cell = cc in sym (ap (λ (a : Access). a.cell) same) ∙ both) ]
one_cell _ access cell is touches = cc

pub none_touched : (kind : EventKind) → access_of kind ≡ None → (read_cell kind ≡ None) × (written_cell kind ≡ None)
none_touched (PlainRead cell) is = cc
none_touched (PlainWrite cell value) is = cc
none_touched _ is = (refl, refl)

module _ (events : List Event) (e : Event) where
  pub length_next : length (events ++ e ∷ []) ≡ suc (length events)
  length_next = omega (arith, length-append events (e ∷ []))

  at_new : {P : Event → Type 0} → At (events ++ e ∷ []) (length (events ++ e ∷ [])) P → P e
  at_new {P = P} t =
      let same : t.event ≡ e = at_same (events ++ e ∷ []) (suc (length events)) t.event e (subst (λ (n : ℕ). event_at (events ++ e ∷ []) n ≡ Some t.event) length_next t.is) (new_is events e) in
      subst P same t.holds

  touched : (cell m : ℕ) → Races (events ++ e ∷ []) cell m (length (events ++ e ∷ [])) → Touches e.kind cell
  touched cell m r = elim r.accesses [
    | inl p ↦ elim p.1 [ inl t ↦ inl (at_new {P = λ (f : Event). read_cell f.kind ≡ Some cell} t) | inr t ↦ inr (at_new {P = λ (f : Event). written_cell f.kind ≡ Some cell} t) ]
    | inr p ↦ inr (at_new {P = λ (f : Event). written_cell f.kind ≡ Some cell} p.1)
  ]

  -- an event that is no access of a plain cell races with none
  pub other_races : access_of e.kind ≡ None → IsRaceOfLast (events ++ e ∷ []) None
  other_races is cell m r =
      let none = none_touched e.kind is in
      elim (touched cell m r.races) [
        | inl reads ↦ (let clash : None ≡ Some cell = sym none.0 ∙ reads in cc)
        | inr writes ↦ (let clash : None ≡ Some cell = sym none.1 ∙ writes in cc)
      ]

  module _ (access : Access) (number : e.number ≡ length events + 1) (is : access_of e.kind ≡ Some access) where
    here : e.number ≡ length (events ++ e ∷ [])
    here = omega (arith, length_next)

    pub some_race : (first : ℕ) → Answers (events ++ e ∷ []) access.cell e.number (Some first) → IsRacing (events ++ e ∷ []) access.cell (length (events ++ e ∷ [])) first
    some_race first r = subst (λ (n : ℕ). IsRacing (events ++ e ∷ []) access.cell n first) here r

    pub no_race : Answers (events ++ e ∷ []) access.cell e.number None → IsRaceOfLast (events ++ e ∷ []) None
    no_race quiet cell m r =
        let same : cell ≡ access.cell = sym (one_cell e.kind access cell is (touched cell m r.races)) in
        quiet m (subst (λ (p : ℕ × ℕ). Races (events ++ e ∷ []) p.0 m p.1) (λ i. (same i, sym here i)) r.races)

    module _ (clock : List ℕ) (covers : (b : ℕ) → IsLastOf (events ++ e ∷ []) e.thread b → CoversExactly (events ++ e ∷ []) clock (UpTo (events ++ e ∷ []) b)) where
      last : IsLastOf (events ++ e ∷ []) e.thread (suc (length events))
      last = record {
        is = record { event = e; is = new_is events e; holds = refl };
        last = λ a of. elim (old_or_new events e a (λ (f : Event). f.thread ≡ e.thread) of) [ inl old ↦ omega arith | inr p ↦ omega (arith, p.0) ];
      }

      -- the thread's clock after the event tells what happens before it
      tells : TellsBefore (events ++ e ∷ []) e.thread e.number clock
      tells a f at other =
          let c = covers (suc (length events)) last a f at in
          let next : suc (length events) ≡ e.number = omega arith in (
            λ le. subst (λ (n : ℕ). HappensBefore (events ++ e ∷ []) a n) next (elim (c.0 le) [
              | inl same ↦ absurd (other (ap (λ (g : Event). g.thread) (at_same (events ++ e ∷ []) (suc (length events)) f e (subst (λ (n : ℕ). event_at (events ++ e ∷ []) n ≡ Some f) same at) (new_is events e))))
              | inr before ↦ before
            ]),
            λ before. c.1 (inr (subst (λ (n : ℕ). HappensBefore (events ++ e ∷ []) a n) (sym next) before)),
          )

      pub is_access : IsAccess events e access.cell e.thread e.number access.write clock
      is_access = record { next = number; own = refl; kind = accessed_as e.kind access is; tells = tells }

-- the same by what is told of the clock of what was committed
pub next_access : (reads : reading.Words) (e : Event) (access : Access) (clock : List ℕ) → access_of e.kind ≡ Some access
    → ((events : List Event) → reading.StandsFor reads events → (b : ℕ) → IsLastOf events e.thread b → CoversExactly events clock (UpTo events b))
    → (events : List Event) → e.number ≡ length events + 1 → reading.StandsFor reads (events ++ e ∷ []) → IsAccess events e access.cell e.thread e.number access.write clock
next_access reads e access clock is covers events number stands = is_access events e access number is clock (covers (events ++ e ∷ []) stands)
