-- Races by a scan.
use Rattle.std.proofs.Common.{◌≡◌, ℕ, ◌+◌, ◌<◌, ◌≤◌, List, Option, Some, None, refl, sym, ap, ◌∙◌, subst, arith, ◌⊎◌, inl, inr, ◌↔◌}
use Rattle.c11_events.specs.declared.event.Event.{Event}
use Rattle.c11_events.specs.declared.event.EventKind.{EventKind}
use Rattle.c11_events.specs.declared.event.EventKind.TheVariants.{PlainRead, PlainWrite}
use Rattle.c11_events.specs.Events.{At, read_cell, written_cell}
use Rattle.c11_events.specs.HappensBefore.{HappensBefore}
use Rattle.c11_events.specs.Races.{IsRead, IsWrite, SameThread, Races, IsRacing}
use Rattle.c11_events.proofs.Basics.{at_same}
use Rattle.c11_plain.specs.Parts.{WriteConflict, ReadConflict, RacesAnywhere}

-- the latest number below n with a property
pub record IsLatestBelow (R : ℕ → Type 0) (n : ℕ) (found : Option ℕ) : Type 0 where
  pub some : (m : ℕ) → found ≡ Some m → (m < n) × R m × ((k : ℕ) → k < n → R k → k ≤ m)
  pub none : found ≡ None → (k : ℕ) → k < n → R k → ⊥

pub latest_none : (R : ℕ → Type 0) → IsLatestBelow R 0 None
latest_none R = record { some = λ m e. cc; none = λ e k lt. absurd (omega arith) }

pub latest_here : (R : ℕ → Type 0) (n : ℕ) → R n → IsLatestBelow R (n + 1) (Some n)
latest_here R n r = record {
  some = λ m e. let same : n ≡ m = cc in (omega arith, subst R same r, λ k lt p. omega arith);
  none = λ e. cc;
}

at_last : (R : ℕ → Type 0) (n k : ℕ) → (R n → ⊥) → R k → k < n + 1 → k < n
at_last R n k not_n r lt = let differ : k ≡ n → ⊥ = λ same. not_n (subst R same r) in omega arith

pub latest_before : (R : ℕ → Type 0) (n : ℕ) (found : Option ℕ) → (R n → ⊥) → IsLatestBelow R n found → IsLatestBelow R (n + 1) found
latest_before R n found not_n i = record {
  some = λ m e. let s = i.some m e in (omega (arith, s.0), s.1, λ k lt r. s.2 k (at_last R n k not_n r lt) r);
  none = λ e k lt r. i.none e k (at_last R n k not_n r lt) r;
}

touched : EventKind → Option ℕ
touched (PlainRead cell) = Some cell
touched (PlainWrite cell value) = Some cell
touched _ = None

read_touched : (kind : EventKind) (cell : ℕ) → read_cell kind ≡ Some cell → touched kind ≡ Some cell
unfolding touched
read_touched (PlainWrite c v) cell e = cc
read_touched _ cell e = e

written_touched : (kind : EventKind) (cell : ℕ) → written_cell kind ≡ Some cell → touched kind ≡ Some cell
unfolding touched
written_touched (PlainRead c) cell e = cc
written_touched _ cell e = e

module _ (events : List Event) where
  Touches : ℕ → ℕ → Type 0
  Touches cell n = At events n (λ e. touched e.kind ≡ Some cell)

  race_touches : (cell m n : ℕ) → Races events cell m n → Touches cell n
  unfolding Touches
  race_touches cell m n r =
      let by_read : IsRead events cell n → Touches cell n = λ a. record { event = a.event; is = a.is; holds = read_touched a.event.kind cell a.holds } in
      let by_write : IsWrite events cell n → Touches cell n = λ a. record { event = a.event; is = a.is; holds = written_touched a.event.kind cell a.holds } in
      elim r.accesses [ inl p ↦ elim p.1 [ inl a ↦ by_read a | inr a ↦ by_write a ] | inr p ↦ by_write p.1 ]

  one_cell : (cell cell' n : ℕ) → Touches cell n → Touches cell' n → cell ≡ cell'
  unfolding Touches
  one_cell cell cell' n t u =
      let same = at_same events n t.event u.event t.is u.is in
      let e : Some cell ≡ Some cell' = sym t.holds ∙ (ap (λ (f : Event). touched f.kind) same ∙ u.holds) in cc

  pub race_is : (m n : ℕ) → m < n → (SameThread events m n → ⊥) → (HappensBefore events m n → ⊥) → WriteConflict events m n ⊎ ReadConflict events m n → RacesAnywhere events m n
  race_is m n lt apart unordered (inl w) = (w.cell, record { accesses = inl (w.write, w.access); earlier = lt; apart = apart; unordered = unordered })
  race_is m n lt apart unordered (inr r) = (r.cell, record { accesses = inr (r.read, r.write); earlier = lt; apart = apart; unordered = unordered })

  pub race_conflict : (m n : ℕ) → RacesAnywhere events m n → WriteConflict events m n ⊎ ReadConflict events m n
  race_conflict m n r = elim r.1.accesses [
    | inl p ↦ inl (record { cell = r.0; write = p.0; access = p.1 })
    | inr p ↦ inr (record { cell = r.0; read = p.0; write = p.1 })
  ]

  module _ (n : ℕ) where
    abbrev pub Latest : ℕ → Option ℕ → Type 0
    Latest = IsLatestBelow (λ m. RacesAnywhere events m n)

    latest_is : (found : Option ℕ) (m : ℕ) → Latest n found → (cell : ℕ) → IsRacing events cell n m → found ≡ Some m
    latest_is None m i cell r = absurd (i.none refl m r.races.earlier (cell, r.races))
    latest_is (Some k) m i cell r =
        let s = i.some k refl in
        let same = one_cell s.1.0 cell n (race_touches s.1.0 k n s.1.1) (race_touches cell m n r.races) in
        let up = r.last k (subst (λ (z : ℕ). Races events z k n) same s.1.1) in
        let down = s.2 m r.races.earlier (cell, r.races) in
        let e : k ≡ m = omega (arith, up, down) in ap (λ (z : ℕ). Some z) e

    pub latest_racing : (k : ℕ) (found : Option ℕ) → k ≡ n → Latest k found → (m : ℕ) → (found ≡ Some m) ↔ ((cell : ℕ) × IsRacing events cell n m)
    latest_racing k found end latest m =
        let i : Latest n found = subst (λ (z : ℕ). Latest z found) end latest in (
          λ e. let s = i.some m e in (s.1.0, record { races = s.1.1; last = λ j r. s.2 j r.earlier (s.1.0, r) }),
          λ t. latest_is found m i t.0 t.1,
        )
