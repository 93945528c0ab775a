-- The latest race is with the last write or with the latest read of a thread.
use Rattle.std.proofs.Common.{◌≡◌, ℕ, ◌<◌, ◌≤◌, List, Some, sym, ap, ◌∙◌, subst, arith, ◌⊎◌, inl, inr}
use native.Mathlib.Decide.{ℕ_discrete, dec_lt}
use mathlib.Core.Logic.{dite}
use Rattle.c11_events.specs.declared.event.Event.{Event}
use Rattle.c11_events.specs.Closure.{one, join}
use Rattle.c11_events.specs.Events.{At, ReadsEarlier, read_cell, written_cell}
use Rattle.c11_events.specs.HappensBefore.{HappensBefore}
use Rattle.c11_events.specs.Races.{IsRead, IsWrite, SameThread, Races, Kept}
use Rattle.c11_events.specs.Laws.{RacesAreKept, RacingIsKept}
use Rattle.c11_events.proofs.Basics.{at_same}
use Rattle.c11_events.proofs.Decide.{dec_and, dec_is}
use Rattle.c11_events.proofs.DecideEvents.{dec_at, dec_hb}
use Rattle.c11_events.proofs.Deaths.{greatest}

module _ (events : List Event) where
  dec_same : (a b : ℕ) → Dec (SameThread events a b)
  dec_same a b = dec_at events a (λ e. At events b (λ f. e.thread ≡ f.thread)) (λ e. dec_at events b (λ f. e.thread ≡ f.thread) (λ f. ℕ_discrete e.thread f.thread))

  same_turned : (a b : ℕ) → SameThread events a b → SameThread events b a
  same_turned a b s = record { event = s.holds.event; is = s.holds.is; holds = record { event = s.event; is = s.is; holds = sym s.holds.holds } }

  same_join : (a b c : ℕ) → SameThread events a b → SameThread events b c → SameThread events a c
  same_join a b c s t = let one_event = at_same events b s.holds.event t.event s.holds.is t.is in
      record { event = s.event; is = s.is; holds = record { event = t.holds.event; is = t.holds.is; holds = s.holds.holds ∙ (ap (λ (e : Event). e.thread) one_event ∙ t.holds.holds) } }

  program : (a b : ℕ) → a < b → SameThread events a b → HappensBefore events a b
  program a b lt s = one (inl (record { thread = s; earlier = lt }))

  module _ (cell n : ℕ) (reads : ReadsEarlier events) (none : (i j : ℕ) → j < n → Races events cell i j → ⊥) where
    abbrev Found : ℕ → Type 0
    Found k = (m : ℕ) × ((k ≤ m) × Kept events cell n m × Races events cell m n)

    -- a later write of the cell happens after each earlier one
    write_hb : (k w : ℕ) → IsWrite events cell k → IsWrite events cell w → k < w → w < n → HappensBefore events k w
    write_hb k w sk sw lt less = dite (dec_same k w) (λ (same : SameThread events k w). program k w lt same)
        (λ (apart : SameThread events k w → ⊥). dite (dec_hb events reads k w) (λ (h : HappensBefore events k w). h)
        (λ (unordered : HappensBefore events k w → ⊥). absurd (none k w less (record { accesses = inl (sk, inr sw); earlier = lt; apart = apart; unordered = unordered }))))

    by_write : (k : ℕ) → IsWrite events cell k → IsRead events cell n ⊎ IsWrite events cell n → Races events cell k n → Found k
    by_write k sk access r =
        let t = greatest n (IsWrite events cell) (λ a. dec_at events a (λ e. written_cell e.kind ≡ Some cell) (λ e. dec_is (written_cell e.kind) cell)) (k, r.earlier, sk) in
        let le = t.3 k r.earlier sk in
        let later : k < t.0 → HappensBefore events t.0 n → ⊥ = λ lt h. r.unordered (join (write_hb k t.0 sk t.2 lt t.1) h) in
        dite (ℕ_discrete k t.0) (λ (same : k ≡ t.0). (k, (omega arith, Kept.write sk r.earlier (λ j less s. omega (arith, t.3 j less s)), r)))
        (λ (differ : k ≡ t.0 → ⊥). let lt : k < t.0 = omega arith in
        (t.0, (le, Kept.write t.2 t.1 t.3, record { accesses = inl (t.2, access); earlier = t.1; apart = λ s. later lt (program t.0 n t.1 s); unordered = later lt })))

    by_read : (k : ℕ) → IsRead events cell k → IsWrite events cell n → Races events cell k n → Found k
    by_read k sk write r =
        let own : SameThread events k k = record { event = sk.event; is = sk.is; holds = record { event = sk.event; is = sk.is; holds = λ i. sk.event.thread } } in
        let t = greatest n (λ a. IsRead events cell a × SameThread events k a)
        (λ a. dec_and (dec_at events a (λ e. read_cell e.kind ≡ Some cell) (λ e. dec_is (read_cell e.kind) cell)) (dec_same k a)) (k, r.earlier, (sk, own)) in
        let le = t.3 k r.earlier (sk, own) in
        let unordered : HappensBefore events t.0 n → ⊥ = λ h. dite (dec_lt k t.0) (λ (lt : k < t.0). r.unordered (join (program k t.0 lt t.2.1) h))
        (λ (no' : k < t.0 → ⊥). let same : t.0 ≡ k = omega arith in r.unordered (subst (λ (z : ℕ). HappensBefore events z n) same h)) in (
          t.0,
          (
            le,
            Kept.read t.2.0 t.1 (λ j less s same. t.3 j less (s, same_join k t.0 j t.2.1 same)),
            record { accesses = inr (t.2.0, write); earlier = t.1; apart = λ s. r.apart (same_join k t.0 n t.2.1 s); unordered = unordered },
          ),
        )

    pub found : (k : ℕ) → Races events cell k n → Found k
    found k r = elim r.accesses [ inl p ↦ by_write k p.0 p.1 r | inr p ↦ by_read k p.0 p.1 r ]

pub races_kept : RacesAreKept
races_kept events cell n k reads none r = found events cell n reads none k r

pub racing_kept : RacingIsKept
racing_kept events cell n m reads none racing =
    let t = found events cell n reads none m racing.races in
    let same : t.0 ≡ m = omega (arith, t.1.0, racing.last t.0 t.1.2) in
    subst (λ (k : ℕ). Kept events cell n k) same t.1.1
