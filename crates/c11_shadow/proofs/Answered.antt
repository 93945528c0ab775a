-- What the kept words say of a further access is the latest access that races with it.
use Rattle.std.proofs.Common.{◌≡◌, ℕ, zero, suc, ◌≤◌, ◌<◌, ◌↔◌, Bool, true, false, List, [], ◌∷◌, ◌++◌, Some, None, length, slice_get, slice_index, nat_eq, leb, ◌||◌, if◌then◌else◌, sym, ap, ◌∙◌, subst, refl, arith, ◌⊎◌, inl, inr}
use Rattle.std.proofs.lemmas.Bool.Decides.{eqb_tells, leb_tells}
use native.Mathlib.Decide.{ℕ_discrete, dec_lt}
use mathlib.Core.Logic.{dite}
use Rattle.c11_events.specs.declared.event.Event.{Event}
use Rattle.c11_events.specs.Closure.{one, join}
use Rattle.c11_events.specs.Events.{At, ReadsEarlier, event_at, loaded_cell, read_cell, written_cell}
use Rattle.c11_events.specs.HappensBefore.{HappensBefore}
use Rattle.c11_events.specs.Races.{IsRead, IsWrite, SameThread, Races, IsRacing}
use Rattle.c11_events.specs.Races.{Kept as KeptAccess}
use Rattle.c11_events.proofs.Basics.{at_same}
use Rattle.c11_events.proofs.DecideEvents.{at_below, dec_at, dec_hb}
use Rattle.c11_events.proofs.Longer.{new_is}
use Rattle.c11_events.proofs.Prefix.{event_more, same_more, hb_stays}
use Rattle.c11_events.proofs.Racing.{races_kept}
use Rattle.c11_shadow.specs.declared.cell.Kept.{Kept}
use Rattle.c11_shadow.specs.Epochs.{thread_of, number_of}
use Rattle.c11_shadow.specs.Kept.{apart_number, IsLatest}
use Rattle.c11_shadow.specs.Words.{IsKept, IsAccess, accessed}
use Rattle.c11_shadow.proofs.Longer.{read_is_no_load, write_is_no_load, read_is_no_write, reads_longer, races_less, write_cases, read_cases}

apart_cases : (same covered : Bool) (number : ℕ) → 0 < (if same || covered then 0 else number) → (same ≡ false) × ((covered ≡ false) × ((if same || covered then 0 else number) ≡ number))
apart_cases true covered number some = absurd (omega arith)
apart_cases false true number some = absurd (omega arith)
apart_cases false false number some = (refl, (refl, refl))

apart_is : (epoch thread : ℕ) (clock : List ℕ) → 0 < apart_number epoch thread clock
    → (thread_of epoch ≡ thread → ⊥) × ((slice_index clock (thread_of epoch) < number_of epoch) × (apart_number epoch thread clock ≡ number_of epoch))
apart_is epoch thread clock some =
    let c = apart_cases (nat_eq (thread_of epoch) thread) (leb (number_of epoch) (slice_index clock (thread_of epoch))) (number_of epoch) some in (
      elim (eqb_tells (thread_of epoch) thread) [ inl t ↦ λ e. let clash : true ≡ false = sym t.0 ∙ c.0 in cc | inr f ↦ f.1 ],
      (elim (leb_tells (number_of epoch) (slice_index clock (thread_of epoch))) [ inl t ↦ absurd (let clash : true ≡ false = sym t.0 ∙ c.1.0 in cc) | inr f ↦ f.1 ], c.1.1),
    )

apart_from : (epoch thread : ℕ) (clock : List ℕ) → (thread_of epoch ≡ thread → ⊥) → slice_index clock (thread_of epoch) < number_of epoch → apart_number epoch thread clock ≡ number_of epoch
apart_from epoch thread clock other above =
    let same : nat_eq (thread_of epoch) thread ≡ false = elim (eqb_tells (thread_of epoch) thread) [ inl t ↦ absurd (other t.1) | inr f ↦ f.0 ] in
    let covered : leb (number_of epoch) (slice_index clock (thread_of epoch)) ≡ false =
    elim (leb_tells (number_of epoch) (slice_index clock (thread_of epoch))) [ inl t ↦ absurd (omega (arith, t.1)) | inr f ↦ f.0 ] in
    ap (λ (b : Bool). if b || leb (number_of epoch) (slice_index clock (thread_of epoch)) then 0 else number_of epoch) same
    ∙ ap (λ (b : Bool). if b then 0 else number_of epoch) covered

module _ (events : List Event) (e : Event) (cell thread number : ℕ) (write : Bool) (clock : List ℕ) (kept : Kept)
    (earlier : ReadsEarlier events) (quiet : (c m n : ℕ) → Races events c m n → ⊥) (is : IsKept events cell kept)
    (next : IsAccess events e cell thread number write clock) where
  abbrev longer : List Event
  longer = events ++ e ∷ []

  abbrev last : ℕ
  last = suc (length events)

  pub number_is : number ≡ suc (length events)
  number_is = omega (arith, next.next)

  no_load_for : (b : Bool) → accessed b e.kind ≡ Some cell → loaded_cell e.kind ≡ None
  no_load_for true k = write_is_no_load e.kind cell k
  no_load_for false k = read_is_no_load e.kind cell k

  pub reads : ReadsEarlier (events ++ e ∷ [])
  reads = reads_longer events e earlier (no_load_for write next.kind)

  tells : (a : ℕ) (f : Event) → event_at longer a ≡ Some f → (f.thread ≡ thread → ⊥) → (a ≤ slice_index clock f.thread) ↔ HappensBefore longer a last
  tells a f at other = subst (λ (n : ℕ). (a ≤ slice_index clock f.thread) ↔ HappensBefore longer a n) number_is (next.tells a f at other)

  -- an access of another thread that the clock does not cover is unordered with the new one
  races : (a u : ℕ) (P : Event → Type 0) → At events a (λ f. (f.thread ≡ u) × P f) → (u ≡ thread → ⊥) → slice_index clock u < a
      → (IsWrite longer cell a × (IsRead longer cell last ⊎ IsWrite longer cell last)) ⊎ (IsRead longer cell a × IsWrite longer cell last) → Races longer cell a last
  races a u P at other above accesses =
      let f = at.event in
      let at_more = event_more events (e ∷ []) a f at.is in
      let apart : f.thread ≡ thread → ⊥ = λ s. other (sym at.holds.0 ∙ s) in
      record {
        accesses = accesses;
        earlier = at_below events a (λ g. (g.thread ≡ u) × P g) at;
        apart = λ s. let first = at_same longer a s.event f s.is at_more in let second = at_same longer last s.holds.event e s.holds.is (new_is events e) in
            apart (ap (λ (g : Event). g.thread) (sym first) ∙ (s.holds.holds ∙ (ap (λ (g : Event). g.thread) second ∙ next.own)));
        unordered = λ h. let le = (tells a f at_more apart).1 h in let here : slice_index clock f.thread ≡ slice_index clock u = ap (λ (t : ℕ). slice_index clock t) at.holds.0 in omega arith;
      }

  -- a racing access is of another thread, and the clock does not cover it
  uncovered : (a u : ℕ) (P : Event → Type 0) → At events a (λ f. (f.thread ≡ u) × P f) → (SameThread longer a last → ⊥) → (HappensBefore longer a last → ⊥)
      → (u ≡ thread → ⊥) × (slice_index clock u < a)
  uncovered a u P at apart unordered =
      let f = at.event in
      let at_more = event_more events (e ∷ []) a f at.is in
      let other : u ≡ thread → ⊥ = λ s. apart (record { event = f; is = at_more; holds = record { event = e; is = new_is events e; holds = at.holds.0 ∙ (s ∙ sym next.own) } }) in (
        other,
        dite (dec_lt (slice_index clock u) a) (λ (above : slice_index clock u < a). above)
            (λ (no' : slice_index clock u < a → ⊥). let here : slice_index clock f.thread ≡ slice_index clock u = ap (λ (t : ℕ). slice_index clock t) at.holds.0 in
            absurd (unordered ((tells a f at_more (λ s. other (sym at.holds.0 ∙ s))).0 (omega arith)))),
      )

  abbrev Candidate : ℕ → Type 0
  Candidate k = (k ≤ apart_number kept.write thread clock) ⊎ ((write ≡ true) × ((i : ℕ) × (r : ℕ) × (slice_get kept.reads.items i ≡ Some r) × (k ≤ apart_number r thread clock)))

  some_number : (a : ℕ) (P : Event → Type 0) → At events a P → 0 < a
  some_number zero P at = let clash : None ≡ Some at.event = at.is in cc
  some_number (suc a) P at = omega arith

  is_write_for : (b : Bool) → accessed b e.kind ≡ Some cell → written_cell e.kind ≡ Some cell → b ≡ true
  is_write_for true k w = refl
  is_write_for false k w = let clash : None ≡ Some cell = sym (read_is_no_write e.kind cell k) ∙ w in cc

  -- where the last write races, it is kept
  by_write : IsWrite events cell (number_of kept.write) → (SameThread longer (number_of kept.write) last → ⊥) → (HappensBefore longer (number_of kept.write) last → ⊥)
      → apart_number kept.write thread clock ≡ number_of kept.write
  by_write w apart unordered =
      let at = is.write (some_number (number_of kept.write) (λ f. written_cell f.kind ≡ Some cell) w) in
      let u = uncovered (number_of kept.write) (thread_of kept.write) (λ f. written_cell f.kind ≡ Some cell) at apart unordered in
      apart_from kept.write thread clock u.0 u.1

  last_write : 0 < number_of kept.write → IsWrite events cell (number_of kept.write)
  last_write some = let at = is.write some in record { event = at.event; is = at.is; holds = at.holds.1 }

  -- a read before the last write, which did not race with it, happens before it
  read_before : (m : ℕ) → IsRead events cell m → m < number_of kept.write → HappensBefore events m (number_of kept.write)
  read_before m r less =
      let w = number_of kept.write in
      let at = last_write (omega arith) in
      let same : Dec (SameThread events m w) = dec_at events m (λ f. At events w (λ g. f.thread ≡ g.thread)) (λ f. dec_at events w (λ g. f.thread ≡ g.thread) (λ g. ℕ_discrete f.thread g.thread)) in
      dite same (λ (s : SameThread events m w). one (inl (record { thread = s; earlier = less })))
      (λ (apart : SameThread events m w → ⊥). dite (dec_hb events earlier m w) (λ (h : HappensBefore events m w). h)
      (λ (unordered : HappensBefore events m w → ⊥). absurd (quiet cell m w (record { accesses = inr (r, at); earlier = less; apart = apart; unordered = unordered }))))

  read_or_write : (events : List Event) (m : ℕ) → IsRead events cell m → IsWrite events cell m → ⊥
  read_or_write events m r w =
      let same = at_same events m r.event w.event r.is w.is in
      let clash : None ≡ Some cell = sym (read_is_no_write r.event.kind cell r.holds) ∙ (ap (λ (f : Event). written_cell f.kind) same ∙ w.holds) in cc

  -- the new event writes where it races with a read
  writes : (m : ℕ) → IsRead longer cell m → Races longer cell m last → write ≡ true
  writes m read r = elim r.accesses [
    | inl p ↦ absurd (read_or_write longer m read p.0)
    | inr p ↦ elim (write_cases events e cell last p.1) [
      | inl old ↦ absurd (omega (arith, at_below events last (λ f. written_cell f.kind ≡ Some cell) old))
      | inr new ↦ is_write_for write next.kind new.1
    ]
  ]

  old_read : (m : ℕ) → m < last → IsRead longer cell m → IsRead events cell m
  old_read m less r = elim (read_cases events e cell m r) [ inl old ↦ old | inr new ↦ absurd (omega (arith, new.0)) ]

  old_write : (m : ℕ) → m < last → IsWrite longer cell m → IsWrite events cell m
  old_write m less w = elim (write_cases events e cell m w) [ inl old ↦ old | inr new ↦ absurd (omega (arith, new.0)) ]

  -- the last write, where it races
  last_write_kept : (m : ℕ) → Races longer cell m last → IsWrite longer cell m → m < last → ((k : ℕ) → k < last → IsWrite longer cell k → k ≤ m) → Candidate m
  last_write_kept m r w less newest =
      let old = old_write m less w in
      let some = some_number m (λ f. written_cell f.kind ≡ Some cell) old in
      let below = is.last m old in
      let at = last_write (omega arith) in
      let above = newest (number_of kept.write) (at_below events (number_of kept.write) (λ f. written_cell f.kind ≡ Some cell) at) (same_more events (e ∷ []) (number_of kept.write) (λ f. written_cell f.kind ≡ Some cell) at) in
      let same : m ≡ number_of kept.write = omega arith in
      let is_kept = by_write at (subst (λ (n : ℕ). SameThread longer n last → ⊥) same r.apart) (subst (λ (n : ℕ). HappensBefore longer n last → ⊥) same r.unordered) in
      inl (omega arith)

  -- the latest read of a thread since the last write, where it races
  read_kept : (m : ℕ) → Races longer cell m last → IsRead longer cell m → ((k : ℕ) → k < last → IsRead longer cell k → SameThread longer m k → k ≤ m)
      → IsRead events cell m → number_of kept.write < m → Candidate m
  read_kept m r read newest old after =
      let found = is.since m old.event old.is old.holds after in
      let i = found.0 in
      let epoch = found.1 in
      let at = is.reads i epoch found.2 in
      let a = number_of epoch in
      let is_read = same_more events (e ∷ []) a (λ f. read_cell f.kind ≡ Some cell) (record { event = at.event; is = at.is; holds = at.holds.1 }) in
      let own : SameThread longer m a = record {
        event = old.event;
        is = event_more events (e ∷ []) m old.event old.is;
        holds = record { event = at.event; is = event_more events (e ∷ []) a at.event at.is; holds = found.3 ∙ sym at.holds.0 };
      } in
      let above = newest a (at_below events a (λ f. (f.thread ≡ thread_of epoch) × (read_cell f.kind ≡ Some cell)) at) is_read own in
      let same : m ≡ a = omega (arith, found.4) in
      let u = uncovered a (thread_of epoch) (λ f. read_cell f.kind ≡ Some cell) at
      (subst (λ (n : ℕ). SameThread longer n last → ⊥) same r.apart) (subst (λ (n : ℕ). HappensBefore longer n last → ⊥) same r.unordered) in
      let number = apart_from epoch thread clock u.0 u.1 in
      inr (writes m read r, (i, epoch, found.2, omega arith))

  -- a read before the last write races only where that write does
  hidden_read : (m : ℕ) → Races longer cell m last → IsRead events cell m → m ≤ number_of kept.write → Candidate m
  hidden_read m r old le =
      let w = number_of kept.write in
      let some = some_number m (λ f. read_cell f.kind ≡ Some cell) old in
      let at = last_write (omega arith) in
      let differ : m ≡ w → ⊥ = λ same. read_or_write events w (subst (λ (n : ℕ). IsRead events cell n) same old) at in
      let inside = at_below events w (λ f. written_cell f.kind ≡ Some cell) at in
      let first : HappensBefore longer m w = (hb_stays events (e ∷ []) m w reads (omega arith)).0 (read_before m old (omega arith)) in
      let is_kept = by_write at (λ s. r.unordered (join first (one (inl (record { thread = s; earlier = inside }))))) (λ h. r.unordered (join first h)) in
      inl (omega arith)

  by_kept : (m : ℕ) → Races longer cell m last → KeptAccess longer cell last m → Candidate m
  by_kept m r (KeptAccess.write w less newest) = last_write_kept m r w less newest
  by_kept m r (KeptAccess.read read less newest) =
      let old = old_read m less read in
      dite (dec_lt (number_of kept.write) m)
      (λ (after : number_of kept.write < m). read_kept m r read newest old after)
      (λ (no' : number_of kept.write < m → ⊥). hidden_read m r old (omega arith))

  lower : (k m : ℕ) → k ≤ m → Candidate m → Candidate k
  lower k m le c = elim c [ inl p ↦ inl (omega (arith, p)) | inr p ↦ inr (p.0, (p.1.0, p.1.1, p.1.2, omega (arith, p.1.3))) ]

  -- a racing access has a kept one that races and is not before it
  candidate : (k : ℕ) → Races longer cell k last → Candidate k
  candidate k race =
      let t = races_kept longer cell last k reads (λ i j less r. quiet cell i j (races_less events e cell i j reads (omega arith) r)) race in
      lower k t.0 t.1.0 (by_kept t.0 t.1.2 t.1.1)

  module _ (latest : ℕ) (is_latest : IsLatest kept write thread clock latest) where
    pub below : (k : ℕ) → Races longer cell k last → k ≤ latest
    below k race = elim (candidate k race) [ inl p ↦ omega (arith, is_latest.last) | inr p ↦ omega (arith, is_latest.reads p.0 p.1.0 p.1.1 p.1.2, p.1.3) ]

    pub none_races : latest ≡ 0 → (k : ℕ) → Races longer cell k last → ⊥
    none_races none zero race = elim race.accesses [
      | inl p ↦ let clash : None ≡ Some p.0.event = p.0.is in cc
      | inr p ↦ let clash : None ≡ Some p.0.event = p.0.is in cc
    ]
    none_races none (suc k) race = let le = below (suc k) race in omega arith

    accesses_for : (b : Bool) → accessed b e.kind ≡ Some cell → IsRead longer cell last ⊎ IsWrite longer cell last
    accesses_for true k = inr (record { event = e; is = new_is events e; holds = k })
    accesses_for false k = inl (record { event = e; is = new_is events e; holds = k })

    write_race : 0 < apart_number kept.write thread clock → Races longer cell (apart_number kept.write thread clock) last
    write_race some =
        let a = apart_is kept.write thread clock some in
        let w = number_of kept.write in
        let at = is.write (omega (arith, a.1.1)) in
        let is_write = same_more events (e ∷ []) w (λ f. written_cell f.kind ≡ Some cell) (record { event = at.event; is = at.is; holds = at.holds.1 }) in
        subst (λ (n : ℕ). Races longer cell n last) (sym a.1.1)
        (races w (thread_of kept.write) (λ f. written_cell f.kind ≡ Some cell) at a.0 a.1.0 (inl (is_write, accesses_for write next.kind)))

    read_race : write ≡ true → (i epoch : ℕ) → slice_get kept.reads.items i ≡ Some epoch → 0 < apart_number epoch thread clock → Races longer cell (apart_number epoch thread clock) last
    read_race w i epoch get some =
        let a = apart_is epoch thread clock some in
        let at = is.reads i epoch get in
        let is_read = same_more events (e ∷ []) (number_of epoch) (λ f. read_cell f.kind ≡ Some cell) (record { event = at.event; is = at.is; holds = at.holds.1 }) in
        let is_write : IsWrite longer cell last = record { event = e; is = new_is events e; holds = subst (λ (b : Bool). accessed b e.kind ≡ Some cell) w next.kind } in
        subst (λ (n : ℕ). Races longer cell n last) (sym a.1.1) (races (number_of epoch) (thread_of epoch) (λ f. read_cell f.kind ≡ Some cell) at a.0 a.1.0 (inr (is_read, is_write)))

    latest_race : 0 < latest → Races longer cell latest last
    latest_race some = elim is_latest.one [
      | inl none ↦ absurd (omega arith)
      | inr q ↦ elim q [
        | inl p ↦ subst (λ (n : ℕ). Races longer cell n last) (sym p) (write_race (omega (arith, p)))
        | inr p ↦ subst (λ (n : ℕ). Races longer cell n last) (sym p.1.3) (read_race p.0 p.1.0 p.1.1 p.1.2 (omega (arith, p.1.3)))
      ]
    ]

    pub latest_races : 0 < latest → IsRacing longer cell last latest
    latest_races some = record { races = latest_race some; last = below }
