-- What is kept after an access stands for the longer list.
use Rattle.std.proofs.Common.{◌≡◌, ℕ, suc, ◌≤◌, ◌<◌, ◌-◌, Bool, true, false, List, [], ◌∷◌, ◌++◌, Some, None, length, slice_get, slice_set, sym, ap, ◌∙◌, subst, refl, arith, ◌⊎◌, inl, inr}
use native.Mathlib.Decide.{ℕ_discrete, dec_le}
use mathlib.Core.Logic.{dite}
use Rattle.std.proofs.Common.{length-append}
use Rattle.c11_events.specs.declared.event.Event.{Event}
use Rattle.c11_events.specs.Events.{At, ReadsEarlier, event_at, read_cell, written_cell}
use Rattle.c11_events.specs.Races.{IsRead, IsWrite, Races}
use Rattle.c11_events.proofs.Basics.{at_same}
use Rattle.c11_events.proofs.DecideEvents.{at_below}
use Rattle.c11_events.proofs.Longer.{new_is, old_or_new, get_last}
use Rattle.c11_events.proofs.Prefix.{event_more, same_more, get_more}
use Rattle.c11_shadow.specs.declared.cell.Kept.{Kept}
use Rattle.c11_shadow.specs.Epochs.{thread_of, number_of}
use Rattle.c11_shadow.specs.Kept.{IsAfter, IsSafe, IsNoted, again, first}
use Rattle.c11_shadow.specs.Words.{IsKept, IsAccess, StandsFor, OthersChangeNothing, accessed}
use Rattle.c11_shadow.proofs.Places.{set_at, set_here, set_else, more_at}
use Rattle.c11_shadow.proofs.Longer.{read_is_no_write, races_less, write_cases, read_cases}

module _ (events : List Event) (e : Event) where
  abbrev longer : List Event
  longer = events ++ e ∷ []

  abbrev last : ℕ
  last = suc (length events)

  -- what is kept of a cell stands where the new event is no access of it
  pub kept_else : (cell : ℕ) (kept : Kept) → (read_cell e.kind ≡ Some cell → ⊥) → (written_cell e.kind ≡ Some cell → ⊥) → IsKept events cell kept → IsKept (events ++ e ∷ []) cell kept
  kept_else cell kept no_read no_write is = record {
    write = λ some. same_more events (e ∷ []) (number_of kept.write) (λ f. (f.thread ≡ thread_of kept.write) × (written_cell f.kind ≡ Some cell)) (is.write some);
    last = λ a w. elim (write_cases events e cell a w) [ inl old ↦ is.last a old | inr new ↦ absurd (no_write new.1) ];
    reads = λ i r get. same_more events (e ∷ []) (number_of r) (λ f. (f.thread ≡ thread_of r) × (read_cell f.kind ≡ Some cell)) (is.reads i r get);
    since = λ a f at read after. elim (read_cases events e cell a (record { event = f; is = at; holds = read })) [
      | inl old ↦ let same = at_same longer a old.event f (event_more events (e ∷ []) a old.event old.is) at in
          is.since a f (subst (λ (g : Event). event_at events a ≡ Some g) same old.is) read after
      | inr new ↦ absurd (no_read (ap (λ (g : Event). read_cell g.kind) (at_same longer last e f (new_is events e) (subst (λ (n : ℕ). event_at longer n ≡ Some f) new.0 at)) ∙ read))
    ];
  }

  end_of : (P : Event → Type 0) (n : ℕ) → At longer n P → (n ≤ length events → ⊥) → n ≡ suc (length events)
  end_of P n at no' = elim (old_or_new events e n P at) [ inl le ↦ absurd (no' le) | inr new ↦ new.0 ]

  last_races : (c m n : ℕ) → Races longer c m n → (n ≤ length events → ⊥) → n ≡ suc (length events)
  last_races c m n race no' = elim race.accesses [
    | inl p ↦ elim p.1 [ inl q ↦ end_of (λ f. read_cell f.kind ≡ Some c) n q no' | inr q ↦ end_of (λ f. written_cell f.kind ≡ Some c) n q no' ]
    | inr p ↦ end_of (λ f. written_cell f.kind ≡ Some c) n p.1 no'
  ]

  -- no two accesses race where the earlier ones do not and the new event does not
  pub still_quiet : ReadsEarlier (events ++ e ∷ []) → ((c m n : ℕ) → Races events c m n → ⊥) → ((c m : ℕ) → Races (events ++ e ∷ []) c m (suc (length events)) → ⊥)
      → (c m n : ℕ) → Races (events ++ e ∷ []) c m n → ⊥
  still_quiet reads quiet none c m n race = dite (dec_le n (length events))
      (λ (le : n ≤ length events). quiet c m n (races_less events e c m n reads le race))
      (λ (no' : n ≤ length events → ⊥). none c m (subst (λ (k : ℕ). Races longer c m k) (last_races c m n race no') race))

  -- what the new event reads or writes is its own cell
  new_read : (c : ℕ) → IsRead longer c last → read_cell e.kind ≡ Some c
  new_read c r = ap (λ (g : Event). read_cell g.kind) (at_same longer last e r.event (new_is events e) r.is) ∙ r.holds

  new_write : (c : ℕ) → IsWrite longer c last → written_cell e.kind ≡ Some c
  new_write c w = ap (λ (g : Event). written_cell g.kind) (at_same longer last e w.event (new_is events e) w.is) ∙ w.holds

  pub new_races : (c m : ℕ) → Races longer c m last → (read_cell e.kind ≡ Some c) ⊎ (written_cell e.kind ≡ Some c)
  new_races c m race = elim race.accesses [ inl p ↦ elim p.1 [ inl q ↦ inl (new_read c q) | inr q ↦ inr (new_write c q) ] | inr p ↦ inr (new_write c p.1) ]

-- an event that is no plain access changes nothing
pub others_change_nothing : OthersChangeNothing
others_change_nothing words events e stands reads no_read no_write = record {
  earlier = reads;
  quiet = still_quiet events e reads stands.quiet (λ c m race. elim (new_races events e c m race) [
    | inl p ↦ let clash : None ≡ Some c = sym no_read ∙ p in cc
    | inr p ↦ let clash : None ≡ Some c = sym no_write ∙ p in cc
  ]);
  kept = λ cell kept at. kept_else events e cell kept (λ p. let clash : None ≡ Some cell = sym no_read ∙ p in cc) (λ p. let clash : None ≡ Some cell = sym no_write ∙ p in cc) (stands.kept cell kept at);
}

module _ (events : List Event) (e : Event) (cell thread number : ℕ) (write : Bool) (clock : List ℕ) (next : IsAccess events e cell thread number write clock) where
  -- the cell of an access is the only one that it accesses
  accessed_one : (b : Bool) → accessed b e.kind ≡ Some cell → (c : ℕ) → (read_cell e.kind ≡ Some c) ⊎ (written_cell e.kind ≡ Some c) → c ≡ cell
  accessed_one true k c access = elim access [
    | inl p ↦ let clash : None ≡ Some cell = sym (read_is_no_write e.kind c p) ∙ k in cc
    | inr p ↦ let both : Some c ≡ Some cell = sym p ∙ k in cc
  ]
  accessed_one false k c access = elim access [
    | inl p ↦ let both : Some c ≡ Some cell = sym p ∙ k in cc
    | inr p ↦ let clash : None ≡ Some c = sym (read_is_no_write e.kind cell k) ∙ p in cc
  ]

  pub only_cell : (c : ℕ) → (read_cell e.kind ≡ Some c) ⊎ (written_cell e.kind ≡ Some c) → c ≡ cell
  only_cell = accessed_one write next.kind

  abbrev longer' : List Event
  longer' = events ++ e ∷ []

  module _ (old new : Kept) (epoch : ℕ) (of_thread : thread_of epoch ≡ thread) (of_number : number_of epoch ≡ number) (is : IsKept events cell old) where
    end : number_of epoch ≡ suc (length events)
    end = omega (arith, of_number, next.next)

    -- the epoch stands for the new event
    stands_for : (P : Event → Type 0) → P e → At longer' (number_of epoch) (λ f. (f.thread ≡ thread_of epoch) × P f)
    stands_for P p = record { event = e; is = subst (λ (n : ℕ). event_at longer' n ≡ Some e) (sym end) (new_is events e); holds = (next.own ∙ sym of_thread, p) }

    wrote : accessed true e.kind ≡ Some cell → new.write ≡ epoch → new.reads.items ≡ [] → IsKept longer' cell new
    wrote k w r =
        let whole : number_of new.write ≡ suc (length events) = ap number_of w ∙ end in
        record {
          write = λ some. subst (λ (x : ℕ). At longer' (number_of x) (λ f. (f.thread ≡ thread_of x) × (written_cell f.kind ≡ Some cell))) (sym w) (stands_for (λ f. written_cell f.kind ≡ Some cell) k);
          last = λ a is_write. omega (arith, at_below longer' a (λ f. written_cell f.kind ≡ Some cell) is_write, length-append events (e ∷ []));
          reads = λ i x get. let none : None ≡ Some x = subst (λ (xs : List ℕ). slice_get xs i ≡ Some x) r get in cc;
          since = λ a f at read after. absurd (omega (arith, at_below longer' a (λ g. read_cell g.kind ≡ Some cell) (record { event = f; is = at; holds = read }), length-append events (e ∷ [])));
        }

    module _ (k : accessed false e.kind ≡ Some cell) (same : new.write ≡ old.write) where
      -- each read in the new list is an old one, or the new event
      old_read : (i r : ℕ) → slice_get old.reads.items i ≡ Some r → At longer' (number_of r) (λ f. (f.thread ≡ thread_of r) × (read_cell f.kind ≡ Some cell))
      old_read i r get = same_more events (e ∷ []) (number_of r) (λ f. (f.thread ≡ thread_of r) × (read_cell f.kind ≡ Some cell)) (is.reads i r get)

      new_one : (r : ℕ) → epoch ≡ r → At longer' (number_of r) (λ f. (f.thread ≡ thread_of r) × (read_cell f.kind ≡ Some cell))
      new_one r s = subst (λ (x : ℕ). At longer' (number_of x) (λ f. (f.thread ≡ thread_of x) × (read_cell f.kind ≡ Some cell))) s (stands_for (λ f. read_cell f.kind ≡ Some cell) k)

      noted_reads : (reads : List ℕ) → IsNoted old.reads.items reads epoch → (i r : ℕ) → slice_get reads i ≡ Some r
          → At longer' (number_of r) (λ f. (f.thread ≡ thread_of r) × (read_cell f.kind ≡ Some cell))
      noted_reads reads (again j x at own is_set) i r get =
          elim (set_at old.reads.items j i epoch r (subst (λ (xs : List ℕ). slice_get xs i ≡ Some r) is_set get)) [ inl p ↦ new_one r p.1 | inr p ↦ old_read i r p.1 ]
      noted_reads reads (first none is_more) i r get =
          elim (more_at old.reads.items i epoch r (subst (λ (xs : List ℕ). slice_get xs i ≡ Some r) is_more get)) [ inl p ↦ old_read i r p | inr p ↦ new_one r p.1 ]

      abbrev Has : List ℕ → ℕ → ℕ → Type 0
      Has reads u a = (i : ℕ) × (r : ℕ) × (slice_get reads i ≡ Some r) × (u ≡ thread_of r) × (a ≤ number_of r)

      -- the new event itself stands in the new list
      has_new : (reads : List ℕ) → IsNoted old.reads.items reads epoch → (a : ℕ) → a ≤ suc (length events) → Has reads (thread_of epoch) a
      has_new reads (again j x at own is_set) a le =
          (j, epoch, subst (λ (xs : List ℕ). slice_get xs j ≡ Some epoch) (sym is_set) (set_here old.reads.items j x epoch at), refl, omega (arith, end))
      has_new reads (first none is_more) a le =
          (length old.reads.items, epoch, subst (λ (xs : List ℕ). slice_get xs (length old.reads.items) ≡ Some epoch) (sym is_more) (get_last old.reads.items epoch), refl, omega (arith, end))

      -- what an old read stood for, the new list has
      has_old : (reads : List ℕ) → IsNoted old.reads.items reads epoch → (u a : ℕ) → a ≤ suc (length events) → Has old.reads.items u a → Has reads u a
      has_old reads (again j x at own is_set) u a le h = dite (ℕ_discrete h.0 j)
          (λ (here : h.0 ≡ j). let both : Some h.1 ≡ Some x = sym h.2 ∙ (ap (λ (i : ℕ). slice_get old.reads.items i) here ∙ at) in let one_read : h.1 ≡ x = cc in
          (j, epoch, subst (λ (xs : List ℕ). slice_get xs j ≡ Some epoch) (sym is_set) (set_here old.reads.items j x epoch at), h.3 ∙ (ap thread_of one_read ∙ own), omega (arith, end)))
          (λ (other : h.0 ≡ j → ⊥).
          (h.0, h.1, subst (λ (xs : List ℕ). slice_get xs h.0 ≡ Some h.1) (sym is_set) (set_else old.reads.items j h.0 epoch h.1 other h.2), h.3, h.4))
      has_old reads (first none is_more) u a le h =
          (h.0, h.1, subst (λ (xs : List ℕ). slice_get xs h.0 ≡ Some h.1) (sym is_more) (get_more old.reads.items (epoch ∷ []) h.0 h.1 h.2), h.3, h.4)

      noted_read : IsNoted old.reads.items new.reads.items epoch → IsKept longer' cell new
      noted_read noted = record {
        write = λ some. let some_old : 0 < number_of old.write = subst (λ (x : ℕ). 0 < number_of x) same some in
            subst (λ (x : ℕ). At longer' (number_of x) (λ f. (f.thread ≡ thread_of x) × (written_cell f.kind ≡ Some cell))) (sym same)
            (same_more events (e ∷ []) (number_of old.write) (λ f. (f.thread ≡ thread_of old.write) × (written_cell f.kind ≡ Some cell)) (is.write some_old));
        last = λ a w. elim (write_cases events e cell a w) [
          | inl before ↦ subst (λ (x : ℕ). a ≤ number_of x) (sym same) (is.last a before)
          | inr now ↦ let clash : None ≡ Some cell = sym (read_is_no_write e.kind cell k) ∙ now.1 in cc
        ];
        reads = noted_reads new.reads.items noted;
        since = λ a f at read after. elim (read_cases events e cell a (record { event = f; is = at; holds = read })) [
          | inl before ↦ let one_event = at_same longer' a before.event f (event_more events (e ∷ []) a before.event before.is) at in
              let at_old = subst (λ (g : Event). event_at events a ≡ Some g) one_event before.is in
              has_old new.reads.items noted f.thread a (omega (arith, at_below events a (λ g. read_cell g.kind ≡ Some cell) before))
              (is.since a f at_old read (subst (λ (x : ℕ). number_of x < a) same after))
          | inr now ↦ let one_event = at_same longer' (suc (length events)) e f (new_is events e) (subst (λ (n : ℕ). event_at longer' n ≡ Some f) now.0 at) in
              let h = has_new new.reads.items noted a (omega (arith, now.0)) in
              (h.0, h.1, h.2, sym (ap (λ (g : Event). g.thread) one_event) ∙ (next.own ∙ (sym of_thread ∙ h.3)), h.4)
        ];
      }

    kept_for : (b : Bool) → b ≡ write → IsAfter old new epoch write → IsKept longer' cell new
    kept_for true is_write after = let w = after.written (sym is_write) in wrote (subst (λ (b : Bool). accessed b e.kind ≡ Some cell) (sym is_write) next.kind) w.0 w.1
    kept_for false is_write after = let n = after.noted (sym is_write) in noted_read (subst (λ (b : Bool). accessed b e.kind ≡ Some cell) (sym is_write) next.kind) n.0 n.1

    -- what is kept after the access stands for the longer list
    pub kept_after : IsAfter old new epoch write → IsKept (events ++ e ∷ []) cell new
    kept_after = kept_for write refl

module _ (threads epoch : ℕ) (old : Kept) (less : thread_of epoch < threads) (safe : IsSafe threads old) where
  within_noted : (reads : List ℕ) → IsNoted old.reads.items reads epoch → (i x : ℕ) → slice_get reads i ≡ Some x → thread_of x ≤ threads - 1
  within_noted reads (again j y at own is_set) i x get =
      elim (set_at old.reads.items j i epoch x (subst (λ (xs : List ℕ). slice_get xs i ≡ Some x) is_set get)) [ inl p ↦ omega (arith, ap thread_of p.1) | inr p ↦ safe.within i x p.1 ]
  within_noted reads (first none is_more) i x get =
      elim (more_at old.reads.items i epoch x (subst (λ (xs : List ℕ). slice_get xs i ≡ Some x) is_more get)) [ inl p ↦ safe.within i x p | inr p ↦ omega (arith, ap thread_of p.1) ]

  once_noted : (reads : List ℕ) → IsNoted old.reads.items reads epoch → (i j x y : ℕ) → slice_get reads i ≡ Some x → slice_get reads j ≡ Some y → thread_of x ≡ thread_of y → i ≡ j
  once_noted reads (again k z at own is_set) i j x y get get' same =
      elim (set_at old.reads.items k i epoch x (subst (λ (xs : List ℕ). slice_get xs i ≡ Some x) is_set get)) [
        | inl p ↦ elim (set_at old.reads.items k j epoch y (subst (λ (xs : List ℕ). slice_get xs j ≡ Some y) is_set get')) [
          | inl q ↦ p.0 ∙ sym q.0
          | inr q ↦ absurd (q.0 (sym (safe.once k j z y at q.1 (own ∙ (ap thread_of p.1 ∙ same)))))
        ]
        | inr p ↦ elim (set_at old.reads.items k j epoch y (subst (λ (xs : List ℕ). slice_get xs j ≡ Some y) is_set get')) [
          | inl q ↦ absurd (p.0 (safe.once i k x z p.1 at (same ∙ (sym (ap thread_of q.1) ∙ sym own))))
          | inr q ↦ safe.once i j x y p.1 q.1 same
        ]
      ]
  once_noted reads (first none is_more) i j x y get get' same =
      elim (more_at old.reads.items i epoch x (subst (λ (xs : List ℕ). slice_get xs i ≡ Some x) is_more get)) [
        | inl p ↦ elim (more_at old.reads.items j epoch y (subst (λ (xs : List ℕ). slice_get xs j ≡ Some y) is_more get')) [
          | inl q ↦ safe.once i j x y p q same
          | inr q ↦ absurd (none i x p (same ∙ sym (ap thread_of q.1)))
        ]
        | inr p ↦ elim (more_at old.reads.items j epoch y (subst (λ (xs : List ℕ). slice_get xs j ≡ Some y) is_more get')) [
          | inl q ↦ absurd (none j y q (sym same ∙ sym (ap thread_of p.1)))
          | inr q ↦ p.0 ∙ sym q.0
        ]
      ]

-- after the access the words stand for the longer list, where it raced with none
pub stands_after : (threads cell : ℕ) (cells : List Kept) (events : List Event) (e : Event) (thread number : ℕ) (write : Bool) (clock : List ℕ) (old new : Kept) (epoch : ℕ)
    → slice_get cells cell ≡ Some old → thread_of epoch ≡ thread → number_of epoch ≡ number → IsAfter old new epoch write → ReadsEarlier (events ++ e ∷ [])
    → StandsFor (record { threads = threads; cells = cells }) events → IsAccess events e cell thread number write clock
    → ((m : ℕ) → Races (events ++ e ∷ []) cell m (suc (length events)) → ⊥) → StandsFor (record { threads = threads; cells = slice_set cells cell new }) (events ++ e ∷ [])
stands_after threads cell cells events e thread number write clock old new epoch at of_thread of_number after reads stands next none = record {
  earlier = reads;
  quiet = still_quiet events e reads stands.quiet (λ c m race.
      let here = only_cell events e cell thread number write clock next c (new_races events e c m race) in
      none m (subst (λ (x : ℕ). Races (events ++ e ∷ []) x m (suc (length events))) here race));
  kept = λ c k get. elim (set_at cells cell c new k get) [
    | inl p ↦ subst (λ (x : ℕ). IsKept (events ++ e ∷ []) x k) (sym p.0)
        (subst (λ (y : Kept). IsKept (events ++ e ∷ []) cell y) p.1
        (kept_after events e cell thread number write clock next old new epoch of_thread of_number (stands.kept cell old at) after))
    | inr p ↦ kept_else events e c k (λ r. p.0 (only_cell events e cell thread number write clock next c (inl r)))
        (λ w. p.0 (only_cell events e cell thread number write clock next c (inr w))) (stands.kept c k p.1)
  ];
}

-- the words stay safe
pub safe_after : (threads : ℕ) (old new : Kept) (epoch : ℕ) (write : Bool) → thread_of epoch < threads → IsSafe threads old → IsAfter old new epoch write → IsSafe threads new
safe_after threads old new epoch true less safe after = let w = after.written refl in record {
  write = omega (arith, ap thread_of w.0);
  within = λ i x get. let clash : None ≡ Some x = subst (λ (xs : List ℕ). slice_get xs i ≡ Some x) w.1 get in cc;
  once = λ i j x y get get' same. let clash : None ≡ Some x = subst (λ (xs : List ℕ). slice_get xs i ≡ Some x) w.1 get in cc;
}
safe_after threads old new epoch false less safe after = let n = after.noted refl in record {
  write = subst (λ (x : ℕ). thread_of x ≤ threads - 1) (sym n.0) safe.write;
  within = within_noted threads epoch old less safe new.reads.items n.1;
  once = once_noted threads epoch old less safe new.reads.items n.1;
}
