-- A further event keeps the facts those of the events.
use Rattle.std.proofs.Common.{◌≡◌, ℕ, zero, suc, ◌<◌, ◌≤◌, ◌+◌, List, [], ◌∷◌, ◌++◌, Option, Some, None, slice_get, length, map, max, refl, sym, ap, ◌∙◌, subst, arith, inl, inr}
use Rattle.std.proofs.lemmas.List.{length-append}
use Rattle.c11_num.specs.Ranges.{TypedNumber}
use Rattle.c11_events.specs.declared.event.Event.{Event}
use Rattle.c11_events.specs.declared.event.EventKind.{EventKind}
use Rattle.c11_events.specs.declared.event.EventKind.TheVariants.{Rmw}
use Rattle.c11_events.specs.Events.{At, IsStore, event_at, ReadsEarlier, stored_cell, loaded_cell, is_seq_cst}
use Rattle.c11_events.specs.Values.{written, value_of}
use Rattle.c11_events.proofs.Longer.{new_is, old_or_new}
use Rattle.c11_events.proofs.Prefix.{event_more, same_more, same_less, store_less, reads_less}
use Rattle.c11_events.proofs.Valued.{value_by_read}
use Rattle.c11_happens.proofs.Answering.{event_of}
use Rattle.c11_happens.specs.Trace.{Trace, textless}
use Rattle.c11_latest.specs.declared.latest.Note.{Note}
use Rattle.c11_latest.specs.Notes.{Notes, note}
use Rattle.c11_latest.proofs.Places.{get_more, get_last, old_or_last}
use Rattle.c11_scorder.specs.Tables as tables
use Rattle.c11_scorder.specs.Tables.{AreNoted, AreSame, AreAlike, HasRoom, noted_at, by_store}
use Rattle.c11_mayread.specs.declared.kept.Kept.{Kept}
use Rattle.c11_mayread.specs.Facts.{Facts, IsPastOf, AreRoomy, kept_of, by_load}

pub no_event : (x : ℕ) (P : Event → Type 0) → At [] x P → ⊥
no_event zero P at = let clash = at.is in cc
no_event (suc x) P at = let clash = at.is in cc

pub nothing_noted : (by : Event → Option ℕ) (notes : Notes) → notes.notes ≡ [] → AreNoted by [] notes
nothing_noted by notes none cell thread x = (
  λ is. absurd (let at : slice_get [] is.0 ≡ Some (note cell thread x) = subst (λ (l : List Note). slice_get l is.0 ≡ Some (note cell thread x)) none is.1 in cc),
  λ at. absurd (no_event x (λ e. (by e ≡ Some cell) × (e.thread ≡ thread)) at),
)

module _ (by : Event → Option ℕ) (events : List Event) (e : Event) where
  abbrev Is : ℕ → ℕ → Event → Type 0
  Is cell thread f = (by f ≡ Some cell) × (f.thread ≡ thread)

  -- the event is noted where it has a cell
  noted_next : (notes : Notes) (o : Option ℕ) → by e ≡ o → AreNoted by events notes
      → AreNoted by (events ++ e ∷ []) (record notes { notes = noted_at o e.thread (suc (length events)) notes.notes })
  noted_next notes None is kept cell thread x = (
    λ noted. same_more events (e ∷ []) x (Is cell thread) ((kept cell thread x).0 noted),
    λ at. elim (old_or_new events e x (Is cell thread) at) [
      | inl old ↦ (kept cell thread x).1 (same_less events (e ∷ []) x (Is cell thread) old at)
      | inr new ↦ let clash : None ≡ Some cell = sym is ∙ new.1.0 in cc
    ],
  )
  noted_next notes (Some c) is kept cell thread x = (
    λ noted. elim (old_or_last notes.notes (note c e.thread (suc (length events))) noted.0 (note cell thread x) noted.1) [
      | inl old ↦ same_more events (e ∷ []) x (Is cell thread) ((kept cell thread x).0 (noted.0, old.1))
      | inr new ↦ subst (λ (k : ℕ). At (events ++ e ∷ []) k (Is cell thread)) (ap (λ (m : Note). m.number) new.1)
          (record { event = e; is = new_is events e; holds = (is ∙ (λ i. Some (new.1 i).cell), ap (λ (m : Note). m.thread) new.1) })
    ],
    λ at. elim (old_or_new events e x (Is cell thread) at) [
      | inl old ↦ let noted = (kept cell thread x).1 (same_less events (e ∷ []) x (Is cell thread) old at) in
          (noted.0, get_more notes.notes (note c e.thread (suc (length events))) noted.0 (note cell thread x) noted.1)
      | inr new ↦
          let cells : Some c ≡ Some cell = sym is ∙ new.1.0 in
          let same : c ≡ cell = cc in
          (length notes.notes, get_last notes.notes (note c e.thread (suc (length events))) ∙ (λ i. Some (note (same i) (new.1.1 i) (sym new.0 i))))
    ],
  )

  pub noted_as : (notes later : Notes) (number : ℕ) → number ≡ suc (length events) → later ≡ record notes { notes = noted_at (by e) e.thread number notes.notes }
      → AreNoted by events notes → AreNoted by (events ++ e ∷ []) later
  noted_as notes later number next later_is kept = subst (λ (l : Notes). AreNoted by (events ++ e ∷ []) l) (sym later_is)
      (subst (λ (n : ℕ). AreNoted by (events ++ e ∷ []) (record notes { notes = noted_at (by e) e.thread n notes.notes })) (sym next) (noted_next notes (by e) refl kept))

-- there is room for a further note, whose number is larger
pub room_next : (room noted : ℕ) (notes later : Notes) (o : Option ℕ) (thread number : ℕ) → number ≡ noted + 1 → later ≡ record notes { notes = noted_at o thread number notes.notes }
    → HasRoom room noted notes → HasRoom room number later
room_next room noted notes later None thread number next later_is h = subst (λ (l : Notes). HasRoom room number l) (sym later_is) (record {
  space = h.space;
  count = omega (arith, h.count);
  below = λ cell t y is. let le = h.below cell t y is in omega arith;
})
room_next room noted notes later (Some c) thread number next later_is h = subst (λ (l : Notes). HasRoom room number l) (sym later_is) (record {
  space = h.space;
  count = omega (arith, h.count, length-append notes.notes (note c thread number ∷ []));
  below = λ cell t y is. elim (old_or_last notes.notes (note c thread number) is.0 (note cell t y) is.1) [
    | inl old ↦ let le = h.below cell t y (is.0, old.1) in omega arith
    | inr new ↦ let same = ap (λ (m : Note). m.number) new.1 in omega (arith, same)
  ];
})

pub no_room_taken : (room : ℕ) (notes : Notes) → notes ≡ record { room = room; notes = [] } → HasRoom room 0 notes
no_room_taken room notes is = subst (λ (n : Notes). HasRoom room 0 n) (sym is) (record { space = refl; count = omega arith; below = λ cell thread y noted. let at = noted.1 in cc })

-- the value of a store

written_same : (kind : EventKind) (v w : TypedNumber) → ((cell : ℕ) → loaded_cell kind ≡ Some cell → v ≡ w) → written kind v ≡ written kind w
written_same (Rmw cell order kind operand) v w same = ap (written (Rmw cell order kind operand)) (same cell refl)
written_same _ v w same = refl

module _ (events more : List Event) (reads : ReadsEarlier (events ++ more)) where
  value_below : (n x : ℕ) → x < n → x ≤ length events → value_of (events ++ more) x ≡ value_of events x
  value_below zero x lt le = absurd (omega arith)
  value_below (suc n) zero lt le = refl
  value_below (suc n) (suc place) lt le =
      let t = event_of events place (omega arith) in
      let at = event_more events more (suc place) t.0 t.1 in
      value_by_read (events ++ more) (suc place) t.0 reads at
      ∙ (written_same t.0.kind (value_of (events ++ more) t.0.from) (value_of events t.0.from)
      (λ cell loads. let r = (reads cell (suc place) t.0.from (record { event = t.0; is = at; holds = (loads, refl) })).1 in value_below n t.0.from (omega arith) (omega arith))
      ∙ sym (value_by_read events (suc place) t.0 (reads_less events more reads) t.1))

  pub value_more : (x : ℕ) → x ≤ length events → value_of (events ++ more) x ≡ value_of events x
  value_more x le = value_below (suc x) x (omega arith) le

pub value_new : (events : List Event) (e : Event) (v : TypedNumber) → ReadsEarlier (events ++ e ∷ []) → (e.from ≤ length events → v ≡ value_of events e.from)
    → written e.kind v ≡ value_of (events ++ e ∷ []) (suc (length events))
value_new events e v reads is =
    written_same e.kind v (value_of (events ++ e ∷ []) e.from)
    (λ cell loads. let lt = (reads cell (suc (length events)) e.from (record { event = e; is = new_is events e; holds = (loads, refl) })).1 in
    is (omega arith) ∙ sym (value_more events (e ∷ []) reads e.from (omega arith)))
    ∙ sym (value_by_read (events ++ e ∷ []) (suc (length events)) e reads (new_is events e))

pub map_last : (events : List Event) (e : Event) → map textless (events ++ e ∷ []) ≡ map textless events ++ textless e ∷ []
map_last [] e = refl
map_last (f ∷ events) e = ap (λ (l : List Event). textless f ∷ l) (map_last events e)

-- how the facts change with an event, where v is the value that it reads
pub record IsNotedIn (old new : Facts) (e : Event) (v : TypedNumber) : Type 0 where
  pub threads : new.threads ≡ old.threads
  pub top : new.top ≡ max old.top (e.thread + 1)
  pub happens : new.happens ≡ record old.happens { events = old.happens.events ++ textless e ∷ [] }
  pub order : (events : List Event) → tables.StandsFor old.order events → tables.StandsFor new.order (events ++ e ∷ [])
  pub same : AreSame old.order new.order
  pub stores : new.stores ≡ record old.stores { notes = noted_at (stored_cell e.kind) e.thread e.number old.stores.notes }
  pub loads : new.loads ≡ record old.loads { notes = noted_at (loaded_cell e.kind) e.thread e.number old.loads.notes }
  pub kept : new.kept ≡ old.kept ++ record { from = e.from; seq_cst = is_seq_cst e.kind; value = written e.kind v } ∷ []
  pub value : (events : List Event) → IsPastOf old events → e.from ≤ length events → v ≡ value_of events e.from

module _ (old new : Facts) (e : Event) (v : TypedNumber) (n : IsNotedIn old new e v) where
  pub still_past : (events : List Event) → IsPastOf old events → e.number ≡ suc (length events) → ReadsEarlier (events ++ e ∷ []) → IsPastOf new (events ++ e ∷ [])
  still_past events past number reads = record {
    happens = ap (λ (t : Trace). t.events) n.happens ∙ (ap (λ (l : List Event). l ++ textless e ∷ []) past.happens ∙ sym (map_last events e));
    order = n.order events past.order;
    stores = noted_as by_store events e old.stores new.stores e.number number n.stores past.stores;
    loads = noted_as by_load events e old.loads new.loads e.number number n.loads past.loads;
    count = ap (λ (l : List Kept). length l) n.kept ∙ (length-append old.kept _ ∙ (ap (λ (k : ℕ). k + 1) past.count ∙ sym (length-append events (e ∷ []))));
    kept = λ place f at. subst (λ (l : List Kept). slice_get l place ≡ Some (kept_of (events ++ e ∷ []) (suc place) f)) (sym n.kept) (elim (old_or_last events e place f at) [
      | inl here ↦ get_more old.kept (record { from = e.from; seq_cst = is_seq_cst e.kind; value = written e.kind v }) place (kept_of (events ++ e ∷ []) (suc place) f)
          (past.kept place f here.1 ∙ ap (λ (w : TypedNumber). Some (record { from = f.from; seq_cst = is_seq_cst f.kind; value = w })) (sym (value_more events (e ∷ []) reads (suc place) (let lt = here.0 in omega arith))))
      | inr last ↦ ap (λ (p : ℕ). slice_get (old.kept ++ record { from = e.from; seq_cst = is_seq_cst e.kind; value = written e.kind v } ∷ []) p) (last.0 ∙ sym past.count)
          ∙ (get_last old.kept _ ∙ (λ i. Some (record { from = (last.1 i).from; seq_cst = is_seq_cst (last.1 i).kind; value = (new_value ∙ ap (λ (p : ℕ). value_of (events ++ e ∷ []) (suc p)) (sym last.0)) i })))
    ]);
    reads = reads;
    within = λ a f at. elim (old_or_new events e a (λ g. g ≡ f) (record { event = f; is = at; holds = refl })) [
      | inl le ↦ (let t = same_less events (e ∷ []) a (λ g. g ≡ f) le (record { event = f; is = at; holds = refl }) in
          let lt = past.within a f (t.is ∙ ap (λ (g : Event). Some g) t.holds) in omega (arith, n.top))
      | inr p ↦ (let same = ap (λ (g : Event). g.thread) p.1 in omega (arith, n.top))
    ];
    least = λ bound all.
        let before = past.least bound (λ a f at. all a f (event_more events (e ∷ []) a f at)) in
        let last = all (suc (length events)) e (new_is events e) in
        omega (arith, n.top);
  }
    where
      new_value : written e.kind v ≡ value_of (events ++ e ∷ []) (suc (length events))
      new_value = value_new events e v reads (n.value events past)

  pub still_roomy : AreRoomy old (length old.kept) → e.thread < old.threads → e.number ≡ length old.kept + 1 → length old.kept < old.happens.room → AreRoomy new (length new.kept)
  still_roomy r thread number space =
      let count : length new.kept ≡ e.number = ap (λ (l : List Kept). length l) n.kept ∙ (length-append old.kept _ ∙ sym number) in
      let room : new.happens.room ≡ old.happens.room = ap (λ (t : Trace). t.room) n.happens in
      record {
        threads = ap (λ (t : Trace). t.threads) n.happens ∙ (r.threads ∙ sym n.threads);
        top = omega (arith, r.top, n.top, n.threads);
        order_threads = n.same.threads ∙ (r.order_threads ∙ sym n.threads);
        order_room = n.same.room ∙ (r.order_room ∙ sym room);
        stores = subst (λ (p : ℕ × ℕ). HasRoom p.0 p.1 new.stores) (λ i. (sym room i, sym count i)) (room_next old.happens.room (length old.kept) old.stores new.stores (stored_cell e.kind) e.thread e.number number n.stores r.stores);
        loads = subst (λ (p : ℕ × ℕ). HasRoom p.0 p.1 new.loads) (λ i. (sym room i, sym count i)) (room_next old.happens.room (length old.kept) old.loads new.loads (loaded_cell e.kind) e.thread e.number number n.loads r.loads);
        within = omega (arith, count, room, number);
      }

pub no_reads : ReadsEarlier []
no_reads cell l x load = absurd (no_event l (λ e. (loaded_cell e.kind ≡ Some cell) × (e.from ≡ x)) load)

pub none_within : (top a : ℕ) (e : Event) → event_at [] a ≡ Some e → e.thread < top
none_within top a e at = absurd (no_event a (λ f. f ≡ e) (record { event = e; is = at; holds = refl }))

pub read_store : (events : List Event) (e : Event) (cell : ℕ) → ReadsEarlier (events ++ e ∷ []) → loaded_cell e.kind ≡ Some cell → IsStore events cell e.from
read_store events e cell reads loads =
    let r = reads cell (suc (length events)) e.from (record { event = e; is = new_is events e; holds = (loads, refl) }) in
    store_less events (e ∷ []) cell e.from (omega (arith, r.1)) r.0
