-- A further event keeps the tables those of the events.
use Rattle.std.proofs.Common.{◌≡◌, ℕ, zero, suc, ◌+◌, ◌&&◌, List, [], ◌∷◌, ◌++◌, Option, Some, None, slice_get, length, replicate, if◌then◌else◌, refl, sym, ap, ◌∙◌, subst, arith, inl, inr}
use Rattle.std.proofs.lemmas.List.{length-append, length-set}
use Rattle.c11_events.specs.declared.event.Event.{Event}
use Rattle.c11_events.specs.Events.{At}
use Rattle.c11_events.proofs.DecideEvents.{at_below}
use Rattle.c11_events.proofs.Longer.{new_is, old_or_new}
use Rattle.c11_events.proofs.Prefix.{same_more, same_less}
use Rattle.c11_latest.specs.declared.latest.Note.{Note}
use Rattle.c11_latest.specs.Notes.{Notes, note}
use Rattle.c11_latest.proofs.Places.{get_more, get_last, old_or_last}
use Rattle.c11_scorder.specs.SeqCst.{Answers}
use Rattle.c11_scorder.specs.Tables.{AreNoted, AreLast, HasRoom, AreAlike, noted_at, set_at, some_if, by_seq_cst_store, by_fence, by_thread, is_seq_cst_fence, seq_cst_cell}
use Rattle.c11_scorder.proofs.Basic.{set_cases}

pub nothing_noted : (by : Event → Option ℕ) (notes : Notes) → notes.notes ≡ [] → AreNoted by [] notes
nothing_noted by notes none cell thread x = (
  λ is. absurd (let at : slice_get [] is.0 ≡ Some (note cell thread x) = subst (λ (l : List Note). slice_get l is.0 ≡ Some (note cell thread x)) none is.1 in cc),
  λ at. absurd (no_event x at),
)
  where
    no_event : (x : ℕ) → At [] x (λ e. (by e ≡ Some cell) × (e.thread ≡ thread)) → ⊥
    no_event zero at = let clash = at.is in cc
    no_event (suc x) at = let clash = at.is in cc

module _ (by : Event → Option ℕ) (events : List Event) (e : Event) where
  abbrev Is : ℕ → ℕ → Event → Type 0
  Is cell thread f = (by f ≡ Some cell) × (f.thread ≡ thread)

  -- the event is noted where it has a cell
  noted_next : (notes : Notes) (o : Option ℕ) → by e ≡ o → AreNoted by events notes
      → AreNoted by (events ++ e ∷ []) (record notes { notes = noted_at o e.thread (suc (length events)) notes.notes })
  noted_next notes None is kept cell thread x = (
    λ noted. same_more events (e ∷ []) x (Is cell thread) ((kept cell thread x).0 noted),
    λ at. elim (old_or_new events e x (Is cell thread) at) [
      | inl old ↦ (kept cell thread x).1 (same_less events (e ∷ []) x (Is cell thread) old at)
      | inr new ↦ let clash : None ≡ Some cell = sym is ∙ new.1.0 in cc
    ],
  )
  noted_next notes (Some c) is kept cell thread x = (
    λ noted. elim (old_or_last notes.notes (note c e.thread (suc (length events))) noted.0 (note cell thread x) noted.1) [
      | inl old ↦ same_more events (e ∷ []) x (Is cell thread) ((kept cell thread x).0 (noted.0, old.1))
      | inr new ↦ subst (λ (k : ℕ). At (events ++ e ∷ []) k (Is cell thread)) (ap (λ (m : Note). m.number) new.1)
          (record { event = e; is = new_is events e; holds = (is ∙ (λ i. Some (new.1 i).cell), ap (λ (m : Note). m.thread) new.1) })
    ],
    λ at. elim (old_or_new events e x (Is cell thread) at) [
      | inl old ↦ let noted = (kept cell thread x).1 (same_less events (e ∷ []) x (Is cell thread) old at) in
          (noted.0, get_more notes.notes (note c e.thread (suc (length events))) noted.0 (note cell thread x) noted.1)
      | inr new ↦
          let cells : Some c ≡ Some cell = sym is ∙ new.1.0 in
          let same : c ≡ cell = cc in
          (length notes.notes, get_last notes.notes (note c e.thread (suc (length events))) ∙ (λ i. Some (note (same i) (new.1.1 i) (sym new.0 i))))
    ],
  )

  -- the same of what is known of the event
  pub noted_as : (notes later : Notes) (o : Option ℕ) (thread number : ℕ) → by e ≡ o → e.thread ≡ thread → number ≡ suc (length events)
      → later ≡ record notes { notes = noted_at o thread number notes.notes } → AreNoted by events notes → AreNoted by (events ++ e ∷ []) later
  noted_as notes later o thread number is same next later_is kept = subst (λ (l : Notes). AreNoted by (events ++ e ∷ []) l) (sym later_is)
      (subst (λ (p : ℕ × ℕ). AreNoted by (events ++ e ∷ []) (record notes { notes = noted_at o p.0 p.1 notes.notes })) (λ i. (same i, sym next i)) (noted_next notes o is kept))

  -- the last of another place stays
  answer_stays : (place : ℕ) (last : Option ℕ) → (by e ≡ Some place → ⊥) → Answers (λ x. At events x (λ f. by f ≡ Some place)) last
      → Answers (λ x. At (events ++ e ∷ []) x (λ f. by f ≡ Some place)) last
  answer_stays place None other none = λ x at. elim (old_or_new events e x (λ f. by f ≡ Some place) at) [
    | inl old ↦ none x (same_less events (e ∷ []) x (λ f. by f ≡ Some place) old at)
    | inr new ↦ other new.1
  ]
  answer_stays place (Some y) other is = record {
    is = same_more events (e ∷ []) y (λ f. by f ≡ Some place) is.is;
    last = λ x at. elim (old_or_new events e x (λ f. by f ≡ Some place) at) [
      | inl old ↦ is.last x (same_less events (e ∷ []) x (λ f. by f ≡ Some place) old at)
      | inr new ↦ absurd (other new.1)
    ];
  }

  last_next : (lasts : List (Option ℕ)) (o : Option ℕ) → by e ≡ o → AreLast by events lasts → AreLast by (events ++ e ∷ []) (set_at o (suc (length events)) lasts)
  last_next lasts None is kept place last at = answer_stays place last (λ new. let clash : None ≡ Some place = sym is ∙ new in cc) (kept place last at)
  last_next lasts (Some p) is kept place last at = elim (set_cases lasts p (Some (suc (length events))) place last at) [
    | inl here ↦ subst (λ (l : Option ℕ). Answers (λ x. At (events ++ e ∷ []) x (λ f. by f ≡ Some place)) l) here.1 (record {
      is = record { event = e; is = new_is events e; holds = is ∙ (λ i. Some (sym here.0 i)) };
      last = λ y t. let less = at_below (events ++ e ∷ []) y (λ f. by f ≡ Some place) t in omega (arith, less, length-append events (e ∷ []));
    })
    | inr there ↦ answer_stays place last (λ new. let both : Some p ≡ Some place = sym is ∙ new in let same : p ≡ place = cc in there.0 (sym same)) (kept place last there.1)
  ]

  pub last_as : (lasts later : List (Option ℕ)) (o : Option ℕ) (number : ℕ) → by e ≡ o → number ≡ suc (length events) → later ≡ set_at o number lasts
      → AreLast by events lasts → AreLast by (events ++ e ∷ []) later
  last_as lasts later o number is next later_is kept = subst (λ (l : List (Option ℕ)). AreLast by (events ++ e ∷ []) l) (sym (later_is ∙ (λ i. set_at o (next i) lasts))) (last_next lasts o is kept)

-- there is room for a further note, whose number is larger
pub room_next : (room noted : ℕ) (notes later : Notes) (o : Option ℕ) (thread number : ℕ) → number ≡ noted + 1 → later ≡ record notes { notes = noted_at o thread number notes.notes }
    → HasRoom room noted notes → HasRoom room number later
room_next room noted notes later None thread number next later_is h = subst (λ (l : Notes). HasRoom room number l) (sym later_is) (record {
  space = h.space;
  count = omega (arith, h.count);
  below = λ cell t y is. let le = h.below cell t y is in omega arith;
})
room_next room noted notes later (Some c) thread number next later_is h = subst (λ (l : Notes). HasRoom room number l) (sym later_is) (record {
  space = h.space;
  count = omega (arith, h.count, length-append notes.notes (note c thread number ∷ []));
  below = λ cell t y is. elim (old_or_last notes.notes (note c thread number) is.0 (note cell t y) is.1) [
    | inl old ↦ let le = h.below cell t y (is.0, old.1) in omega arith
    | inr new ↦ let same = ap (λ (m : Note). m.number) new.1 in omega (arith, same)
  ];
})

-- of alike events the same is noted
module _ (e f : Event) (alike : AreAlike e f) where
  fences : is_seq_cst_fence e.kind ≡ is_seq_cst_fence f.kind
  fences i = alike.fence i && alike.seq_cst i

  pub same_seq_cst_cell : by_seq_cst_store e ≡ seq_cst_cell f.kind
  same_seq_cst_cell i = if alike.seq_cst i then alike.stored i else None

  pub same_fence : by_fence e ≡ some_if (is_seq_cst_fence f.kind) 0
  same_fence i = some_if (fences i) 0

  pub same_thread : by_thread e ≡ some_if (is_seq_cst_fence f.kind) f.thread
  same_thread i = some_if (fences i) (alike.thread i)

pub none_last : (by : Event → Option ℕ) (lasts : List (Option ℕ)) (count : ℕ) → lasts ≡ replicate count None → AreLast by [] lasts
none_last by lasts count all place last at = subst (λ (l : Option ℕ). Answers (λ x. At [] x (λ e. by e ≡ Some place)) l)
    (sym (each count place last (subst (λ (l : List (Option ℕ)). slice_get l place ≡ Some last) all at))) no_event
  where
    each : (count place : ℕ) (last : Option ℕ) → slice_get (replicate count None) place ≡ Some last → last ≡ None
    each zero place last at = cc
    each (suc count) zero last at = let same : None ≡ last = cc in sym same
    each (suc count) (suc place) last at = each count place last at

    no_event : (x : ℕ) → At [] x (λ e. by e ≡ Some place) → ⊥
    no_event zero at = let clash = at.is in cc
    no_event (suc x) at = let clash = at.is in cc

pub length_set_at : (o : Option ℕ) (number : ℕ) (lasts : List (Option ℕ)) → length (set_at o number lasts) ≡ length lasts
length_set_at None number lasts = refl
length_set_at (Some p) number lasts = length-set lasts p (Some number)
