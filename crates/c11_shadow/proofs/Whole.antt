-- From the words of one cell to those of all.
use Rattle.std.proofs.Common.{◌≡◌, ℕ, ◌≤◌, ◌<◌, ◌-◌, Bool, List, [], ◌∷◌, ◌++◌, Some, None, Option, length, slice_get, slice_set, vec_len, vec_capacity, sym, ap, ◌∙◌, subst, refl, arith, inl, inr}
use Rattle.std.proofs.lemmas.Option.{slice_get_read}
use Rattle.std.proofs.lemmas.List.{length-set}
use native.Mathlib.Decide.{dec_lt}
use mathlib.Core.Logic.{dite}
use lib.ListN.{get_or}
use Rattle.c11_events.specs.declared.event.Event.{Event}
use Rattle.c11_events.specs.Events.{At, event_at, read_cell, written_cell}
use Rattle.c11_events.specs.Races.{IsWrite, Races, IsRacing}
use Rattle.c11_shadow.specs.declared.cell.Kept.{Kept}
use Rattle.c11_shadow.specs.Epochs.{thread_of, number_of}
use Rattle.c11_shadow.specs.Kept.{IsSafe, IsAfter, IsLatest}
use Rattle.c11_shadow.specs.Words.{Words, AreSafe, HasRoom, AreSame, IsKept, IsAccess, StandsFor, Answers}
use Rattle.c11_shadow.proofs.Answered.{number_is, reads, none_races, latest_races}
use Rattle.c11_shadow.proofs.Noted.{stands_after}
use Rattle.c11_shadow.proofs.Places.{set_at}
use Rattle.c11_shadow.proofs.Rooms.{leaves_room}

module _ (threads cell : ℕ) (cells : List Kept) (words : Words) (kept : Kept) (view : record { threads = threads; cells = cells } ≡ words)
    (inside : cell < length words.cells) (is : kept ≡ get_or cells cell kept) where
  pub at : slice_get cells cell ≡ Some kept
  at = slice_get_read cells (length cells) cell kept refl (omega (arith, ap (λ (w : Words). length w.cells) view)) is

  abbrev pub same_threads : threads ≡ words.threads
  same_threads = ap (λ (w : Words). w.threads) view

  pub read_within : (thread count : ℕ) → AreSafe threads cells → thread < words.threads → count ≡ words.threads → (i e : ℕ) → slice_get kept.reads.items i ≡ Some e → thread_of e < count
  read_within thread count safe less all i e get = omega (arith, (safe cell kept at).within i e get, same_threads)

  pub write_within : (thread count : ℕ) → AreSafe threads cells → thread < words.threads → count ≡ words.threads → thread_of kept.write < count
  write_within thread count safe less all = omega (arith, (safe cell kept at).write, same_threads)

  pub finds_room : (thread epoch : ℕ) → AreSafe threads cells → thread < words.threads → thread_of epoch ≡ thread → HasRoom words cell
      → ((i e : ℕ) → slice_get kept.reads.items i ≡ Some e → thread_of e ≡ thread_of epoch → ⊥) → vec_len kept.reads < vec_capacity kept.reads
  finds_room thread epoch safe less own room none =
      let few = leaves_room threads thread kept (safe cell kept at) (omega (arith, same_threads)) (λ i e get same. none i e get (same ∙ sym own)) in
      let room_here = room kept (subst (λ (w : Words). slice_get w.cells cell ≡ Some kept) view at) in
      omega (arith, few, room_here, same_threads, kept.reads.ok.0)

  -- a changed cell is as safe, and the others are as they were
  pub still_safe : (new : Kept) → AreSafe threads cells → (IsSafe threads kept → IsSafe threads new) → AreSafe threads (slice_set cells cell new)
  still_safe new safe change other k get = elim (set_at cells cell other new k get) [
    | inl p ↦ subst (λ (x : Kept). IsSafe threads x) p.1 (change (safe cell kept at))
    | inr p ↦ safe other k p.1
  ]

  pub still_room : (new : Kept) → vec_capacity kept.reads ≤ vec_capacity new.reads → (other : ℕ) → HasRoom words other
      → (k : Kept) → slice_get (slice_set cells cell new) other ≡ Some k → threads ≤ vec_capacity k.reads
  still_room new more other room k get = elim (set_at cells cell other new k get) [
    | inl p ↦ let here = room kept (subst (λ (w : Words). slice_get w.cells other ≡ Some kept) view (subst (λ (c : ℕ). slice_get cells c ≡ Some kept) (sym p.0) at)) in
        let same = ap (λ (x : Kept). vec_capacity x.reads) p.1 in omega (arith, here, same_threads)
    | inr p ↦ omega (arith, room k (subst (λ (w : Words). slice_get w.cells other ≡ Some k) view p.1), same_threads)
  ]

  module _ (thread number latest : ℕ) (write : Bool) (clock : List ℕ) (answer : Option ℕ)
      (is_latest : IsLatest kept write thread clock latest) (no_answer : latest ≡ 0 → answer ≡ None) (some_answer : 0 < latest → answer ≡ Some latest)
      (events : List Event) (e : Event) (stands : StandsFor words events) (next : IsAccess events e cell thread number write clock) where
    abbrev here : IsKept events cell kept
    here = stands.kept cell kept (subst (λ (w : Words). slice_get w.cells cell ≡ Some kept) view at)

    none : latest ≡ 0 → (m : ℕ) → Races (events ++ e ∷ []) cell m number → ⊥
    none zero' m race = none_races events e cell thread number write clock kept stands.earlier stands.quiet here next latest is_latest zero' m
        (subst (λ (n : ℕ). Races (events ++ e ∷ []) cell m n) (number_is events e cell thread number write clock kept stands.earlier stands.quiet here next) race)

    pub answers : Answers (events ++ e ∷ []) cell number answer
    answers = dite (dec_lt 0 latest)
        (λ (some : 0 < latest). subst (λ (a : Option ℕ). Answers (events ++ e ∷ []) cell number a) (sym (some_answer some))
        (subst (λ (n : ℕ). IsRacing (events ++ e ∷ []) cell n latest) (sym (number_is events e cell thread number write clock kept stands.earlier stands.quiet here next))
        (latest_races events e cell thread number write clock kept stands.earlier stands.quiet here next latest is_latest some)))
        (λ (no' : 0 < latest → ⊥). subst (λ (a : Option ℕ). Answers (events ++ e ∷ []) cell number a) (sym (no_answer (omega arith))) (none (omega arith)))

    pub stands_on : (epoch : ℕ) (new : Kept) → thread_of epoch ≡ thread → number_of epoch ≡ number → IsAfter kept new epoch write → answer ≡ None
        → StandsFor (record { threads = threads; cells = slice_set cells cell new }) (events ++ e ∷ [])
    stands_on epoch new of_thread of_number after no_race =
        let quiet : latest ≡ 0 = dite (dec_lt 0 latest) (λ (some : 0 < latest). let clash : Some latest ≡ None = sym (some_answer some) ∙ no_race in cc) (λ (no' : 0 < latest → ⊥). omega arith) in
        stands_after threads cell cells events e thread number write clock kept new epoch at of_thread of_number after
        (reads events e cell thread number write clock kept stands.earlier stands.quiet here next)
        (subst (λ (w : Words). StandsFor w events) (sym view) stands) next
        (λ m race. none quiet m (subst (λ (n : ℕ). Races (events ++ e ∷ []) cell m n) (sym (number_is events e cell thread number write clock kept stands.earlier stands.quiet here next)) race))

  -- room alone changes nothing that is kept
  module _ (new : Kept) (write : new.write ≡ kept.write) (items : new.reads.items ≡ kept.reads.items) where
    pub safe_same : IsSafe threads kept → IsSafe threads new
    safe_same safe = record {
      write = subst (λ (x : ℕ). thread_of x ≤ threads - 1) (sym write) safe.write;
      within = subst (λ (xs : List ℕ). (i e : ℕ) → slice_get xs i ≡ Some e → thread_of e ≤ threads - 1) (sym items) safe.within;
      once = subst (λ (xs : List ℕ). (i j e f : ℕ) → slice_get xs i ≡ Some e → slice_get xs j ≡ Some f → thread_of e ≡ thread_of f → i ≡ j) (sym items) safe.once;
    }

    kept_same : (events : List Event) (c : ℕ) → IsKept events c kept → IsKept events c new
    kept_same events c k = record {
      write = subst (λ (x : ℕ). 0 < number_of x → At events (number_of x) (λ e. (e.thread ≡ thread_of x) × (written_cell e.kind ≡ Some c))) (sym write) k.write;
      last = subst (λ (x : ℕ). (a : ℕ) → IsWrite events c a → a ≤ number_of x) (sym write) k.last;
      reads = subst (λ (xs : List ℕ). (i r : ℕ) → slice_get xs i ≡ Some r → At events (number_of r) (λ e. (e.thread ≡ thread_of r) × (read_cell e.kind ≡ Some c))) (sym items) k.reads;
      since = subst (λ (p : ℕ × List ℕ). (a : ℕ) (e : Event) → event_at events a ≡ Some e → read_cell e.kind ≡ Some c → number_of p.0 < a
          → (i : ℕ) × (r : ℕ) × (slice_get p.1 i ≡ Some r) × (e.thread ≡ thread_of r) × (a ≤ number_of r)) (λ i. (sym write i, sym items i)) k.since;
    }

    pub same_words : AreSame words (record { threads = threads; cells = slice_set cells cell new })
    same_words = record {
      threads = same_threads;
      count = length-set cells cell new ∙ ap (λ (w : Words). length w.cells) view;
      each = λ c a b get get'.
          let before : slice_get cells c ≡ Some a = subst (λ (w : Words). slice_get w.cells c ≡ Some a) (sym view) get in
          elim (set_at cells cell c new b get') [
            | inl p ↦ let both : Some kept ≡ Some a = sym at ∙ (ap (λ (x : ℕ). slice_get cells x) (sym p.0) ∙ before) in let same : kept ≡ a = cc in
                (ap (λ (k : Kept). k.write) (sym p.1) ∙ (write ∙ ap (λ (k : Kept). k.write) same), ap (λ (k : Kept). k.reads.items) (sym p.1) ∙ (items ∙ ap (λ (k : Kept). k.reads.items) same))
            | inr p ↦ let both : Some b ≡ Some a = sym p.1 ∙ before in let same : b ≡ a = cc in (ap (λ (k : Kept). k.write) same, ap (λ (k : Kept). k.reads.items) same)
          ];
    }

    pub stands_same : (events : List Event) → StandsFor words events → StandsFor (record { threads = threads; cells = slice_set cells cell new }) events
    stands_same events stands = record {
      earlier = stands.earlier;
      quiet = stands.quiet;
      kept = λ c k get. elim (set_at cells cell c new k get) [
        | inl p ↦ subst (λ (x : Kept). IsKept events c x) p.1 (kept_same events c (stands.kept c kept (subst (λ (w : Words). slice_get w.cells c ≡ Some kept) view (subst (λ (x : ℕ). slice_get cells x ≡ Some kept) (sym p.0) at))))
        | inr p ↦ stands.kept c k (subst (λ (w : Words). slice_get w.cells c ≡ Some k) view p.1)
      ];
    }
