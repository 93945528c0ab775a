-- A table in two parts, of which the front is read and the first clock of the rest is changed.
use Rattle.std.proofs.Common.{◌≡◌, ℕ, ◌<◌, Bool, true, false, ◌&&◌, List, [], ◌∷◌, ◌++◌, Option, Some, None, length, slice_set, refl, sym, ap, ◌∙◌, arith}
use Rattle.std.proofs.lemmas.List.{get_or_append_left}
use Rattle.c11_clock.specs.Clocks.{joined}
use Rattle.c11_events.specs.declared.event.Event.{Event}
use Rattle.c11_events.specs.Events.{is_release_store}
use Rattle.c11_happens.specs.declared.mutexes.MutexState.{MutexState}
use Rattle.c11_happens.specs.Noting.{row, joined_if, is_store, is_load, by_stored, by_unlocked}

joined_if_same : (b : Bool) (clock other other' : List ℕ) → (b ≡ true → other ≡ other') → joined_if b clock other ≡ joined_if b clock other'
joined_if_same true clock other other' same = ap (λ (o : List ℕ). joined clock o) (same refl)
joined_if_same false clock other other' same = refl

and_right : (a b : Bool) → (a && b) ≡ true → b ≡ true
and_right true b is = is
and_right false b is = cc

set_behind : (front back : List (List ℕ)) (y : List ℕ) → slice_set (front ++ back) (length front) y ≡ front ++ slice_set back 0 y
set_behind [] back y = refl
set_behind (x ∷ front) back y = ap (λ (l : List (List ℕ)). x ∷ l) (set_behind front back y)

row_behind : (front back : List (List ℕ)) → row (front ++ back) (length front) ≡ row back 0
row_behind [] back = refl
row_behind (x ∷ front) back = row_behind front back

by_stored_same : (e : Event) (passed passed' fenced : List (List ℕ)) (own clock : List ℕ) → (is_load e ≡ true → row passed e.from ≡ row passed' e.from) → by_stored e passed fenced own clock ≡ by_stored e passed' fenced own clock
by_stored_same e passed passed' fenced own clock same =
    joined_if_same (is_store e && is_load e) (joined_if (is_release_store e.kind) (joined_if (is_store e) clock (row fenced e.thread)) own) (row passed e.from) (row passed' e.from)
    (λ both. same (and_right (is_store e) (is_load e) both))

by_unlocked_same : (o : Option ℕ) (mutexes : ℕ → MutexState) (passed passed' : List (List ℕ)) (own clock : List ℕ) → ((mutex : ℕ) → row passed (mutexes mutex).last_unlock ≡ row passed' (mutexes mutex).last_unlock)
    → by_unlocked o mutexes passed own clock ≡ by_unlocked o mutexes passed' own clock
by_unlocked_same None mutexes passed passed' own clock same = refl
by_unlocked_same (Some mutex) mutexes passed passed' own clock same = ap (λ (o : List ℕ). joined (joined clock own) o) (same mutex)

-- what is handed on by the front is what is handed on by the whole table
pub handed_in_place : (o : Option ℕ) (mutexes : ℕ → MutexState) (e : Event) (passed front back fenced : List (List ℕ)) (own first : List ℕ) → passed ≡ front ++ back → length front ≡ e.number → first ≡ row back 0
    → (is_load e ≡ true → e.from < e.number) → ((mutex : ℕ) → (mutexes mutex).last_unlock < e.number)
    → front ++ slice_set back 0 (by_unlocked o mutexes front own (by_stored e front fenced own first)) ≡ slice_set passed e.number (by_unlocked o mutexes passed own (by_stored e passed fenced own (row passed e.number)))
handed_in_place o mutexes e passed front back fenced own first whole size is load unlocks =
    rw (whole, ← size, is) (sym (set_behind front back _)
    ∙ ap (λ (y : List ℕ). slice_set (front ++ back) (length front) y)
    (by_unlocked_same o mutexes front (front ++ back) own (by_stored e front fenced own (row back 0)) (λ mutex. sym (get_or_append_left front back [] (mutexes mutex).last_unlock (omega (arith, unlocks mutex))))
    ∙ ap (λ (y : List ℕ). by_unlocked o mutexes (front ++ back) own y)
    (by_stored_same e front (front ++ back) fenced own (row back 0) (λ reads. sym (get_or_append_left front back [] e.from (omega (arith, load reads))))
    ∙ ap (λ (y : List ℕ). by_stored e (front ++ back) fenced own y) (sym (row_behind front back)))))
