-- Which threads have ended.
use Rattle.std.proofs.Common.{◌≡◌, ℕ, zero, suc, ◌<◌, ◌≤◌, Bool, true, false, ◌&&◌, ◌||◌, List, [], ◌∷◌, Some, None, slice_get, take, nat_eq, refl, sym, ap, ◌∙◌, arith}
use Rattle.std.proofs.lemmas.Bool.Decides.{nat_tests}
use Rattle.c11_events.specs.declared.event.Event.{Event}
use Rattle.c11_events.specs.Events.{At, is_end}
use Rattle.c11_events.specs.Threads.{has_ended}

-- the event is the End of the thread
Ends : Event → ℕ → Type 0
Ends e u = (e.thread ≡ u) × (is_end e.kind ≡ true)

end_tests : (e : Event) (u : ℕ) → e.thread ≡ u → is_end e.kind ≡ true → (nat_eq e.thread u && is_end e.kind) ≡ true
end_tests e u same is = grind (arith, nat_tests)

ended_at : (events : List Event) (n u place : ℕ) (e : Event) → place < n → slice_get events place ≡ Some e → e.thread ≡ u → is_end e.kind ≡ true → has_ended (take n events) u ≡ true
ended_at [] n u place e lt at same is = cc
ended_at (f ∷ events) zero u place e lt at same is = absurd (omega arith)
ended_at (f ∷ events) (suc n) u zero e lt at same is =
    let here : f ≡ e = cc in ap (λ (g : Event). (nat_eq g.thread u && is_end g.kind) || has_ended (take n events) u) here ∙ ap (λ (b : Bool). b || has_ended (take n events) u) (end_tests e u same is)
ended_at (f ∷ events) (suc n) u (suc place) e lt at same is = or_true _ _ (ended_at events n u place e (omega arith) at same is)
  where
    or_true : (a b : Bool) → b ≡ true → (a || b) ≡ true
    or_true true b is = refl
    or_true false b is = is

-- a thread that has not ended has no End
pub not_ended : (events : List Event) (n u : ℕ) → has_ended (take n events) u ≡ false → (a : ℕ) → a ≤ n → At events a (λ e. (e.thread ≡ u) × (is_end e.kind ≡ true)) → ⊥
not_ended events n u going zero le t = let none : None ≡ Some t.event = t.is in cc
not_ended events n u going (suc place) le t = let both : true ≡ false = sym (ended_at events n u place t.event (omega arith) t.is t.holds.0 t.holds.1) ∙ going in cc

-- a thread with no End has not ended
pub is_going : (events : List Event) (u : ℕ) → ((a : ℕ) → At events a (λ e. (e.thread ≡ u) × (is_end e.kind ≡ true)) → ⊥) → has_ended events u ≡ false
is_going [] u none = refl
is_going (f ∷ events) u none = or_false _ _ (not_end (nat_eq f.thread u && is_end f.kind) refl) (is_going events u (λ a t. later a t))
  where
    or_false : (a b : Bool) → a ≡ false → b ≡ false → (a || b) ≡ false
    or_false true b is is' = is
    or_false false b is is' = is'

    tests_end : (nat_eq f.thread u && is_end f.kind) ≡ true → (f.thread ≡ u) × (is_end f.kind ≡ true)
    tests_end is = (grind (arith, nat_tests), grind (arith, nat_tests))

    not_end : (b : Bool) → (nat_eq f.thread u && is_end f.kind) ≡ b → (nat_eq f.thread u && is_end f.kind) ≡ false
    not_end true is = absurd (none 1 (record { event = f; is = refl; holds = tests_end is }))
    not_end false is = is

    later : (a : ℕ) → At events a (λ e. (e.thread ≡ u) × (is_end e.kind ≡ true)) → ⊥
    later zero t = let empty : None ≡ Some t.event = t.is in cc
    later (suc place) t = none (suc (suc place)) (record { event = t.event; is = t.is; holds = t.holds })
