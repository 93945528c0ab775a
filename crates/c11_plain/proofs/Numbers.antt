-- Tests of the event with a number.
use Rattle.std.proofs.Common.{◌≡◌, ℕ, List, Some, None, Bool, true, false, IsTrue, ◌↔◌, sym, ◌∙◌, subst, ◌<◌, take}
use Rattle.c11_events.specs.declared.event.Event.{Event}
use Rattle.c11_events.specs.Events.{At, event_at, is_create, stored_cell, IsStore, IsLoad, IsRmw}
use Rattle.c11_events.specs.Threads.{created}
use Rattle.c11_events.specs.HappensBefore.{CreateBeforeFirst}
use Rattle.c11_plain.specs.Parts.{IsFirst}
use Rattle.c11_events.proofs.Basics.{at_same}

-- the test of the event that is there
pub at_there : (events : List Event) (a : ℕ) (P : Event → Type 0) (e : Event) (b : Bool) → Some e ≡ event_at events a → (IsTrue b ↔ P e) → IsTrue b ↔ At events a P
at_there events a P e b is test = (
  λ t. record { event = e; is = sym is; holds = test.0 t },
  λ t. test.1 (subst P (at_same events a t.event e t.is (sym is)) t.holds),
)

pub at_none : (events : List Event) (a : ℕ) (P : Event → Type 0) → None ≡ event_at events a → IsTrue false ↔ At events a P
at_none events a P is = (λ t. absurd (cc), λ t. let e : None ≡ Some t.event = is ∙ t.is in absurd (cc))

pub create_first : (events : List Event) (a b u : ℕ) → At events a (λ e. is_create e.kind ≡ true) → a < b → u ≡ created (take a events) → IsFirst events u b → CreateBeforeFirst events a b
create_first events a b u create lt same f = record {
  create = create;
  thread = subst (λ (z : ℕ). At events b (λ e. e.thread ≡ z)) same f.own;
  first = subst (λ (z : ℕ). (c : ℕ) → c < b → At events c (λ e. e.thread ≡ z) → ⊥) same f.first;
  earlier = lt;
}

pub first_created : (events : List Event) (a b u : ℕ) → u ≡ created (take a events) → CreateBeforeFirst events a b → IsFirst events u b
first_created events a b u same k = record {
  own = subst (λ (z : ℕ). At events b (λ e. e.thread ≡ z)) (sym same) k.thread;
  first = subst (λ (z : ℕ). (c : ℕ) → c < b → At events c (λ e. e.thread ≡ z) → ⊥) (sym same) k.first;
}

pub apart : {b : Bool} → b ≡ false → b ≡ true → ⊥
apart wrong right = cc

-- a store that is a load is a read-modify-write
pub rmw_of : (events : List Event) (cell b x : ℕ) → IsStore events cell b → IsLoad events cell b x → IsRmw events cell b x
rmw_of events cell b x s l =
    let same = at_same events b s.event l.event s.is l.is in
    record { event = l.event; is = l.is; holds = (subst (λ (e : Event). stored_cell e.kind ≡ Some cell) same s.holds, l.holds.0, l.holds.1) }
