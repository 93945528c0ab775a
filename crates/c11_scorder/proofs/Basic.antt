-- What stands at a number, and the last for which something holds.
use Rattle.std.proofs.Common.{◌≡◌, ℕ, zero, suc, ◌<◌, ◌≤◌, ◌&&◌, Bool, true, false, List, [], ◌∷◌, Option, Some, None, slice_get, slice_set, if◌then◌else◌, refl, sym, ap, ◌∙◌, subst, arith, ◌⊎◌, inl, inr}
use mathlib.Core.Logic.{dite, ◌≢◌}
use Rattle.c11_events.specs.declared.event.EventKind.{EventKind}
use Rattle.c11_events.specs.declared.event.EventKind.TheVariants.{Fence}
use Rattle.c11_events.specs.declared.event.Event.{Event}
use Rattle.c11_events.specs.Events.{At, event_at, stored_cell, is_fence}
use Rattle.c11_events.specs.HappensBefore.{ProgramOrder}
use Rattle.c11_events.proofs.Basics.{at_same}
use Rattle.c11_scorder.specs.SeqCst.{IsLast, IsOf}

-- where two things hold of an event, both hold
pub both : (events : List Event) (a : ℕ) (P Q : Event → Type 0) → At events a P → At events a Q → At events a (λ e. P e × Q e)
both events a P Q p q = record { event = p.event; is = p.is; holds = (p.holds, subst Q (at_same events a q.event p.event q.is p.is) q.holds) }

pub part : (events : List Event) (a : ℕ) (P Q : Event → Type 0) → ((e : Event) → P e → Q e) → At events a P → At events a Q
part events a P Q f p = record { event = p.event; is = p.is; holds = f p.event p.holds }

pub fence_stores_nothing : (k : EventKind) (c : ℕ) → stored_cell k ≡ Some c → is_fence k ≡ true → ⊥
fence_stores_nothing (Fence order) c s f = cc
fence_stores_nothing k c s f = cc

-- a store is no fence
pub apart : (events : List Event) (cell a f : ℕ) → At events a (λ e. stored_cell e.kind ≡ Some cell) → At events f (λ e. is_fence e.kind ≡ true) → a ≢ f
apart events cell a f s t same =
    let e = at_same events a s.event t.event s.is (subst (λ (k : ℕ). event_at events k ≡ Some t.event) (sym same) t.is) in
    fence_stores_nothing t.event.kind cell (ap (λ (x : Event). stored_cell x.kind) (sym e) ∙ s.holds) t.holds

-- what follows in program order is of the same thread
pub of_next : (events : List Event) (thread a b : ℕ) → IsOf events thread a → ProgramOrder events a b → IsOf events thread b
of_next events thread a b o p = record {
  event = p.thread.holds.event;
  is = p.thread.holds.is;
  holds = sym p.thread.holds.holds ∙ (ap (λ (x : Event). x.thread) (at_same events a p.thread.event o.event p.thread.is o.is) ∙ o.holds);
}

pub in_order : (events : List Event) (thread a b : ℕ) → IsOf events thread a → IsOf events thread b → a < b → ProgramOrder events a b
in_order events thread a b o p less = record { thread = record { event = o.event; is = o.is; holds = record { event = p.event; is = p.is; holds = o.holds ∙ sym p.holds } }; earlier = less }

pub last_of : (P : ℕ → Type 0) → ((x : ℕ) → Dec (P x)) → (n : ℕ) → ((x : ℕ) → P x → x ≤ n) → (x : ℕ) → P x → (y : ℕ) × IsLast P y
last_of P d zero bound x p = (x, record { is = p; last = λ y q. let le = bound y q in omega arith })
last_of P d (suc n) bound x p = dite (d (suc n)) (λ (is : P (suc n)). (suc n, record { is = is; last = bound }))
    (λ (none : P (suc n) → ⊥). last_of P d n (λ y q. let le = bound y q in let differ : y ≢ suc n = λ same. none (subst P same q) in omega arith) x p)

pub set_cases : {X : Type 0} (xs : List X) (p : ℕ) (v : X) (i : ℕ) (x : X) → slice_get (slice_set xs p v) i ≡ Some x → ((i ≡ p) × (v ≡ x)) ⊎ ((i ≢ p) × (slice_get xs i ≡ Some x))
set_cases {X} [] p v i x at = cc
set_cases {X} (w ∷ xs) zero v zero x at = inl (refl, let same : v ≡ x = cc in same)
set_cases {X} (w ∷ xs) zero v (suc i) x at = inr (omega arith, at)
set_cases {X} (w ∷ xs) (suc p) v zero x at = inr (omega arith, at)
set_cases {X} (w ∷ xs) (suc p) v (suc i) x at = elim (set_cases xs p v i x at) [ inl here ↦ inl (ap suc here.0, here.1) | inr there ↦ inr ((λ e. there.0 (omega arith)), there.1) ]

pub if_some : (b : Bool) (o : Option ℕ) (x : ℕ) → (if b then o else None) ≡ Some x → (b ≡ true) × (o ≡ Some x)
if_some true o x e = (refl, e)
if_some false o x e = cc

pub and_true : (b c : Bool) → (b && c) ≡ true → (b ≡ true) × (c ≡ true)
and_true true true e = (refl, refl)
and_true true false e = cc
and_true false c e = cc
