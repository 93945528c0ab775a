-- Threads that wait.
use Rattle.std.proofs.Common.{◌≡◌, ℕ, zero, suc, ◌⊎◌, List, [], ◌∷◌, Option, Some, None, slice_get, slice_set, refl, sym, ap, ◌∙◌, subst, inl, inr, IsSome}
use Rattle.std.proofs.lemmas.Option.{slice_get-map}
use Rattle.std.specs.Option.{option_map}
use Rattle.rand_pcg.specs.Lcg.{Lcg}
use Rattle.c11_events.specs.declared.event.Event.{Event}
use Rattle.c11_events.specs.declared.op.Ask.{Ask}
use Rattle.c11_events.specs.declared.op.Op.{Op}
use Rattle.c11_events.specs.declared.op.Op.TheVariants as op
use Rattle.c11_events.specs.declared.verdict.Verdict.{Verdict}
use Rattle.c11_events.specs.EventOf.{events_of}
use Rattle.c11_events.specs.Threads.{blocked_by, IsLive}
use Rattle.c11_history.specs.Past.{Past, IsWithin}
use Rattle.c11_memory.specs.declared.marks.Mark.{Mark}
use Rattle.c11_memory.specs.Execution.{Execution}
use Rattle.c11_memory.specs.Marks.{ask_of, AreWithin, IsAwaiting, IsStuck}
use Rattle.c11_memory.specs.Sound.{execution}
use Rattle.c11_memory.specs.Waits.{AllAreStuck, IsMarkedBlocked}

-- only these are ever blocked
pub is_awaiting : (events : List Event) (thread : ℕ) (o : Op) → IsSome (blocked_by events thread o) → IsAwaiting o
is_awaiting events thread (op.Lock mutex) is = tt
is_awaiting events thread (op.Join joined) is = tt
is_awaiting events thread op.Begin is = tt
is_awaiting events thread _ is = cc

-- what stands in a list after a write
pub get_set : {X : Type 0} (xs : List X) (i j : ℕ) (v u : X) → slice_get (slice_set xs i v) j ≡ Some u → ((j ≡ i) × (v ≡ u)) ⊎ (slice_get xs j ≡ Some u)
get_set [] i j v u at = cc
get_set (x ∷ xs) zero zero v u at = inl (refl, cc)
get_set (x ∷ xs) zero (suc j) v u at = inr at
get_set (x ∷ xs) (suc i) zero v u at = inr at
get_set (x ∷ xs) (suc i) (suc j) v u at = elim (get_set xs i j v u at) [
  | inl p ↦ inl (ap suc p.0, p.1)
  | inr p ↦ inr p
]

-- a thread is marked no more
pub within_cleared : (past : Past) (marks : List (Option Mark)) (thread : ℕ) → AreWithin past marks → AreWithin past (slice_set marks thread None)
within_cleared past marks thread within u mark at = elim (get_set marks thread u None (Some mark) at) [
  | inl p ↦ absurd (let clash = p.1 in cc)
  | inr p ↦ within u mark p
]

-- a thread is marked
pub within_marked : (past : Past) (marks : List (Option Mark)) (thread : ℕ) (new : Mark) → AreWithin past marks → IsWithin past.setting past.mutexes (ask_of new).op
    → AreWithin past (slice_set marks thread (Some new))
within_marked past marks thread new within is u mark at = elim (get_set marks thread u (Some new) (Some mark) at) [
  | inl p ↦ (let same : new ≡ mark = let both = p.1 in cc in subst (λ (m : Mark). IsWithin past.setting past.mutexes (ask_of m).op) same is)
  | inr p ↦ within u mark p
]

-- the mark of the thread decides
pub stuck_by_mark : (events : List Event) (marks : List (Option Mark)) (thread : ℕ) (mark : Mark) → slice_get marks thread ≡ Some (Some mark) → IsStuck events marks thread
    → IsSome (blocked_by events thread (ask_of mark).op)
stuck_by_mark events marks thread mark at stuck =
    let same : stuck.mark ≡ mark = let both = sym stuck.is ∙ at in cc in subst (λ (m : Mark). IsSome (blocked_by events thread (ask_of m).op)) same stuck.blocked

pub not_stuck : (events : List Event) (marks : List (Option Mark)) (thread : ℕ) → slice_get marks thread ≡ Some None → IsStuck events marks thread → ⊥
not_stuck events marks thread at stuck = let both : Some (Some stuck.mark) ≡ Some None = sym stuck.is ∙ at in cc

module _ (past : Past) (seed bound : ℕ) (generator : Lcg) (verdict : Option Verdict) (marks : List (Option Mark)) where
  m : Execution
  m = execution past seed bound generator verdict marks

  marked_blocked : (thread : ℕ) → IsStuck (events_of past.entries) marks thread → IsMarkedBlocked m thread
  unfolding m
  marked_blocked thread stuck = record {
    ask = ask_of stuck.mark;
    mark = slice_get-map (option_map ask_of) marks thread ∙ ap (option_map (option_map ask_of)) stuck.is;
    blocked = stuck.blocked;
  }

  by_slot : (thread : ℕ) (ask : Ask) (slot : Option (Option Mark)) → slice_get marks thread ≡ slot → option_map (option_map ask_of) slot ≡ Some (Some ask)
      → IsSome (blocked_by (events_of past.entries) thread ask.op) → IsStuck (events_of past.entries) marks thread
  by_slot thread ask None at is blocked = absurd (let clash = is in cc)
  by_slot thread ask (Some None) at is blocked = absurd (let clash = is in cc)
  by_slot thread ask (Some (Some mark)) at is blocked =
      let same : ask ≡ ask_of mark = let both = is in cc in
      record { mark = mark; is = at; blocked = subst (λ (a : Ask). IsSome (blocked_by (events_of past.entries) thread a.op)) same blocked }

  blocked_marked : (thread : ℕ) → IsMarkedBlocked m thread → IsStuck (events_of past.entries) marks thread
  unfolding m
  blocked_marked thread b = by_slot thread b.ask (slice_get marks thread) refl (sym (slice_get-map (option_map ask_of) marks thread) ∙ b.mark) b.blocked

  pub all_stuck : ((thread : ℕ) → IsLive (events_of past.entries) thread → IsStuck (events_of past.entries) marks thread) → AllAreStuck (execution past seed bound generator verdict marks)
  unfolding m
  all_stuck all thread live = marked_blocked thread (all thread live)

  pub stuck_all : AllAreStuck (execution past seed bound generator verdict marks) → (thread : ℕ) → IsLive (events_of past.entries) thread → IsStuck (events_of past.entries) marks thread
  unfolding m
  stuck_all all thread live = blocked_marked thread (all thread live)
