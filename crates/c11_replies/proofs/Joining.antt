-- The value of a joined thread.
use Rattle.std.proofs.Common.{◌≡◌, ℕ, Bool, true, false, List, Option, Some, None, ℤ, pos, unwrap_or, if◌then◌else◌, refl, sym, ap, ◌∙◌}
use Rattle.c11_events.specs.declared.event.Event.{Event}
use Rattle.c11_events.specs.Threads.{has_ended}
use Rattle.c11_events.specs.Replies.{Setting, end_value}
use Rattle.c11_replies.specs.declared.threads.ThreadState.{ThreadState}
use Rattle.c11_replies.specs.Words.{IsThreadAfter}
use Rattle.c11_replies.proofs.Extending.{no_end_value}

-- a thread that has not ended would be joined with 0
pub joined_value : (setting : Setting) (events : List Event) (u : ℕ) (state : ThreadState) → IsThreadAfter setting events u state → unwrap_or state.ended (pos 0) ≡ end_value events u
joined_value setting events u state is = ap (λ (o : Option ℤ). unwrap_or o (pos 0)) is.ended ∙ value (has_ended events u) refl
  where
    value : (b : Bool) → has_ended events u ≡ b → unwrap_or (if b then Some (end_value events u) else None) (pos 0) ≡ end_value events u
    value true ended = refl
    value false going = sym (no_end_value events u going)
