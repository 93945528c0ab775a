use Rattle.std.proofs.Common.{◌≤◌, ◌↔◌, ℕ, List, sym, subst}
use Rattle.c11_events.specs.Priors.{IsKnown}
use Rattle.c11_happens.specs.Covers.{UpTo, CoversExactly, HasNoEvent, IsLastOf, IsCreateOf}
use Rattle.c11_mayread.proofs.Knowing.{knows}
use Rattle.c11_mayread.proofs.past.Past.known.Goals as goal

pub returns : goal.returns
returns c = λ events e past of_thread.
    let clock : List ℕ = c.clock.result.now in
    λ a is. subst (λ (n : ℕ). (a ≤ n) ↔ IsKnown events e a) (sym c.get.ensures) (knows events e clock
    (subst (λ (t : ℕ). (b : ℕ) → IsLastOf events t b → CoversExactly events clock (UpTo events b)) (sym of_thread) (c.clock.ensures.last events past))
    (subst (λ (t : ℕ). (k : ℕ) → HasNoEvent events t → IsCreateOf events t k → CoversExactly events clock (UpTo events k)) (sym of_thread) (c.clock.ensures.started events past))
    (subst (λ (t : ℕ). HasNoEvent events t → ((k : ℕ) → IsCreateOf events t k → ⊥) → CoversExactly events clock (λ b. ⊥)) (sym of_thread) (c.clock.ensures.unborn events past))
    c.args.of a is)
