use Rattle.std.proofs.Common.{ℕ, ap, ◌∙◌}
use Rattle.rand_pcg.specs.Lcg.{Lcg}
use Rattle.rand_pcg.specs.Pcg.{multiplier_64, pcg32}
use Rattle.c11_events.specs.Draws.{generator}
use Rattle.c11_draws.proofs.Advancing.{advance_last}
use Rattle.c11_draws.proofs.word.Goals as goal

pub returns-clause-word : goal.returns-clause-word
returns-clause-word c = λ seed words is. ap (λ (p : ℕ × Lcg). p.0) c.next_word.ensures ∙ ap (λ (g : Lcg). (pcg32 g).0) is

pub returns-clause-next : goal.returns-clause-next
returns-clause-next c = λ seed words is. ap (λ (p : ℕ × Lcg). p.1) c.next_word.ensures ∙ (ap (λ (g : Lcg). (pcg32 g).1) is ∙ advance_last 64 multiplier_64 words (generator seed))
