use Rattle.std.proofs.Common.{rules}
use Rattle.c11_plain.proofs.Filling.{made}
use Rattle.c11_plain.proofs.Ends.{steps_ends}
use Rattle.c11_plain.specs.Parts.{Follows}
use Rattle.c11_plain.proofs.tables.steps.Goals as goal

pub returns : goal.returns
returns c = made _ _ c.new.result (Follows c.args.events.now) c.new.ensures (steps_ends c.args.events.now _ c.in_ok-count_of.ensures) (λ a b la lb t. search rules) (λ a b la lb t h. search rules)
