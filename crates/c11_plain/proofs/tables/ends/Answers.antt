use Rattle.std.proofs.Common.{rules}
use Rattle.c11_plain.proofs.Filling.{made}
use Rattle.c11_plain.proofs.Ends.{ends_ends}
use Rattle.c11_events.specs.HappensBefore.{EndBeforeJoin}
use Rattle.c11_plain.proofs.tables.ends.Goals as goal

pub returns : goal.returns
returns c = made _ _ c.new.result (EndBeforeJoin c.args.events.now) c.new.ensures (ends_ends c.args.events.now _ c.in_ok-count_of.ensures) (λ a b la lb t. search rules) (λ a b la lb t h. search rules)
