use Rattle.std.proofs.Common.{rules}
use Rattle.c11_plain.proofs.Filling.{made}
use Rattle.c11_plain.proofs.Ends.{unlocks_ends}
use Rattle.c11_events.specs.HappensBefore.{UnlockBeforeLock}
use Rattle.c11_plain.proofs.tables.unlocks.Goals as goal

pub returns : goal.returns
returns c = made _ _ c.new.result (UnlockBeforeLock c.args.events.now) c.new.ensures (unlocks_ends c.args.events.now _ c.in_ok-count_of.ensures) (λ a b la lb t. search rules) (λ a b la lb t h. search rules)
