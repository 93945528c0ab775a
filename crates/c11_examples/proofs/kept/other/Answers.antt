use Rattle.std.proofs.Common.{length, ◌+◌}
use Rattle.c11_events.specs.Offered.{op_reading}
use Rattle.c11_events.proofs.Others.{others_fit}
use Rattle.c11_examples.proofs.kept.other.Goals as goal

pub extend-requires-clause-lawful : goal.extend-requires-clause-lawful
extend-requires-clause-lawful c =
    let events = c.args.events.now.items in
    others_fit events (record { number = length events + 1; thread = c.args.thread; kind = op_reading events c.args.op.now 0; from = 0 }) c.requires.kept.stands.lawful c.requires.loads
