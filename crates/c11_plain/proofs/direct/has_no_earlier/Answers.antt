use Rattle.std.proofs.Common.{rules, ◌≡◌}
use Rattle.c11_events.specs.Events.{At}
use Rattle.c11_plain.proofs.Filling.{none_of}
use Rattle.c11_plain.proofs.direct.has_no_earlier.Goals as goal

pub returns : goal.returns
returns c = none_of c.some_below.result c.args.b _ (λ k. At c.args.events.now k (λ e. e.thread ≡ c.args.thread)) c.some_below.ensures
    (λ k lt t. search rules) (λ k lt t h. search rules)
