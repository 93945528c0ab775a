use Rattle.c11_plain.proofs.Filling.{if_ok, same_of, or_of, then_of, closure_of}
use Rattle.c11_plain.proofs.Sequences.{sequence_steps, steps_sequence}
use Rattle.c11_plain.proofs.happens.reads_sequence.Goals as goal

pub returns : goal.returns
returns c = if_ok c.or.result c.or.ensures (λ t k.
    let later = then_of (closure_of c.in_ok-step.ensures c.in_ok-chain.ensures) c.in_ok-read.ensures c.in_ok-later.ensures in
    same_of (or_of c.in_ok-read.ensures later k) (steps_sequence c.args.events.now) (sequence_steps c.args.events.now))
