use Rattle.std.proofs.Common.{arith}
use Rattle.c11_machine.proofs.Takes.{all_given}
use Rattle.c11_machine.specs.Views.{numbers_of}
use Rattle.c11_machine.proofs.calls.given.Goals as goal

pub returns : goal.returns
returns c = all_given (numbers_of c.loop-i.given.items) _ c.args.params.now c.args.values.now c.loop-i.i (omega arith) c.loop-i.invariant
