use Rattle.std.proofs.Common.{List, ap, arith, ◌∙◌}
use Rattle.c11_machine.proofs.Takes.{grown}
use Rattle.c11_machine.specs.Views.{numbers_of}
use Rattle.c11_num.specs.Ranges.{TypedNumber}
use Rattle.c11_machine.proofs.calls.add_zeros.Goals as goal

pub returns : goal.returns
returns c = ap (λ (xs : List TypedNumber). numbers_of xs) c.in_ok-resize.ensures.items ∙ grown c.args.locals.now.items c.args.locals.now.len c.in-Some.len c.args.count c.nothing.result (omega arith) (let sum = c.in-Some.ensures in omega (arith, sum)) c.nothing.ensures
