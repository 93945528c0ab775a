use Rattle.std.proofs.Common.{arith}
use Rattle.c11_mayread.proofs.lists.last_up_to.Goals as goal

pub returns-then-bound-eq0 : goal.returns-then-bound-eq0
returns-then-bound-eq0 c = λ y noted within. let some = c.requires c.args.cell c.args.thread y noted in omega (arith, c.if-bound-eq0.true)
