use Rattle.std.proofs.lemmas.Nat.{or_lt, xor_lt}
use Rattle.c11_num.specs.Wrapping.{width_of}
use Rattle.c11_num.proofs.modular.combined.Goals as goal

pub returns-in-Or-clause-bound : goal.returns-in-Or-clause-bound
returns-in-Or-clause-bound c = or_lt (width_of c.args.ctype) c.args.old c.args.operand c.requires.old c.requires.operand

pub returns-in-Xor-clause-bound : goal.returns-in-Xor-clause-bound
returns-in-Xor-clause-bound c = xor_lt (width_of c.args.ctype) c.args.old c.args.operand c.requires.old c.requires.operand
