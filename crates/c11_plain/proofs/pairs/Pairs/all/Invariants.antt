use Rattle.std.proofs.Common.{ℕ, ◌<◌, true}
use Rattle.c11_plain.specs.Pairs.{Holds}
use Rattle.c11_plain.proofs.pairs.Pairs.all.Given as goal

abbrev pub invariant-loop-a : goal.invariant-loop-a
invariant-loop-a g l = (a b : ℕ) → a < l.a → Holds l.self a b → goal.F-post g l.test a b true

abbrev pub invariant-loop-b : goal.invariant-loop-b
invariant-loop-b g l = (b : ℕ) → b < l.b → Holds l.self l.a b → goal.F-post g l.test l.a b true
