use Rattle.std.proofs.Common.{length}
use Rattle.c11_grammar.specs.Programs.{Run}
use Rattle.c11_parser.proofs.whole.program.Given as goal

abbrev pub invariant-loop-first : goal.invariant-loop-first
invariant-loop-first l = Run l.tokens l.items l.rest

abbrev pub decreases-loop-first : goal.decreases-loop-first
decreases-loop-first l = length l.rest
