use Rattle.std.proofs.Common.{◌≡◌, ◌-◌, ◌≤◌, length}
use Rattle.c11_lexer.specs.Reading.{quoted, ahead_of}
use Rattle.c11_lexer.proofs.quote.quoted.Given as goal

abbrev pub invariant-loop-rest : goal.invariant-loop-rest
invariant-loop-rest l = (ahead_of l.value.items (length l.bytes - length l.rest) (quoted l.rest) ≡ quoted l.bytes) × (length l.rest ≤ length l.bytes)

abbrev pub decreases-loop-rest : goal.decreases-loop-rest
decreases-loop-rest l = length l.rest
