use Rattle.std.proofs.Common.{◌≡◌, ◌≤◌, ◌+◌, length}
use Rattle.c11_lexer.specs.Scan.{Scanned, Scans, start, prefixed}
use Rattle.c11_lexer.proofs.scan.lex.Given as goal

abbrev pub invariant-pieces : goal.invariant-pieces
invariant-pieces l = ((scanned : Scanned) → Scans l.at l.rest scanned → Scans start l.bytes (prefixed l.tokens.items scanned))
    × (l.at.offset + length l.rest ≡ length l.bytes) × (l.at.line ≤ 1 + l.at.offset) × (l.at.column ≤ 1 + l.at.offset)

abbrev pub decreases-pieces : goal.decreases-pieces
decreases-pieces l = length l.rest
