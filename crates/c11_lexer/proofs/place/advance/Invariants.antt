use Rattle.std.proofs.Common.{◌≡◌, ◌≤◌, ◌+◌, drop}
use Rattle.c11_lexer.specs.Scan.{advance}
use Rattle.c11_lexer.proofs.place.advance.Given as goal

abbrev pub invariant-loop-b : goal.invariant-loop-b
invariant-loop-b l = (advance l.place (drop l.b-index l.text) ≡ advance l.fn.at l.text) × (l.place.line ≤ l.fn.at.line + l.b-index)
    × (l.place.column ≤ l.fn.at.column + l.b-index) × (l.place.offset ≡ l.fn.at.offset + l.b-index)
