use Rattle.std.proofs.Common.{◌≡◌, ℕ, Result, Ok, Err, IfOk, sym, subst}
use Rattle.c11_lexer.specs.Pieces.{Text, Longest}
use Rattle.c11_lexer.specs.Reading as reading
use Rattle.c11_lexer.specs.declared.piece.Piece.{Piece}
use Rattle.c11_lexer.proofs.Longest.{front_is_longest}
use Rattle.c11_lexer.proofs.piece.front.Goals as goal

found_is_longest : {E : Type 0} (text : Text) (r : Result (Piece × ℕ) E) → Longest text (reading.front text).1 (reading.front text).0
    → IfOk r (λ found. found ≡ reading.front text) → IfOk r (λ found. Longest text found.1 found.0)
found_is_longest text (Ok found) longest e = subst (λ (x : Piece × ℕ). Longest text x.1 x.0) (sym e) longest
found_is_longest text (Err f) longest e = e

pub returns : goal.returns
returns c = found_is_longest _ _ (front_is_longest _ c.requires) c.found.ensures
