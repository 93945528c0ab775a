use Rattle.std.proofs.Common.{◌≡◌, map, take}
use Rattle.c11_parser.specs.Sorting.{lexeme_of}
use Rattle.c11_parser.proofs.sort.lexemes.Given as goal

abbrev pub invariant-loop-token : goal.invariant-loop-token
invariant-loop-token l = l.all.items ≡ map (lexeme_of l.source) (take l.token-index l.tokens)
