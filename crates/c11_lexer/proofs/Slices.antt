-- Slices that rise have a byte each.
use Rattle.std.proofs.Common.{ℕ, ◌<◌, List, All}
use Rattle.std.specs.List.{AllByRecursion}
use Rattle.std.proofs.lemmas.List.Elements.{All-from_recursion}
use Rattle.c11_lexer.specs.declared.token.Token.{Token}
use Rattle.c11_lexer.specs.Scan.{Rise, SlicesAreSome}
use Rattle.c11_lexer.specs.Scan as s

some_each : (from last : ℕ) (tokens : List Token) → Rise from tokens last → AllByRecursion (λ (token : Token). token.start < token.end) tokens
some_each from last tokens (s.Rise.none less) = tt
some_each from last tokens (s.Rise.more {token = first} {tokens = others} begin some tail) = (some, some_each first.end last others tail)

pub slices_are_some : SlicesAreSome
slices_are_some from last tokens rise = All-from_recursion (λ (token : Token). token.start < token.end) tokens (some_each from last tokens rise)
