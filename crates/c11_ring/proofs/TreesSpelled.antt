-- Tokens are their sorts and their spots.
use Rattle.std.proofs.Common.{◌≡◌, List, [], ◌∷◌, map, refl, ap}
use Rattle.c11_ast.specs.declared.place.Spot.{Spot}
use Rattle.c11_grammar.specs.declared.token.Sort.{Sort}
use Rattle.c11_grammar.specs.declared.token.Lexeme.{Lexeme}
use Rattle.c11_grammar.specs.Tokens.{Tokens}

-- the first of these spots; where there is none, the first of a text
abbrev pub first_spot : List Spot → Spot
first_spot [] = record { line = 1; column = 1 }
first_spot (spot ∷ spots) = spot

abbrev pub later_spots : List Spot → List Spot
later_spots [] = []
later_spots (spot ∷ spots) = spots

-- the tokens of these sorts at these spots
abbrev pub spelled : List Sort → List Spot → Tokens
spelled [] spots = []
spelled (sort ∷ sorts) spots = record { sort = sort; spot = first_spot spots } ∷ spelled sorts (later_spots spots)

abbrev pub sorts_of : Tokens → List Sort
sorts_of ts = map (λ (l : Lexeme). l.sort) ts

pub spelled_are : (ts : Tokens) → spelled (sorts_of ts) (map (λ (l : Lexeme). l.spot) ts) ≡ ts
spelled_are [] = refl
spelled_are (t ∷ ts) = ap (λ (more : Tokens). t ∷ more) (spelled_are ts)

-- the spots behind tokens of these sorts
abbrev pub behind : List Sort → List Spot → List Spot
behind [] spots = spots
behind (sort ∷ sorts) spots = behind sorts (later_spots spots)
