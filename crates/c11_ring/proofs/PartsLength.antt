-- How long a text of parts is.
use Rattle.std.proofs.Common.{◌≤◌, ℕ, ◌+◌, List, [], ◌∷◌, length, arith, length-append}
use Rattle.std.proofs.lemmas.Fmt.{length-decimal-le}
use Rattle.c11_ring.proofs.Parts.{Part, gap, word, number, sign, format, spelling_of, spelling, IsSmall, AreSmall}
use Rattle.c11_ring.proofs.Spelled.{small_split}

-- the most bytes of a part with a small number
abbrev pub most_of : Part → ℕ
most_of (gap b) = 1
most_of (word t) = length t
most_of (number n) = 3
most_of (sign t) = length t
most_of format = 6

abbrev pub most : List Part → ℕ
most [] = 0
most (part ∷ parts) = most_of part + most parts

part_short : (part : Part) → IsSmall part → length (spelling_of part) ≤ most_of part
part_short (gap b) small = omega arith
part_short (word t) small = omega arith
part_short (number n) small = length-decimal-le 3 n (omega arith) (omega arith) (omega arith)
part_short (sign t) small = omega arith
part_short format small = omega arith

pub parts_short : (parts : List Part) → AreSmall parts → length (spelling parts) ≤ most parts
parts_short [] small = omega arith
parts_short (part ∷ parts) small =
    let numbers = small_split part (AreSmall parts) small in
    omega (arith, length-append (spelling_of part) (spelling parts), part_short part numbers.0, parts_short parts numbers.1)
