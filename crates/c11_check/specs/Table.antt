-- A map from names to the places where they were declared last, as a list.
use Rattle.std.specs.Prelude.{ℕ, ◌+◌, List, [], ◌∷◌, Option, Some, None, if◌then◌else◌}
use Rattle.std.specs.Str.{bytes_eq}
use Rattle.c11_check.specs.Scopes.{Named}

abbrev pub Table : Type 0
Table = List (List ℕ × Option ℕ)

-- what the table has for a name; it has an entry, without a place, for a name that was declared and is no more
abbrev pub entry_at : List ℕ → Table → Option (Option ℕ)
entry_at name [] = None
entry_at name (entry ∷ table) = if bytes_eq name entry.0 then Some entry.1 else entry_at name table

abbrev pub flat : Option (Option ℕ) → Option ℕ
flat (Some place) = place
flat None = None

abbrev pub place_at : List ℕ → Table → Option ℕ
place_at name table = flat (entry_at name table)

abbrev pub or_place : Option ℕ → Option ℕ → Option ℕ
or_place (Some place) other = Some place
or_place None other = other

-- the place of the last of the names that is this one, where the first has the place n
abbrev pub last_place : ℕ → List Named → List ℕ → Option ℕ
last_place n [] name = None
last_place n (x ∷ xs) name = or_place (last_place (n + 1) xs name) (if bytes_eq name x.name then Some n else None)
