-- How the names in force are kept.
use Rattle.std.specs.Prelude.{◌≡◌, ℕ, List, map, take, Some, slice_get}
use Rattle.c11_check.specs.declared.scopes.Binding.{Binding}
use Rattle.c11_check.specs.Scopes.{Named}
use Rattle.c11_check.specs.Table.{last_place}

abbrev pub named_of : Binding → Named
named_of b = record { name = b.name.now; entity = b.entity }

abbrev pub names_of : List Binding → List Named
names_of bindings = map named_of bindings

-- each binding knows where its name was declared last before it
abbrev pub AreLinked : List Binding → Type 0
AreLinked bindings = (i : ℕ) (b : Binding) → slice_get bindings i ≡ Some b → b.hides ≡ last_place 0 (take i (names_of bindings)) b.name.now
