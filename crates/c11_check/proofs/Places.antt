-- The place of a name's last declaration, and what stands there.
use Rattle.std.proofs.Common.{◌≡◌, ℕ, suc, ◌+◌, Bool, true, false, List, [], ◌∷◌, ◌++◌, length, Option, Some, None, refl, ap, ◌∙◌, slice_get, arith}
use Rattle.std.specs.Str.{bytes_eq}
use Rattle.std.specs.Prelude.{if◌then◌else◌}
use Rattle.c11_check.specs.declared.entity.Entity.{Entity}
use Rattle.c11_check.specs.Library.{or_else}
use Rattle.c11_check.specs.Scopes.{Named, last_named}
use Rattle.c11_check.specs.Table.{last_place, or_place}

-- the name is not among the names, or it is declared last at a place
pub data Found (n : ℕ) (xs : List Named) (name : List ℕ) : Type 0 where
  nowhere : last_place n xs name ≡ None → last_named xs name ≡ None → Found n xs name
  there : (j : ℕ) (x : Named) → last_place n xs name ≡ Some (n + j) → slice_get xs j ≡ Some x → last_named xs name ≡ Some x.entity → Found n xs name

at_first : (n : ℕ) (x : Named) (name : List ℕ) (same : Bool) (place : Option ℕ) → bytes_eq name x.name ≡ same → place ≡ None
    → or_place place (if bytes_eq name x.name then Some n else None) ≡ (if same then Some n else None)
at_first n x name same place is none = ap (λ (o : Option ℕ). or_place o (if bytes_eq name x.name then Some n else None)) none ∙ ap (λ (b : Bool). if b then Some n else None) is

entity_first : (x : Named) (name : List ℕ) (same : Bool) (entity : Option Entity) → bytes_eq name x.name ≡ same → entity ≡ None
    → or_else entity (if bytes_eq name x.name then Some x.entity else None) ≡ (if same then Some x.entity else None)
entity_first x name same entity is none = ap (λ (o : Option Entity). or_else o (if bytes_eq name x.name then Some x.entity else None)) none ∙ ap (λ (b : Bool). if b then Some x.entity else None) is

found_first : (n : ℕ) (x : Named) (xs : List Named) (name : List ℕ) (same : Bool) → bytes_eq name x.name ≡ same → last_place (n + 1) xs name ≡ None → last_named xs name ≡ None
    → Found n (x ∷ xs) name
found_first n x xs name true same place entity = there 0 x (at_first n x name true _ same place ∙ ap Some (omega arith)) refl (entity_first x name true _ same entity)
found_first n x xs name false same place entity = nowhere (at_first n x name false _ same place) (entity_first x name false _ same entity)

found_more : (n : ℕ) (x : Named) (xs : List Named) (name : List ℕ) → Found (n + 1) xs name → Found n (x ∷ xs) name
found_more n x xs name (nowhere place entity) = found_first n x xs name (bytes_eq name x.name) refl place entity
found_more n x xs name (there j y place is entity) = there (suc j) y
    (ap (λ (o : Option ℕ). or_place o (if bytes_eq name x.name then Some n else None)) place ∙ ap Some (omega arith))
    is
    (ap (λ (o : Option Entity). or_else o (if bytes_eq name x.name then Some x.entity else None)) entity)

pub found : (n : ℕ) (xs : List Named) (name : List ℕ) → Found n xs name
found n [] name = nowhere refl refl
found n (x ∷ xs) name = found_more n x xs name (found (n + 1) xs name)

or_place_assoc : (a b c : Option ℕ) → or_place (or_place a b) c ≡ or_place a (or_place b c)
or_place_assoc None b c = refl
or_place_assoc (Some a) b c = refl

or_else_assoc : (a b c : Option Entity) → or_else (or_else a b) c ≡ or_else a (or_else b c)
or_else_assoc None b c = refl
or_else_assoc (Some a) b c = refl

or_else_none : (a : Option Entity) → a ≡ or_else a None
or_else_none None = refl
or_else_none (Some a) = refl

or_place_none : (a : Option ℕ) → a ≡ or_place a None
or_place_none None = refl
or_place_none (Some a) = refl

-- of two lists of names the second hides the first
pub place_append : (n : ℕ) (xs ys : List Named) (name : List ℕ) → last_place n (xs ++ ys) name ≡ or_place (last_place (n + length xs) ys name) (last_place n xs name)
place_append n [] ys name = or_place_none (last_place n ys name) ∙ ap (λ (k : ℕ). or_place (last_place k ys name) None) (omega arith)
place_append n (x ∷ xs) ys name = ap (λ (o : Option ℕ). or_place o (if bytes_eq name x.name then Some n else None)) (place_append (n + 1) xs ys name)
    ∙ (or_place_assoc (last_place (n + 1 + length xs) ys name) (last_place (n + 1) xs name) (if bytes_eq name x.name then Some n else None)
    ∙ ap (λ (k : ℕ). or_place (last_place k ys name) (last_place n (x ∷ xs) name)) (omega arith))

pub named_append : (xs ys : List Named) (name : List ℕ) → last_named (xs ++ ys) name ≡ or_else (last_named ys name) (last_named xs name)
named_append [] ys name = or_else_none (last_named ys name)
named_append (x ∷ xs) ys name = ap (λ (o : Option Entity). or_else o (if bytes_eq name x.name then Some x.entity else None)) (named_append xs ys name)
    ∙ or_else_assoc (last_named ys name) (last_named xs name) (if bytes_eq name x.name then Some x.entity else None)
