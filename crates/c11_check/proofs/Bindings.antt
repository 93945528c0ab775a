-- What the kept bindings say of names.
use Rattle.std.proofs.Common.{◌≡◌, ℕ, zero, suc, ◌+◌, ◌<◌, ◌≤◌, Bool, true, false, List, [], ◌∷◌, length, drop, Option, Some, None, refl, sym, ap, ◌∙◌, subst, slice_get, get_or, arith}
use Rattle.std.specs.Prelude.{is_some, nat_le, if◌then◌else◌}
use Rattle.std.specs.Str.{bytes_eq}
use Rattle.std.proofs.lemmas.Option.{same_Some}
use Rattle.c11_check.specs.declared.entity.Entity.{Entity}
use Rattle.c11_check.specs.declared.scopes.Binding.{Binding}
use Rattle.c11_check.specs.Library.{or_else}
use Rattle.c11_check.specs.Scopes.{Named, last_named}
use Rattle.c11_check.specs.Table.{last_place, or_place}
use Rattle.c11_check.specs.Bound.{named_of, names_of}
use Rattle.c11_check.proofs.Places.{Found, nowhere, there, found}

-- a place of the names is one of the bindings
pub data Got (bs : List Binding) (j : ℕ) (x : Named) : Type 0 where
  got : (b : Binding) → j < length bs → ((d : Binding) → get_or bs j d ≡ b) → named_of b ≡ x → Got bs j x

got_more : (c : Binding) (bs : List Binding) (j : ℕ) (x : Named) → Got bs j x → Got (c ∷ bs) (suc j) x
got_more c bs j x (got b within is named) = got b (omega arith) is named

pub got_at : (bs : List Binding) (j : ℕ) (x : Named) → slice_get (names_of bs) j ≡ Some x → Got bs j x
got_at [] j x is = absurd cc
got_at (b ∷ bs) zero x is = got b (omega arith) (λ d. refl) cc
got_at (b ∷ bs) (suc j) x is = got_more b bs j x (got_at bs j x is)

same_place : (bs : List Binding) (name : List ℕ) (place : ℕ) → last_place 0 (names_of bs) name ≡ Some place → Found 0 (names_of bs) name
    → (x : Named) × Got bs place x × (last_named (names_of bs) name ≡ Some x.entity)
same_place bs name place is (nowhere none entity) = absurd cc
same_place bs name place is (there j x at element entity) = let e : 0 + j ≡ place = same_Some (0 + j) place (sym at ∙ is) in
    (x, subst (λ (k : ℕ). Got bs k x) (omega arith) (got_at bs j x element), entity)

got_within : (bs : List Binding) (j : ℕ) (x : Named) → Got bs j x → j < length bs
got_within bs j x (got b within is named) = within

got_entity : (bs : List Binding) (j : ℕ) (x : Named) (d : Binding) → Got bs j x → d ≡ get_or bs j d → d.entity ≡ x.entity
got_entity bs j x d (got b within is named) at = ap (λ (b : Binding). b.entity) (at ∙ is d) ∙ ap (λ (n : Named). n.entity) named

pub place_within : (bs : List Binding) (name : List ℕ) (place : ℕ) → last_place 0 (names_of bs) name ≡ Some place → place < length bs
place_within bs name place is = got_within bs place _ (same_place bs name place is (found 0 (names_of bs) name)).1

-- what the binding at the place of a name says is what the name denotes
pub denoted_there : (bs : List Binding) (name : List ℕ) (place : ℕ) (d : Binding) (library : Option Entity) → last_place 0 (names_of bs) name ≡ Some place → d ≡ get_or bs place d
    → Some d.entity ≡ or_else (last_named (names_of bs) name) library
denoted_there bs name place d library is at = let same = same_place bs name place is (found 0 (names_of bs) name) in
    ap Some (got_entity bs place same.0 d same.1 at) ∙ ap (λ (o : Option Entity). or_else o library) (sym same.2)

not_named : (xs : List Named) (name : List ℕ) → last_place 0 xs name ≡ None → Found 0 xs name → last_named xs name ≡ None
not_named xs name is (nowhere none entity) = entity
not_named xs name is (there j x at element entity) = absurd cc

-- a name without a place is of the library, or nothing
pub denoted_nowhere : (xs : List Named) (name : List ℕ) (library : Option Entity) → last_place 0 xs name ≡ None → library ≡ or_else (last_named xs name) library
denoted_nowhere xs name library is = ap (λ (o : Option Entity). or_else o library) (sym (not_named xs name is (found 0 xs name)))

-- ---- in the innermost scope

or_else_empty : (a b : Option Entity) → or_else a b ≡ None → a ≡ None
or_else_empty None b e = refl
or_else_empty (Some a) b e = absurd cc

none_dropped : (k : ℕ) (xs : List Named) (name : List ℕ) → last_named xs name ≡ None → last_named (drop k xs) name ≡ None
none_dropped zero xs name e = e
none_dropped (suc k) [] name e = e
none_dropped (suc k) (x ∷ xs) name e = none_dropped k xs name (or_else_empty (last_named xs name) (if bytes_eq name x.name then Some x.entity else None) e)

is_some_of : (o : Option Entity) (x : Entity) → o ≡ Some x → is_some o ≡ true
is_some_of o x e = ap is_some e

le_true : (a b : ℕ) → a ≤ b → nat_le a b ≡ true
le_true a b h = grind arith

le_false : (a b : ℕ) → b < a → nat_le a b ≡ false
le_false a b h = grind arith

first_is : (n : ℕ) (same : Bool) (place : ℕ) → (if same then Some n else None) ≡ Some place → place ≡ n
first_is n true place e = sym (same_Some n place e)
first_is n false place e = absurd cc

first_place : (n : ℕ) (x : Named) (xs : List Named) (name : List ℕ) (place : ℕ) → last_place n (x ∷ xs) name ≡ Some place → last_place (n + 1) xs name ≡ None → place ≡ n
first_place n x xs name place is none = first_is n (bytes_eq name x.name) place (sym (ap (λ (o : Option ℕ). or_place o (if bytes_eq name x.name then Some n else None)) none) ∙ is)

here_at : (n start : ℕ) (x : Named) (xs : List Named) (name : List ℕ) (place : ℕ) → last_place n (x ∷ xs) name ≡ Some place → Found (n + 1) xs name
    → (last_place (n + 1) xs name ≡ Some place → nat_le (n + 1 + start) place ≡ is_some (last_named (drop start xs) name))
    → nat_le (n + suc start) place ≡ is_some (last_named (drop start xs) name)
here_at n start x xs name place is (nowhere none entity) more = let first = first_place n x xs name place is none in
    le_false (n + suc start) place (omega (arith, first)) ∙ sym (ap is_some (none_dropped start xs name entity))
here_at n start x xs name place is (there j y at element entity) more = let e : n + suc start ≡ n + 1 + start = omega arith in
    ap (λ (k : ℕ). nat_le k place) e ∙ more (at ∙ (sym (ap (λ (o : Option ℕ). or_place o (if bytes_eq name x.name then Some n else None)) at) ∙ is))

here_all : (n : ℕ) (xs : List Named) (name : List ℕ) (place : ℕ) → last_place n xs name ≡ Some place → Found n xs name → nat_le (n + 0) place ≡ is_some (last_named xs name)
here_all n xs name place is (nowhere none entity) = absurd cc
here_all n xs name place is (there j y at element entity) = let e : n + j ≡ place = same_Some (n + j) place (sym at ∙ is) in le_true (n + 0) place (omega arith) ∙ sym (ap is_some entity)

here_from : (n start : ℕ) (xs : List Named) (name : List ℕ) (place : ℕ) → last_place n xs name ≡ Some place → nat_le (n + start) place ≡ is_some (last_named (drop start xs) name)
here_from n zero xs name place is = here_all n xs name place is (found n xs name)
here_from n (suc start) [] name place is = absurd cc
here_from n (suc start) (x ∷ xs) name place is = here_at n start x xs name place is (found (n + 1) xs name) (λ more. here_from (n + 1) start xs name place more)

-- a name is declared in the innermost scope where its place is not before the scope's start
pub declared_here : (start : ℕ) (xs : List Named) (name : List ℕ) (place : ℕ) → last_place 0 xs name ≡ Some place → nat_le start place ≡ is_some (last_named (drop start xs) name)
declared_here start xs name place is = let e : start ≡ 0 + start = omega arith in ap (λ (k : ℕ). nat_le k place) e ∙ here_from 0 start xs name place is

pub declared_nowhere : (start : ℕ) (xs : List Named) (name : List ℕ) → last_place 0 xs name ≡ None → false ≡ is_some (last_named (drop start xs) name)
declared_nowhere start xs name is = sym (ap is_some (none_dropped start xs name (not_named xs name is (found 0 xs name))))
