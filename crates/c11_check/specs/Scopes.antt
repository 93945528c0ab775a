-- Names and what they denote, from place to place in a program (C11 6.2.1, 6.7.9 and 6.9).
use Rattle.std.specs.Prelude.{ℕ, ◌+◌, ◌-◌, ◌^◌, Bool, true, false, not, List, [], ◌∷◌, ◌++◌, length, drop, take, Option, Some, None, unsigned_abs, int_lt, pos, nat_lt, is_some, if◌then◌else◌}
use Rattle.std.specs.Str.{bytes_eq}
use Rattle.c11_num.specs.Ranges.{TypedNumber}
use Rattle.c11_num.specs.Wrapping.{wrapping}
use Rattle.c11_num.specs.declared.kind.RmwKind.TheVariants as sub
use Rattle.c11_num.specs.declared.value.CType.{CType}
use Rattle.c11_num.specs.declared.value.CType.TheVariants.{Long}
use Rattle.c11_ast.specs.declared.place.Known.{Known}
use Rattle.c11_ast.specs.declared.place.Known.TheVariants as known
use Rattle.c11_ast.specs.declared.place.Constant.{Constant}
use Rattle.c11_ast.specs.declared.item.GlobalKind.{GlobalKind}
use Rattle.c11_ast.specs.declared.item.GlobalKind.TheVariants as g
use Rattle.c11_ast.specs.declared.item.Param.{Param}
use Rattle.c11_ast.specs.declared.item.Function.{Function}
use Rattle.c11_check.specs.declared.entity.Entity.{Entity}
use Rattle.c11_check.specs.declared.entity.Entity.TheVariants as e
use Rattle.c11_check.specs.declared.entity.Signature.{Signature}
use Rattle.c11_check.specs.declared.entity.Counts.{Counts}
use Rattle.c11_check.specs.Library.{or_else, library_entity, constant_value, valued}

-- a declared name
pub record Named : Type 0 where
  pub name : List ℕ
  pub entity : Entity

-- What is in force at a place: the names declared before it that can be seen there, in the order of their declarations; how many
-- of them were declared before the innermost scope began; and how much has been declared.
pub record Scope : Type 0 where
  pub names : List Named
  pub start : ℕ
  pub counts : Counts

-- ---- what a name denotes

-- the last of the names hides the others (C11 6.2.1 p4)
abbrev pub last_named : List Named → List ℕ → Option Entity
last_named [] name = None
last_named (n ∷ ns) name = or_else (last_named ns name) (if bytes_eq name n.name then Some n.entity else None)

-- declared names stand before those of the library
abbrev pub denoted : Scope → List ℕ → Option Entity
denoted scope name = or_else (last_named scope.names name) (library_entity name)

-- the innermost scope declares the name
abbrev pub is_declared_here : Scope → List ℕ → Bool
is_declared_here scope name = is_some (last_named (drop scope.start scope.names) name)

-- ---- scopes begin and end

abbrev pub entered : Scope → Scope
entered scope = record { names = scope.names; start = length scope.names; counts = scope.counts }

-- After the inner scope the names that were there before it are left; what was declared in it still counts.
abbrev pub left_for : Scope → Scope → Scope
left_for outer inner = record { names = take (length outer.names) inner.names; start = outer.start; counts = inner.counts }

-- a function's own scope, in which no place is taken yet
abbrev pub entered_function : Scope → Scope
entered_function scope = record (entered scope) { counts = record scope.counts { places = 0 } }

abbrev pub declared : Scope → List ℕ → Entity → Counts → Scope
declared scope name entity counts = record { names = scope.names ++ record { name = name; entity = entity } ∷ []; start = scope.start; counts = counts }

-- ---- constants (C11 6.6)

-- the value that a name has as a constant
abbrev pub entity_value : Option Entity → Option TypedNumber
entity_value (Some (e.Defined value)) = Some value
entity_value (Some (e.Constant constant)) = Some (constant_value constant)
entity_value _ = None

abbrev pub known_value : Scope → Known → Option TypedNumber
known_value scope (known.Literal value) = Some value
known_value scope (known.Named word) = entity_value (denoted scope word.name)

-- A `-` is computed in the type of the constant, from 0. No constant of a text overflows there, since it has no sign of its own.
abbrev pub signed_value : Bool → TypedNumber → TypedNumber
signed_value true value = wrapping sub.Sub (valued value.ctype 0) value
signed_value false value = value

abbrev pub with_sign : Bool → Option TypedNumber → Option TypedNumber
with_sign negative None = None
with_sign negative (Some value) = Some (signed_value negative value)

-- the value of a constant; none where its name has none
abbrev pub value_of_constant : Scope → Constant → Option TypedNumber
value_of_constant scope constant = with_sign constant.negative (known_value scope constant.value)

-- ---- sizes

-- how many elements a size gives: none where it has no value or is below 0
abbrev pub elements : Option TypedNumber → ℕ
elements None = 0
elements (Some value) = if int_lt value.number (pos 0) then 0 else unsigned_abs value.number

abbrev pub size_in : Scope → Option Constant → Option ℕ
size_in scope None = None
size_in scope (Some constant) = Some (elements (value_of_constant scope constant))

-- how many cells, mutexes or places an object takes
abbrev pub taken : Option ℕ → ℕ
taken None = 1
taken (Some n) = n

-- The count with an object of this size. One that would pass the limit is a fault and is not counted.
abbrev pub passes : ℕ → ℕ → Option ℕ → Bool
passes limit count size = nat_lt limit (count + taken size)

abbrev pub counted : ℕ → ℕ → Option ℕ → ℕ
counted limit count size = if passes limit count size then count else count + taken size

abbrev pub atomic_limit : ℕ
atomic_limit = 4096

abbrev pub plain_limit : ℕ
plain_limit = 65536

abbrev pub mutex_limit : ℕ
mutex_limit = 64

abbrev pub place_limit : ℕ
place_limit = 256

-- more functions than a program of fewer than 2 ^ 32 items has
abbrev pub function_limit : ℕ
function_limit = 2 ^ 32 - 1

-- ---- declarations

-- a local of an integer type, or a parameter
abbrev pub with_local : Scope → List ℕ → CType → Option ℕ → Scope
with_local scope name ctype size = let counts = scope.counts in
    declared scope name (e.Local ctype counts.places size) (record counts { places = counted place_limit counts.places size })

abbrev pub with_handle : Scope → List ℕ → Option ℕ → Scope
with_handle scope name size = let counts = scope.counts in
    declared scope name (e.Handle counts.places size) (record counts { places = counted place_limit counts.places size })

-- an object of file scope
abbrev pub with_global : Scope → List ℕ → GlobalKind → Option ℕ → Scope
with_global scope name (g.Plain ctype) size = let counts = scope.counts in
    declared scope name (e.Plain ctype counts.plains size) (record counts { plains = counted plain_limit counts.plains size })
with_global scope name (g.Atomic ctype) size = let counts = scope.counts in
    declared scope name (e.Atomic ctype counts.atomics size) (record counts { atomics = counted atomic_limit counts.atomics size })
with_global scope name g.Mutex size = let counts = scope.counts in
    declared scope name (e.Mutex counts.mutexes size) (record counts { mutexes = counted mutex_limit counts.mutexes size })

abbrev pub with_define : Scope → List ℕ → TypedNumber → Scope
with_define scope name value = declared scope name (e.Defined value) scope.counts

-- `void *` is a spelling of `long` in a parameter
abbrev pub param_type : Option CType → CType
param_type (Some ctype) = ctype
param_type None = Long

abbrev pub is_pointer : List Param → Bool
is_pointer (param ∷ []) = not (is_some param.ctype)
is_pointer _ = false

abbrev pub signature_of : Function → Signature
signature_of f = record { answers = f.answers; params = length f.params; pointer = is_pointer f.params }

abbrev pub with_function : Scope → Function → Scope
with_function scope f = let counts = scope.counts in
    declared scope f.word.name (e.Function counts.functions (signature_of f)) (record counts { functions = counted function_limit counts.functions None })

-- at the beginning of a program
abbrev pub file_scope : Scope
file_scope = record { names = []; start = 0; counts = record { atomics = 0; plains = 0; mutexes = 0; functions = 0; places = 0 } }
