-- What an expression does and gives, its operands from left to right (C11 6.5; the order is this project's own).
use Rattle.std.specs.Prelude.{ℕ, Bool, true, false, not, List, [], ◌∷◌, Option, Some, None, pos, negsuc, ◌-ℤ◌, if◌then◌else◌}
use Rattle.c11_num.specs.Ranges.{TypedNumber}
use Rattle.c11_num.specs.Wrapping.{wrapped, converted}
use Rattle.c11_num.specs.Operators.{binary_of, truth}
use Rattle.c11_num.specs.declared.value.CType.{CType}
use Rattle.c11_num.specs.declared.value.CType.TheVariants.{Long}
use Rattle.c11_num.specs.declared.kind.BinaryOp.{BinaryOp}
use Rattle.c11_num.specs.declared.kind.BinaryOp.TheVariants.{Sub}
use Rattle.c11_ast.specs.declared.expr.Infix.{Infix}
use Rattle.c11_ast.specs.declared.expr.Infix.TheVariants as i
use Rattle.c11_ast.specs.declared.expr.Prefix.{Prefix}
use Rattle.c11_ast.specs.declared.expr.Prefix.TheVariants as p
use Rattle.c11_ast.specs.declared.expr.CastTo.{CastTo}
use Rattle.c11_ast.specs.declared.expr.CastTo.TheVariants as to
use Rattle.c11_check.specs.declared.entity.Entity.{Entity}
use Rattle.c11_check.specs.Scopes.{Scope}
use Rattle.c11_check.specs.Types.{branches_type}
use Rattle.c11_meaning.specs.Parts.{Object, Part, Linked, line_of, entity_of}
use Rattle.c11_meaning.specs.Outcome.{State, Outcome, Gives, and_then, computed}
use Rattle.c11_meaning.specs.Objects.{nothing, is_zero, entity_base, entity_size, element, read_of, write_of, compound, step}

-- what a call of the program's function does: its line, the function's number, and the arguments
abbrev pub Calls : Type 0
Calls = ℕ → ℕ → List TypedNumber → State → Outcome TypedNumber

-- what an expression does in a scope
abbrev pub Valuing : Type 0
Valuing = Scope → Calls → State → Outcome TypedNumber

-- ---- names

-- where the object is: behind its index and the bounds of that, where it has one
abbrev pub element_by : Option ℕ → ℕ → ℕ → TypedNumber → State → Outcome ℕ
element_by None line base index st = Gives base st
element_by (Some size) line base index st = element line base size index.number st

abbrev pub located_by : Option Valuing → Option Entity → ℕ → Scope → Calls → State → Outcome ℕ
located_by None entity line scope calls st = Gives (entity_base entity) st
located_by (Some index) entity line scope calls st = and_then (index scope calls st) (element_by (entity_size entity) line (entity_base entity))

abbrev pub located : Object Valuing → Scope → Calls → State → Outcome ℕ
located object scope = located_by object.index (entity_of object scope) (line_of object) scope

abbrev pub reading : Object Valuing → Valuing
reading object scope calls st = and_then (located object scope calls st) (read_of (entity_of object scope) (line_of object))

-- `x = e`, or `x op= e` with the line of the operator
abbrev pub assigning : Object Valuing → Option BinaryOp → ℕ → Valuing → Valuing
assigning object None op_line value scope calls st = and_then (located object scope calls st) (λ place st. and_then (value scope calls st)
    (write_of (entity_of object scope) (line_of object) place))
assigning object (Some op) op_line value scope calls st = and_then (located object scope calls st)
    (λ place st. compound (entity_of object scope) (line_of object) op_line op place (value scope calls) st)

abbrev pub stepping : Object Valuing → ℕ → Bool → Bool → Valuing
stepping object op_line up before scope calls st = and_then (located object scope calls st) (step (entity_of object scope) (line_of object) op_line up before)

-- ---- operators

abbrev pub choosing : {A : Type 0} → TypedNumber → A → A → A
choosing test one another = if is_zero test then another else one

-- in this type, where there is one
abbrev pub typed_as : Option CType → TypedNumber → TypedNumber
typed_as None value = value
typed_as (Some ctype) value = converted ctype value

-- a branch of `?:`, in the common type of both
abbrev pub branch : Option CType → Part Valuing → Valuing
branch ctype part scope calls st = and_then (part.value scope calls st) (λ value st. Gives (typed_as ctype value) st)

abbrev pub condition : Part Valuing → Part Valuing → Part Valuing → Valuing
condition test one another scope calls st = let ctype = branches_type (one.typed scope) (another.typed scope) in
    and_then (test.value scope calls st) (λ value st. choosing value (branch ctype one scope calls st) (branch ctype another scope calls st))

-- whether the value is not zero, as a number
abbrev pub truth_of : TypedNumber → TypedNumber
truth_of value = truth (not (is_zero value))

abbrev pub right_truth : Part Valuing → Valuing
right_truth part scope calls st = and_then (part.value scope calls st) (λ value st. Gives (truth_of value) st)

-- one operator and its right side; `&&` and `||` leave it out where the left side decides
abbrev pub infixed : Infix → ℕ → Part Valuing → TypedNumber → Valuing
infixed (i.Number op) line part value scope calls st = and_then (part.value scope calls st) (λ right st. computed line (binary_of op value right) st)
infixed i.Both line part value scope calls st = choosing value (right_truth part scope calls st) (Gives (truth false) st)
infixed i.Either line part value scope calls st = choosing value (Gives (truth true) st) (right_truth part scope calls st)

abbrev pub chained : List (Linked Valuing) → TypedNumber → Valuing
chained [] value scope calls st = Gives value st
chained (link ∷ links) value scope calls st = and_then (infixed link.op link.line link.right value scope calls st) (λ value st. chained links value scope calls st)

-- `-x` is 0 less x, and may overflow (C11 6.5.3.3)
abbrev pub prefixed : Prefix → ℕ → TypedNumber → State → Outcome TypedNumber
prefixed p.Minus line value st = computed line (binary_of Sub (record { ctype = value.ctype; number = pos 0 }) value) st
prefixed p.Plus line value st = Gives value st
prefixed p.Not line value st = Gives (truth (is_zero value)) st
prefixed p.Flip line value st = Gives (wrapped value.ctype (negsuc 0 -ℤ value.number)) st

abbrev pub cast : CastTo → TypedNumber → TypedNumber
cast (to.Number ctype) value = converted ctype value
cast to.Void value = nothing
cast to.VoidPointer value = converted Long value
