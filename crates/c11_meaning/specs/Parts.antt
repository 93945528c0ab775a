-- The parts of expressions: what each is to what stands around it, whatever is made of it.
use Rattle.std.specs.Prelude.{ℕ, List, [], ◌∷◌, Option, Some, None}
use Rattle.c11_ast.specs.declared.place.Word.{Word}
use Rattle.c11_ast.specs.declared.expr.Infix.{Infix}
use Rattle.c11_ast.specs.declared.expr.Arg.TheOpen.{Arg-F, Expr-F, Link-F, Target-F}
use Rattle.c11_ast.specs.declared.expr.Arg.TheFolds.{map-Expr}
use Rattle.c11_events.specs.declared.order.Order.{Order}
use Rattle.c11_events.specs.declared.order.Order.TheVariants.{SeqCst}
use Rattle.c11_check.specs.declared.entity.Entity.{Entity}
use Rattle.c11_check.specs.declared.entity.Entity.TheVariants as e
use Rattle.c11_check.specs.Scopes.{Scope, denoted}
use Rattle.c11_check.specs.Types.{Typed, TypedLink}
use Rattle.c11_check.specs.Types as types

-- a name, and what is made of its index, where it has one
pub record Object (V : Type 0) : Type 0 where
  pub word : Word
  pub index : Option V

pub record Part (V : Type 0) : Type 0 where
  -- its type
  pub typed : Typed
  -- the object, where it is a name alone or an element
  pub object : Option (Object V)
  -- what is made of it
  pub value : V

-- an argument
pub data Given (V : Type 0) : Type 0 where
  Address : Object V → Given V
  Text : List ℕ → Given V
  Value : Part V → Given V

-- an operator, its line, and its right side
pub record Linked (V : Type 0) : Type 0 where
  pub op : Infix
  pub line : ℕ
  pub right : Part V

-- ---- names

abbrev pub line_of : {V : Type 0} → Object V → ℕ
line_of object = object.word.spot.line

abbrev pub entity_of : {V : Type 0} → Object V → Scope → Option Entity
entity_of object scope = denoted scope object.word.name

-- what the name that is given denotes
abbrev pub entity_given : {V : Type 0} → Option (Object V) → Scope → Option Entity
entity_given None scope = None
entity_given (Some object) scope = entity_of object scope

abbrev pub given_object : {V : Type 0} → Given V → Option (Object V)
given_object (Value part) = part.object
given_object _ = None

abbrev pub given_entity : {V : Type 0} → Given V → Scope → Option Entity
given_entity given = entity_given (given_object given)

abbrev pub order_named : Option Entity → Order
order_named (Some (e.Order order)) = order
order_named _ = SeqCst

-- an order is written in the explicit forms alone; the others are seq_cst (C11 7.17.7)
abbrev pub order_in : {V : Type 0} → List (Given V) → Scope → Order
order_in [] scope = SeqCst
order_in (given ∷ rest) scope = order_named (given_entity given scope)

abbrev pub second_order_in : {V : Type 0} → List (Given V) → Scope → Order
second_order_in [] scope = SeqCst
second_order_in (given ∷ rest) scope = order_in rest scope

abbrev pub function_named : Option Entity → ℕ
function_named (Some (e.Function function signature)) = function
function_named _ = 0

-- ---- along the tree

abbrev pub index_value : {V : Type 0} → Option (Part V) → Option V
index_value None = None
index_value (Some part) = Some part.value

abbrev pub target_step : {V : Type 0} → Target-F (Given V) (Part V) (Linked V) (Object V) → Object V
target_step target = record { word = target.word; index = index_value target.index }

abbrev pub link_step : {V : Type 0} → Link-F (Given V) (Part V) (Linked V) (Object V) → Linked V
link_step link = record { op = link.op; line = link.spot.line; right = link.right }

abbrev pub arg_step : {V : Type 0} → Arg-F (Given V) (Part V) (Linked V) (Object V) → Given V
arg_step (Arg-F.Address spot target) = Address target
arg_step (Arg-F.Text spot bytes) = Text bytes
arg_step (Arg-F.Value expr) = Value expr

abbrev pub object_step : {V : Type 0} → Expr-F (Given V) (Part V) (Linked V) (Object V) → Option (Object V)
object_step (Expr-F.Read target) = Some target
object_step _ = None

-- the types of the parts, of which that of the whole comes
abbrev pub type_of_object : {V : Type 0} → Object V → Typed
type_of_object object scope = Some (types.entity_type (entity_of object scope))

abbrev pub type_of_given : {V : Type 0} → Given V → Typed
type_of_given (Address object) scope = type_of_object object scope
type_of_given (Text bytes) scope = None
type_of_given (Value part) scope = part.typed scope

abbrev pub type_of_link : {V : Type 0} → Linked V → TypedLink
type_of_link link = record { op = link.op; right = link.right.typed }

abbrev pub type_of_part : {V : Type 0} → Part V → Typed
type_of_part part = part.typed

abbrev pub typed_step : {V : Type 0} → Expr-F (Given V) (Part V) (Linked V) (Object V) → Typed
typed_step {V = V} layer = types.expr_step (map-Expr (Given V) (Part V) (Linked V) (Object V) Typed Typed TypedLink Typed type_of_given type_of_part type_of_link type_of_object layer)

-- what is made of an expression, by what is made of its parts
abbrev pub part_step : {V : Type 0} → (Expr-F (Given V) (Part V) (Linked V) (Object V) → V) → Expr-F (Given V) (Part V) (Linked V) (Object V) → Part V
part_step step layer = record { typed = typed_step layer; object = object_step layer; value = step layer }
