-- The code of expressions, along their trees: how many instructions, and which from a place on.
use Rattle.std.specs.Prelude.{ℕ, ◌+◌, Bool, true, false, List, [], ◌∷◌, ◌++◌, length, Option, Some, None}
use Rattle.c11_num.specs.declared.value.CType.{CType}
use Rattle.c11_num.specs.declared.value.CType.TheVariants.{Long}
use Rattle.c11_num.specs.declared.kind.BinaryOp.{BinaryOp}
use Rattle.c11_num.specs.declared.kind.RmwKind.{RmwKind}
use Rattle.c11_num.specs.Operators.{truth}
use Rattle.c11_ast.specs.declared.expr.Infix.{Infix}
use Rattle.c11_ast.specs.declared.expr.Infix.TheVariants as x
use Rattle.c11_ast.specs.declared.expr.CastTo.TheVariants as to
use Rattle.c11_ast.specs.declared.expr.Expr.{Expr}
use Rattle.c11_ast.specs.declared.expr.Arg.TheOpen.{Expr-F}
use Rattle.c11_ast.specs.declared.expr.Arg.TheFolds.{fold-Expr}
use Rattle.c11_events.specs.declared.order.Order.TheVariants.{SeqCst}
use Rattle.c11_check.specs.declared.entity.Entity.{Entity}
use Rattle.c11_check.specs.declared.entity.Entity.TheVariants as e
use Rattle.c11_check.specs.declared.library.Library.{Library}
use Rattle.c11_check.specs.declared.library.Library.TheVariants as l
use Rattle.c11_check.specs.Library.{constant_value}
use Rattle.c11_check.specs.Scopes.{Scope, denoted}
use Rattle.c11_check.specs.Types.{branches_type, entity_type}
use Rattle.c11_meaning.specs.Objects.{nothing, one, entity_base, entity_size, kind_of_op, step_op, not_before}
use Rattle.c11_meaning.specs.Parts.{Object, Part, Given, Address, Text, Value, Linked, line_of, entity_of, given_object, given_entity, order_in, second_order_in, function_named, arg_step, link_step, target_step, part_step}
use Rattle.c11_flat.specs.declared.instr.Instr.{Instr}
use Rattle.c11_flat.specs.declared.instr.Instr.TheVariants as i
use Rattle.c11_flat.specs.declared.instr.Place.{Place}
use Rattle.c11_flat.specs.declared.instr.Place.TheVariants.{At, OnStack}
use Rattle.c11_flat.specs.declared.instr.Storage.TheVariants.{Local, Plain}
use Rattle.c11_flat.specs.declared.instr.Acts.{Acts}
use Rattle.c11_flat.specs.declared.instr.Acts.TheVariants as acts

pub record Piece : Type 0 where
  pub size : ℕ
  pub code : ℕ → List Instr

-- what is made of an expression
abbrev pub Coding : Type 0
Coding = Scope → Piece

-- instructions that do not depend on where they stand
abbrev pub plain : List Instr → Piece
plain instrs = record { size = length instrs; code = λ b. instrs }

-- one piece, and then the other
abbrev pub joined : Piece → Piece → Piece
joined p q = record { size = p.size + q.size; code = λ b. p.code b ++ q.code (b + p.size) }

abbrev pub with_instr : Piece → Instr → Piece
with_instr p instr = joined p (plain (instr ∷ []))

-- ---- objects

-- where the place of an object is when its index was taken
abbrev pub place_by : Option ℕ → ℕ → Place
place_by None base = At base
place_by (Some size) base = OnStack

abbrev pub place_with : {V : Type 0} → Option V → Option Entity → Place
place_with None entity = At (entity_base entity)
place_with (Some index) entity = place_by (entity_size entity) (entity_base entity)

abbrev pub place_in : {V : Type 0} → Object V → Scope → Place
place_in object scope = place_with object.index (entity_of object scope)

-- of an index, the place of the element; an index on no array counts as none
abbrev pub element_instr : Option ℕ → ℕ → ℕ → Instr
element_instr None line base = i.Drop
element_instr (Some size) line base = i.Element line (record { base = base; size = size })

abbrev pub located_by : Option Coding → Option Entity → ℕ → Coding
located_by None entity line scope = plain []
located_by (Some index) entity line scope = with_instr (index scope) (element_instr (entity_size entity) line (entity_base entity))

abbrev pub located : Object Coding → Coding
located object scope = located_by object.index (entity_of object scope) (line_of object) scope

-- a place that is not wanted any more
abbrev pub dropped : Place → List Instr
dropped (At place) = []
dropped OnStack = i.Drop ∷ []

abbrev pub read_code : Option Entity → ℕ → Place → List Instr
read_code (Some (e.Local ctype base size)) line place = i.Read line Local ctype place ∷ []
read_code (Some (e.Plain ctype base size)) line place = i.Read line Plain ctype place ∷ []
read_code (Some (e.Atomic ctype base size)) line place = i.Load line SeqCst place ∷ []
read_code (Some (e.Defined value)) line place = dropped place ++ i.Push value ∷ []
read_code (Some (e.Constant constant)) line place = dropped place ++ i.Push (constant_value constant) ∷ []
read_code _ line place = dropped place ++ i.Push nothing ∷ []

abbrev pub write_code : Option Entity → ℕ → Place → List Instr
write_code (Some (e.Local ctype base size)) line place = i.Write line Local ctype place ∷ []
write_code (Some (e.Plain ctype base size)) line place = i.Write line Plain ctype place ∷ []
write_code (Some (e.Atomic ctype base size)) line place = i.Store line SeqCst ctype place ∷ []
write_code _ line place = i.Drop ∷ (dropped place ++ i.Push nothing ∷ [])

abbrev pub update : ℕ → CType → BinaryOp → Bool → Place → Instr
update line ctype op old place = i.Modify line SeqCst (kind_of_op op) ctype place old

-- `x op= e` behind the place of x
abbrev pub compound : Option Entity → ℕ → ℕ → BinaryOp → Place → Piece → Piece
compound (Some (e.Local ctype base size)) line op_line op place value =
    joined (plain (i.Fetch line Local ctype place ∷ [])) (joined value (plain (i.Compute op_line op ∷ i.Write line Local ctype place ∷ [])))
compound (Some (e.Plain ctype base size)) line op_line op place value =
    joined (plain (i.Fetch line Plain ctype place ∷ [])) (joined value (plain (i.Compute op_line op ∷ i.Write line Plain ctype place ∷ [])))
compound (Some (e.Atomic ctype base size)) line op_line op place value = with_instr value (update line ctype op false place)
compound _ line op_line op place value = plain (dropped place ++ i.Push nothing ∷ [])

abbrev pub step : Option Entity → ℕ → ℕ → Bool → Bool → Place → List Instr
step (Some (e.Local ctype base size)) line op_line up before place = i.Fetch line Local ctype place ∷ i.Step op_line up ∷ i.Stepped line Local ctype place before ∷ []
step (Some (e.Plain ctype base size)) line op_line up before place = i.Fetch line Plain ctype place ∷ i.Step op_line up ∷ i.Stepped line Plain ctype place before ∷ []
step (Some (e.Atomic ctype base size)) line op_line up before place = i.Push one ∷ update line ctype (step_op up) (not_before before) place ∷ []
step _ line op_line up before place = dropped place ++ i.Push nothing ∷ []

abbrev pub reading : Object Coding → Coding
reading object scope = joined (located object scope) (plain (read_code (entity_of object scope) (line_of object) (place_in object scope)))

abbrev pub assigning : Object Coding → Option BinaryOp → ℕ → Coding → Coding
assigning object None op_line value scope =
    joined (located object scope) (joined (value scope) (plain (write_code (entity_of object scope) (line_of object) (place_in object scope))))
assigning object (Some op) op_line value scope =
    joined (located object scope) (compound (entity_of object scope) (line_of object) op_line op (place_in object scope) (value scope))

abbrev pub stepping : Object Coding → ℕ → Bool → Bool → Coding
stepping object op_line up before scope = joined (located object scope) (plain (step (entity_of object scope) (line_of object) op_line up before (place_in object scope)))

-- ---- operators

-- behind a test: one piece where it is not zero, else the other; jumps go forward
abbrev pub chosen : Piece → Piece → Piece
chosen p q = record {
  size = 1 + (p.size + (1 + q.size));
  code = λ b. let c = b + 1 + p.size in i.JumpIfZero (c + 1) ∷ (p.code (b + 1) ++ (i.Jump (c + 1 + q.size) ∷ q.code (c + 1)));
}

abbrev pub typed_as : Option CType → List Instr
typed_as None = []
typed_as (Some ctype) = i.Cast (to.Number ctype) ∷ []

abbrev pub branch : Option CType → Part Coding → Coding
branch ctype part scope = joined (part.value scope) (plain (typed_as ctype))

abbrev pub condition : Part Coding → Part Coding → Part Coding → Coding
condition test one another scope = let ctype = branches_type (one.typed scope) (another.typed scope) in
    joined (test.value scope) (chosen (branch ctype one scope) (branch ctype another scope))

abbrev pub right_truth : Part Coding → Coding
right_truth part scope = with_instr (part.value scope) i.Truth

abbrev pub infixed : Infix → ℕ → Part Coding → Coding
infixed (x.Number op) line part scope = with_instr (part.value scope) (i.Compute line op)
infixed x.Both line part scope = chosen (right_truth part scope) (plain (i.Push (truth false) ∷ []))
infixed x.Either line part scope = chosen (plain (i.Push (truth true) ∷ [])) (right_truth part scope)

abbrev pub chained : List (Linked Coding) → Coding
chained [] scope = plain []
chained (link ∷ links) scope = joined (infixed link.op link.line link.right scope) (chained links scope)

-- ---- calls of the library

abbrev pub value_given : Given Coding → Coding
value_given (Value part) scope = part.value scope
value_given _ scope = plain (i.Push nothing ∷ [])

abbrev pub values_given : List (Given Coding) → Coding
values_given [] scope = plain []
values_given (given ∷ rest) scope = joined (value_given given scope) (values_given rest scope)

abbrev pub type_in : Object Coding → Scope → CType
type_in object scope = entity_type (entity_of object scope)

abbrev pub loading : ℕ → Object Coding → List (Given Coding) → Coding
loading line a orders scope = with_instr (located a scope) (i.Load line (order_in orders scope) (place_in a scope))

abbrev pub storing : ℕ → Object Coding → Given Coding → List (Given Coding) → Coding
storing line a given orders scope = joined (located a scope) (joined (value_given given scope)
    (plain (i.Store line (order_in orders scope) (type_in a scope) (place_in a scope) ∷ i.Cast to.Void ∷ [])))

abbrev pub modifying : ℕ → RmwKind → Object Coding → Given Coding → List (Given Coding) → Coding
modifying line kind a given orders scope = joined (located a scope) (with_instr (value_given given scope)
    (i.Modify line (order_in orders scope) kind (type_in a scope) (place_in a scope) true))

abbrev pub comparing : ℕ → Bool → Object Coding → Object Coding → Given Coding → List (Given Coding) → Coding
comparing line weak a expected given orders scope = joined (located a scope) (joined (located expected scope) (with_instr (value_given given scope)
    (i.Compare line weak (order_in orders scope) (second_order_in orders scope) (type_in a scope) (type_in expected scope) (place_in a scope) (place_in expected scope))))

abbrev pub with_mutex : ℕ → Acts → Object Coding → Coding
with_mutex line acts m scope = with_instr (located m scope) (i.Mutex line acts (place_in m scope))

abbrev pub destroying : Object Coding → Coding
destroying m scope = joined (located m scope) (plain (dropped (place_in m scope) ++ i.Push nothing ∷ []))

abbrev pub creating : ℕ → Object Coding → Given Coding → Given Coding → Coding
creating line handle function given scope = joined (located handle scope) (with_instr (value_given given scope)
    (i.Create line (function_named (given_entity function scope)) (place_in handle scope)))

abbrev pub handle_located : Option (Object Coding) → Coding
handle_located None scope = plain []
handle_located (Some object) scope = located object scope

abbrev pub handle_place : Option (Object Coding) → Scope → Place
handle_place None scope = At 0
handle_place (Some object) scope = place_in object scope

abbrev pub answer_located : Given Coding → Coding
answer_located (Address object) scope = located object scope
answer_located _ scope = plain []

abbrev pub answer_place : Given Coding → Scope → Option Place
answer_place (Address object) scope = Some (place_in object scope)
answer_place _ scope = None

abbrev pub handle_read : ℕ → Option (Object Coding) → Coding
handle_read line handle scope = with_instr (handle_located handle scope) (i.Read line Local Long (handle_place handle scope))

abbrev pub joining : ℕ → Given Coding → Given Coding → Coding
joining line handle answer scope = joined (handle_read line (given_object handle) scope) (with_instr (answer_located answer scope) (i.Join line (answer_place answer scope)))

abbrev pub library_call : Library → ℕ → List (Given Coding) → Coding
library_call (l.Load explicit) line (Address a ∷ orders) scope = loading line a orders scope
library_call (l.Store explicit) line (Address a ∷ given ∷ orders) scope = storing line a given orders scope
library_call (l.ReadWrite kind explicit) line (Address a ∷ given ∷ orders) scope = modifying line kind a given orders scope
library_call (l.CompareExchange weak explicit) line (Address a ∷ Address expected ∷ given ∷ orders) scope = comparing line weak a expected given orders scope
library_call l.Fence line givens scope = plain (i.Fence line (order_in givens scope) ∷ [])
library_call l.MutexInit line (Address m ∷ kind) scope = with_mutex line acts.Init m scope
library_call l.MutexLock line (Address m ∷ rest) scope = with_mutex line acts.Lock m scope
library_call l.MutexTryLock line (Address m ∷ rest) scope = with_mutex line acts.TryLock m scope
library_call l.MutexUnlock line (Address m ∷ rest) scope = with_mutex line acts.Unlock m scope
library_call l.MutexDestroy line (Address m ∷ rest) scope = destroying m scope
library_call l.Create line (Address handle ∷ function ∷ given ∷ rest) scope = creating line handle function given scope
library_call l.Join line (handle ∷ answer ∷ rest) scope = joining line handle answer scope
library_call l.Assert line (given ∷ rest) scope = with_instr (value_given given scope) (i.Assert line)
library_call l.Print line (Text bytes ∷ rest) scope = with_instr (values_given rest scope) (i.Print line bytes (length rest))
library_call _ line givens scope = plain (i.Push nothing ∷ [])

abbrev pub call : Option Entity → ℕ → List (Given Coding) → Coding
call (Some (e.Function function signature)) line givens scope = with_instr (values_given givens scope) (i.Call line function (length givens))
call (Some (e.Library library)) line givens scope = library_call library line givens scope
call _ line givens scope = plain (i.Push nothing ∷ [])

-- ---- along the tree

abbrev pub code_step : Expr-F (Given Coding) (Part Coding) (Linked Coding) (Object Coding) → Coding
code_step (Expr-F.Assign target op op_spot value) scope = assigning target op op_spot.line value.value scope
code_step (Expr-F.Cond test one another) scope = condition test one another scope
code_step (Expr-F.Chain first rest) scope = joined (first.value scope) (chained rest scope)
code_step (Expr-F.Prefix spot op inner) scope = with_instr (inner.value scope) (i.Prefix spot.line op)
code_step (Expr-F.Step spot op_spot target up before) scope = stepping target op_spot.line up before scope
code_step (Expr-F.Cast spot to inner) scope = with_instr (inner.value scope) (i.Cast to)
code_step (Expr-F.Call word args) scope = call (denoted scope word.name) word.spot.line args scope
code_step (Expr-F.Literal spot value) scope = plain (i.Push value ∷ [])
code_step (Expr-F.Read target) scope = reading target scope
code_step (Expr-F.Paren spot inner) scope = inner.value scope

abbrev pub part_of : Expr → Part Coding
part_of = fold-Expr (Given Coding) (Part Coding) (Linked Coding) (Object Coding) arg_step (part_step code_step) link_step target_step

-- the code of an expression, which leaves its value on the stack
abbrev pub piece_of : Expr → Coding
piece_of expr = (part_of expr).value
