-- The types of expressions (C11 6.3.1.8 and 6.5).
use Rattle.std.specs.Prelude.{List, [], ◌∷◌, Option, Some, None}
use Rattle.c11_num.specs.Arithmetic.{usual}
use Rattle.c11_num.specs.declared.value.CType.{CType}
use Rattle.c11_num.specs.declared.value.CType.TheVariants as c
use Rattle.c11_num.specs.declared.kind.BinaryOp.{BinaryOp}
use Rattle.c11_num.specs.declared.kind.BinaryOp.TheVariants as b
use Rattle.c11_ast.specs.declared.expr.Infix.{Infix}
use Rattle.c11_ast.specs.declared.expr.Infix.TheVariants as i
use Rattle.c11_ast.specs.declared.expr.Prefix.{Prefix}
use Rattle.c11_ast.specs.declared.expr.Prefix.TheVariants as p
use Rattle.c11_ast.specs.declared.expr.CastTo.{CastTo}
use Rattle.c11_ast.specs.declared.expr.CastTo.TheVariants as to
use Rattle.c11_ast.specs.declared.expr.Expr.{Expr}
use Rattle.c11_ast.specs.declared.expr.Arg.TheOpen.{Arg-F, Expr-F, Link-F, Target-F}
use Rattle.c11_ast.specs.declared.expr.Arg.TheFolds.{fold-Expr}
use Rattle.c11_check.specs.declared.entity.Entity.{Entity}
use Rattle.c11_check.specs.declared.entity.Entity.TheVariants as e
use Rattle.c11_check.specs.Library.{library_answers, constant_value}
use Rattle.c11_check.specs.Scopes.{Scope, denoted}

-- the type of the value that a name stands for; what has no value has `int` here, since reading it is a fault
abbrev pub entity_type : Option Entity → CType
entity_type (Some (e.Local ctype place size)) = ctype
entity_type (Some (e.Atomic ctype cell size)) = ctype
entity_type (Some (e.Plain ctype cell size)) = ctype
entity_type (Some (e.Defined value)) = value.ctype
entity_type (Some (e.Constant constant)) = (constant_value constant).ctype
entity_type _ = c.Int

-- The type of what a call of the name answers, and none for `void`, where an atomic object that is given has type `object`; what
-- cannot be called has `int` here, since the call is a fault.
abbrev pub call_type : Option Entity → CType → Option CType
call_type (Some (e.Function function signature)) object = signature.answers
call_type (Some (e.Library library)) object = library_answers library object
call_type _ object = Some c.Int

-- arithmetic has the type in which both sides are computed, a shift that of its left side, and a comparison `int`
abbrev pub binary_type : BinaryOp → CType → CType → CType
binary_type b.Mul left right = usual left right
binary_type b.Div left right = usual left right
binary_type b.Rem left right = usual left right
binary_type b.Add left right = usual left right
binary_type b.Sub left right = usual left right
binary_type b.And left right = usual left right
binary_type b.Xor left right = usual left right
binary_type b.Or left right = usual left right
binary_type b.Shl left right = left
binary_type b.Shr left right = left
binary_type b.Lt left right = c.Int
binary_type b.Gt left right = c.Int
binary_type b.Le left right = c.Int
binary_type b.Ge left right = c.Int
binary_type b.Eq left right = c.Int
binary_type b.Ne left right = c.Int

abbrev pub infix_type : Infix → CType → CType → CType
infix_type (i.Number op) left right = binary_type op left right
infix_type i.Both left right = c.Int
infix_type i.Either left right = c.Int

abbrev pub prefix_type : Prefix → CType → CType
prefix_type p.Not inner = c.Int
prefix_type p.Minus inner = inner
prefix_type p.Plus inner = inner
prefix_type p.Flip inner = inner

-- `?:` has a value where both branches have one
abbrev pub branches_type : Option CType → Option CType → Option CType
branches_type (Some one) (Some other) = Some (usual one other)
branches_type _ _ = None

-- `void *` is a spelling of `long`
abbrev pub cast_type : CastTo → Option CType
cast_type (to.Number ctype) = Some ctype
cast_type to.Void = None
cast_type to.VoidPointer = Some c.Long

-- an operand without a value has `int` here, since its use is a fault
abbrev pub or_int : Option CType → CType
or_int (Some ctype) = ctype
or_int None = c.Int

-- ---- along the tree: what each part's type is in a scope

abbrev pub Typed : Type 0
Typed = Scope → Option CType

-- an operator, and the type of its right side
pub record TypedLink : Type 0 where
  pub op : Infix
  pub right : Typed

abbrev pub links_type : CType → List TypedLink → Scope → CType
links_type left [] scope = left
links_type left (link ∷ links) scope = links_type (infix_type link.op left (or_int (link.right scope))) links scope

-- the type of the object behind the `&` of the first argument
abbrev pub first_type : List Typed → Scope → CType
first_type [] scope = c.Int
first_type (arg ∷ args) scope = or_int (arg scope)

abbrev pub target_step : Target-F Typed Typed TypedLink Typed → Typed
target_step target scope = Some (entity_type (denoted scope target.word.name))

abbrev pub link_step : Link-F Typed Typed TypedLink Typed → TypedLink
link_step link = record { op = link.op; right = link.right }

abbrev pub arg_step : Arg-F Typed Typed TypedLink Typed → Typed
arg_step (Arg-F.Address spot target) scope = target scope
arg_step (Arg-F.Text spot bytes) scope = None
arg_step (Arg-F.Value expr) scope = expr scope

abbrev pub expr_step : Expr-F Typed Typed TypedLink Typed → Typed
expr_step (Expr-F.Assign target op op_spot value) scope = target scope
expr_step (Expr-F.Cond test one other) scope = branches_type (one scope) (other scope)
expr_step (Expr-F.Chain first rest) scope = Some (links_type (or_int (first scope)) rest scope)
expr_step (Expr-F.Prefix spot op inner) scope = Some (prefix_type op (or_int (inner scope)))
expr_step (Expr-F.Step spot op_spot target up before) scope = target scope
expr_step (Expr-F.Cast spot to inner) scope = cast_type to
expr_step (Expr-F.Call word args) scope = call_type (denoted scope word.name) (first_type args scope)
expr_step (Expr-F.Literal spot value) scope = Some value.ctype
expr_step (Expr-F.Read target) scope = target scope
expr_step (Expr-F.Paren spot inner) scope = inner scope

-- The type of an expression's value in a scope; none where it has no value.
abbrev pub type_of : Scope → Expr → Option CType
type_of scope expr = fold-Expr Typed Typed TypedLink Typed arg_step expr_step link_step target_step expr scope
