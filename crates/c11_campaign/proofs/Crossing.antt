-- What the workers of a campaign share may be shared: what a `&` to it holds names no thread. The parts of a syntax tree stand one by one,
-- since a `search` that goes down through all of them runs out of steps.
use mathlib.Core.List.{List, [], ◌∷◌}
use Prim.Native.Nat.{ℕ}
use mir.Syntax.{Sym}
use denote.Enum.Declared as E
use denote.Param.Send.{IsSync, AllSync, struct_sync, enum_sync, recorded_sync, shr_sync, view_sync, sendable}
use denote.Param.SendFields.{declared_sync, as_row_sync}
use denote.Param.{param}
use denote.RattleType.{RattleType}
use denote.Ref.{NamedLft}
use denote.Struct.Declared as S
use denote.Struct.Field.{bool-field, u64-field, row_field, shr_ref_field}
use denote.Struct.Struct.{Shape, Struct}
use denote.Struct.Tuple.{TupleAt, type_at}
use Rattle.std.specs.contracts.alloc.Global as Global
use Rattle.std.specs.contracts.option.Option as Option
use Rattle.std.proofs.Crossing.{Vec-sync}
use Rattle.std.proofs.alloc.Global.TheSendSync as heap
use Rattle.std.proofs.option.Option.TheSendSync as option
use Rattle.sqlite_items.specs.contracts.boxed.Boxed as Boxed
use Rattle.sqlite_items.proofs.boxed.Boxed.TheSendSync as boxed
use Rattle.sqlite_items.proofs.items.Items.TheSendSync as items
use Rattle.c11_num.specs.contracts.kind.BinaryOp as BinaryOp
use Rattle.c11_num.specs.contracts.value.CType as CType
use Rattle.c11_num.proofs.kind.BinaryOp.TheSendSync as binary
use Rattle.c11_num.proofs.text.Bytes.TheSendSync as bytes
use Rattle.c11_num.proofs.value.CType.TheSendSync as ctype
use Rattle.c11_num.proofs.value.CValue.TheSendSync as cvalue
use Rattle.c11_ast.specs.contracts.expr.Arg.TheKnot as ExprKnot
use Rattle.c11_ast.specs.contracts.expr.Expr as Expr
use Rattle.c11_ast.specs.contracts.expr.Target as Target
use Rattle.c11_ast.specs.contracts.item.Function as Function
use Rattle.c11_ast.specs.contracts.item.Item as Item
use Rattle.c11_ast.specs.contracts.item.Param as Param
use Rattle.c11_ast.specs.contracts.item.Program as Program
use Rattle.c11_ast.specs.contracts.item.Var as Var
use Rattle.c11_ast.specs.contracts.place.Place as Place
use Rattle.c11_ast.specs.contracts.stmt.Block as Block
use Rattle.c11_ast.specs.contracts.stmt.Local as Local
use Rattle.c11_ast.specs.contracts.stmt.Stmt.TheKnot as StmtKnot
use Rattle.c11_ast.proofs.expr.Arg.TheLaws.TheKnot.{hole_sync-Expr, hole_sync-Link, hole_sync-Arg}
use Rattle.c11_ast.proofs.expr.CastTo.TheSendSync as cast_to
use Rattle.c11_ast.proofs.expr.Infix.TheSendSync as infix_
use Rattle.c11_ast.proofs.expr.Prefix.TheSendSync as prefix_
use Rattle.c11_ast.proofs.item.GlobalKind.TheSendSync as kind
use Rattle.c11_ast.proofs.item.Param.TheSendSync as parameter
use Rattle.c11_ast.proofs.item.Var.TheSendSync as var
use Rattle.c11_ast.proofs.place.Place.TheSendSync as place
use Rattle.c11_ast.proofs.place.Spot.TheSendSync as spot
use Rattle.c11_ast.proofs.place.Word.TheSendSync as word
use Rattle.c11_ast.proofs.stmt.Stmt.TheLaws.TheKnot.{hole_sync-Stmt}
use Rattle.c11_events.proofs.cells.CellInfo.TheSendSync as cells
use Rattle.c11_events.proofs.cells.FunctionInfo.TheSendSync as functions
use Rattle.c11_check.specs.contracts.checked.Checked as Checked
use Rattle.c11_flat.proofs.code.Code.TheSendSync as code
use Rattle.c11_claims.specs.contracts.Claims as Claims
use Rattle.c11_claims.proofs.Claims.TheSendSync as claims
use Rattle.c11_campaign.specs.contracts.hunt.Hunt as Hunt

bool_sync : IsSync bool-field.row
bool_sync = search sendable

binary_sync : IsSync (Option.the_field BinaryOp.the_row).row
binary_sync = option.the_field_sync BinaryOp.the_row binary.the_sync

maybe_sync : (h : RattleType) → IsSync h → IsSync (Option.the_row (Boxed.the_row h))
maybe_sync h s = option.the_sync (Boxed.the_row h) (boxed.the_sync h s)

-- ---- expressions

expr_hole : IsSync ExprKnot.hole-Expr
expr_hole = hole_sync-Expr spot.the_field_sync bytes.the_sync binary_sync boxed.the_sync items.the_sync prefix_.the_field_sync bool_sync cast_to.the_field_sync word.the_field_sync cvalue.the_sync infix_.the_field_sync maybe_sync

link_hole : IsSync ExprKnot.hole-Link
link_hole = hole_sync-Link spot.the_field_sync bytes.the_sync binary_sync boxed.the_sync items.the_sync prefix_.the_field_sync bool_sync cast_to.the_field_sync word.the_field_sync cvalue.the_sync infix_.the_field_sync maybe_sync

arg_hole : IsSync ExprKnot.hole-Arg
arg_hole = hole_sync-Arg spot.the_field_sync bytes.the_sync binary_sync boxed.the_sync items.the_sync prefix_.the_field_sync bool_sync cast_to.the_field_sync word.the_field_sync cvalue.the_sync infix_.the_field_sync maybe_sync

target_sync : IsSync (Target.the_field).row
target_sync = struct_sync (S.shape Target.the_type) (word.the_field_sync, (maybe_sync ExprKnot.hole-Expr expr_hole, tt))

boxed_expr : IsSync (Boxed.the_row ExprKnot.hole-Expr)
boxed_expr = boxed.the_sync ExprKnot.hole-Expr expr_hole

expr_sync : IsSync (Expr.the_field).row
expr_sync = enum_sync (E.shape Expr.the_type) (
  (target_sync, (binary_sync, (spot.the_field_sync, (boxed_expr, tt)))),
  (
    (boxed_expr, (boxed_expr, (boxed_expr, tt))),
    (
      (boxed_expr, (items.the_sync ExprKnot.hole-Link link_hole, tt)),
      (
        (spot.the_field_sync, (prefix_.the_field_sync, (boxed_expr, tt))),
        (
          (spot.the_field_sync, (spot.the_field_sync, (target_sync, (bool_sync, (bool_sync, tt))))),
          (
            (spot.the_field_sync, (cast_to.the_field_sync, (boxed_expr, tt))),
            (
              (word.the_field_sync, (items.the_sync ExprKnot.hole-Arg arg_hole, tt)),
              (
                (spot.the_field_sync, (cvalue.the_sync, tt)),
                (
                  (target_sync, tt),
                  ((spot.the_field_sync, (boxed_expr, tt)), tt),
                ),
              ),
            ),
          ),
        ),
      ),
    ),
  ),
)

expr_row : IsSync Expr.the_row
expr_row = recorded_sync (Expr.the_field).row _ _ (Expr.the_type).to_one expr_sync

-- ---- statements

local_sync : IsSync Local.the_row
local_sync = recorded_sync (Local.the_field).row _ _ (Local.the_type).to_one
    (struct_sync (S.shape Local.the_type) (place.the_field_sync, (option.the_field_sync Expr.the_row expr_row, tt)))

stmt_hole : IsSync StmtKnot.hole-Stmt
stmt_hole = hole_sync-Stmt spot.the_field_sync expr_sync items.the_sync maybe_sync boxed.the_sync (option.the_field_sync Expr.the_row expr_row) ctype.the_field_sync (items.the_sync Local.the_row local_sync) (items.the_sync Place.the_row place.the_sync)

block_sync : IsSync (Block.the_field).row
block_sync = struct_sync (S.shape Block.the_type) (spot.the_field_sync, (items.the_sync StmtKnot.hole-Stmt stmt_hole, (spot.the_field_sync, tt)))

-- ---- programs

function_sync : IsSync (Function.the_field).row
function_sync = struct_sync (S.shape Function.the_type) (spot.the_field_sync, (word.the_field_sync, (option.the_field_sync CType.the_row ctype.the_sync, (items.the_sync Param.the_row parameter.the_sync, (block_sync, tt)))))

item_sync : IsSync Item.the_row
item_sync = recorded_sync (Item.the_field).row _ _ (Item.the_type).to_one (enum_sync (E.shape Item.the_type) (
  (spot.the_field_sync, tt),
  (
    (spot.the_field_sync, (word.the_field_sync, (cvalue.the_sync, tt))),
    (
      (spot.the_field_sync, (kind.the_field_sync, (items.the_sync Var.the_row var.the_sync, tt))),
      ((function_sync, tt), tt),
    ),
  ),
))

program_sync : IsSync (Program.the_field).row
program_sync = struct_sync (S.shape Program.the_type) (items.the_sync Item.the_row item_sync, tt)

-- the same of each row of a list, which `search` takes apart one by one
AllShared : List RattleType → Type 0
AllShared rows = AllSync rows

none : AllShared []
unfolding AllShared
none = tt

more : (row : RattleType) (rows : List RattleType) → IsSync row → AllShared rows → AllShared (row ∷ rows)
unfolding AllShared
more row rows shared rest = (shared, rest)

struct_by : (shape : Shape) → AllShared shape.fields → IsSync (Struct shape)
unfolding AllShared
struct_by shape all = struct_sync shape all

pub checked_sync : IsSync Checked.the_row
checked_sync = recorded_sync (Checked.the_field).row _ _ (Checked.the_type).to_one (struct_sync (S.shape Checked.the_type) (
  program_sync,
  (search (view_sync, recorded_sync, struct_by, none, more, Vec-sync, cells.the_sync, functions.the_sync) depth 20, (search sendable, tt)),
))

-- ---- workers

number_sync : IsSync u64-field.row
number_sync = search sendable

hunt_sync : (life : NamedLft) → IsSync (Hunt.the_row life)
hunt_sync life = search (shr_sync, recorded_sync, checked_sync, code.the_sync, struct_by, none, more, sendable) depth 30

-- what a closure holds that borrows all that its workers share
abbrev shared : (a b c d e f : NamedLft) (i : ℕ) (G : RattleType) → List RattleType
shared a b c d e f i G = (shr_ref_field a Global.the_row tt).row ∷ (shr_ref_field b (Hunt.the_row c) tt).row ∷ (shr_ref_field d Claims.the_row tt).row ∷ (shr_ref_field e u64-field.row tt).row ∷ (shr_ref_field f (param i G) tt).row ∷ []

pub closure_sync : (name : Sym) (a b c d e f : NamedLft) (i : ℕ) (G : RattleType) → IsSync (param i G) → IsSync (TupleAt name (shared a b c d e f i G))
closure_sync name a b c d e f i G gate = declared_sync (type_at name (shared a b c d e f i G)) (
  as_row_sync (row_field (shr_ref_field a Global.the_row tt).row) (shr_sync a.mir a.lft Global.the_row heap.the_sync),
  (
    as_row_sync (row_field (shr_ref_field b (Hunt.the_row c) tt).row) (shr_sync b.mir b.lft (Hunt.the_row c) (hunt_sync c)),
    (
      as_row_sync (row_field (shr_ref_field d Claims.the_row tt).row) (shr_sync d.mir d.lft Claims.the_row claims.the_sync),
      (
        as_row_sync (row_field (shr_ref_field e u64-field.row tt).row) (shr_sync e.mir e.lft u64-field.row number_sync),
        (as_row_sync (row_field (shr_ref_field f (param i G) tt).row) (shr_sync f.mir f.lft (param i G) gate), tt),
      ),
    ),
  ),
)
