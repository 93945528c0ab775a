-- How parts are read, as functions of the tokens: what the contracts between the crates of the grammar cite. `Laws` says that they are the grammar.
use Rattle.std.specs.Prelude.{ℕ, zero, suc, ◌+◌, Bool, true, false, List, [], ◌∷◌, ◌++◌, length, Option, Some, None}
use Rattle.c11_num.specs.Ranges.{TypedNumber}
use Rattle.c11_num.specs.declared.value.CType.{CType}
use Rattle.c11_num.specs.declared.value.CType.TheVariants as c
use Rattle.c11_ast.specs.declared.place.Spot.{Spot}
use Rattle.c11_ast.specs.declared.place.Word.{Word}
use Rattle.c11_ast.specs.declared.place.Known.{Known}
use Rattle.c11_ast.specs.declared.place.Known.TheVariants as known
use Rattle.c11_ast.specs.declared.place.Constant.{Constant}
use Rattle.c11_ast.specs.declared.place.Place.{Place}
use Rattle.c11_ast.specs.declared.expr.CastTo.{CastTo}
use Rattle.c11_ast.specs.declared.expr.CastTo.TheVariants as to
use Rattle.c11_ast.specs.declared.expr.Target.{Target, out-Target}
use Rattle.c11_ast.specs.declared.expr.Link.{Link}
use Rattle.c11_ast.specs.declared.expr.Arg.{Arg}
use Rattle.c11_ast.specs.declared.expr.Arg.TheVariants as argument
use Rattle.c11_ast.specs.declared.expr.Expr.{Expr, out-Expr}
use Rattle.c11_ast.specs.declared.expr.Expr.TheVariants as e
use Rattle.c11_ast.specs.declared.expr.Arg.TheOpen.{Expr-F}
use Rattle.c11_ast.specs.declared.stmt.Local.{Local}
use Rattle.c11_ast.specs.declared.stmt.Arm.{Arm}
use Rattle.c11_ast.specs.declared.stmt.Block.{Block}
use Rattle.c11_ast.specs.declared.stmt.Stmt.{Stmt}
use Rattle.c11_ast.specs.declared.stmt.Stmt.TheVariants as s
use Rattle.c11_ast.specs.declared.item.GlobalKind.{GlobalKind}
use Rattle.c11_ast.specs.declared.item.GlobalKind.TheVariants as kind
use Rattle.c11_ast.specs.declared.item.Start.{Start}
use Rattle.c11_ast.specs.declared.item.Start.TheVariants as start
use Rattle.c11_ast.specs.declared.item.Var.{Var}
use Rattle.c11_ast.specs.declared.item.Param.{Param}
use Rattle.c11_ast.specs.declared.item.Item.{Item}
use Rattle.c11_ast.specs.declared.item.Item.TheVariants as item
use Rattle.c11_grammar.specs.declared.token.Mark.{Mark}
use Rattle.c11_grammar.specs.declared.token.Mark.TheVariants as m
use Rattle.c11_grammar.specs.declared.token.Sort.{Sort}
use Rattle.c11_grammar.specs.declared.token.Sort.TheVariants as sort
use Rattle.c11_grammar.specs.Tokens.{Tokens, exactly, infix_at, prefix_of, set_of, step_of, atomic_of, declares}
use Rattle.c11_grammar.specs.Expressions.{target_with, link}
use Rattle.c11_grammar.specs.Declarations.{constant_at, place_with, var_with, local_with}
use Rattle.c11_grammar.specs.Statements.{made_block, made_arm}
use Rattle.c11_grammar.specs.Programs.{function_with}

-- the part that was read, and what follows it
abbrev pub Out : Type 0 → Type 0
Out A = Option (A × Tokens)

-- reads on from what was read, if something was
unfoldable pub and_then : {A B : Type 0} → Option A → (A → Option B) → Option B
and_then None f = None
and_then (Some x) f = f x

infixl 10 ◌>>=◌
abbrev pub ◌>>=◌ : {A B : Type 0} → Option A → (A → Option B) → Option B
o >>= f = and_then o f

-- goes on with what was read, or with the other where nothing was
unfoldable pub given : {A B : Type 0} → Option A → B → (A → B) → B
given None other f = other
given (Some x) other f = f x

-- ---- the first token

abbrev pub seen : {A : Type 0} → Option A → Spot → Tokens → Out (A × Spot)
seen None spot rest = None
seen (Some a) spot rest = Some ((a, spot), rest)

abbrev pub see_sort : {A : Type 0} → (Mark → Option A) → Sort → Spot → Tokens → Out (A × Spot)
see_sort what (sort.Mark mark) spot rest = seen (what mark) spot rest
see_sort what (sort.Name n) spot rest = None
see_sort what (sort.Literal n) spot rest = None
see_sort what (sort.Text n) spot rest = None
see_sort what sort.Reserved spot rest = None

abbrev pub see : {A : Type 0} → (Mark → Option A) → Tokens → Out (A × Spot)
see what [] = None
see what (t ∷ ts) = see_sort what t.sort t.spot ts

abbrev pub take : Mark → Tokens → Out (Unit {0} × Spot)
take mark = see (exactly mark)

-- the rest after this mark, if it comes
abbrev pub skip : Mark → Tokens → Tokens
skip mark ts = given (take mark ts) ts (λ p. p.1)

abbrev pub name_sort : Sort → Spot → Tokens → Out Word
name_sort (sort.Name n) spot rest = Some (record { spot = spot; name = n }, rest)
name_sort (sort.Mark mark) spot rest = None
name_sort (sort.Literal n) spot rest = None
name_sort (sort.Text n) spot rest = None
name_sort sort.Reserved spot rest = None

abbrev pub name : Tokens → Out Word
name [] = None
name (t ∷ ts) = name_sort t.sort t.spot ts

abbrev pub literal_sort : Sort → Spot → Tokens → Out (TypedNumber × Spot)
literal_sort (sort.Literal n) spot rest = Some ((n, spot), rest)
literal_sort (sort.Mark mark) spot rest = None
literal_sort (sort.Name n) spot rest = None
literal_sort (sort.Text n) spot rest = None
literal_sort sort.Reserved spot rest = None

abbrev pub literal : Tokens → Out (TypedNumber × Spot)
literal [] = None
literal (t ∷ ts) = literal_sort t.sort t.spot ts

abbrev pub text_sort : Sort → Spot → Tokens → Out (List ℕ × Spot)
text_sort (sort.Text bytes) spot rest = Some ((bytes, spot), rest)
text_sort (sort.Mark mark) spot rest = None
text_sort (sort.Name n) spot rest = None
text_sort (sort.Literal n) spot rest = None
text_sort sort.Reserved spot rest = None

abbrev pub text : Tokens → Out (List ℕ × Spot)
text [] = None
text (t ∷ ts) = text_sort t.sort t.spot ts

abbrev pub spot_of : Tokens → Option Spot
spot_of [] = None
spot_of (t ∷ ts) = Some t.spot

-- ---- lists

-- parts with commas between them; at most n of them, and after what was found before
unfoldable pub commas : {A : Type 0} → (Tokens → Out A) → ℕ → List A → Tokens → Out (List A)
commas part zero found ts = None
commas part (suc n) found ts = part ts >>= λ x.
    given (take m.Comma x.1) (Some (found ++ x.0 ∷ [], x.1)) (λ p. commas part n (found ++ x.0 ∷ []) p.1)

-- ---- types

unfoldable pub integer_of : Tokens → Out CType
integer_of ts =
    given (take m.Int ts) (
    given (take m.Long ts) (
    take m.Unsigned ts >>= λ p.
    given (take m.Long p.1) (Some (c.Unsigned, skip m.Int p.1)) (λ q. Some (c.ULong, skip m.Int q.1)))
    (λ p. Some (c.Long, skip m.Int p.1)))
    (λ p. Some (c.Int, p.1))

unfoldable pub atomic_type_of : Tokens → Out CType
atomic_type_of ts =
    given (see atomic_of ts) (
    take m.Atomic ts >>= λ p.
    given (take m.LeftParen p.1) (integer_of p.1) (λ q.
    integer_of q.1 >>= λ t.
    take m.RightParen t.1 >>= λ r.
    Some (t.0, r.1)))
    (λ w. Some (w.0.0, w.1))

unfoldable pub cast_to_of : Tokens → Out CastTo
cast_to_of ts =
    given (take m.Void ts) (integer_of ts >>= λ t. Some (to.Number t.0, t.1))
    (λ p. given (take m.Star p.1) (Some (to.Void, p.1)) (λ q. Some (to.VoidPointer, q.1)))

unfoldable pub answer_of : Tokens → Out (Option CType)
answer_of ts = given (take m.Void ts) (integer_of ts >>= λ t. Some (Some t.0, t.1)) (λ p. Some (None, p.1))

-- ---- expressions

-- the readers of the parts one level deeper
pub record Readers : Type 0 where
  pub target : Tokens → Out Target
  pub unary : Tokens → Out Expr
  pub cond : Tokens → Out Expr
  pub assign : Tokens → Out Expr
  pub arg : Tokens → Out Arg

unfoldable pub index_after : Readers → Word → Tokens → Out Target
index_after d word ts = given (take m.LeftSquare ts) (Some (target_with word None, ts)) (λ p.
    d.assign p.1 >>= λ i.
    take m.RightSquare i.1 >>= λ q.
    Some (target_with word (Some i.0), q.1))

unfoldable pub target_of : Readers → Tokens → Out Target
target_of d ts = name ts >>= λ w. index_after d w.0 w.1

-- up to the closing parenthesis
unfoldable pub args_of : Readers → Tokens → Out (List Arg)
args_of d ts = given (take m.RightParen ts) (
    commas d.arg (length ts) [] ts >>= λ args.
    take m.RightParen args.1 >>= λ q.
    Some (args.0, q.1)) (λ q. Some ([], q.1))

unfoldable pub step_after : Target → Tokens → Out Expr
step_after target rest = given (see step_of rest) (Some (e.Read target, rest)) (λ s.
    Some (e.Step (out-Target target).word.spot s.0.1 target s.0.0 false, s.1))

unfoldable pub named_of : Readers → Word → Tokens → Out Expr
named_of d word ts = given (take m.LeftParen ts)
    (index_after d word ts >>= λ t. step_after t.0 t.1)
    (λ p. args_of d p.1 >>= λ args. Some (e.Call word args.0, args.1))

-- behind an opening parenthesis
unfoldable pub paren_of : Readers → Spot → Tokens → Out Expr
paren_of d spot ts = given (cast_to_of ts) (
    d.assign ts >>= λ x.
    take m.RightParen x.1 >>= λ q.
    Some (e.Paren spot x.0, q.1)) (λ t.
    take m.RightParen t.1 >>= λ q.
    d.unary q.1 >>= λ x.
    Some (e.Cast spot t.0 x.0, x.1))

unfoldable pub unary_of : Readers → Tokens → Out Expr
unary_of d ts =
    given (see prefix_of ts) (
    given (see step_of ts) (
    given (take m.LeftParen ts) (
    given (literal ts) (
    name ts >>= λ w. named_of d w.0 w.1)
    (λ n. Some (e.Literal n.0.1 n.0.0, n.1)))
    (λ p. paren_of d p.0.1 p.1))
    (λ s. d.target s.1 >>= λ t. Some (e.Step s.0.1 s.0.1 t.0 s.0.0 true, t.1)))
    (λ o. d.unary o.1 >>= λ x. Some (e.Prefix o.0.1 o.0.0 x.0, x.1))

unfoldable pub links : (Tokens → Out Expr) → ℕ → ℕ → List Link → Tokens → Out (List Link)
links operand level zero found ts = Some (found, ts)
links operand level (suc n) found ts = given (see (infix_at level) ts) (Some (found, ts)) (λ o.
    operand o.1 >>= λ x.
    links operand level n (found ++ link o.0.0 o.0.1 x.0 ∷ []) x.1)

abbrev pub chained : Expr → List Link → Expr
chained first [] = first
chained first (l ∷ ls) = e.Chain first (l ∷ ls)

unfoldable pub chain_of : (Tokens → Out Expr) → ℕ → Tokens → Out Expr
chain_of operand level ts =
    operand ts >>= λ first.
    links operand level (length first.1) [] first.1 >>= λ ls.
    Some (chained first.0 ls.0, ls.1)

unfoldable pub binary_of : Readers → ℕ → Tokens → Out Expr
binary_of d zero = unary_of d
binary_of d (suc level) = chain_of (binary_of d level) (suc level)

-- behind the `?`
unfoldable pub branches_of : Readers → Expr → Tokens → Out Expr
branches_of d test ts =
    d.assign ts >>= λ yes.
    take m.Colon yes.1 >>= λ q.
    d.cond q.1 >>= λ no.
    Some (e.Cond test yes.0 no.0, no.1)

unfoldable pub cond_of : Readers → Tokens → Out Expr
cond_of d ts =
    binary_of d 10 ts >>= λ test.
    given (take m.Question test.1) (Some test) (λ p. branches_of d test.0 p.1)

-- A target is read as an expression first, so that no token is read twice.
abbrev pub assigned_to : Readers → Expr → Tokens → Expr-F Arg Expr Link Target → Out Expr
assigned_to d expr ts (Expr-F.Read target) = given (see set_of ts) (Some (expr, ts)) (λ s.
    d.assign s.1 >>= λ value.
    Some (e.Assign target s.0.0 s.0.1 value.0, value.1))
assigned_to d expr ts _ = Some (expr, ts)

unfoldable pub assign_of : Readers → Tokens → Out Expr
assign_of d ts = cond_of d ts >>= λ x. assigned_to d x.0 x.1 (out-Expr x.0)

unfoldable pub arg_of : Readers → Tokens → Out Arg
arg_of d ts =
    given (take m.Ampersand ts) (
    given (text ts) (
    assign_of d ts >>= λ x. Some (argument.Value x.0, x.1))
    (λ t. Some (argument.Text t.0.1 t.0.0, t.1)))
    (λ p. target_of d p.1 >>= λ t. Some (argument.Address p.0.1 t.0, t.1))

abbrev pub readers : ℕ → Readers
readers zero = record { target = λ _. None; unary = λ _. None; cond = λ _. None; assign = λ _. None; arg = λ _. None }
readers (suc room) = record {
  target = target_of (readers room);
  unary = unary_of (readers room);
  cond = cond_of (readers room);
  assign = assign_of (readers room);
  arg = arg_of (readers room);
}

-- ---- declarations

unfoldable pub known_of : Tokens → Out (Known × Spot)
known_of ts = given (literal ts) (name ts >>= λ w. Some ((known.Named w.0, w.0.spot), w.1)) (λ n. Some ((known.Literal n.0.0, n.0.1), n.1))

unfoldable pub constant_of : Tokens → Out Constant
constant_of ts = known_of ts >>= λ k. Some (constant_at k.0.1 false k.0.0, k.1)

unfoldable pub signed_of : Tokens → Out Constant
signed_of ts = given (take m.Minus ts) (constant_of ts) (λ p. known_of p.1 >>= λ k. Some (constant_at p.0.1 true k.0.0, k.1))

unfoldable pub start_of : Tokens → Out Constant
start_of ts = given (take m.AtomicVarInit ts) (signed_of ts) (λ p.
    take m.LeftParen p.1 >>= λ q.
    signed_of q.1 >>= λ k.
    take m.RightParen k.1 >>= λ r.
    Some (constant_at p.0.1 k.0.negative k.0.value, r.1))

unfoldable pub size_after : Tokens → Out (Option Constant)
size_after ts = given (take m.LeftSquare ts) (Some (None, ts)) (λ p.
    constant_of p.1 >>= λ k.
    take m.RightSquare k.1 >>= λ q.
    Some (Some k.0, q.1))

unfoldable pub place_of : Tokens → Out Place
place_of ts = name ts >>= λ w. size_after w.1 >>= λ k. Some (place_with w.0 k.0, k.1)

-- up to the closing brace, before which a comma may stand
unfoldable pub starts : ℕ → List Constant → Tokens → Out (List Constant)
starts zero found ts = None
starts (suc n) found ts = start_of ts >>= λ x.
    given (take m.Comma x.1) (take m.RightBrace x.1 >>= λ q. Some (found ++ x.0 ∷ [], q.1)) (λ p.
    given (take m.RightBrace p.1) (starts n (found ++ x.0 ∷ []) p.1) (λ q. Some (found ++ x.0 ∷ [], q.1)))

unfoldable pub initializer_of : Tokens → Out Start
initializer_of ts = given (take m.LeftBrace ts) (start_of ts >>= λ k. Some (start.One k.0, k.1)) (λ p.
    starts (length p.1) [] p.1 >>= λ all. Some (start.Brace all.0, all.1))

unfoldable pub started_var : Tokens → Out Var
started_var ts = place_of ts >>= λ p.
    given (take m.Set p.1) (Some (var_with p.0 start.Absent, p.1)) (λ q.
    initializer_of q.1 >>= λ v.
    Some (var_with p.0 v.0, v.1))

unfoldable pub mutex_var : Tokens → Out Var
mutex_var ts = place_of ts >>= λ p. Some (var_with p.0 start.Absent, p.1)

abbrev pub var_of : Bool → Tokens → Out Var
var_of true = mutex_var
var_of false = started_var

abbrev pub param_with : Spot → Word → Option CType → Param
param_with spot word ctype = record { spot = spot; word = word; ctype = ctype }

unfoldable pub param_of : Tokens → Out Param
param_of ts = given (take m.Void ts) (
    spot_of ts >>= λ p.
    integer_of ts >>= λ t.
    name t.1 >>= λ w.
    Some (param_with p w.0 (Some t.0), w.1)) (λ p.
    take m.Star p.1 >>= λ q.
    name q.1 >>= λ w.
    Some (param_with p.0.1 w.0 None, w.1))

-- `void` and a closing parenthesis
unfoldable pub void_only : Tokens → Out (Unit {0} × Spot)
void_only ts = take m.Void ts >>= λ p. take m.RightParen p.1

-- up to the closing parenthesis
unfoldable pub params_of : Tokens → Out (List Param)
params_of ts = given (take m.RightParen ts) (
    given (void_only ts) (
    commas param_of (length ts) [] ts >>= λ ps.
    take m.RightParen ps.1 >>= λ q.
    Some (ps.0, q.1))
    (λ q. Some ([], q.1)))
    (λ q. Some ([], q.1))

unfoldable pub local_of : (Tokens → Out Expr) → Tokens → Out Local
local_of expr ts = name ts >>= λ w.
    given (take m.Set w.1) (size_after w.1 >>= λ k. Some (local_with (place_with w.0 k.0) None, k.1)) (λ p.
    expr p.1 >>= λ x.
    Some (local_with (place_with w.0 None) (Some x.0), x.1))

unfoldable pub decl_of : (Tokens → Out Expr) → Tokens → Out Stmt
decl_of expr ts = given (take m.ThrdT ts) (
    spot_of ts >>= λ p.
    integer_of ts >>= λ t.
    commas (local_of expr) (length t.1) [] t.1 >>= λ all.
    take m.Semicolon all.1 >>= λ q.
    Some (s.Locals p t.0 all.0, q.1)) (λ p.
    commas place_of (length p.1) [] p.1 >>= λ all.
    take m.Semicolon all.1 >>= λ q.
    Some (s.Handles p.0.1 all.0, q.1))

-- ---- statements

unfoldable pub test_of : (Tokens → Out Expr) → Tokens → Out Expr
test_of expr ts =
    take m.LeftParen ts >>= λ p.
    expr p.1 >>= λ x.
    take m.RightParen x.1 >>= λ q.
    Some (x.0, q.1)

-- an expression that may be missing, and the mark behind it
unfoldable pub maybe_of : Mark → (Tokens → Out Expr) → Tokens → Out (Option Expr)
maybe_of mark expr ts = given (take mark ts) (
    expr ts >>= λ x.
    take mark x.1 >>= λ q.
    Some (Some x.0, q.1)) (λ q. Some (None, q.1))

abbrev pub evaluation : Option Expr → Option Stmt
evaluation None = None
evaluation (Some expr) = Some (s.Expr expr)

unfoldable pub for_start_of : (Tokens → Out Expr) → Tokens → Out (Option Stmt)
for_start_of expr ts = given (see declares ts)
    (maybe_of m.Semicolon expr ts >>= λ x. Some (evaluation x.0, x.1))
    (λ d. decl_of expr ts >>= λ x. Some (Some x.0, x.1))

module _ (decl deeper : Tokens → Out Stmt) where
  unfoldable pub block_item_of : Tokens → Out Stmt
  block_item_of ts = given (see declares ts) (deeper ts) (λ d. decl ts)

  -- up to the closing brace
  unfoldable pub block_items : ℕ → List Stmt → Tokens → Out (List Stmt × Spot)
  block_items zero found ts = None
  block_items (suc n) found ts = given (take m.RightBrace ts) (block_item_of ts >>= λ x. block_items n (found ++ x.0 ∷ []) x.1) (λ q. Some ((found, q.0.1), q.1))

  -- behind the opening brace
  unfoldable pub block_after : Spot → Tokens → Out Block
  block_after p ts = block_items (length ts) [] ts >>= λ x. Some (made_block p x.0.0 x.0.1, x.1)

module _ (expr : Tokens → Out Expr) (decl deeper : Tokens → Out Stmt) where
  unfoldable pub arm_of : Tokens → Out Arm
  arm_of ts = test_of expr ts >>= λ t. deeper t.1 >>= λ b. Some (made_arm t.0 b.0, b.1)

  -- each `else if`, and then an `else`
  unfoldable pub arms : ℕ → List Arm → Tokens → Out (List Arm × Option Stmt)
  arms zero found ts = None
  arms (suc n) found ts = given (take m.Else ts) (Some ((found, None), ts)) (λ p.
      given (take m.If p.1) (deeper p.1 >>= λ x. Some ((found, Some x.0), x.1)) (λ q.
      arm_of q.1 >>= λ x.
      arms n (found ++ x.0 ∷ []) x.1))

  unfoldable pub if_after : Spot → Tokens → Out Stmt
  if_after p ts =
      arm_of ts >>= λ first.
      arms (length first.1 + 1) (first.0 ∷ []) first.1 >>= λ x.
      Some (s.If p x.0.0 x.0.1, x.1)

  unfoldable pub while_after : Spot → Tokens → Out Stmt
  while_after p ts = test_of expr ts >>= λ t. deeper t.1 >>= λ b. Some (s.While p t.0 b.0, b.1)

  unfoldable pub do_after : Spot → Tokens → Out Stmt
  do_after p ts =
      deeper ts >>= λ b.
      take m.While b.1 >>= λ q.
      test_of expr q.1 >>= λ t.
      take m.Semicolon t.1 >>= λ r.
      Some (s.Do p b.0 t.0, r.1)

  unfoldable pub for_after : Spot → Tokens → Out Stmt
  for_after p ts =
      take m.LeftParen ts >>= λ q.
      for_start_of expr q.1 >>= λ start.
      maybe_of m.Semicolon expr start.1 >>= λ t.
      maybe_of m.RightParen expr t.1 >>= λ next.
      deeper next.1 >>= λ b.
      Some (s.For p start.0 t.0 next.0 b.0, b.1)

  unfoldable pub return_after : Spot → Tokens → Out Stmt
  return_after p ts = maybe_of m.Semicolon expr ts >>= λ x. Some (s.Return p x.0, x.1)

  unfoldable pub evaluated : Tokens → Out Stmt
  evaluated ts = expr ts >>= λ x. take m.Semicolon x.1 >>= λ q. Some (s.Expr x.0, q.1)

  unfoldable pub jump_of : Tokens → Out Stmt
  jump_of ts =
      given (take m.Break ts) (
      given (take m.Continue ts) (
      given (take m.Return ts) (
      evaluated ts)
      (λ p. return_after p.0.1 p.1))
      (λ p. take m.Semicolon p.1 >>= λ q. Some (s.Continue p.0.1, q.1)))
      (λ p. take m.Semicolon p.1 >>= λ q. Some (s.Break p.0.1, q.1))

  unfoldable pub loop_of : Tokens → Out Stmt
  loop_of ts =
      given (take m.While ts) (
      given (take m.Do ts) (
      given (take m.For ts) (
      jump_of ts)
      (λ p. for_after p.0.1 p.1))
      (λ p. do_after p.0.1 p.1))
      (λ p. while_after p.0.1 p.1)

  unfoldable pub stmt_of : Tokens → Out Stmt
  stmt_of ts =
      given (take m.LeftBrace ts) (
      given (take m.Semicolon ts) (
      given (take m.If ts) (
      loop_of ts)
      (λ p. if_after p.0.1 p.1))
      (λ p. Some (s.Empty p.0.1, p.1)))
      (λ p. block_after decl deeper p.0.1 p.1 >>= λ b. Some (s.Block b.0, b.1))

abbrev pub decl_reader : ℕ → Tokens → Out Stmt
decl_reader zero = λ _. None
decl_reader (suc room) = decl_of (assign_of (readers room))

abbrev pub stmt_reader : ℕ → Tokens → Out Stmt
stmt_reader zero = λ _. None
stmt_reader (suc room) = stmt_of (assign_of (readers room)) (decl_reader room) (stmt_reader room)

-- ---- items

unfoldable pub globals_of : Tokens → Out (GlobalKind × List Var)
globals_of ts =
    given (take m.MtxT ts) (
    given (integer_of ts) (
    atomic_type_of ts >>= λ t.
    commas (var_of false) (length t.1) [] t.1 >>= λ all.
    Some ((kind.Atomic t.0, all.0), all.1)) (λ t.
    commas (var_of false) (length t.1) [] t.1 >>= λ all.
    Some ((kind.Plain t.0, all.0), all.1))) (λ p.
    commas (var_of true) (length p.1) [] p.1 >>= λ all.
    Some ((kind.Mutex, all.0), all.1))

-- what a function answers, its name, and the opening parenthesis
unfoldable pub head_of : Tokens → Out (Option CType × Word)
head_of ts =
    answer_of ts >>= λ a.
    name a.1 >>= λ w.
    take m.LeftParen w.1 >>= λ p.
    Some ((a.0, w.0), p.1)

unfoldable pub function_after : Spot → Option CType → Word → Tokens → Out Item
function_after spot answers word ts =
    params_of ts >>= λ ps.
    take m.LeftBrace ps.1 >>= λ p.
    block_after (decl_reader 63) (stmt_reader 63) p.0.1 p.1 >>= λ body.
    Some (item.Function (function_with spot word answers ps.0 body.0), body.1)

unfoldable pub global_after : Spot → Tokens → Out Item
global_after spot ts =
    globals_of ts >>= λ g.
    take m.Semicolon g.1 >>= λ q.
    Some (item.Global spot g.0.0 g.0.1, q.1)

unfoldable pub declared_of : Spot → Tokens → Out Item
declared_of spot ts = given (head_of ts) (global_after spot ts) (λ h. function_after spot h.0.0 h.0.1 h.1)

unfoldable pub define_after : Spot → Tokens → Out Item
define_after spot ts =
    name ts >>= λ w.
    literal w.1 >>= λ n.
    Some (item.Define spot w.0 n.0.0, n.1)

unfoldable pub item_of : Tokens → Out Item
item_of ts =
    given (take m.Include ts) (
    given (take m.Define ts) (
    spot_of ts >>= λ spot. declared_of spot (skip m.Static ts))
    (λ p. define_after p.0.1 p.1))
    (λ p. Some (item.Include p.0.1, p.1))
