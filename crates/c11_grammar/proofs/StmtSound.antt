-- Statements and items that are read are in the grammar.
use Rattle.std.proofs.Common.{◌≡◌, ◌+◌, ◌∷◌, ◌++◌, ◌∙◌, [], List, Option, length, subst, suc, sym, zero, ℕ}
use Rattle.c11_ast.specs.declared.expr.Expr.{Expr}
use Rattle.c11_ast.specs.declared.place.Spot.{Spot}
use Rattle.c11_ast.specs.declared.place.Word.{Word}
use Rattle.c11_ast.specs.declared.stmt.Arm.{Arm}
use Rattle.c11_ast.specs.declared.stmt.Stmt.{Stmt}
use Rattle.c11_grammar.proofs.DeclSound.{IsClosedParams, decl_sound, mutex_sound, params_sound, started_sound}
use Rattle.c11_grammar.proofs.ExprSound.{all_sound, assign_sound}
use Rattle.c11_grammar.proofs.Integers.{answer_sound, atomic_sound, integer_sound}
use Rattle.c11_grammar.proofs.Steps.{given_by, holds_bind, holds_given, list_sound, literal_sound, name_sound, next_of, see_sound, skip_sound, spot_sound, take_sound, weaken}
use Rattle.c11_grammar.specs.Declarations.{IsMutexVar, IsVar}
use Rattle.c11_grammar.specs.Expressions.{IsAssign, parts}
use Rattle.c11_grammar.specs.Laws.{Holds, Sound, finds, nothing}
use Rattle.c11_grammar.specs.Programs.{IsGlobals, IsItem}
use Rattle.c11_grammar.specs.Reading.{Out, arm_of, arms, assign_of, block_after, block_item_of, block_items, decl_reader, declared_of, define_after, do_after, evaluated, evaluation, for_after, for_start_of, function_after, global_after, globals_of, head_of, if_after, item_of, jump_of, loop_of, maybe_of, mutex_var, readers, return_after, skip, started_var, stmt_of, stmt_reader, test_of, while_after}
use Rattle.c11_grammar.specs.Statements.{IsArm, IsBlock, IsBlockItem, IsBlockItems, IsElse, IsForStart, IsMaybe, IsStmt, IsTest, MoreArms, decl_at, stmt_at}
use Rattle.c11_grammar.specs.Tokens.{Begins, MayTake, Named, Takes, Tokens, declares}
use Rattle.c11_grammar.specs.Types.{IsAnswer}
use Rattle.c11_grammar.specs.declared.token.Mark.{Mark}
use Rattle.c11_num.specs.declared.value.CType.{CType}
use Rattle.std.proofs.lemmas.List.{append-nil, append_assoc}
use Rattle.c11_grammar.specs.declared.token.Mark.TheVariants as m
use Rattle.c11_ast.specs.declared.stmt.Stmt.TheVariants as s
use Rattle.c11_grammar.specs.Statements as st
use Rattle.c11_grammar.specs.Programs as pr

-- ---- statements

module _ (is_expr : Tokens → Expr → Tokens → Type 0) (expr : Tokens → Out Expr) (expr_sound : Sound is_expr expr) where
  test_sound : Sound (IsTest is_expr) (test_of expr)
  unfolding test_of
  test_sound ts = holds_bind (take_sound m.LeftParen ts) λ p left.
      holds_bind (expr_sound p.1) λ x whole.
      holds_bind (take_sound m.RightParen x.1) λ q right.
      finds (st.tested left whole right)

  IsEnded : Mark → Tokens → Option Expr × Tokens → Type 0
  IsEnded mark ts x = (a : Tokens) × (q : Spot) × IsMaybe is_expr ts x.0 a × Takes mark a q x.1

  maybe_sound : (mark : Mark) (ts : Tokens) → Holds (IsEnded mark ts) (maybe_of mark expr ts)
  unfolding maybe_of IsEnded
  maybe_sound mark ts = holds_given (take_sound mark ts)
      (holds_bind (expr_sound ts) λ x whole. holds_bind (take_sound mark x.1) λ q end. finds (x.1, q.0.1, st.some whole, end))
      λ q end. finds (ts, q.0.1, st.none, end)

  evaluation_sound : (ts a rest : Tokens) (q : Spot) (o : Option Expr) → IsMaybe is_expr ts o a → Takes m.Semicolon a q rest → IsForStart is_expr ts (evaluation o) rest
  evaluation_sound ts a rest q o st.none end = st.absent end
  evaluation_sound ts a rest q o (st.some whole) end = st.IsForStart.evaluated whole end

  for_start_sound : Sound (IsForStart is_expr) (for_start_of expr)
  unfolding for_start_of IsEnded
  for_start_sound ts = holds_given (see_sound declares ts)
      (holds_bind (maybe_sound m.Semicolon ts) λ x h. finds (evaluation_sound ts h.0 x.1 h.1 x.0 h.2 h.3))
      λ d word. holds_bind (decl_sound is_expr expr expr_sound ts) λ x h. finds (st.IsForStart.declared h)

module _ (is_decl : Tokens → Stmt → Tokens → Type 0) (decl : Tokens → Out Stmt) (decl_is : Sound is_decl decl)
    (is_deeper : Tokens → Stmt → Tokens → Type 0) (deeper : Tokens → Out Stmt) (deeper_sound : Sound is_deeper deeper) where
  item_in_block_sound : Sound (IsBlockItem is_decl is_deeper) (block_item_of decl deeper)
  unfolding block_item_of
  item_in_block_sound ts = holds_given (see_sound declares ts) (weaken (deeper_sound ts) λ x h. st.executed h) λ d word. weaken (decl_is ts) λ x h. st.IsBlockItem.declared h

  AddsItems : List Stmt → Tokens → (List Stmt × Spot) × Tokens → Type 0
  AddsItems old ts x = (more : List Stmt) × (a : Tokens) × (x.0.0 ≡ old ++ more) × IsBlockItems is_decl is_deeper ts more a × Takes m.RightBrace a x.0.1 x.1

  items_sound : (n : ℕ) (old : List Stmt) (ts : Tokens) → Holds (AddsItems old ts) (block_items decl deeper n old ts)
  unfolding block_items AddsItems
  items_sound zero old ts = nothing
  items_sound (suc n) old ts = holds_given (take_sound m.RightBrace ts)
      (holds_bind (item_in_block_sound ts) λ x first.
      weaken (items_sound n (old ++ x.0 ∷ []) x.1) λ y h.
      (x.0 ∷ h.0, h.1, h.2 ∙ append_assoc old (x.0 ∷ []) h.0, st.IsBlockItems.more first h.3, h.4))
      λ q right. finds ([], ts, sym (append-nil old), st.IsBlockItems.done, right)

  pub block_sound : (ts : Tokens) (p : Spot) (a : Tokens) → Takes m.LeftBrace ts p a → Holds (λ x. IsBlock is_decl is_deeper ts x.0 x.1) (block_after decl deeper p a)
  unfolding block_after AddsItems
  block_sound ts p a left = holds_bind (items_sound (length a) [] a) λ x h.
      finds (st.block left (subst (λ (l : List Stmt). IsBlockItems is_decl is_deeper a l h.1) (sym h.2) h.3) h.4)

module _ (is_expr : Tokens → Expr → Tokens → Type 0) (expr : Tokens → Out Expr) (expr_sound : Sound is_expr expr)
    (is_decl : Tokens → Stmt → Tokens → Type 0) (decl : Tokens → Out Stmt) (decl_is : Sound is_decl decl)
    (is_deeper : Tokens → Stmt → Tokens → Type 0) (deeper : Tokens → Out Stmt) (deeper_sound : Sound is_deeper deeper) where
  arm_sound : Sound (IsArm is_expr is_decl is_deeper) (arm_of expr decl deeper)
  unfolding arm_of
  arm_sound ts = holds_bind (test_sound is_expr expr expr_sound ts) λ t test. holds_bind (deeper_sound t.1) λ b body. finds (st.armed test body)

  AddsArms : List Arm → Tokens → (List Arm × Option Stmt) × Tokens → Type 0
  AddsArms old ts x = (more : List Arm) × (a : Tokens) × (x.0.0 ≡ old ++ more) × MoreArms is_expr is_decl is_deeper ts more a × IsElse is_expr is_decl is_deeper a x.0.1 x.1

  arms_sound : (n : ℕ) (old : List Arm) (ts : Tokens) → Holds (AddsArms old ts) (arms expr decl deeper n old ts)
  unfolding arms AddsArms
  arms_sound zero old ts = nothing
  arms_sound (suc n) old ts = given_by _ _ _ (next_of m.Else ts) (λ free. finds ([], ts, sym (append-nil old), st.MoreArms.done, st.without free)) λ p otherwise.
      given_by _ _ _ (next_of m.If p.1) (λ free. holds_bind (deeper_sound p.1) λ x stmt. finds ([], ts, sym (append-nil old), st.MoreArms.done, st.with_one otherwise free stmt)) λ q chosen.
      holds_bind (arm_sound q.1) λ x arm.
      weaken (arms_sound n (old ++ x.0 ∷ []) x.1) λ y h.
      (x.0 ∷ h.0, h.1, h.2 ∙ append_assoc old (x.0 ∷ []) h.0, st.MoreArms.more otherwise chosen arm h.3, h.4)

  jump_sound : Sound (IsStmt is_expr is_decl is_deeper) (jump_of expr decl deeper)
  unfolding jump_of return_after evaluated IsEnded
  jump_sound ts =
      holds_given (take_sound m.Break ts) (
      holds_given (take_sound m.Continue ts) (
      holds_given (take_sound m.Return ts) (
      holds_bind (expr_sound ts) λ x whole. holds_bind (take_sound m.Semicolon x.1) λ q end. finds (st.IsStmt.evaluated whole end))
      λ p word. holds_bind (maybe_sound is_expr expr expr_sound m.Semicolon p.1) λ x h. finds (st.returns word h.2 h.3))
      λ p word. holds_bind (take_sound m.Semicolon p.1) λ q end. finds (st.continues word end))
      λ p word. holds_bind (take_sound m.Semicolon p.1) λ q end. finds (st.breaks word end)

  loop_sound : Sound (IsStmt is_expr is_decl is_deeper) (loop_of expr decl deeper)
  unfolding loop_of while_after do_after for_after IsEnded
  loop_sound ts =
      holds_given (take_sound m.While ts) (
      holds_given (take_sound m.Do ts) (
      holds_given (take_sound m.For ts) (
      jump_sound ts)
      λ p word. holds_bind (take_sound m.LeftParen p.1) λ q left.
      holds_bind (for_start_sound is_expr expr expr_sound q.1) λ start h.
      holds_bind (maybe_sound is_expr expr expr_sound m.Semicolon start.1) λ t test.
      holds_bind (maybe_sound is_expr expr expr_sound m.RightParen t.1) λ n next.
      holds_bind (deeper_sound n.1) λ b body.
      finds (st.for_loop word left h test.2 test.3 next.2 next.3 body))
      λ p word. holds_bind (deeper_sound p.1) λ b body. holds_bind (take_sound m.While b.1) λ q again. holds_bind (test_sound is_expr expr expr_sound q.1) λ t test.
      holds_bind (take_sound m.Semicolon t.1) λ r end. finds (st.do_loop word body again test end))
      λ p word. holds_bind (test_sound is_expr expr expr_sound p.1) λ t test. holds_bind (deeper_sound t.1) λ b body. finds (st.while_loop word test body)

  stmt_sound : Sound (IsStmt is_expr is_decl is_deeper) (stmt_of expr decl deeper)
  unfolding stmt_of if_after AddsArms
  stmt_sound ts =
      holds_given (take_sound m.LeftBrace ts) (
      holds_given (take_sound m.Semicolon ts) (
      holds_given (take_sound m.If ts) (
      loop_sound ts)
      λ p word. holds_bind (arm_sound p.1) λ first arm. holds_bind (arms_sound (length first.1 + 1) (first.0 ∷ []) first.1) λ x h.
      finds (subst (λ (l : List Arm). IsStmt is_expr is_decl is_deeper ts (s.If p.0.1 l x.0.1) x.1) (sym h.2) (st.chosen word arm h.3 h.4)))
      λ p end. finds (st.empty end))
      λ p left. holds_bind (block_sound is_decl decl decl_is is_deeper deeper deeper_sound ts p.0.1 p.1 left) λ b block. finds (st.nested block)

pub decl_at_sound : (room : ℕ) → Sound (decl_at room) (decl_reader room)
decl_at_sound zero ts = nothing
decl_at_sound (suc room) ts = decl_sound (IsAssign (parts room)) (assign_of (readers room)) (assign_sound (parts room) (readers room) (all_sound room)) ts

pub stmt_at_sound : (room : ℕ) → Sound (stmt_at room) (stmt_reader room)
stmt_at_sound zero ts = nothing
stmt_at_sound (suc room) ts = stmt_sound (IsAssign (parts room)) (assign_of (readers room)) (assign_sound (parts room) (readers room) (all_sound room))
    (decl_at room) (decl_reader room) (decl_at_sound room) (stmt_at room) (stmt_reader room) (stmt_at_sound room) ts

-- ---- items

globals_sound : (ts : Tokens) → Holds (λ x. IsGlobals ts x.0.0 x.0.1 x.1) (globals_of ts)
unfolding globals_of
globals_sound ts =
    holds_given (take_sound m.MtxT ts) (
    holds_given (integer_sound ts) (
    holds_bind (atomic_sound ts) λ t type. holds_bind (list_sound IsVar started_var started_sound (length t.1) t.1) λ all h. finds (pr.atomic type h))
    λ t type. holds_bind (list_sound IsVar started_var started_sound (length t.1) t.1) λ all h. finds (pr.plain type h))
    λ p word. holds_bind (list_sound IsMutexVar mutex_var mutex_sound (length p.1) p.1) λ all h. finds (pr.mutexes word h)

IsHead : Tokens → (Option CType × Word) × Tokens → Type 0
IsHead ts x = (a : Tokens) × (b : Tokens) × (q : Spot) × IsAnswer ts x.0.0 a × Named a x.0.1 b × Takes m.LeftParen b q x.1

head_sound : (ts : Tokens) → Holds (IsHead ts) (head_of ts)
unfolding head_of IsHead
head_sound ts = holds_bind (answer_sound ts) λ a answer. holds_bind (name_sound a.1) λ w front. holds_bind (take_sound m.LeftParen w.1) λ q left.
    finds (a.1, w.1, q.0.1, answer, front, left)

declared_sound : (ts a : Tokens) (p : Spot) → Begins ts p → MayTake m.Static ts a → Holds (λ x. IsItem ts x.0 x.1) (declared_of p a)
unfolding declared_of global_after function_after IsHead IsClosedParams
declared_sound ts a p first may = holds_given (head_sound a)
    (holds_bind (globals_sound a) λ g globals. holds_bind (take_sound m.Semicolon g.1) λ q end. finds (pr.global first may globals end))
    λ h head. holds_bind (params_sound h.1) λ ps params. holds_bind (take_sound m.LeftBrace ps.1) λ q left.
    holds_bind (block_sound (decl_at 63) (decl_reader 63) (decl_at_sound 63) (stmt_at 63) (stmt_reader 63) (stmt_at_sound 63) ps.1 q.0.1 q.1 left) λ b body.
    finds (pr.function first may head.3 head.4 head.5 params.2 params.3 body)

pub item_sound : Sound IsItem item_of
unfolding item_of define_after
item_sound ts = holds_given (take_sound m.Include ts) (
    holds_given (take_sound m.Define ts) (
    holds_bind (spot_sound ts) λ p first. declared_sound ts (skip m.Static ts) p first (skip_sound m.Static ts))
    λ p word. holds_bind (name_sound p.1) λ w front. holds_bind (literal_sound w.1) λ n number. finds (pr.define word front number))
    λ p word. finds (pr.include word)
