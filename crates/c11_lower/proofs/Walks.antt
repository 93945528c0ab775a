-- Walks over statements: no scope depends on what is around, and no name that was there before is lost.
use Rattle.std.proofs.Common.{◌≡◌, List, [], ◌∷◌, ◌++◌, length, take, Option, Some, None, refl, ap, ◌∙◌, sym, subst, append_assoc, map}
use Rattle.std.specs.Prelude.{is_some}
use Rattle.c11_num.specs.declared.value.CType.{CType}
use Rattle.c11_ast.specs.declared.place.Place.{Place}
use Rattle.c11_ast.specs.declared.expr.Expr.{Expr}
use Rattle.c11_ast.specs.declared.stmt.Local.{Local}
use Rattle.c11_ast.specs.declared.stmt.Stmt.{Stmt, roll-Stmt}
use Rattle.c11_ast.specs.declared.stmt.Arm.{Arm, roll-Arm}
use Rattle.c11_ast.specs.declared.stmt.Block.{Block, roll-Block}
use Rattle.c11_ast.specs.declared.stmt.Stmt.TheOpen.{Stmt-F, Arm-F, Block-F}
use Rattle.c11_ast.specs.declared.stmt.Stmt.TheFolds.{map-Stmt, map-Arm, map-Block, ind-Stmt, ind-Block, fold-roll-Stmt, fold-roll-Arm, fold-roll-Block}
use Rattle.c11_check.specs.declared.fault.Fault.{Fault}
use Rattle.c11_check.specs.declared.around.Around.{Around}
use Rattle.c11_check.specs.Scopes.{Scope, Named, entered, left_for, size_in, with_local, with_handle}
use Rattle.c11_check.specs.Statements.{Walk, Walked, walked, before, followed, inside, looping, locals_walk, handles_walk, optional_walk, stmt_walk, arm_walk, block_walk, walk_of, walk_of_arm, walk_of_block}
use Rattle.c11_check.specs.Statements as check
use Rattle.c11_check.specs.Faults.{outside, misreturned}
use Rattle.c11_check.specs.Expressions.{part_of, alone, used}
use Rattle.c11_meaning.specs.Statements.{Run, Armed, arm_step, block_step, stmt_step, walk_of_run, walk_of_armed, nothing_around}
use Rattle.c11_flat.specs.Code.{Laying, in_order, strip_step, strip_of_block}
use Rattle.c11_lower.specs.Lowered.{laid, armed, passed, passed_all, passed_arms, passed_optional}

-- the names before, and perhaps more
abbrev pub Grows : List Named → List Named → Type 0
Grows names after = (more : List Named) × (after ≡ names ++ more)

no_more : (xs : List Named) → xs ≡ xs ++ []
no_more [] = refl
no_more (x ∷ xs) = ap (λ (ys : List Named). x ∷ ys) (no_more xs)

grows_not : (xs : List Named) → Grows xs xs
grows_not xs = ([], no_more xs)

grows_on : (xs ys zs : List Named) → Grows xs ys → Grows ys zs → Grows xs zs
grows_on xs ys zs g h = (g.0 ++ h.0, h.1 ∙ (ap (λ (us : List Named). us ++ h.0) g.1 ∙ append_assoc xs g.0 h.0))

take_all : (xs more : List Named) → take (length xs) (xs ++ more) ≡ xs
take_all [] more = refl
take_all (x ∷ xs) more = ap (λ (ys : List Named). x ∷ ys) (take_all xs more)

-- so the first of them are those that were there before
pub taken_back : (xs ys : List Named) → Grows xs ys → take (length xs) ys ≡ xs
taken_back xs ys g = ap (λ (us : List Named). take (length xs) us) g.1 ∙ take_all xs g.0

pub record Steady (w : Walk) : Type 0 where
  pub same : (a b : Around) (s : Scope) → (w a s).scope ≡ (w b s).scope
  pub kept : (a : Around) (s : Scope) → Grows s.names (w a s).scope.names

steady_still : (f : Around → Scope → List Fault) → Steady (λ a s. walked (f a s) s)
steady_still f = record { same = λ a b s. refl; kept = λ a s. grows_not s.names }

steady_before : (f : Around → Scope → List Fault) (w : Walk) → Steady w → Steady (λ a s. before (f a s) (w a s))
steady_before f w h = record { same = λ a b s. h.same a b s; kept = λ a s. h.kept a s }

steady_looping : (w : Walk) → Steady w → Steady (λ a s. w (looping a) s)
steady_looping w h = record { same = λ a b s. h.same (looping a) (looping b) s; kept = λ a s. h.kept (looping a) s }

steady_followed : (w v : Walk) → Steady w → Steady v → Steady (λ a s. followed (w a s) (v a))
steady_followed w v h g = record {
  same = λ a b s. g.same a b (w a s).scope ∙ ap (λ (m : Scope). (v b m).scope) (h.same a b s);
  kept = λ a s. grows_on s.names (w a s).scope.names (v a (w a s).scope).scope.names (h.kept a s) (g.kept a (w a s).scope);
}

steady_inside : (w : Walk) → Steady w → Steady (λ a s. inside s (w a (entered s)))
steady_inside w h = record {
  same = λ a b s. ap (λ (m : Scope). left_for s m) (h.same a b (entered s));
  kept = λ a s. subst (λ (xs : List Named). Grows s.names xs) (sym (taken_back s.names (w a (entered s)).scope.names (h.kept a (entered s)))) (grows_not s.names);
}

pub locals_kept : (ctype : CType) (xs : List Local) (s : Scope) → Grows s.names (locals_walk ctype xs s).scope.names
locals_kept ctype [] s = grows_not s.names
locals_kept ctype (x ∷ xs) s = let inner = with_local s x.place.word.name ctype (size_in s x.place.size) in
    grows_on s.names inner.names (locals_walk ctype xs inner).scope.names (_, refl) (locals_kept ctype xs inner)

pub handles_kept : (xs : List Place) (s : Scope) → Grows s.names (handles_walk xs s).scope.names
handles_kept [] s = grows_not s.names
handles_kept (x ∷ xs) s = let inner = with_handle s x.word.name (size_in s x.size) in
    grows_on s.names inner.names (handles_walk xs inner).scope.names (_, refl) (handles_kept xs inner)

-- ---- along the tree

-- the walk inside of the code is that of the checks, and steady
pub record IsWalk (w v : Walk) : Type 0 where
  pub checked : w ≡ v
  pub steady : Steady w

abbrev IsStmt : Stmt → Type 0
IsStmt x = IsWalk (laid x).walk (walk_of x)

abbrev IsArm : Arm → Type 0
IsArm x = IsWalk (armed x).walk (walk_of_arm x)

abbrev IsBlock : Block → Type 0
IsBlock x = IsWalk (strip_of_block x).walk (walk_of_block x)

abbrev AStmt : Type 0
AStmt = (x : Stmt) × IsStmt x

abbrev AnArm : Type 0
AnArm = (x : Arm) × IsArm x

abbrev ABlock : Type 0
ABlock = (x : Block) × IsBlock x

stmts_walk : (xs : List AStmt) → IsWalk (check.in_order (map walk_of_run (map laid (map (λ u. u.0) xs)))) (check.in_order (map walk_of (map (λ u. u.0) xs)))
stmts_walk [] = record { checked = refl; steady = steady_still (λ a s. []) }
stmts_walk (x ∷ xs) = let rest = stmts_walk xs in record {
  checked = ap (λ (w : Walk). (λ (a : Around) (s : Scope). followed (w a s) (check.in_order (map walk_of_run (map laid (map (λ u. u.0) xs))) a))) x.1.checked
      ∙ ap (λ (v : Walk). (λ (a : Around) (s : Scope). followed (walk_of x.0 a s) (v a))) rest.checked;
  steady = steady_followed (laid x.0).walk (check.in_order (map walk_of_run (map laid (map (λ u. u.0) xs)))) x.1.steady rest.steady;
}

arms_walk : (xs : List AnArm) → IsWalk (check.in_order (map walk_of_armed (map armed (map (λ u. u.0) xs)))) (check.in_order (map walk_of_arm (map (λ u. u.0) xs)))
arms_walk [] = record { checked = refl; steady = steady_still (λ a s. []) }
arms_walk (x ∷ xs) = let rest = arms_walk xs in record {
  checked = ap (λ (w : Walk). (λ (a : Around) (s : Scope). followed (w a s) (check.in_order (map walk_of_armed (map armed (map (λ u. u.0) xs))) a))) x.1.checked
      ∙ ap (λ (v : Walk). (λ (a : Around) (s : Scope). followed (walk_of_arm x.0 a s) (v a))) rest.checked;
  steady = steady_followed (armed x.0).walk (check.in_order (map walk_of_armed (map armed (map (λ u. u.0) xs)))) x.1.steady rest.steady;
}

for_steady : (start : Option Walk) (test next : Option Expr) (body : Walk) → Steady (optional_walk start) → Steady body → Steady (check.for_walk start test next body)
for_steady start test next body h g = steady_inside (λ a s. followed (optional_walk start a s) (λ inner. before (check.optional_used test inner ++ check.optional_alone next inner) (body (looping a) inner)))
    (steady_followed (optional_walk start) (λ a inner. before (check.optional_used test inner ++ check.optional_alone next inner) (body (looping a) inner)) h
    (steady_before (λ a inner. check.optional_used test inner ++ check.optional_alone next inner) (λ a inner. body (looping a) inner) (steady_looping body g)))

abbrev bare_stmt : Stmt-F AStmt AnArm ABlock → Stmt-F Stmt Arm Block
bare_stmt y = map-Stmt AStmt AnArm ABlock Stmt Arm Block (λ u. u.0) (λ u. u.0) (λ u. u.0) y

abbrev in_code : Stmt-F Stmt Arm Block → Walk
in_code d = (stmt_step strip_step (map-Stmt Stmt Arm Block (Run Laying) (Armed Laying) (Run Laying) laid armed strip_of_block d)).walk

abbrev in_checks : Stmt-F Stmt Arm Block → Walk
in_checks d = stmt_walk (map-Stmt Stmt Arm Block Walk Walk Walk walk_of walk_of_arm walk_of_block d)

stmt_layer : (y : Stmt-F AStmt AnArm ABlock) → IsWalk (in_code (bare_stmt y)) (in_checks (bare_stmt y))
stmt_layer (Stmt-F.Block x) = record { checked = ap (λ (w : Walk). stmt_walk (Stmt-F.Block w)) x.1.checked; steady = steady_inside (strip_of_block x.0).walk x.1.steady }
stmt_layer (Stmt-F.Empty spot) = record { checked = refl; steady = steady_still (λ a s. []) }
stmt_layer (Stmt-F.Expr x) = record { checked = refl; steady = steady_still (λ a s. alone (part_of x) s) }
stmt_layer (Stmt-F.If spot arms None) = let ws = arms_walk arms in record {
  checked = ap (λ (w : Walk). (λ (a : Around) (s : Scope). followed (w a s) (optional_walk None a))) ws.checked;
  steady = steady_followed (check.in_order (map walk_of_armed (map armed (map (λ u. u.0) arms)))) (optional_walk None) ws.steady (steady_still (λ a s. []));
}
stmt_layer (Stmt-F.If spot arms (Some x)) = let ws = arms_walk arms in record {
  checked = ap (λ (w : Walk). (λ (a : Around) (s : Scope). followed (w a s) ((laid x.0).walk a))) ws.checked
      ∙ ap (λ (w : Walk). (λ (a : Around) (s : Scope). followed (check.in_order (map walk_of_arm (map (λ u. u.0) arms)) a s) (w a))) x.1.checked;
  steady = steady_followed (check.in_order (map walk_of_armed (map armed (map (λ u. u.0) arms)))) (laid x.0).walk ws.steady x.1.steady;
}
stmt_layer (Stmt-F.While spot test x) = record {
  checked = ap (λ (w : Walk). stmt_walk (Stmt-F.While spot test w)) x.1.checked;
  steady = steady_before (λ a s. used (part_of test) s) (λ a s. (laid x.0).walk (looping a) s) (steady_looping (laid x.0).walk x.1.steady);
}
stmt_layer (Stmt-F.Do spot x test) = record {
  checked = ap (λ (w : Walk). stmt_walk (Stmt-F.Do spot w test)) x.1.checked;
  steady = steady_followed (λ a s. (laid x.0).walk (looping a) s) (λ a inner. walked (used (part_of test) inner) inner) (steady_looping (laid x.0).walk x.1.steady)
      (steady_still (λ a inner. used (part_of test) inner));
}
stmt_layer (Stmt-F.For spot None test next x) = record {
  checked = ap (λ (w : Walk). stmt_walk (Stmt-F.For spot None test next w)) x.1.checked;
  steady = for_steady None test next (laid x.0).walk (steady_still (λ a s. [])) x.1.steady;
}
stmt_layer (Stmt-F.For spot (Some u) test next x) = record {
  checked = ap (λ (w : Walk). stmt_walk (Stmt-F.For spot (Some w) test next (laid x.0).walk)) u.1.checked ∙ ap (λ (w : Walk). stmt_walk (Stmt-F.For spot (Some (walk_of u.0)) test next w)) x.1.checked;
  steady = for_steady (Some (laid u.0).walk) test next (laid x.0).walk u.1.steady x.1.steady;
}
stmt_layer (Stmt-F.Break spot) = record { checked = refl; steady = steady_still (λ a s. outside a.in_loop spot) }
stmt_layer (Stmt-F.Continue spot) = record { checked = refl; steady = steady_still (λ a s. outside a.in_loop spot) }
stmt_layer (Stmt-F.Return spot value) = record { checked = refl; steady = steady_still (λ a s. misreturned a.answers spot (is_some value) ++ check.optional_used value s) }
stmt_layer (Stmt-F.Locals spot ctype locals) = record { checked = refl; steady = record { same = λ a b s. refl; kept = λ a s. locals_kept ctype locals s } }
stmt_layer (Stmt-F.Handles spot places) = record { checked = refl; steady = record { same = λ a b s. refl; kept = λ a s. handles_kept places s } }

rolled_stmt : (d : Stmt-F Stmt Arm Block) → IsWalk (in_code d) (in_checks d) → IsStmt (roll-Stmt d)
rolled_stmt d h = rw (
  fold-roll-Stmt (Run Laying) (Armed Laying) (Run Laying) (stmt_step strip_step) arm_step (block_step in_order) d,
  fold-roll-Stmt Walk Walk Walk stmt_walk arm_walk block_walk d,
) h

abbrev bare_arm : Arm-F AStmt AnArm ABlock → Arm-F Stmt Arm Block
bare_arm y = map-Arm AStmt AnArm ABlock Stmt Arm Block (λ u. u.0) (λ u. u.0) (λ u. u.0) y

abbrev arm_in_code : Arm-F Stmt Arm Block → Walk
arm_in_code d = (arm_step (map-Arm Stmt Arm Block (Run Laying) (Armed Laying) (Run Laying) laid armed strip_of_block d)).walk

abbrev arm_in_checks : Arm-F Stmt Arm Block → Walk
arm_in_checks d = arm_walk (map-Arm Stmt Arm Block Walk Walk Walk walk_of walk_of_arm walk_of_block d)

arm_layer : (y : Arm-F AStmt AnArm ABlock) → IsWalk (arm_in_code (bare_arm y)) (arm_in_checks (bare_arm y))
arm_layer y = record {
  checked = ap (λ (w : Walk). arm_walk (record { test = y.test; body = w })) y.body.1.checked;
  steady = steady_before (λ a s. used (part_of y.test) s) (laid y.body.0).walk y.body.1.steady;
}

rolled_arm : (d : Arm-F Stmt Arm Block) → IsWalk (arm_in_code d) (arm_in_checks d) → IsArm (roll-Arm d)
rolled_arm d h = rw (
  fold-roll-Arm (Run Laying) (Armed Laying) (Run Laying) (stmt_step strip_step) arm_step (block_step in_order) d,
  fold-roll-Arm Walk Walk Walk stmt_walk arm_walk block_walk d,
) h

abbrev bare_block : Block-F AStmt AnArm ABlock → Block-F Stmt Arm Block
bare_block y = map-Block AStmt AnArm ABlock Stmt Arm Block (λ u. u.0) (λ u. u.0) (λ u. u.0) y

abbrev block_in_code : Block-F Stmt Arm Block → Walk
block_in_code d = (block_step in_order (map-Block Stmt Arm Block (Run Laying) (Armed Laying) (Run Laying) laid armed strip_of_block d)).walk

abbrev block_in_checks : Block-F Stmt Arm Block → Walk
block_in_checks d = block_walk (map-Block Stmt Arm Block Walk Walk Walk walk_of walk_of_arm walk_of_block d)

block_layer : (y : Block-F AStmt AnArm ABlock) → IsWalk (block_in_code (bare_block y)) (block_in_checks (bare_block y))
block_layer y = stmts_walk y.items

rolled_block : (d : Block-F Stmt Arm Block) → IsWalk (block_in_code d) (block_in_checks d) → IsBlock (roll-Block d)
rolled_block d h = rw (
  fold-roll-Block (Run Laying) (Armed Laying) (Run Laying) (stmt_step strip_step) arm_step (block_step in_order) d,
  fold-roll-Block Walk Walk Walk stmt_walk arm_walk block_walk d,
) h

pub stmt_is_walk : (x : Stmt) → IsStmt x
stmt_is_walk = ind-Stmt IsStmt IsArm IsBlock
    (λ x y is. rolled_stmt x (subst (λ (z : Stmt-F Stmt Arm Block). IsWalk (in_code z) (in_checks z)) is (stmt_layer y)))
    (λ x y is. rolled_arm x (subst (λ (z : Arm-F Stmt Arm Block). IsWalk (arm_in_code z) (arm_in_checks z)) is (arm_layer y)))
    (λ x y is. rolled_block x (subst (λ (z : Block-F Stmt Arm Block). IsWalk (block_in_code z) (block_in_checks z)) is (block_layer y)))

pub block_is_walk : (x : Block) → IsBlock x
block_is_walk = ind-Block IsStmt IsArm IsBlock
    (λ x y is. rolled_stmt x (subst (λ (z : Stmt-F Stmt Arm Block). IsWalk (in_code z) (in_checks z)) is (stmt_layer y)))
    (λ x y is. rolled_arm x (subst (λ (z : Arm-F Stmt Arm Block). IsWalk (arm_in_code z) (arm_in_checks z)) is (arm_layer y)))
    (λ x y is. rolled_block x (subst (λ (z : Block-F Stmt Arm Block). IsWalk (block_in_code z) (block_in_checks z)) is (block_layer y)))

-- ---- what is behind statements

pub passed_kept : (x : Stmt) (s : Scope) → Grows s.names (passed x s).names
passed_kept x s = (stmt_is_walk x).steady.kept nothing_around s

pub passed_all_kept : (xs : List Stmt) (s : Scope) → Grows s.names (passed_all xs s).names
passed_all_kept [] s = grows_not s.names
passed_all_kept (x ∷ xs) s = grows_on s.names (passed x s).names (passed_all xs (passed x s)).names (passed_kept x s) (passed_all_kept xs (passed x s))

-- in a loop it is the same
pub passed_looping : (x : Stmt) (s : Scope) → ((laid x).walk (looping nothing_around) s).scope ≡ passed x s
passed_looping x s = (stmt_is_walk x).steady.same (looping nothing_around) nothing_around s

-- statements in order
pub behind_all : (xs : List Stmt) (s : Scope) → (check.in_order (map walk_of_run (map laid xs)) nothing_around s).scope ≡ passed_all xs s
behind_all [] s = refl
behind_all (x ∷ xs) s = behind_all xs (passed x s)

pub optional_kept : (x : Option Stmt) (s : Scope) → Grows s.names (passed_optional x s).names
optional_kept None s = grows_not s.names
optional_kept (Some x) s = passed_kept x s

pub arms_kept : (xs : List Arm) (s : Scope) → Grows s.names (passed_arms xs s).names
arms_kept [] s = grows_not s.names
arms_kept (x ∷ xs) s = grows_on s.names (passed x.body s).names (passed_arms xs (passed x.body s)).names (passed_kept x.body s) (arms_kept xs (passed x.body s))
