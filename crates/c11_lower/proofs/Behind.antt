-- The scope behind each kind of statement, by its parts.
use Rattle.std.proofs.Common.{◌≡◌, ℕ, ◌+◌, ◌<◌, List, [], ◌∷◌, length, Option, Some, None, refl, ap, ◌∙◌, sym, map, drop, get_or}
use Rattle.c11_num.specs.declared.value.CType.{CType}
use Rattle.c11_ast.specs.declared.place.Spot.{Spot}
use Rattle.c11_ast.specs.declared.expr.Expr.{Expr}
use Rattle.c11_ast.specs.declared.stmt.Local.{Local}
use Rattle.c11_ast.specs.declared.stmt.Stmt.{Stmt}
use Rattle.c11_ast.specs.declared.stmt.Stmt.TheVariants as s
use Rattle.c11_ast.specs.declared.stmt.Arm.{Arm}
use Rattle.c11_ast.specs.declared.stmt.Block.{Block}
use Rattle.c11_check.specs.Scopes.{Scope, entered, left_for, size_in, with_local}
use Rattle.c11_check.specs.Statements.{Walk, looping}
use Rattle.c11_check.specs.Statements as check
use Rattle.c11_meaning.specs.Statements.{Run, Armed, behind, nothing_around, walk_of_armed}
use Rattle.c11_flat.specs.Code.{Laying}
use Rattle.c11_lower.specs.Lowered.{armed, passed, passed_all, passed_arms, passed_optional, passed_locals}
use Rattle.c11_lower.proofs.Lists.{first_of}
use Rattle.c11_lower.proofs.Walks.{passed_looping, behind_all}
use Rattle.c11_lower.proofs.Stmts.{arm_is, block_is, if_none_is, if_some_is, while_is, do_is, for_none_is, for_some_is}

abbrev behind_run : Scope → Run Laying → Scope
behind_run scope r = behind r.walk scope

pub passed_block : (x : Stmt) (block : Block) (scope : Scope) → x ≡ s.Block block → passed x scope ≡ left_for scope (passed_all block.items (entered scope))
passed_block x block scope is = ap (behind_run scope) (block_is x block is) ∙ ap (λ (m : Scope). left_for scope m) (behind_all block.items (entered scope))

behind_arms : (xs : List Arm) (scope : Scope) → (check.in_order (map walk_of_armed (map armed xs)) nothing_around scope).scope ≡ passed_arms xs scope
behind_arms [] scope = refl
behind_arms (x ∷ xs) scope = ap (λ (a : Armed Laying). (check.in_order (map walk_of_armed (map armed xs)) nothing_around (a.walk nothing_around scope).scope).scope) (arm_is x)
    ∙ behind_arms xs (passed x.body scope)

pub passed_if : (x : Stmt) (spot : Spot) (arms : List Arm) (otherwise : Option Stmt) (scope : Scope) → x ≡ s.If spot arms otherwise → passed x scope ≡ passed_optional otherwise (passed_arms arms scope)
passed_if x spot arms None scope is = ap (behind_run scope) (if_none_is x spot arms is) ∙ behind_arms arms scope
passed_if x spot arms (Some another) scope is = ap (behind_run scope) (if_some_is x spot arms another is) ∙ ap (λ (m : Scope). passed another m) (behind_arms arms scope)

pub passed_while : (x : Stmt) (spot : Spot) (test : Expr) (body : Stmt) (scope : Scope) → x ≡ s.While spot test body → passed x scope ≡ passed body scope
passed_while x spot test body scope is = ap (behind_run scope) (while_is x spot test body is) ∙ passed_looping body scope

pub passed_do : (x : Stmt) (spot : Spot) (body : Stmt) (test : Expr) (scope : Scope) → x ≡ s.Do spot body test → passed x scope ≡ passed body scope
passed_do x spot body test scope is = ap (behind_run scope) (do_is x spot body test is) ∙ passed_looping body scope

pub passed_for : (x : Stmt) (spot : Spot) (start : Option Stmt) (test next : Option Expr) (body : Stmt) (scope : Scope) → x ≡ s.For spot start test next body
    → passed x scope ≡ left_for scope (passed body (passed_optional start (entered scope)))
passed_for x spot None test next body scope is = ap (behind_run scope) (for_none_is x spot test next body is) ∙ ap (λ (m : Scope). left_for scope m) (passed_looping body (entered scope))
passed_for x spot (Some start) test next body scope is = ap (behind_run scope) (for_some_is x spot start test next body is) ∙ ap (λ (m : Scope). left_for scope m) (passed_looping body (passed start (entered scope)))

-- ---- along lists

pub local_passed : (ctype : CType) (xs : List Local) (i : ℕ) (x : Local) (scope : Scope) {after : Scope} → i < length xs → x ≡ get_or xs i x
    → after ≡ with_local scope x.place.word.name ctype (size_in scope x.place.size) → passed_locals ctype (drop (i + 1) xs) after ≡ passed_locals ctype (drop i xs) scope
local_passed ctype xs i x scope less at is = ap (λ (m : Scope). passed_locals ctype (drop (i + 1) xs) m) is ∙ sym (ap (λ (ys : List Local). passed_locals ctype ys scope) (first_of xs i x less at))

pub stmt_passed : (xs : List Stmt) (i : ℕ) (x : Stmt) (scope : Scope) {after : Scope} → i < length xs → x ≡ get_or xs i x
    → after ≡ passed x scope → passed_all (drop (i + 1) xs) after ≡ passed_all (drop i xs) scope
stmt_passed xs i x scope less at is = ap (λ (m : Scope). passed_all (drop (i + 1) xs) m) is ∙ sym (ap (λ (ys : List Stmt). passed_all ys scope) (first_of xs i x less at))

pub arm_passed : (xs : List Arm) (i : ℕ) (x : Arm) (scope : Scope) {after : Scope} → i < length xs → x ≡ get_or xs i x
    → after ≡ passed x.body scope → passed_arms (drop (i + 1) xs) after ≡ passed_arms (drop i xs) scope
arm_passed xs i x scope less at is = ap (λ (m : Scope). passed_arms (drop (i + 1) xs) m) is ∙ sym (ap (λ (ys : List Arm). passed_arms ys scope) (first_of xs i x less at))
