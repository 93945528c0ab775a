-- The size of each kind of statement, by its parts.
use Rattle.std.proofs.Common.{◌≡◌, ℕ, ◌+◌, List, [], ◌∷◌, length, Option, Some, None, refl, ap, ◌∙◌, arith, map, take}
use Rattle.c11_ast.specs.declared.place.Spot.{Spot}
use Rattle.c11_ast.specs.declared.place.Place.{Place}
use Rattle.c11_ast.specs.declared.expr.Expr.{Expr}
use Rattle.c11_ast.specs.declared.stmt.Stmt.{Stmt}
use Rattle.c11_ast.specs.declared.stmt.Stmt.TheVariants as s
use Rattle.c11_ast.specs.declared.stmt.Arm.{Arm}
use Rattle.c11_check.specs.Scopes.{Scope, Named, entered, size_in, with_handle}
use Rattle.c11_meaning.specs.Statements.{Run, Armed}
use Rattle.c11_flat.specs.declared.instr.Instr.{Instr}
use Rattle.c11_flat.specs.Code.{Laying, optional_run, optional_piece, optional_alone, started, locals_strip, handles_strip}
use Rattle.c11_flat.specs.Code as code
use Rattle.c11_lower.specs.Lowered.{laid, armed, strip_of, optional_strip, arms_size, optional_size, alone_size, loop_size, passed, passed_arms, passed_optional}
use Rattle.c11_lower.proofs.Walks.{Grows, taken_back}
use Rattle.c11_lower.proofs.Stmts.{arm_is, if_none_is, if_some_is, for_none_is, for_some_is, handles_are}

-- ---- going back

pub restored : (scope inner : Scope) → Grows scope.names inner.names → record { names = take (length scope.names) inner.names; start = scope.start; counts = scope.counts } ≡ scope
restored scope inner grows = ap (λ (xs : List Named). record { names = xs; start = scope.start; counts = scope.counts }) (taken_back scope.names inner.names grows)

-- what was gone back to, from a scope that only grew
pub gone_back : (scope inner mid : Scope) {after : Scope} → inner ≡ mid → Grows scope.names mid.names
    → after ≡ record { names = take (length scope.names) inner.names; start = scope.start; counts = scope.counts } → after ≡ scope
gone_back scope inner mid is grows back = back ∙ (ap (λ (m : Scope). record { names = take (length scope.names) m.names; start = scope.start; counts = scope.counts }) is ∙ restored scope mid grows)

-- ---- what may be left out

pub optional_sizes : (x : Option Expr) (instr : Instr) (scope : Scope) → (optional_piece x instr scope).size ≡ optional_size x scope
optional_sizes None instr scope = refl
optional_sizes (Some x) instr scope = refl

pub alone_sizes : (x : Option Expr) (scope : Scope) → (optional_alone x scope).size ≡ alone_size x scope
alone_sizes None scope = refl
alone_sizes (Some x) scope = refl

-- ---- statements

abbrev size_at : Scope → Run Laying → ℕ
size_at scope r = (r.run scope).size

abbrev first_size : Armed Laying → List (Armed Laying) → Option (Run Laying) → Scope → ℕ
first_size a rest otherwise scope = (code.first_of (a ∷ rest) otherwise scope).size

pub size_arms : (arms : List Arm) (otherwise : Option (Run Laying)) (scope : Scope) → (code.first_of (map armed arms) otherwise scope).size ≡ arms_size arms scope + (optional_run otherwise (passed_arms arms scope)).size
size_arms [] otherwise scope = omega arith
size_arms (x ∷ xs) otherwise scope = ap (λ (a : Armed Laying). first_size a (map armed xs) otherwise scope) (arm_is x)
    ∙ omega (arith, size_arms xs otherwise (passed x.body scope))

pub size_if : (x : Stmt) (spot : Spot) (arms : List Arm) (otherwise : Option Stmt) (scope : Scope) → x ≡ s.If spot arms otherwise
    → (strip_of x scope).size ≡ arms_size arms scope + (optional_strip otherwise (passed_arms arms scope)).size
size_if x spot arms None scope is = ap (size_at scope) (if_none_is x spot arms is) ∙ size_arms arms None scope
size_if x spot arms (Some another) scope is = ap (size_at scope) (if_some_is x spot arms another is) ∙ size_arms arms (Some (laid another)) scope

loop_sizes : (line : ℕ) (test next : Option Expr) (instr : Instr) (body : Stmt) (scope : Scope) → (code.turning line (optional_piece test instr scope) (strip_of body scope) (optional_alone next scope)).size ≡ loop_size test next body scope
loop_sizes line test next instr body scope = omega (arith, optional_sizes test instr scope, alone_sizes next scope)

pub size_for : (x : Stmt) (spot : Spot) (start : Option Stmt) (test next : Option Expr) (body : Stmt) (scope : Scope) → x ≡ s.For spot start test next body
    → (strip_of x scope).size ≡ (optional_strip start (entered scope)).size + loop_size test next body (passed_optional start (entered scope))
size_for x spot None test next body scope is = ap (size_at scope) (for_none_is x spot test next body is) ∙ (loop_sizes spot.line test next _ body (entered scope) ∙ omega arith)
size_for x spot (Some start) test next body scope is = ap (size_at scope) (for_some_is x spot start test next body is)
    ∙ ap (λ (n : ℕ). (strip_of start (entered scope)).size + n) (loop_sizes spot.line test next _ body (passed start (entered scope)))

handles_sizes : (xs : List Place) (scope : Scope) → (handles_strip xs scope).size ≡ length xs
handles_sizes [] scope = refl
handles_sizes (x ∷ xs) scope = omega (arith, handles_sizes xs (with_handle scope x.word.name (size_in scope x.size)))

pub size_handles : (x : Stmt) (spot : Spot) (places : List Place) (scope : Scope) → x ≡ s.Handles spot places → (strip_of x scope).size ≡ length places
size_handles x spot places scope is = ap (size_at scope) (handles_are x spot places is) ∙ handles_sizes places scope
