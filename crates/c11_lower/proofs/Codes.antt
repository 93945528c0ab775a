-- Code behind code.
use Rattle.std.proofs.Common.{◌≡◌, ℕ, ◌+◌, ◌<◌, List, [], ◌∷◌, ◌++◌, length, Option, Some, None, refl, ap, ◌∙◌, sym, subst, arith, append_assoc, map, drop, get_or}
use Rattle.std.proofs.lemmas.List.{length-append}
use Rattle.c11_num.specs.declared.value.CType.{CType}
use Rattle.c11_ast.specs.declared.expr.Expr.{Expr}
use Rattle.c11_ast.specs.declared.stmt.Local.{Local}
use Rattle.c11_check.specs.Scopes.{Scope, size_in, taken, with_local}
use Rattle.c11_flat.specs.declared.instr.Instr.{Instr}
use Rattle.c11_flat.specs.declared.instr.Instr.TheVariants as i
use Rattle.c11_flat.specs.declared.instr.Place.TheVariants.{At}
use Rattle.c11_flat.specs.declared.instr.Storage.TheVariants as storage
use Rattle.c11_flat.specs.Pieces.{piece_of}
use Rattle.c11_ast.specs.declared.place.Spot.{Spot}
use Rattle.c11_ast.specs.declared.stmt.Stmt.{Stmt}
use Rattle.c11_ast.specs.declared.stmt.Stmt.TheVariants as s
use Rattle.c11_ast.specs.declared.stmt.Arm.{Arm}
use Rattle.c11_check.specs.Scopes.{entered}
use Rattle.c11_meaning.specs.Objects.{one}
use Rattle.c11_meaning.specs.Statements.{Run, Armed}
use Rattle.c11_flat.specs.Pieces.{Piece}
use Rattle.c11_flat.specs.Code.{Strip, Laying, of_piece, of_instrs, joined, chosen, started, locals_strip, first_of, turning, repeating, optional_piece, optional_alone}
use Rattle.c11_lower.specs.Lowered.{armed, strip_of, strip_of_all, optional_strip, alone_size, optional_size, laid_optional, arms_strip, EndsAt, with_strip, opening, while_strip, turning_strip, do_strip, passed, passed_arms, passed_optional}
use Rattle.c11_lower.proofs.Stmts.{arm_is, if_none_is, if_some_is, for_none_is, for_some_is}
use Rattle.c11_lower.proofs.Lists as lists
use Rattle.c11_lower.proofs.Sizes.{alone_sizes, optional_sizes}
use Rattle.c11_lower.proofs.Sized.{expr_sized, stmt_sized, alone_sized, optional_sized}

abbrev pub Code : Type 0
Code = List Instr

-- This code stands behind that one.
abbrev pub Wrote : Code → (ℕ → Code) → Code → Type 0
Wrote c f d = d ≡ c ++ f (length c)

-- where what is behind it begins
pub wrote_length : (c : Code) (f : ℕ → Code) (n : ℕ) {d : Code} → Wrote c f d → length (f (length c)) ≡ n → length d ≡ length c + n
wrote_length c f n w e = ap length w ∙ omega (arith, length-append c (f (length c)), e)

-- and then the rest
pub wrote_then : (c : Code) (f g : ℕ → Code) (n : ℕ) {d : Code} → Wrote c f d → length (f (length c)) ≡ n → d ++ g (length d) ≡ c ++ (f (length c) ++ g (length c + n))
wrote_then c f g n {d} w e = ap (λ (m : ℕ). d ++ g m) (wrote_length c f n w e) ∙ (ap (λ (x : Code). x ++ g (length c + n)) w ∙ append_assoc c (f (length c)) (g (length c + n)))

no_more : (c : Code) → c ≡ c ++ []
no_more [] = refl
no_more (x ∷ xs) = ap (λ (ys : Code). x ∷ ys) (no_more xs)

abbrev pub instr_code : Instr → ℕ → Code
instr_code instr b = instr ∷ []

-- ---- starts

started_sized : (line : ℕ) (ctype : CType) (place : ℕ) (x : Option Expr) (scope : Scope) (b : ℕ) → length ((started line ctype place x scope).code b) ≡ (started line ctype place x scope).size
started_sized line ctype place None scope b = refl
started_sized line ctype place (Some x) scope b = let p = piece_of x scope in omega (arith, length-append (p.code b) (i.Write line storage.Local ctype (At place) ∷ i.Drop ∷ []), expr_sized x scope b)

-- ---- declarations

abbrev pub locals_code : CType → List Local → Scope → ℕ → ℕ → ℕ → Code
locals_code ctype xs scope k l b = (locals_strip ctype xs scope).code b k l

pub local_written : (ctype : CType) (xs : List Local) (n : ℕ) (x : Local) (scope : Scope) (k l : ℕ) (c : Code) {d e : Code} {after : Scope} → n < length xs → x ≡ get_or xs n x
    → d ≡ c ++ i.Clear scope.counts.places (taken (size_in scope x.place.size)) ∷ [] → after ≡ with_local scope x.place.word.name ctype (size_in scope x.place.size)
    → Wrote d (started x.place.word.spot.line ctype scope.counts.places x.start after).code e
    → e ++ locals_code ctype (drop (n + 1) xs) after k l (length e) ≡ c ++ locals_code ctype (drop n xs) scope k l (length c)
local_written ctype xs n x scope k l c {d} {e} {after} less at cleared is w =
    let clear = i.Clear scope.counts.places (taken (size_in scope x.place.size)) in
    let p = started x.place.word.spot.line ctype scope.counts.places x.start after in
    let rest : ℕ → Code = locals_code ctype (drop (n + 1) xs) after k l in
    wrote_then d p.code rest p.size w (started_sized x.place.word.spot.line ctype scope.counts.places x.start after (length d))
    ∙ (wrote_then c (instr_code clear) (λ b. p.code b ++ rest (b + p.size)) 1 cleared refl
    ∙ (ap (λ (m : Scope). c ++ ((clear ∷ []) ++ ((started x.place.word.spot.line ctype scope.counts.places x.start m).code (length c + 1)
    ++ locals_code ctype (drop (n + 1) xs) m k l (length c + 1 + (started x.place.word.spot.line ctype scope.counts.places x.start m).size)))) is
    ∙ sym (ap (λ (ys : List Local). c ++ locals_code ctype ys scope k l (length c)) (lists.first_of xs n x less at))))

-- ---- statements in order

pub stmt_written : (xs : List Stmt) (n : ℕ) (x : Stmt) (scope : Scope) (k l : ℕ) (c : Code) {d : Code} {after : Scope} → n < length xs → x ≡ get_or xs n x
    → d ≡ with_strip c (strip_of x scope) k l → after ≡ passed x scope
    → with_strip d (strip_of_all (drop (n + 1) xs) after) k l ≡ with_strip c (strip_of_all (drop n xs) scope) k l
stmt_written xs n x scope k l c {d} {after} less at w is =
    wrote_then c (λ b. (strip_of x scope).code b k l) (λ b. (strip_of_all (drop (n + 1) xs) after).code b k l) (strip_of x scope).size w (stmt_sized x scope (length c) k l)
    ∙ (ap (λ (m : Scope). c ++ ((strip_of x scope).code (length c) k l ++ (strip_of_all (drop (n + 1) xs) m).code (length c + (strip_of x scope).size) k l)) is
    ∙ sym (ap (λ (ys : List Stmt). with_strip c (strip_of_all ys scope) k l) (lists.first_of xs n x less at)))

pub optional_strip_sized : (x : Option Stmt) (scope : Scope) (b k l : ℕ) → length ((optional_strip x scope).code b k l) ≡ (optional_strip x scope).size
optional_strip_sized None scope b k l = refl
optional_strip_sized (Some x) scope b k l = stmt_sized x scope b k l

-- ---- the arms of an `if`

abbrev pub arm_strip : Arm → Strip → Laying
arm_strip x rest scope = joined (of_piece (piece_of x.test scope)) (chosen (strip_of x.body scope) rest)

arms_begin : (x : Arm) (xs : List Arm) (otherwise : Option Stmt) (scope : Scope) → arms_strip (x ∷ xs) otherwise scope ≡ arm_strip x (arms_strip xs otherwise (passed x.body scope)) scope
arms_begin x xs otherwise scope = ap (λ (a : Armed Laying). first_of (a ∷ map armed xs) (laid_optional otherwise) scope) (arm_is x)

pub arms_are : (xs : List Arm) (n : ℕ) (x : Arm) (otherwise : Option Stmt) (scope : Scope) → n < length xs → x ≡ get_or xs n x
    → arms_strip (drop n xs) otherwise scope ≡ arm_strip x (arms_strip (drop (n + 1) xs) otherwise (passed x.body scope)) scope
arms_are xs n x otherwise scope less at = ap (λ (ys : List Arm). arms_strip ys otherwise scope) (lists.first_of xs n x less at) ∙ arms_begin x (drop (n + 1) xs) otherwise scope

-- what stands of an arm, and then the rest
pub arm_written : (x : Arm) (q : Strip) (scope : Scope) (next end k l : ℕ) (c : Code) {d e f g : Code} → Wrote c (piece_of x.test scope).code d → e ≡ d ++ i.JumpIfZero next ∷ []
    → f ≡ with_strip e (strip_of x.body scope) k l → g ≡ f ++ i.Jump end ∷ [] → next ≡ length d + (strip_of x.body scope).size + 2 → end ≡ length c + (arm_strip x q scope).size
    → with_strip g q k l ≡ with_strip c (arm_strip x q scope) k l
arm_written x q scope next end k l c {d} {e} {f} {g} w v u z next_is end_is =
    let t = piece_of x.test scope in let p = strip_of x.body scope in
    let b = length c + t.size in
    let at_d : length d ≡ b = wrote_length c t.code t.size w (expr_sized x.test scope (length c)) in
    let last : ℕ → Code = λ m. i.Jump end ∷ q.code (m + 1) k l in
    let body : ℕ → Code = λ m. p.code m k l ++ last (m + p.size) in
    let all : ℕ → Code = λ m. i.JumpIfZero next ∷ body (m + 1) in
    let next' : next ≡ b + 1 + p.size + 1 = omega (arith, next_is, at_d) in
    let end' : end ≡ b + 1 + p.size + 1 + q.size = omega (arith, end_is) in
    wrote_then f (instr_code (i.Jump end)) (λ m. q.code m k l) 1 z refl
    ∙ (wrote_then e (λ m. p.code m k l) last p.size u (stmt_sized x.body scope (length e) k l)
    ∙ (wrote_then d (instr_code (i.JumpIfZero next)) body 1 v refl
    ∙ (wrote_then c t.code all t.size w (expr_sized x.test scope (length c))
    ∙ (ap (λ (m : ℕ). c ++ (t.code (length c) ++ (i.JumpIfZero m ∷ (p.code (b + 1) k l ++ (i.Jump end ∷ q.code (b + 1 + p.size + 1) k l))))) next'
    ∙ ap (λ (m : ℕ). c ++ (t.code (length c) ++ (i.JumpIfZero (b + 1 + p.size + 1) ∷ (p.code (b + 1) k l ++ (i.Jump m ∷ q.code (b + 1 + p.size + 1) k l))))) end'))))

-- how long it is
pub arm_length : (x : Arm) (q : Strip) (scope : Scope) (next end k l : ℕ) (c : Code) {d e f g : Code} → Wrote c (piece_of x.test scope).code d → e ≡ d ++ i.JumpIfZero next ∷ []
    → f ≡ with_strip e (strip_of x.body scope) k l → g ≡ f ++ i.Jump end ∷ [] → length g + q.size ≡ length c + (arm_strip x q scope).size
arm_length x q scope next end k l c {d} {e} {f} {g} w v u z =
    let t = piece_of x.test scope in let p = strip_of x.body scope in
    let at_d = wrote_length c t.code t.size w (expr_sized x.test scope (length c)) in
    let at_e = wrote_length d (instr_code (i.JumpIfZero next)) 1 v refl in
    let at_f = wrote_length e (λ m. p.code m k l) p.size u (stmt_sized x.body scope (length e) k l) in
    let at_g = wrote_length f (instr_code (i.Jump end)) 1 z refl in
    omega (arith, at_d, at_e, at_f, at_g)

-- ---- loops

opening_sized : (body : Stmt) (scope : Scope) (next test b : ℕ) → length (opening (strip_of body scope) next test b) ≡ 1 + (strip_of body scope).size
opening_sized body scope next test b = let q = strip_of body scope in let n = b + 1 + q.size in let t = n + next in omega (arith, stmt_sized body scope (b + 1) (t + test + 1) n)

pub turning_written : (line top : ℕ) (p r : Piece) (body : Stmt) (scope : Scope) (c : Code) {d e f g : Code} → ((b : ℕ) → length (p.code b) ≡ p.size) → ((b : ℕ) → length (r.code b) ≡ r.size)
    → Wrote c (opening (strip_of body scope) r.size p.size) d → Wrote d r.code e → Wrote e p.code f → g ≡ f ++ i.TurnIf line top ∷ [] → top ≡ length c + 1
    → Wrote c (λ b. (turning line p (strip_of body scope) r).code b 0 0) g
turning_written line top p r body scope c {d} {e} {f} {g} p_sized r_sized w v u z top_is =
    let q = strip_of body scope in
    let last : ℕ → Code = instr_code (i.TurnIf line top) in
    let test : ℕ → Code = λ m. p.code m ++ last (m + p.size) in
    let rest : ℕ → Code = λ m. r.code m ++ test (m + r.size) in
    let n = length c + 1 + q.size in
    z ∙ (wrote_then e p.code last p.size u (p_sized (length e))
    ∙ (wrote_then d r.code test r.size v (r_sized (length d))
    ∙ (wrote_then c (opening q r.size p.size) rest (1 + q.size) w (opening_sized body scope r.size p.size (length c))
    ∙ (ap (λ (m : ℕ). c ++ (opening q r.size p.size (length c) ++ rest m)) (omega arith)
    ∙ ap (λ (m : ℕ). c ++ (opening q r.size p.size (length c) ++ (r.code n ++ (p.code (n + r.size) ++ i.TurnIf line m ∷ [])))) top_is))))

pub repeating_written : (line top end next : ℕ) (p : Piece) (body : Stmt) (scope : Scope) (c : Code) {d e f g : Code} → ((b : ℕ) → length (p.code b) ≡ p.size)
    → d ≡ c ++ i.Turn line ∷ [] → e ≡ with_strip d (strip_of body scope) end next → Wrote e p.code f → g ≡ f ++ i.TurnIf line top ∷ []
    → top ≡ length c + 1 → next ≡ top + (strip_of body scope).size → end ≡ next + p.size + 1
    → Wrote c (λ b. (repeating line (strip_of body scope) p).code b 0 0) g
repeating_written line top end next p body scope c {d} {e} {f} {g} p_sized w v u z top_is next_is end_is =
    let q = strip_of body scope in
    let last : ℕ → Code = instr_code (i.TurnIf line top) in
    let test : ℕ → Code = λ m. p.code m ++ last (m + p.size) in
    let rest : ℕ → Code = λ m. q.code m end next ++ test (m + q.size) in
    let t = length c + 1 + q.size in
    let next' : next ≡ t = omega (arith, next_is, top_is) in
    let end' : end ≡ t + p.size + 1 = omega (arith, end_is, next') in
    z ∙ (wrote_then e p.code last p.size u (p_sized (length e))
    ∙ (wrote_then d (λ m. q.code m end next) test q.size v (stmt_sized body scope (length d) end next)
    ∙ (wrote_then c (instr_code (i.Turn line)) rest 1 w refl
    ∙ (ap (λ (m : ℕ). c ++ (i.Turn line ∷ (q.code (length c + 1) m next ++ (p.code t ++ i.TurnIf line top ∷ [])))) end'
    ∙ (ap (λ (m : ℕ). c ++ (i.Turn line ∷ (q.code (length c + 1) (t + p.size + 1) m ++ (p.code t ++ i.TurnIf line top ∷ [])))) next'
    ∙ ap (λ (m : ℕ). c ++ (i.Turn line ∷ (q.code (length c + 1) (t + p.size + 1) t ++ (p.code t ++ i.TurnIf line m ∷ [])))) top_is)))))

-- a `for`: its start, and then the loop
for_code : (x : Stmt) (spot : Spot) (start : Option Stmt) (test next : Option Expr) (body : Stmt) (scope : Scope) (b k l : ℕ) → x ≡ s.For spot start test next body
    → (strip_of x scope).code b k l ≡ (optional_strip start (entered scope)).code b k l
    ++ (turning_strip spot.line test next body (passed_optional start (entered scope))).code (b + (optional_strip start (entered scope)).size) 0 0
for_code x spot None test next body scope b k l is = ap (λ (r : Run Laying). (r.run scope).code b k l) (for_none_is x spot test next body is)
    ∙ ap (λ (m : ℕ). (turning_strip spot.line test next body (entered scope)).code m 0 0) (omega arith)
for_code x spot (Some start) test next body scope b k l is = ap (λ (r : Run Laying). (r.run scope).code b k l) (for_some_is x spot start test next body is)

pub for_written : (x : Stmt) (spot : Spot) (start : Option Stmt) (test next : Option Expr) (body : Stmt) (scope : Scope) (k l : ℕ) (c : Code) {d e : Code} {inner : Scope} → x ≡ s.For spot start test next body
    → d ≡ with_strip c (optional_strip start (entered scope)) k l → inner ≡ passed_optional start (entered scope) → e ≡ with_strip d (turning_strip spot.line test next body inner) 0 0
    → e ≡ with_strip c (strip_of x scope) k l
for_written x spot start test next body scope k l c {d} {e} is w inner_is v = let o = optional_strip start (entered scope) in
    v ∙ (ap (λ (m : Scope). with_strip d (turning_strip spot.line test next body m) 0 0) inner_is
    ∙ (wrote_then c (λ b. o.code b k l) (λ b. (turning_strip spot.line test next body (passed_optional start (entered scope))).code b 0 0) o.size w (optional_strip_sized start (entered scope) (length c) k l)
    ∙ sym (ap (λ (y : Code). c ++ y) (for_code x spot start test next body scope (length c) k l is))))

-- ---- as the functions write them

pub turning_put : (line top next_size test_size : ℕ) (test next : Option Expr) (body : Stmt) (scope mid : Scope) (c : Code) {d e f g : Code} → mid ≡ scope → next_size ≡ alone_size next scope → test_size ≡ optional_size test scope
    → Wrote c (opening (strip_of body scope) next_size test_size) d → Wrote d (optional_alone next mid).code e → Wrote e (optional_piece test (i.Push one) mid).code f → g ≡ f ++ i.TurnIf line top ∷ []
    → top ≡ length c + 1 → g ≡ with_strip c (turning_strip line test next body scope) 0 0
turning_put line top next_size test_size test next body scope mid c {d} {e} {f} same next_is test_is w v u z top_is =
    let p = optional_piece test (i.Push one) scope in let r = optional_alone next scope in
    let n : next_size ≡ r.size = next_is ∙ sym (alone_sizes next scope) in
    let m : test_size ≡ p.size = test_is ∙ sym (optional_sizes test (i.Push one) scope) in
    turning_written line top p r body scope c (optional_sized test (i.Push one) scope) (alone_sized next scope)
    (w ∙ (ap (λ (k : ℕ). c ++ opening (strip_of body scope) k test_size (length c)) n ∙ ap (λ (k : ℕ). c ++ opening (strip_of body scope) r.size k (length c)) m))
    (subst (λ (s : Scope). Wrote d (optional_alone next s).code e) same v) (subst (λ (s : Scope). Wrote e (optional_piece test (i.Push one) s).code f) same u) z top_is

pub while_put : (line top test_size : ℕ) (test : Expr) (body : Stmt) (scope mid : Scope) (c : Code) {d f g : Code} → mid ≡ scope → test_size ≡ (piece_of test scope).size
    → Wrote c (opening (strip_of body scope) 0 test_size) d → Wrote d (piece_of test mid).code f → g ≡ f ++ i.TurnIf line top ∷ []
    → top ≡ length c + 1 → g ≡ with_strip c (while_strip line body test scope) 0 0
while_put line top test_size test body scope mid c {d} {f} same test_is w u z top_is = let p = piece_of test scope in
    turning_written line top p (of_instrs []) body scope c (expr_sized test scope) (λ b. refl)
    (w ∙ ap (λ (k : ℕ). c ++ opening (strip_of body scope) 0 k (length c)) test_is) (no_more d) (subst (λ (s : Scope). Wrote d (piece_of test s).code f) same u) z top_is

pub do_put : (line top done tested next end : ℕ) (test : Expr) (body : Stmt) (scope : Scope) (c : Code) {d e f g : Code} → done ≡ (strip_of body scope).size → tested ≡ (piece_of test (passed body scope)).size
    → top ≡ length c + 1 → next ≡ top + done → end ≡ next + tested + 1 → d ≡ c ++ i.Turn line ∷ [] → e ≡ with_strip d (strip_of body scope) end next → Wrote e (piece_of test (passed body scope)).code f
    → g ≡ f ++ i.TurnIf line top ∷ [] → g ≡ with_strip c (do_strip line body test scope) 0 0
do_put line top done tested next end test body scope c done_is tested_is top_is next_is end_is w v u z = let p = piece_of test (passed body scope) in
    repeating_written line top end next p body scope c (expr_sized test (passed body scope)) w v u z top_is (next_is ∙ ap (λ (k : ℕ). top + k) done_is) (end_is ∙ ap (λ (k : ℕ). next + k + 1) tested_is)

module _ (xs : List Arm) (n : ℕ) (x : Arm) (scope : Scope) (next end done k l : ℕ) (c : Code) {d e f g : Code} {after : Scope} (less : n < length xs) (at : x ≡ get_or xs n x)
    (w : Wrote c (piece_of x.test scope).code d) (done_is : done ≡ (strip_of x.body scope).size) (next_is : next ≡ length d + done + 2) (v : e ≡ d ++ i.JumpIfZero next ∷ [])
    (u : f ≡ with_strip e (strip_of x.body scope) k l) (z : g ≡ f ++ i.Jump end ∷ []) (is : after ≡ passed x.body scope) (otherwise : Option Stmt) (ends : EndsAt end c (drop n xs) otherwise scope) where
  abbrev rest : Strip
  rest = arms_strip (drop (n + 1) xs) otherwise (passed x.body scope)

  here : arms_strip (drop n xs) otherwise scope ≡ arm_strip x rest scope
  here = arms_are xs n x otherwise scope less at

  ends_here : end ≡ length c + (arm_strip x rest scope).size
  ends_here = ends ∙ ap (λ (p : Strip). length c + p.size) here

  pub arm_ends : EndsAt end g (drop (n + 1) xs) otherwise after
  arm_ends = subst (λ (m : Scope). EndsAt end g (drop (n + 1) xs) otherwise m) (sym is) (ends_here ∙ sym (arm_length x rest scope next end k l c w v u z))

  pub arm_put : with_strip g (arms_strip (drop (n + 1) xs) otherwise after) k l ≡ with_strip c (arms_strip (drop n xs) otherwise scope) k l
  arm_put = ap (λ (m : Scope). with_strip g (arms_strip (drop (n + 1) xs) otherwise m) k l) is
      ∙ (arm_written x rest scope next end k l c w v u z (next_is ∙ ap (λ (m : ℕ). length d + m + 2) done_is) ends_here ∙ sym (ap (λ (p : Strip). with_strip c p k l) here))

-- an `if`: its arms, and what the last `else` has
if_code : (x : Stmt) (spot : Spot) (arms : List Arm) (otherwise : Option Stmt) (scope : Scope) → x ≡ s.If spot arms otherwise → strip_of x scope ≡ arms_strip arms otherwise scope
if_code x spot arms None scope is = ap (λ (r : Run Laying). r.run scope) (if_none_is x spot arms is)
if_code x spot arms (Some another) scope is = ap (λ (r : Run Laying). r.run scope) (if_some_is x spot arms another is)

pub if_put : (x : Stmt) (spot : Spot) (arms : List Arm) (otherwise : Option Stmt) (scope : Scope) (size end k l : ℕ) (c d : Code) {e : Code} {mid : Scope} → x ≡ s.If spot arms otherwise
    → size ≡ (strip_of x scope).size → end ≡ length c + size → mid ≡ passed_arms arms scope
    → ((o : Option Stmt) → EndsAt end c arms o scope → with_strip d (optional_strip o (passed_arms arms scope)) k l ≡ with_strip c (arms_strip arms o scope) k l)
    → e ≡ with_strip d (optional_strip otherwise mid) k l → e ≡ with_strip c (strip_of x scope) k l
if_put x spot arms otherwise scope size end k l c d is size_is end_is mid_is first last = let whole = if_code x spot arms otherwise scope is in
    last ∙ (ap (λ (m : Scope). with_strip d (optional_strip otherwise m) k l) mid_is
    ∙ (first otherwise (end_is ∙ ap (λ (n : ℕ). length c + n) (size_is ∙ ap (λ (p : Strip). p.size) whole)) ∙ sym (ap (λ (p : Strip). with_strip c p k l) whole)))
