-- Statements and threads: a further reply changes nothing before it is taken, and where it is of the kind that was asked for, they go on.
use Rattle.std.proofs.Common.{◌≡◌, ℕ, zero, suc, ◌+◌, ◌≤◌, Bool, true, false, List, [], ◌∷◌, map, Option, Some, None, refl, sym, ap, ◌∙◌, subst, length-append, arith, pos}
use Rattle.std.specs.Prelude.{if◌then◌else◌}
use Rattle.c11_num.specs.Ranges.{TypedNumber}
use Rattle.c11_num.specs.declared.value.CType.{CType}
use Rattle.c11_ast.specs.declared.place.Place.{Place}
use Rattle.c11_ast.specs.declared.expr.Expr.{Expr}
use Rattle.c11_ast.specs.declared.stmt.Local.{Local}
use Rattle.c11_ast.specs.declared.stmt.Stmt.{Stmt, roll-Stmt}
use Rattle.c11_ast.specs.declared.stmt.Arm.{Arm, roll-Arm}
use Rattle.c11_ast.specs.declared.stmt.Block.{Block, roll-Block}
use Rattle.c11_ast.specs.declared.stmt.Stmt.TheOpen.{Stmt-F, Arm-F, Block-F}
use Rattle.c11_ast.specs.declared.stmt.Stmt.TheFolds.{map-Stmt, map-Arm, map-Block, ind-Block, fold-roll-Stmt, fold-roll-Arm, fold-roll-Block}
use Rattle.c11_events.specs.declared.op.StopKind.TheVariants as stop
use Rattle.c11_events.specs.declared.reply.Reply.{Reply}
use Rattle.c11_check.specs.declared.entity.Signature.{Signature}
use Rattle.c11_check.specs.Scopes.{Scope, entered, size_in, taken, with_local, with_handle}
use Rattle.c11_check.specs.Statements.{Walk}
use Rattle.c11_check.specs.Tables.{Tables}
use Rattle.c11_check.proofs.Grown.{Lies, grew_local, grew_handle, stmt_declares}
use Rattle.c11_meaning.specs.Outcome.{State, Outcome, Gives, and_then, counting, counted, left, turn_limit}
use Rattle.c11_meaning.specs.Outcome as outcome
use Rattle.c11_meaning.specs.Objects.{nothing, one, is_zero, with_local_at}
use Rattle.c11_meaning.specs.Expressions.{Calls, choosing}
use Rattle.c11_meaning.specs.Evaluation.{value_of}
use Rattle.c11_meaning.specs.Legal.{World}
use Rattle.c11_meaning.specs.Statements.{Flow, Next, Breaks, Continues, Returns, Run, Armed, Running, Doing, nothing_around, behind, going, in_order, optional_run, first_of, after_body, turning, repeating, optional_value, for_run, cleared, started, locals_run, handles_run, arm_step, block_step, stmt_step, run_step, run_of_block}
use Rattle.c11_meaning.proofs.Awaiting.{with_more, Below, Awaits, Beside, Runs, below_more, below_bind, awaits_bind, beside_bind, runs_bind, runs_gives, runs_if, runs_stop}
use Rattle.c11_meaning.proofs.Going.{CallsRun}
use Rattle.c11_meaning.proofs.Called.{runs_expr}
use Rattle.c11_meaning.proofs.Stmts.{stmt_runs, arm_runs, stmt_is_fine}

-- a further reply leaves so many turns more
left_more : (x : Reply) (st : State) → left (with_more x st) ≡ left st + turn_limit
left_more x st = let n = length-append st.replies (x ∷ []) in omega (arith, n)

clear_left : (place count : ℕ) (st : State) → left (cleared place count st) ≡ left st
clear_left place zero st = refl
clear_left place (suc count) st = clear_left (suc place) count (with_local_at st place (pos 0))

clear_replies : (place count : ℕ) (st : State) → (cleared place count st).replies ≡ st.replies
clear_replies place zero st = refl
clear_replies place (suc count) st = clear_replies (suc place) count (with_local_at st place (pos 0))

clear_more : (x : Reply) (place count : ℕ) (st : State) → cleared place count (with_more x st) ≡ with_more x (cleared place count st)
clear_more x place zero st = refl
clear_more x place (suc count) st = clear_more x (suc place) count (with_local_at st place (pos 0))

module _ (fs : List Signature) where
  below_of : {A : Type 0} {o : Outcome A} {n : ℕ} (a : A) (st : State) → Below fs n o → o ≡ Gives a st → left st ≤ n
  below_of {n = n} a st (Below.gives less) is = subst (λ (s : State). left s ≤ n) (ap (λ (o : Outcome _). state_of st o) is) less
    where
      state_of : {A : Type 0} → State → Outcome A → State
      state_of st (Gives a s) = s
      state_of st o = st
  below_of a st Below.wants is = absurd cc
  below_of a st Below.over is = absurd cc

  -- ---- turns

  counts_beside : {A : Type 0} (x : Reply) (k line : ℕ) (st : State) (go go' : State → Outcome A) → ((j : ℕ) → suc j ≡ k → Beside fs x (go (record st { turns = j })) (go' (with_more x (record st { turns = j })))) → Beside fs x (counting k line st go) (counting k line (with_more x st) go')
  unfolding counting
  counts_beside {A = A} x zero line st go go' rest = (runs_stop fs {A = A} line stop.Local).more x st
  counts_beside x (suc k) line st go go' rest = rest k refl

  none_left : {A : Type 0} (x : Reply) (k line : ℕ) (st : State) (go' : State → Outcome A) → k ≡ 0 → Beside fs x (outcome.stop line stop.Local st) (counting k line (with_more x st) go')
  unfolding counting
  none_left {A = A} x zero line st go' is = (runs_stop fs {A = A} line stop.Local).more x st
  none_left x (suc k) line st go' is = absurd (omega (arith, is))

  after_below : (flow : Flow) (st : State) (go : State → Outcome Flow) (n : ℕ) → left st ≤ n → Below fs n (go st) → Below fs n (after_body flow st go)
  after_below Next st go n le rest = rest
  after_below Continues st go n le rest = rest
  after_below Breaks st go n le rest = Below.gives le
  after_below (Returns line value) st go n le rest = Below.gives le

  after_awaits : (flow : Flow) (st : State) (go : State → Outcome Flow) → st.replies ≡ [] → Awaits fs (go st) → Awaits fs (after_body flow st go)
  after_awaits Next st go is rest = rest
  after_awaits Continues st go is rest = rest
  after_awaits Breaks st go is rest = Awaits.gives is
  after_awaits (Returns line value) st go is rest = Awaits.gives is

  after_beside : (x : Reply) (flow : Flow) (st : State) (go go' : State → Outcome Flow) → Beside fs x (go st) (go' (with_more x st)) → Beside fs x (after_body flow st go) (after_body flow (with_more x st) go')
  after_beside x Next st go go' rest = rest
  after_beside x Continues st go go' rest = rest
  after_beside x Breaks st go go' rest = Beside.gives
  after_beside x (Returns line value) st go go' rest = Beside.gives

  below_if : {A : Type 0} {a b : Outcome A} (n : ℕ) (t : Bool) → Below fs n a → Below fs n b → Below fs n (if t then a else b)
  below_if n true p q = p
  below_if n false p q = q

  awaits_if : {A : Type 0} {a b : Outcome A} (t : Bool) → Awaits fs a → Awaits fs b → Awaits fs (if t then a else b)
  awaits_if true p q = p
  awaits_if false p q = q

  beside_if : {A : Type 0} {a b a' b' : Outcome A} (x : Reply) (t : Bool) → Beside fs x a a' → Beside fs x b b' → Beside fs x (if t then a else b) (if t then a' else b')
  beside_if x true p q = p
  beside_if x false p q = q

  counting_below : {A : Type 0} (k line : ℕ) (st : State) (go : State → Outcome A) → k ≡ st.turns → ((s : State) → Below fs (left s) (go s)) → Below fs (left st) (counting k line st go)
  unfolding counting
  counting_below {A = A} zero line st go is rest = (runs_stop fs {A = A} line stop.Local).less st
  counting_below (suc k) line st go is rest = below_more fs (left (record st { turns = k })) (left st) (omega (arith, is)) (rest (record st { turns = k }))

  counting_awaits : {A : Type 0} (k line : ℕ) (st : State) (go : State → Outcome A) → st.replies ≡ [] → ((s : State) → s.replies ≡ [] → Awaits fs (go s)) → Awaits fs (counting k line st go)
  unfolding counting
  counting_awaits {A = A} zero line st go is rest = (runs_stop fs {A = A} line stop.Local).alone st is
  counting_awaits (suc k) line st go is rest = rest (record st { turns = k }) is

  -- ---- loops; each turn leaves fewer, so it does not matter how many more than those that are left are allowed

  module _ (line : ℕ) (test : Doing TypedNumber) (body : Doing Flow) (next : Doing TypedNumber) (ft : Runs fs test) (fb : Runs fs body) (fn : Runs fs next) where
    abbrev turn : ℕ → State → Outcome Flow
    turn n st = and_then (body st) (λ flow st. after_body flow st (λ st. and_then (next st) (λ value st. turning n line test body next st)))

    turning_below : (n : ℕ) (st : State) → Below fs (left st) (turning n line test body next st)
    turning_below zero st = below_bind fs (left st) (ft.less st) (λ v after le. below_if (left st) (is_zero v) (Below.gives le) (below_more fs (left after) (left st) le ((runs_stop fs line stop.Local).less after)))
    turning_below (suc n) st = below_bind fs (left st) (ft.less st) (λ v after le. below_if (left st) (is_zero v) (Below.gives le) (below_more fs (left after) (left st) le
        (counting_below after.turns line after (turn n) refl (λ s. below_bind fs (left s) (fb.less s) (λ flow t le. after_below flow t _ (left s) le
        (below_bind fs (left s) (below_more fs (left t) (left s) le (fn.less t)) (λ v u le. below_more fs (left u) (left s) le (turning_below n u))))))))

    turning_awaits : (n : ℕ) (st : State) → st.replies ≡ [] → Awaits fs (turning n line test body next st)
    turning_awaits zero st is = awaits_bind fs (ft.alone st is) (λ v after is. awaits_if (is_zero v) (Awaits.gives is) ((runs_stop fs line stop.Local).alone after is))
    turning_awaits (suc n) st is = awaits_bind fs (ft.alone st is) (λ v after is. awaits_if (is_zero v) (Awaits.gives is) (counting_awaits after.turns line after (turn n) is
        (λ s is. awaits_bind fs (fb.alone s is) (λ flow t is. after_awaits flow t _ is (awaits_bind fs (fn.alone t is) (λ v u is. turning_awaits n u is))))))

    turn_awaits : (n : ℕ) (s : State) → s.replies ≡ [] → Awaits fs (turn n s)
    turn_awaits n s is = awaits_bind fs (fb.alone s is) (λ flow t is. after_awaits flow t _ is (awaits_bind fs (fn.alone t is) (λ v u is. turning_awaits n u is)))

    turning_beside : (n m : ℕ) (x : Reply) (st : State) → left st ≤ n → left (with_more x st) ≤ m → Beside fs x (turning n line test body next st) (turning m line test body next (with_more x st))
    turning_beside n zero x st le le' = let more = left_more x st in absurd (omega (arith, more, le'))
    turning_beside zero (suc m) x st le le' = beside_bind fs x (ft.more x st) (λ v after is. let low = below_of v after (ft.less st) is in beside_if x (is_zero v) Beside.gives (none_left x after.turns line after (turn m) (omega (arith, low, le))))
        (λ v after is. awaits_if (is_zero v) (Awaits.gives is) (counting_awaits after.turns line after (turn m) is (turn_awaits m)))
    turning_beside (suc n) (suc m) x st le le' = beside_bind fs x (ft.more x st) (λ v after is. let low = below_of v after (ft.less st) is in beside_if x (is_zero v) Beside.gives
        (counts_beside x after.turns line after (turn n) (turn m) (λ j e. let s = record after { turns = j } in
        beside_bind fs x (fb.more x s) (λ flow t is. let low' = below_of flow t (fb.less s) is in after_beside x flow t _ _
        (beside_bind fs x (fn.more x t) (λ w u is. let low'' = below_of w u (fn.less t) is in let more = left_more x u in let before = left_more x st in turning_beside n m x u (omega (arith, low'', low', e, low, le)) (omega (arith, more, before, low'', low', e, low, le')))
        (λ w u is. turning_awaits m u is)))
        (λ flow t is. after_awaits flow t _ is (awaits_bind fs (fn.alone t is) (λ w u is. turning_awaits m u is))))))
        (λ v after is. awaits_if (is_zero v) (Awaits.gives is) (counting_awaits after.turns line after (turn m) is (turn_awaits m)))

    runs_turning : Runs fs (λ st. turning (left st) line test body next st)
    runs_turning = record { less = λ st. turning_below (left st) st; alone = λ st is. turning_awaits (left st) st is; more = λ x st. turning_beside (left st) (left (with_more x st)) x st (omega arith) (omega arith) }

  module _ (line : ℕ) (body : Doing Flow) (test : Doing TypedNumber) (fb : Runs fs body) (ft : Runs fs test) where
    abbrev round : ℕ → State → Outcome Flow
    round n st = and_then (body st) (λ flow st. after_body flow st (λ st. and_then (test st) (λ value st. choosing value (repeating n line body test st) (Gives Next st))))

    repeating_below : (n : ℕ) (st : State) → Below fs (left st) (repeating n line body test st)
    repeating_below zero st = (runs_stop fs line stop.Local).less st
    repeating_below (suc n) st = counting_below st.turns line st (round n) refl (λ s. below_bind fs (left s) (fb.less s) (λ flow t le. after_below flow t _ (left s) le
        (below_bind fs (left s) (below_more fs (left t) (left s) le (ft.less t)) (λ v u le. below_if (left s) (is_zero v) (Below.gives le) (below_more fs (left u) (left s) le (repeating_below n u))))))

    repeating_awaits : (n : ℕ) (st : State) → st.replies ≡ [] → Awaits fs (repeating n line body test st)
    repeating_awaits zero st is = (runs_stop fs line stop.Local).alone st is
    repeating_awaits (suc n) st is = counting_awaits st.turns line st (round n) is (λ s is. awaits_bind fs (fb.alone s is) (λ flow t is. after_awaits flow t _ is
        (awaits_bind fs (ft.alone t is) (λ v u is. awaits_if (is_zero v) (Awaits.gives is) (repeating_awaits n u is)))))

    round_awaits : (n : ℕ) (s : State) → s.replies ≡ [] → Awaits fs (round n s)
    round_awaits n s is = awaits_bind fs (fb.alone s is) (λ flow t is. after_awaits flow t _ is (awaits_bind fs (ft.alone t is) (λ v u is. awaits_if (is_zero v) (Awaits.gives is) (repeating_awaits n u is))))

    repeating_beside : (n m : ℕ) (x : Reply) (st : State) → left st ≤ n → left (with_more x st) ≤ m → Beside fs x (repeating n line body test st) (repeating m line body test (with_more x st))
    repeating_beside n zero x st le le' = let more = left_more x st in absurd (omega (arith, more, le'))
    repeating_beside zero (suc m) x st le le' = none_left x st.turns line st (round m) (omega (arith, le))
    repeating_beside (suc n) (suc m) x st le le' = counts_beside x st.turns line st (round n) (round m) (λ j e. let s = record st { turns = j } in
        beside_bind fs x (fb.more x s) (λ flow t is. let low = below_of flow t (fb.less s) is in after_beside x flow t _ _
        (beside_bind fs x (ft.more x t) (λ v u is. let low' = below_of v u (ft.less t) is in let more = left_more x u in let before = left_more x st in
        beside_if x (is_zero v) Beside.gives (repeating_beside n m x u (omega (arith, low', low, e, le)) (omega (arith, more, before, low', low, e, le'))))
        (λ v u is. awaits_if (is_zero v) (Awaits.gives is) (repeating_awaits m u is))))
        (λ flow t is. after_awaits flow t _ is (awaits_bind fs (ft.alone t is) (λ v u is. awaits_if (is_zero v) (Awaits.gives is) (repeating_awaits m u is)))))

    runs_repeating : Runs fs (λ st. repeating (left st) line body test st)
    runs_repeating = record { less = λ st. repeating_below (left st) st; alone = λ st is. repeating_awaits (left st) st is; more = λ x st. repeating_beside (left st) (left (with_more x st)) x st (omega arith) (omega arith) }

  -- ---- statements

  runs_going : (flow : Flow) (go : State → Outcome Flow) → Runs fs go → Runs fs (λ st. going flow st go)
  runs_going Next go r = r
  runs_going Breaks go r = runs_gives fs Breaks
  runs_going Continues go r = runs_gives fs Continues
  runs_going (Returns line value) go r = runs_gives fs (Returns line value)

  runs_cleared : {A : Type 0} (place count : ℕ) (c : State → Outcome A) → Runs fs c → Runs fs (λ st. c (cleared place count st))
  runs_cleared place count c r = record {
    less = λ st. below_more fs (left (cleared place count st)) (left st) (let same = clear_left place count st in omega (arith, same)) (r.less (cleared place count st));
    alone = λ st is. r.alone (cleared place count st) (clear_replies place count st ∙ is);
    more = λ x st. subst (λ (s : State). Beside fs x (c (cleared place count st)) (c s)) (sym (clear_more x place count st)) (r.more x (cleared place count st));
  }

  module _ (t : Tables) (calls : Calls) (called : CallsRun fs calls) where
    runs_value : (x : Expr) (scope : Scope) → Lies t fs scope → Runs fs (value_of x scope calls)
    runs_value x scope lies = (runs_expr fs t calls called x).value scope lies

    runs_optional : (x : Option Expr) (default : TypedNumber) (scope : Scope) → Lies t fs scope → Runs fs (optional_value x default scope calls)
    runs_optional None default scope lies = runs_gives fs default
    runs_optional (Some x) default scope lies = runs_value x scope lies

    runs_started : (ctype : CType) (place : ℕ) (start : Option Expr) (scope : Scope) → Lies t fs scope → Runs fs (started ctype place start scope calls)
    runs_started ctype place None scope lies = runs_gives fs Next
    runs_started ctype place (Some x) scope lies = runs_bind fs (runs_value x scope lies) (λ v. record { less = λ st. Below.gives (omega arith); alone = λ st is. Awaits.gives is; more = λ x st. Beside.gives })

    runs_locals : (ctype : CType) (locals : List Local) (scope : Scope) → Lies t fs scope → Runs fs (locals_run ctype locals scope calls)
    runs_locals ctype [] scope lies = runs_gives fs Next
    runs_locals ctype (x ∷ xs) scope lies = let size = size_in scope x.place.size in let inner = with_local scope x.place.word.name ctype size in let there = (grew_local t fs scope x.place.word.name ctype size).kept lies in
        runs_bind fs (runs_cleared scope.counts.places (taken size) (started ctype scope.counts.places x.start inner calls) (runs_started ctype scope.counts.places x.start inner there)) (λ flow. runs_locals ctype xs inner there)

    runs_handles : (places : List Place) (scope : Scope) → Lies t fs scope → Runs fs (handles_run places scope calls)
    runs_handles [] scope lies = runs_gives fs Next
    runs_handles (x ∷ xs) scope lies = let size = size_in scope x.size in let inner = with_handle scope x.word.name size in
        runs_cleared scope.counts.places (taken size) (handles_run xs inner calls) (runs_handles xs inner ((grew_handle t fs scope x.word.name size).kept lies))

    -- ---- along the tree

    abbrev Keeping : Walk → Type 0
    Keeping v = (scope : Scope) → Lies t fs scope → Lies t fs (behind v scope)

    pub record RunGoes (r : Run Running) : Type 0 where
      pub kept : Keeping r.walk
      pub runs : (scope : Scope) → Lies t fs scope → Runs fs (r.run scope calls)

    pub record ArmGoes (a : Armed Running) : Type 0 where
      pub kept : Keeping a.walk
      pub runs : (scope : Scope) → Lies t fs scope → Runs fs (a.body scope calls)

    pub data AllGo : List (Run Running) → Type 0 where
      nil : AllGo []
      cons : {r : Run Running} {rs : List (Run Running)} → RunGoes r → AllGo rs → AllGo (r ∷ rs)

    pub data AllArms : List (Armed Running) → Type 0 where
      nil : AllArms []
      cons : {a : Armed Running} {ars : List (Armed Running)} → ArmGoes a → AllArms ars → AllArms (a ∷ ars)

    pub data MayGo : Option (Run Running) → Type 0 where
      none : MayGo None
      some : {r : Run Running} → RunGoes r → MayGo (Some r)

    runs_order : (rs : List (Run Running)) (scope : Scope) → AllGo rs → Lies t fs scope → Runs fs (in_order rs scope calls)
    runs_order _ scope AllGo.nil lies = runs_gives fs Next
    runs_order _ scope (AllGo.cons {r = r} {rs = rs} d ds) lies = runs_bind fs (d.runs scope lies) (λ flow. runs_going flow _ (runs_order rs (behind r.walk scope) ds (d.kept scope lies)))

    runs_may : (o : Option (Run Running)) (scope : Scope) → MayGo o → Lies t fs scope → Runs fs (optional_run o scope calls)
    runs_may _ scope none lies = runs_gives fs Next
    runs_may _ scope (some d) lies = d.runs scope lies

    runs_first : (ars : List (Armed Running)) (o : Option (Run Running)) (scope : Scope) → AllArms ars → MayGo o → Lies t fs scope → Runs fs (first_of ars o scope calls)
    runs_first _ o scope AllArms.nil e lies = runs_may o scope e lies
    runs_first _ o scope (AllArms.cons {a = a} {ars = ars} d ds) e lies = runs_bind fs (runs_value a.test scope lies) (λ v. runs_if fs (is_zero v) (runs_first ars o (behind a.walk scope) ds e (d.kept scope lies)) (d.runs scope lies))

    runs_for : (line : ℕ) (o : Option (Run Running)) (test next : Option Expr) (r : Run Running) (scope : Scope) → MayGo o → RunGoes r → Lies t fs scope → Runs fs (for_run line o test next r scope calls)
    runs_for line _ test next r scope none d lies = runs_turning line _ _ _ (runs_optional test one (entered scope) lies) (d.runs (entered scope) lies) (runs_optional next nothing (entered scope) lies)
    runs_for line _ test next r scope (some {r = a} e) d lies = let inner = behind a.walk (entered scope) in let there = e.kept (entered scope) lies in
        runs_bind fs (e.runs (entered scope) lies) (λ flow. runs_going flow _ (runs_turning line _ _ _ (runs_optional test one inner there) (d.runs inner there) (runs_optional next nothing inner there)))

    -- scopes behind statements, and behind arms
    alone_world : World
    alone_world = record { tables = t; functions = fs; replies = [] }

    kept_stmt : (x : Stmt) → Keeping (stmt_runs x).walk
    unfolding alone_world
    kept_stmt x scope lies = subst (λ (v : Walk). Lies t fs (behind v scope)) (sym (stmt_is_fine alone_world x).walk) (((stmt_declares t fs x).grew nothing_around scope).kept lies)

    abbrev AStmt : Type 0
    AStmt = (x : Stmt) × ((scope : Scope) → Lies t fs scope → Runs fs ((stmt_runs x).run scope calls))

    abbrev AnArm : Type 0
    AnArm = (x : Arm) × ArmGoes (arm_runs x)

    abbrev ABlock : Type 0
    ABlock = (x : Block) × ((scope : Scope) → Lies t fs scope → Runs fs ((run_of_block x).run scope calls))

    goes : (x : AStmt) → RunGoes (stmt_runs x.0)
    goes x = record { kept = kept_stmt x.0; runs = x.1 }

    all_stmts : (xs : List AStmt) → AllGo (map stmt_runs (map (λ u. u.0) xs))
    all_stmts [] = AllGo.nil
    all_stmts (x ∷ xs) = AllGo.cons (goes x) (all_stmts xs)

    all_arms : (xs : List AnArm) → AllArms (map arm_runs (map (λ u. u.0) xs))
    all_arms [] = AllArms.nil
    all_arms (x ∷ xs) = AllArms.cons x.1 (all_arms xs)

    abbrev stmt_in_meaning : Stmt-F Stmt Arm Block → Run Running
    stmt_in_meaning d = stmt_step run_step (map-Stmt Stmt Arm Block (Run Running) (Armed Running) (Run Running) stmt_runs arm_runs run_of_block d)

    abbrev bare_stmt : Stmt-F AStmt AnArm ABlock → Stmt-F Stmt Arm Block
    bare_stmt y = map-Stmt AStmt AnArm ABlock Stmt Arm Block (λ u. u.0) (λ u. u.0) (λ u. u.0) y

    stmt_layer : (y : Stmt-F AStmt AnArm ABlock) → (scope : Scope) → Lies t fs scope → Runs fs ((stmt_in_meaning (bare_stmt y)).run scope calls)
    stmt_layer (Stmt-F.Block x) scope lies = x.1 (entered scope) lies
    stmt_layer (Stmt-F.Empty spot) scope lies = runs_gives fs Next
    stmt_layer (Stmt-F.Expr x) scope lies = runs_bind fs (runs_value x scope lies) (λ v. runs_gives fs Next)
    stmt_layer (Stmt-F.If spot arms None) scope lies = runs_first _ None scope (all_arms arms) none lies
    stmt_layer (Stmt-F.If spot arms (Some x)) scope lies = runs_first _ (Some (stmt_runs x.0)) scope (all_arms arms) (some (goes x)) lies
    stmt_layer (Stmt-F.While spot test x) scope lies = runs_turning spot.line _ _ _ (runs_value test scope lies) (x.1 scope lies) (runs_gives fs nothing)
    stmt_layer (Stmt-F.Do spot x test) scope lies = runs_repeating spot.line _ _ (x.1 scope lies) (runs_value test (behind (stmt_runs x.0).walk scope) (kept_stmt x.0 scope lies))
    stmt_layer (Stmt-F.For spot None test next x) scope lies = runs_for spot.line None test next (stmt_runs x.0) scope none (goes x) lies
    stmt_layer (Stmt-F.For spot (Some a) test next x) scope lies = runs_for spot.line (Some (stmt_runs a.0)) test next (stmt_runs x.0) scope (some (goes a)) (goes x) lies
    stmt_layer (Stmt-F.Break spot) scope lies = runs_gives fs Breaks
    stmt_layer (Stmt-F.Continue spot) scope lies = runs_gives fs Continues
    stmt_layer (Stmt-F.Return spot value) scope lies = runs_bind fs (runs_optional value nothing scope lies) (λ v. runs_gives fs (Returns spot.line v))
    stmt_layer (Stmt-F.Locals spot ctype locals) scope lies = runs_locals ctype locals scope lies
    stmt_layer (Stmt-F.Handles spot places) scope lies = runs_handles places scope lies

    abbrev StmtGoes : Run Running → Type 0
    StmtGoes r = (scope : Scope) → Lies t fs scope → Runs fs (r.run scope calls)

    rolled_stmt : (d : Stmt-F Stmt Arm Block) → StmtGoes (stmt_in_meaning d) → StmtGoes (stmt_runs (roll-Stmt d))
    rolled_stmt d h = rw (fold-roll-Stmt (Run Running) (Armed Running) (Run Running) (stmt_step run_step) arm_step (block_step in_order) d) h

    abbrev arm_in_meaning : Arm-F Stmt Arm Block → Armed Running
    arm_in_meaning d = arm_step (map-Arm Stmt Arm Block (Run Running) (Armed Running) (Run Running) stmt_runs arm_runs run_of_block d)

    rolled_arm : (d : Arm-F Stmt Arm Block) → ArmGoes (arm_in_meaning d) → ArmGoes (arm_runs (roll-Arm d))
    rolled_arm d h = rw (fold-roll-Arm (Run Running) (Armed Running) (Run Running) (stmt_step run_step) arm_step (block_step in_order) d) h

    arm_layer : (y : Arm-F AStmt AnArm ABlock) → ArmGoes (arm_in_meaning (map-Arm AStmt AnArm ABlock Stmt Arm Block (λ u. u.0) (λ u. u.0) (λ u. u.0) y))
    arm_layer y = record { kept = kept_stmt y.body.0; runs = y.body.1 }

    abbrev block_in_meaning : Block-F Stmt Arm Block → Run Running
    block_in_meaning d = block_step in_order (map-Block Stmt Arm Block (Run Running) (Armed Running) (Run Running) stmt_runs arm_runs run_of_block d)

    rolled_block : (d : Block-F Stmt Arm Block) → StmtGoes (block_in_meaning d) → StmtGoes (run_of_block (roll-Block d))
    rolled_block d h = rw (fold-roll-Block (Run Running) (Armed Running) (Run Running) (stmt_step run_step) arm_step (block_step in_order) d) h

    block_layer : (y : Block-F AStmt AnArm ABlock) → StmtGoes (block_in_meaning (map-Block AStmt AnArm ABlock Stmt Arm Block (λ u. u.0) (λ u. u.0) (λ u. u.0) y))
    block_layer y scope lies = runs_order _ scope (all_stmts y.items) lies

    pub block_goes : (x : Block) → (scope : Scope) → Lies t fs scope → Runs fs ((run_of_block x).run scope calls)
    block_goes = ind-Block (λ x. StmtGoes (stmt_runs x)) (λ x. ArmGoes (arm_runs x)) (λ x. StmtGoes (run_of_block x))
        (λ x y is. rolled_stmt x (subst (λ (z : Stmt-F Stmt Arm Block). StmtGoes (stmt_in_meaning z)) is (stmt_layer y)))
        (λ x y is. rolled_arm x (subst (λ (z : Arm-F Stmt Arm Block). ArmGoes (arm_in_meaning z)) is (arm_layer y)))
        (λ x y is. rolled_block x (subst (λ (z : Block-F Stmt Arm Block). StmtGoes (block_in_meaning z)) is (block_layer y)))
