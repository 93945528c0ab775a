-- The code of statements does what they mean.
use Rattle.std.proofs.Common.{◌≡◌, ℕ, zero, suc, ◌+◌, ◌<◌, ◌≤◌, Bool, true, false, List, [], ◌∷◌, ◌++◌, length, Option, Some, None, refl, ap, ◌∙◌, sym, subst, arith, map}
use Rattle.std.specs.Prelude.{slice_get, ℤ, pos, if◌then◌else◌}
use Rattle.std.proofs.lemmas.List.{length-append}
use Rattle.c11_num.specs.Ranges.{TypedNumber}
use Rattle.c11_num.specs.Wrapping.{converted}
use Rattle.c11_num.specs.declared.value.CType.{CType}
use Rattle.c11_ast.specs.declared.place.Place.{Place}
use Rattle.c11_ast.specs.declared.expr.Expr.{Expr}
use Rattle.c11_ast.specs.declared.stmt.Local.{Local}
use Rattle.c11_ast.specs.declared.stmt.Stmt.{Stmt, roll-Stmt}
use Rattle.c11_ast.specs.declared.stmt.Arm.{Arm, roll-Arm}
use Rattle.c11_ast.specs.declared.stmt.Block.{Block, roll-Block}
use Rattle.c11_ast.specs.declared.stmt.Stmt.TheOpen.{Stmt-F, Arm-F, Block-F}
use Rattle.c11_ast.specs.declared.stmt.Stmt.TheFolds.{fold-Stmt, fold-Arm, fold-Block, map-Stmt, map-Arm, map-Block, ind-Block, fold-roll-Stmt, fold-roll-Arm, fold-roll-Block}
use Rattle.c11_events.specs.declared.op.Ask.{Ask}
use Rattle.c11_events.specs.declared.op.StopKind.{StopKind}
use Rattle.c11_events.specs.declared.op.StopKind.TheVariants as stop
use Rattle.c11_events.specs.declared.reply.Reply.{Reply}
use Rattle.c11_check.specs.Scopes.{Scope, entered, size_in, taken, with_local, with_handle}
use Rattle.c11_check.specs.Statements.{Walk, stmt_walk, arm_walk, block_walk}
use Rattle.c11_meaning.specs.Outcome.{State, Outcome, Gives, and_then, counted, left}
use Rattle.c11_meaning.specs.Outcome as outcome
use Rattle.c11_meaning.specs.Objects.{nothing, one, is_zero, with_local_at}
use Rattle.c11_meaning.specs.Expressions.{Calls, choosing}
use Rattle.c11_meaning.specs.Evaluation.{value_of}
use Rattle.c11_meaning.specs.Statements.{Flow, Next, Breaks, Continues, Returns, Run, Armed, Running, behind, going, after_body, turning, repeating, cleared, arm_step, block_step, stmt_step, run_step, walk_of_run, walk_of_armed}
use Rattle.c11_meaning.specs.Statements as means
use Rattle.c11_flat.specs.declared.instr.Instr.{Instr}
use Rattle.c11_flat.specs.declared.instr.Instr.TheVariants as i
use Rattle.c11_flat.specs.declared.instr.Place.TheVariants.{At}
use Rattle.c11_flat.specs.declared.instr.Storage.TheVariants as storage
use Rattle.c11_flat.specs.declared.slot.Slot.{Slot}
use Rattle.c11_flat.specs.declared.slot.Slot.TheVariants as slot
use Rattle.c11_flat.specs.Pieces.{Piece, piece_of}
use Rattle.c11_flat.specs.Code.{Whole, Strip, Laying, of_piece, of_instrs, plain, joined, chosen, in_order, optional_run, first_of, alone, optional_alone, optional_piece, for_strip, started, locals_strip, handles_strip, strip_step}
use Rattle.c11_flat.specs.Code as code_of
use Rattle.c11_flat.specs.Flat.{Caller, Config, To, Halts, from, act, act_at, returning, answer_in}
use Rattle.c11_flat.specs.Flat as flat
use Rattle.c11_flat.proofs.Follows.{Follows, follows_from, follows_step, follows_less, follows_bind, reaches_on, Reaches, HasAt, has_front, has_back, config, IsSized, sized_plain, Runs, runs_none}
use Rattle.c11_flat.proofs.Parts.{Any}
use Rattle.c11_flat.proofs.Objects.{from_gives, pushed, runs_push}
use Rattle.c11_flat.proofs.Operators.{jump_does}
use Rattle.c11_flat.proofs.Library.{CallsDo}
use Rattle.c11_flat.proofs.Exprs.{expr_does}

-- a Stop, after which the code halts
stop_replies : {A : Type 0} (code : Whole) (most : ℕ) (P : A → Type 0) (to : A → State → flat.Next) (ask : Ask) (locals : List ℤ) (replies : List Reply)
    → Follows code most P (flat.from (outcome.with_reply ask locals replies (λ reply after. outcome.Over)) (λ (v : TypedNumber) st. Halts)) to (outcome.with_reply ask locals replies (λ reply after. outcome.Over))
unfolding flat.from outcome.with_reply
stop_replies code most P to ask locals [] = Follows.wanting (0, refl)
stop_replies code most P to ask locals (r ∷ rs) = Follows.over (0, refl)

pub follows_stop : {A : Type 0} (code : Whole) (most : ℕ) (P : A → Type 0) (to : A → State → flat.Next) (line : ℕ) (kind : StopKind) (st : State)
    → Follows code most P (flat.from (outcome.stop line kind st) (λ (v : TypedNumber) st. Halts)) to (outcome.stop line kind st)
follows_stop code most P to line kind st = stop_replies code most P to _ st.locals st.replies

-- a turn or a call that is counted
pub counts : {A : Type 0} (code : Whole) (n t line : ℕ) (P : A → Type 0) (st : State) (to : A → State → flat.Next) (go' : State → flat.Next) (go : State → Outcome A) → t ≡ st.turns → left st ≤ suc n
    → ((after : State) → left after ≤ n → Follows code n P (go' after) to (go after)) → Follows code (suc n) P (flat.counting t line st go') to (outcome.counting t line st go)
unfolding outcome.counting
counts code n zero line P st to go' go e le rest = follows_stop code (suc n) P to line stop.Local st
counts code n (suc t) line P st to go' go e le rest = follows_less code (suc n) P to n _ (omega arith) (rest (record st { turns = t }) (omega (arith, le, e)))

module _ (code : Whole) (callers : List Caller) (answers : Option CType) where
  abbrev at : ℕ → List Slot → State → flat.Next
  at place stack st = To (config code callers answers place stack st)

  -- where a statement's code leads
  abbrev pub flow_to : ℕ → ℕ → ℕ → List Slot → Flow → State → flat.Next
  flow_to end breaks continues stack Next st = at end stack st
  flow_to end breaks continues stack Breaks st = at breaks stack st
  flow_to end breaks continues stack Continues st = at continues stack st
  flow_to end breaks continues stack (Returns line v) st = returning line (answer_in answers v) stack callers st

  abbrev pub IsLaid : Strip → Type 0
  IsLaid p = (b k l : ℕ) → length (p.code b k l) ≡ p.size

  -- the strip takes the stack `before` to `stack` as the outcome says
  abbrev pub Lays : Strip → List Slot → List Slot → (State → Outcome Flow) → Type 0
  Lays p before stack m = (most b k l : ℕ) (st : State) → left st ≤ most → b + p.size ≤ k → b + p.size ≤ l → HasAt code b (p.code b k l)
      → Follows code most Any (at b before st) (flow_to (b + p.size) k l stack) (m st)

  at_end : (end end' k l most : ℕ) (stack : List Slot) (n : flat.Next) (o : Outcome Flow) → end ≡ end' → Follows code most Any n (flow_to end k l stack) o → Follows code most Any n (flow_to end' k l stack) o
  at_end end end' k l most stack n o e f = subst (λ (x : ℕ). Follows code most Any n (flow_to x k l stack) o) e f

  ended : (most end end' k l : ℕ) (stack : List Slot) (st : State) → left st ≤ most → end ≡ end' → Follows code most Any (at end stack st) (flow_to end' k l stack) (Gives Next st)
  ended most end end' k l stack st le e = Follows.gives le tt (0, ap (λ (x : ℕ). at x stack st) e)

  retarget : {to to' : Flow → State → flat.Next} (most : ℕ) (n : flat.Next) (o : Outcome Flow) → ((flow : Flow) (st : State) → Reaches code (to flow st) (to' flow st)) → Follows code most Any n to o → Follows code most Any n to' o
  retarget {to = to} {to' = to'} most n _ on (Follows.gives {a = a} {st = st} le p q) = Follows.gives le p (reaches_on code n (to a st) (to' a st) q (on a st))
  retarget most n _ on (Follows.wanting q) = Follows.wanting q
  retarget most n _ on (Follows.over q) = Follows.over q

  laid_none : IsLaid (plain [])
  laid_none b k l = refl

  lays_none : (stack : List Slot) → Lays (plain []) stack stack (λ st. Gives Next st)
  lays_none stack most b k l st le lk ll has = ended most b (b + 0) k l stack st le (omega arith)

  -- the statements in order
  goes : (most end end' k l : ℕ) (stack : List Slot) (flow : Flow) (st : State) (go : State → Outcome Flow) → left st ≤ most
      → Follows code most Any (at end stack st) (flow_to end' k l stack) (go st) → Follows code most Any (flow_to end k l stack flow st) (flow_to end' k l stack) (going flow st go)
  goes most end end' k l stack Next st go le f = f
  goes most end end' k l stack Breaks st go le f = Follows.gives le tt (0, refl)
  goes most end end' k l stack Continues st go le f = Follows.gives le tt (0, refl)
  goes most end end' k l stack (Returns line v) st go le f = Follows.gives le tt (0, refl)

  laid_joined : (p q : Strip) → IsLaid p → IsLaid q → IsLaid (joined p q)
  laid_joined p q f g b k l = omega (arith, length-append (p.code b k l) (q.code (b + p.size) k l), f b k l, g (b + p.size) k l)

  lays_joined : (p q : Strip) (stack : List Slot) (m m' : State → Outcome Flow) → IsLaid p → Lays p stack stack m → Lays q stack stack m' → Lays (joined p q) stack stack (λ st. and_then (m st) (λ flow st. going flow st m'))
  lays_joined p q stack m m' laid one two most b k l st le lk ll has =
      follows_bind code most Any Any _ (one most b k l st le (omega (arith, lk)) (omega (arith, ll)) (has_front code b (p.code b k l) (q.code (b + p.size) k l) has)) (λ flow after le t.
      goes most (b + p.size) (b + (p.size + q.size)) k l stack flow after m' le
      (at_end (b + p.size + q.size) (b + (p.size + q.size)) k l most stack _ _ (omega arith)
      (two most (b + p.size) k l after le (omega (arith, lk)) (omega (arith, ll)) (has_back code b p.size (p.code b k l) (q.code (b + p.size) k l) (laid b k l) has))))

  -- a piece that gives something, and then a strip
  lays_behind : {A : Type 0} (P : A → Type 0) (p : Piece) (q : Strip) (before : List Slot) (between : A → List Slot) (stack : List Slot) (m : State → Outcome A) (f : A → State → Outcome Flow) → IsSized p → Runs code callers answers P p before between m
      → ((a : A) → P a → Lays q (between a) stack (f a)) → Lays (joined (of_piece p) q) before stack (λ st. and_then (m st) f)
  lays_behind P p q before between stack m f sized one two most b k l st le lk ll has =
      follows_bind code most P Any _ (one most b st le (has_front code b (p.code b) (q.code (b + p.size) k l) has)) (λ a after le t.
      at_end (b + p.size + q.size) (b + (p.size + q.size)) k l most stack _ _ (omega arith)
      (two a t most (b + p.size) k l after le (omega (arith, lk)) (omega (arith, ll)) (has_back code b p.size (p.code b) (q.code (b + p.size) k l) (sized b) has)))

  laid_piece : (p : Piece) → IsSized p → IsLaid (of_piece p)
  laid_piece p f b k l = f b

  laid_chosen : (p q : Strip) → IsLaid p → IsLaid q → IsLaid (chosen p q)
  laid_chosen p q f g b k l = let c = b + 1 + p.size in
      omega (arith, length-append (p.code (b + 1) k l) (i.Jump (c + 1 + q.size) ∷ q.code (c + 1) k l), f (b + 1) k l, g (c + 1) k l)

  jump_at : (b to : ℕ) (stack : List Slot) (st : State) → slice_get code.instrs b ≡ Some (i.Jump to) → b + 1 ≤ to → Reaches code (at b stack st) (at to stack st)
  jump_at b to stack st here le = (1, ap (λ (x : Option Instr). act_at code x (config code callers answers b stack st)) here ∙ jump_does code callers answers b to stack st (omega (arith, le)))

  past : (end end' k l to : ℕ) (stack : List Slot) → slice_get code.instrs end ≡ Some (i.Jump to) → end < to → to ≡ end' → (flow : Flow) (st : State) → Reaches code (flow_to end k l stack flow st) (flow_to end' k l stack flow st)
  past end end' k l to stack here less e Next st = subst (λ (x : ℕ). Reaches code (at end stack st) (at x stack st)) e (jump_at end to stack st here (omega (arith, less)))
  past end end' k l to stack here less e Breaks st = (0, refl)
  past end end' k l to stack here less e Continues st = (0, refl)
  past end end' k l to stack here less e (Returns line v) st = (0, refl)

  -- behind a test, one strip or the other
  lays_chosen : (p q : Strip) (value : TypedNumber) (stack : List Slot) (m m' : State → Outcome Flow) (t : Bool) → is_zero value ≡ t → IsLaid p → IsLaid q
      → Lays p stack stack m → Lays q stack stack m' → Lays (chosen p q) (slot.Value value ∷ stack) stack (λ st. if t then m' st else m st)
  lays_chosen p q value stack m m' false is f g one' other most b k l st le lk ll has =
      let c = b + 1 + p.size in
      let back = has_back code (b + 1) p.size (p.code (b + 1) k l) (i.Jump (c + 1 + q.size) ∷ q.code (c + 1) k l) (f (b + 1) k l) has.1 in
      follows_step code most Any _ (i.JumpIfZero (c + 1)) (config code callers answers b (slot.Value value ∷ stack) st) (at (b + 1) stack st) has.0
      (ap (λ (t : Bool). if t then flat.jumping (config code callers answers b (slot.Value value ∷ stack) st) (c + 1) stack else at (b + 1) stack st) is)
      (retarget most _ _ (past c (b + (1 + (p.size + (1 + q.size)))) k l (c + 1 + q.size) stack back.0 (omega arith) (omega arith))
      (one' most (b + 1) k l st le (omega (arith, lk)) (omega (arith, ll)) (has_front code (b + 1) (p.code (b + 1) k l) (i.Jump (c + 1 + q.size) ∷ q.code (c + 1) k l) has.1)))
  lays_chosen p q value stack m m' true is f g one' other most b k l st le lk ll has =
      let c = b + 1 + p.size in
      let back = has_back code (b + 1) p.size (p.code (b + 1) k l) (i.Jump (c + 1 + q.size) ∷ q.code (c + 1) k l) (f (b + 1) k l) has.1 in
      follows_step code most Any _ (i.JumpIfZero (c + 1)) (config code callers answers b (slot.Value value ∷ stack) st) (at (c + 1) stack st) has.0
      (ap (λ (t : Bool). if t then flat.jumping (config code callers answers b (slot.Value value ∷ stack) st) (c + 1) stack else at (b + 1) stack st) is ∙ jump_does code callers answers b (c + 1) stack st (omega arith))
      (at_end (c + 1 + q.size) (b + (1 + (p.size + (1 + q.size)))) k l most stack _ _ (omega arith) (other most (c + 1) k l st le (omega (arith, lk)) (omega (arith, ll)) back.1))

  -- ---- loops

  no_turns : (most n line : ℕ) (st : State) (go : State → flat.Next) (to : Flow → State → flat.Next) → n ≡ 0 → Follows code most Any (flat.counting n line st go) to (outcome.stop line stop.Local st)
  no_turns most zero line st go to e = follows_stop code most Any to line stop.Local st
  no_turns most (suc n) line st go to e = absurd (omega (arith, e))

  -- what a loop does after its body: `end` is behind the loop, and `more` where it goes on
  after_turn : (n more end k l : ℕ) (stack : List Slot) (flow : Flow) (st : State) (go : State → Outcome Flow) → left st ≤ n
      → Follows code n Any (at more stack st) (flow_to end k l stack) (go st) → Follows code n Any (flow_to more end more stack flow st) (flow_to end k l stack) (after_body flow st go)
  after_turn n more end k l stack Next st go le f = f
  after_turn n more end k l stack Breaks st go le f = Follows.gives le tt (0, refl)
  after_turn n more end k l stack Continues st go le f = f
  after_turn n more end k l stack (Returns line v) st go le f = Follows.gives le tt (0, refl)

  module _ (line : ℕ) (p : Piece) (q : Strip) (r : Piece) (stack : List Slot) (test : State → Outcome TypedNumber) (body : State → Outcome Flow) (next : State → Outcome TypedNumber)
      (p_sized : IsSized p) (q_laid : IsLaid q) (r_sized : IsSized r) (p_runs : Runs code callers answers Any p stack (pushed code callers answers stack) test) (q_lays : Lays q stack stack body)
      (r_runs : Runs code callers answers Any r stack (λ v. stack) next) where
    -- the body, what comes after it, and the test, from `top` on
    pub record HasLoop (top : ℕ) : Type 0 where
      pub body_at : HasAt code top (q.code top (top + q.size + r.size + p.size + 1) (top + q.size))
      pub next_at : HasAt code (top + q.size) (r.code (top + q.size))
      pub test_at : HasAt code (top + q.size + r.size) (p.code (top + q.size + r.size))
      pub last : slice_get code.instrs (top + q.size + r.size + p.size) ≡ Some (i.TurnIf line top)

    turn_zero : (t : Bool) (top k l : ℕ) (st : State) → left st ≤ 0
        → Follows code 0 Any (if t then at (top + q.size + r.size + p.size + 1) stack st else flat.counted line st (λ st. at top stack st)) (flow_to (top + q.size + r.size + p.size + 1) k l stack) (if t then Gives Next st else outcome.stop line stop.Local st)
    turn_zero true top k l st le = ended 0 _ _ k l stack st le refl
    turn_zero false top k l st le = no_turns 0 st.turns line st _ _ (omega (arith, le))

    turn_more : (n : ℕ) (t : Bool) (top k l : ℕ) (st : State) (go : State → Outcome Flow) → left st ≤ suc n → ((after : State) → left after ≤ n → Follows code n Any (at top stack after) (flow_to (top + q.size + r.size + p.size + 1) k l stack) (go after))
        → Follows code (suc n) Any (if t then at (top + q.size + r.size + p.size + 1) stack st else flat.counted line st (λ st. at top stack st)) (flow_to (top + q.size + r.size + p.size + 1) k l stack) (if t then Gives Next st else counted line st go)
    turn_more n true top k l st go le rest = ended (suc n) _ _ k l stack st le refl
    turn_more n false top k l st go le rest = counts code n st.turns line Any st _ _ go refl le rest

    turns_do : (n top k l : ℕ) (st : State) → left st ≤ n → HasLoop top → Follows code n Any (at (top + q.size + r.size) stack st) (flow_to (top + q.size + r.size + p.size + 1) k l stack) (turning n line test body next st)
    turns_do zero top k l st le has = follows_bind code 0 Any Any _ (p_runs 0 (top + q.size + r.size) st le has.test_at) (λ v after le t.
        follows_step code 0 Any _ (i.TurnIf line top) (config code callers answers (top + q.size + r.size + p.size) (slot.Value v ∷ stack) after) _ has.last refl (turn_zero (is_zero v) top k l after le))
    turns_do (suc n) top k l st le has = follows_bind code (suc n) Any Any _ (p_runs (suc n) (top + q.size + r.size) st le has.test_at) (λ v after le t.
        follows_step code (suc n) Any _ (i.TurnIf line top) (config code callers answers (top + q.size + r.size + p.size) (slot.Value v ∷ stack) after) _ has.last refl (turn_more n (is_zero v) top k l after _ le
        (λ one le. follows_bind code n Any Any _ (q_lays n top (top + q.size + r.size + p.size + 1) (top + q.size) one le (omega arith) (omega arith) has.body_at) (λ flow two le t.
        after_turn n (top + q.size) (top + q.size + r.size + p.size + 1) k l stack flow two _ le
        (follows_bind code n Any Any _ (r_runs n (top + q.size) two le has.next_at) (λ w three le t. turns_do n top k l three le has))))))

    turning_laid : IsLaid (code_of.turning line p q r)
    turning_laid b k l = let n = b + 1 + q.size in let t = n + r.size in
        let u = length-append (q.code (b + 1) (t + p.size + 1) n) (r.code n ++ (p.code t ++ i.TurnIf line (b + 1) ∷ [])) in
        let w = length-append (r.code n) (p.code t ++ i.TurnIf line (b + 1) ∷ []) in
        let x = length-append (p.code t) (i.TurnIf line (b + 1) ∷ []) in
        omega (arith, u, w, x, p_sized t, r_sized n, q_laid (b + 1) (t + p.size + 1) n)

    pub turning_lays : Lays (code_of.turning line p q r) stack stack (λ st. turning (left st) line test body next st)
    turning_lays most b k l st le lk ll has =
        let n = b + 1 + q.size in let t = n + r.size in
        let body_code = q.code (b + 1) (t + p.size + 1) n in
        let behind_body = has_back code (b + 1) q.size body_code (r.code n ++ (p.code t ++ i.TurnIf line (b + 1) ∷ [])) (q_laid (b + 1) (t + p.size + 1) n) has.1 in
        let behind_next = has_back code n r.size (r.code n) (p.code t ++ i.TurnIf line (b + 1) ∷ []) (r_sized n) behind_body in
        let last = has_back code t p.size (p.code t) (i.TurnIf line (b + 1) ∷ []) (p_sized t) behind_next in
        follows_from code most Any _ _ _ (jump_at b t stack st has.0 (omega arith))
        (at_end (t + p.size + 1) (b + (1 + (q.size + (r.size + (p.size + 1))))) k l most stack _ _ (omega arith)
        (follows_less code most Any _ (left st) _ le (turns_do (left st) (b + 1) k l st (omega arith) (record {
          body_at = has_front code (b + 1) body_code (r.code n ++ (p.code t ++ i.TurnIf line (b + 1) ∷ [])) has.1;
          next_at = has_front code n (r.code n) (p.code t ++ i.TurnIf line (b + 1) ∷ []) behind_body;
          test_at = has_front code t (p.code t) (i.TurnIf line (b + 1) ∷ []) behind_next;
          last = last.0;
        }))))

  -- the same with its body first
  module _ (line : ℕ) (q : Strip) (p : Piece) (stack : List Slot) (body : State → Outcome Flow) (test : State → Outcome TypedNumber)
      (q_laid : IsLaid q) (p_sized : IsSized p) (q_lays : Lays q stack stack body) (p_runs : Runs code callers answers Any p stack (pushed code callers answers stack) test) where
    pub record HasBody (top : ℕ) : Type 0 where
      pub body_at : HasAt code top (q.code top (top + q.size + p.size + 1) (top + q.size))
      pub test_at : HasAt code (top + q.size) (p.code (top + q.size))
      pub last : slice_get code.instrs (top + q.size + p.size) ≡ Some (i.TurnIf line top)

    -- the body, the test, and perhaps the rest
    abbrev once : ℕ → State → Outcome Flow
    once n st = and_then (body st) (λ flow st. after_body flow st (λ st. and_then (test st) (λ v st. choosing v (repeating n line body test st) (Gives Next st))))

    back_zero : (t : Bool) (top k l : ℕ) (st : State) → left st ≤ 0
        → Follows code 0 Any (if t then at (top + q.size + p.size + 1) stack st else flat.counted line st (λ st. at top stack st)) (flow_to (top + q.size + p.size + 1) k l stack) (if t then Gives Next st else repeating 0 line body test st)
    back_zero true top k l st le = ended 0 _ _ k l stack st le refl
    back_zero false top k l st le = no_turns 0 st.turns line st _ _ (omega (arith, le))

    back_more : (m : ℕ) (t : Bool) (top k l : ℕ) (st : State) → left st ≤ suc m → ((after : State) → left after ≤ m → Follows code m Any (at top stack after) (flow_to (top + q.size + p.size + 1) k l stack) (once m after))
        → Follows code (suc m) Any (if t then at (top + q.size + p.size + 1) stack st else flat.counted line st (λ st. at top stack st)) (flow_to (top + q.size + p.size + 1) k l stack) (if t then Gives Next st else repeating (suc m) line body test st)
    back_more m true top k l st le rest = ended (suc m) _ _ k l stack st le refl
    back_more m false top k l st le rest = counts code m st.turns line Any st _ _ (once m) refl le rest

    once_does : (n top k l : ℕ) (st : State) → left st ≤ n → HasBody top
        → ((v : TypedNumber) (after : State) → left after ≤ n → Follows code n Any (if is_zero v then at (top + q.size + p.size + 1) stack after else flat.counted line after (λ st. at top stack st)) (flow_to (top + q.size + p.size + 1) k l stack) (choosing v (repeating n line body test after) (Gives Next after)))
        → Follows code n Any (at top stack st) (flow_to (top + q.size + p.size + 1) k l stack) (once n st)
    once_does n top k l st le has rest = follows_bind code n Any Any _ (q_lays n top (top + q.size + p.size + 1) (top + q.size) st le (omega arith) (omega arith) has.body_at) (λ flow one le t.
        after_turn n (top + q.size) (top + q.size + p.size + 1) k l stack flow one _ le
        (follows_bind code n Any Any _ (p_runs n (top + q.size) one le has.test_at) (λ v two le t.
        follows_step code n Any _ (i.TurnIf line top) (config code callers answers (top + q.size + p.size) (slot.Value v ∷ stack) two) _ has.last refl (rest v two le))))

    bodies_do : (n top k l : ℕ) (st : State) → left st ≤ n → HasBody top → Follows code n Any (at top stack st) (flow_to (top + q.size + p.size + 1) k l stack) (once n st)
    bodies_do zero top k l st le has = once_does 0 top k l st le has (λ v after le. back_zero (is_zero v) top k l after le)
    bodies_do (suc m) top k l st le has = once_does (suc m) top k l st le has (λ v after le. back_more m (is_zero v) top k l after le (λ one le. bodies_do m top k l one le has))

    repeating_laid : IsLaid (code_of.repeating line q p)
    repeating_laid b k l = let t = b + 1 + q.size in
        let u = length-append (q.code (b + 1) (t + p.size + 1) t) (p.code t ++ i.TurnIf line (b + 1) ∷ []) in
        let w = length-append (p.code t) (i.TurnIf line (b + 1) ∷ []) in
        omega (arith, u, w, p_sized t, q_laid (b + 1) (t + p.size + 1) t)

    -- the first turn
    first_turn : (n top k l : ℕ) (st : State) → left st ≤ n → HasBody top → Follows code n Any (flat.counted line st (λ st. at top stack st)) (flow_to (top + q.size + p.size + 1) k l stack) (repeating n line body test st)
    first_turn zero top k l st le has = no_turns 0 st.turns line st _ _ (omega (arith, le))
    first_turn (suc m) top k l st le has = counts code m st.turns line Any st _ _ (once m) refl le (λ one le. bodies_do m top k l one le has)

    pub repeating_lays : Lays (code_of.repeating line q p) stack stack (λ st. repeating (left st) line body test st)
    repeating_lays most b k l st le lk ll has =
        let t = b + 1 + q.size in
        let body_code = q.code (b + 1) (t + p.size + 1) t in
        let behind_body = has_back code (b + 1) q.size body_code (p.code t ++ i.TurnIf line (b + 1) ∷ []) (q_laid (b + 1) (t + p.size + 1) t) has.1 in
        let last = has_back code t p.size (p.code t) (i.TurnIf line (b + 1) ∷ []) (p_sized t) behind_body in
        follows_step code most Any _ (i.Turn line) (config code callers answers b stack st) _ has.0 refl
        (at_end (t + p.size + 1) (b + (1 + (q.size + (p.size + 1)))) k l most stack _ _ (omega arith)
        (follows_less code most Any _ (left st) _ le (first_turn (left st) (b + 1) k l st (omega arith) (record {
          body_at = has_front code (b + 1) body_code (p.code t ++ i.TurnIf line (b + 1) ∷ []) has.1;
          test_at = has_front code t (p.code t) (i.TurnIf line (b + 1) ∷ []) behind_body;
          last = last.0;
        }))))

  -- ---- the parts of statements

  module _ (calls : Calls) (called : CallsDo code callers answers calls) where
    -- a statement's code lays what it means, whatever the scope
    pub record StripDoes (c : Laying) (m : Running) : Type 0 where
      pub laid : (scope : Scope) → IsLaid (c scope)
      pub does : (scope : Scope) (stack : List Slot) → Lays (c scope) stack stack (m scope calls)

    piece_sized : (x : Expr) (scope : Scope) → IsSized (piece_of x scope)
    piece_sized x scope = (expr_does code callers answers calls called x).value.sized scope

    piece_runs : (x : Expr) (scope : Scope) (stack : List Slot) → Runs code callers answers Any (piece_of x scope) stack (pushed code callers answers stack) (value_of x scope calls)
    piece_runs x scope stack = (expr_does code callers answers calls called x).value.does scope stack

    alone_sized : (p : Piece) → IsSized p → IsSized (alone p)
    alone_sized p f b = omega (arith, length-append (p.code b) (i.Drop ∷ []), f b)

    -- a value that is not used
    alone_runs : (p : Piece) (stack : List Slot) (m : State → Outcome TypedNumber) → IsSized p → Runs code callers answers Any p stack (pushed code callers answers stack) m → Runs code callers answers Any (alone p) stack (λ v. stack) m
    alone_runs p stack m f d most b st le has = by_outcome (m st) (d most b st le (has_front code b (p.code b) (i.Drop ∷ []) has)) (has_back code b p.size (p.code b) (i.Drop ∷ []) (f b) has).0
      where
        by_outcome : (o : Outcome TypedNumber) → Follows code most Any (at b stack st) (λ v st. at (b + p.size) (slot.Value v ∷ stack) st) o → slice_get code.instrs (b + p.size) ≡ Some i.Drop → Follows code most Any (at b stack st) (λ v st. at (b + (p.size + 1)) stack st) o
        by_outcome _ (Follows.gives {a = v} {st = st'} le t r) here = Follows.gives le tt (reaches_on code _ _ _ r (
          1,
          ap (λ (x : Option Instr). act_at code x (config code callers answers (b + p.size) (slot.Value v ∷ stack) st')) here
              ∙ ap (λ (k : ℕ). at k stack st') (omega arith),
        ))
        by_outcome _ (Follows.wanting r) here = Follows.wanting r
        by_outcome _ (Follows.over r) here = Follows.over r

    piece_lays : {A : Type 0} (p : Piece) (stack : List Slot) (m : State → Outcome A) → Runs code callers answers Any p stack (λ v. stack) m → Lays (of_piece p) stack stack (λ st. and_then (m st) (λ v st. Gives Next st))
    piece_lays p stack m d most b k l st le lk ll has = follows_bind code most Any Any _ (d most b st le has) (λ v after le t. ended most (b + p.size) (b + p.size) k l stack after le refl)

    expr_does_strip : (x : Expr) → StripDoes (λ scope. of_piece (alone (piece_of x scope))) (λ scope calls st. and_then (value_of x scope calls st) (λ value st. Gives Next st))
    expr_does_strip x = record {
      laid = λ scope b k l. alone_sized (piece_of x scope) (piece_sized x scope) b;
      does = λ scope stack. piece_lays (alone (piece_of x scope)) stack (value_of x scope calls) (alone_runs (piece_of x scope) stack (value_of x scope calls) (piece_sized x scope) (piece_runs x scope stack));
    }

    -- ---- what is left out

    optional_sized : (x : Option Expr) (value : TypedNumber) (scope : Scope) → IsSized (optional_piece x (i.Push value) scope)
    optional_sized None value scope = sized_plain (i.Push value ∷ [])
    optional_sized (Some x) value scope = piece_sized x scope

    optional_runs : (x : Option Expr) (value : TypedNumber) (scope : Scope) (stack : List Slot) → Runs code callers answers Any (optional_piece x (i.Push value) scope) stack (pushed code callers answers stack) (means.optional_value x value scope calls)
    optional_runs None value scope stack = runs_push code callers answers value stack
    optional_runs (Some x) value scope stack = piece_runs x scope stack

    next_sized : (x : Option Expr) (scope : Scope) → IsSized (optional_alone x scope)
    next_sized None scope = sized_plain []
    next_sized (Some x) scope = alone_sized (piece_of x scope) (piece_sized x scope)

    none_runs : (value : TypedNumber) (stack : List Slot) → Runs code callers answers Any (of_instrs []) stack (λ v. stack) (λ st. Gives value st)
    none_runs value stack = runs_none code callers answers Any value (λ v. stack) tt

    next_runs : (x : Option Expr) (scope : Scope) (stack : List Slot) → Runs code callers answers Any (optional_alone x scope) stack (λ v. stack) (means.optional_value x nothing scope calls)
    next_runs None scope stack = none_runs nothing stack
    next_runs (Some x) scope stack = alone_runs (piece_of x scope) stack (value_of x scope calls) (piece_sized x scope) (piece_runs x scope stack)

    -- ---- jumps

    break_does : StripDoes (λ scope. record { size = 1; code = λ b breaks continues. i.Jump breaks ∷ [] }) (λ scope calls st. Gives Breaks st)
    break_does = record { laid = λ scope b k l. refl; does = λ scope stack most b k l st le lk ll has. Follows.gives le tt (jump_at b k stack st has.0 lk) }

    continue_does : StripDoes (λ scope. record { size = 1; code = λ b breaks continues. i.Jump continues ∷ [] }) (λ scope calls st. Gives Continues st)
    continue_does = record { laid = λ scope b k l. refl; does = λ scope stack most b k l st le lk ll has. Follows.gives le tt (jump_at b l stack st has.0 ll) }

    return_does : (line : ℕ) (x : Option Expr) → StripDoes (λ scope. let p = optional_piece x (i.Push nothing) scope in record { size = p.size + 1; code = λ b breaks continues. p.code b ++ i.Return line ∷ [] })
        (λ scope calls st. and_then (means.optional_value x nothing scope calls st) (λ value st. Gives (Returns line value) st))
    return_does line x = record {
      laid = λ scope b k l. let p = optional_piece x (i.Push nothing) scope in omega (arith, length-append (p.code b) (i.Return line ∷ []), optional_sized x nothing scope b);
      does = λ scope stack most b k l st le lk ll has. let p = optional_piece x (i.Push nothing) scope in
          follows_bind code most Any Any _ (optional_runs x nothing scope stack most b st le (has_front code b (p.code b) (i.Return line ∷ []) has)) (λ v after le t.
          follows_step code most Any _ (i.Return line) (config code callers answers (b + p.size) (slot.Value v ∷ stack) after) _ (has_back code b p.size (p.code b) (i.Return line ∷ []) (optional_sized x nothing scope b) has).0 refl (Follows.gives le tt (0, refl)));
    }

    -- ---- declarations

    left_cleared : (place n : ℕ) (st : State) → left (cleared place n st) ≡ left st
    left_cleared place zero st = refl
    left_cleared place (suc n) st = left_cleared (suc place) n (with_local_at st place (pos 0))

    clear_lays : (place n : ℕ) (q : Strip) (stack : List Slot) (m : State → Outcome Flow) → Lays q stack stack m → Lays (joined (plain (i.Clear place n ∷ [])) q) stack stack (λ st. m (cleared place n st))
    clear_lays place n q stack m d most b k l st le lk ll has =
        follows_step code most Any _ (i.Clear place n) (config code callers answers b stack st) (at (b + 1) stack (cleared place n st)) has.0 refl
        (at_end (b + 1 + q.size) (b + (1 + q.size)) k l most stack _ _ (omega arith)
        (d most (b + 1) k l (cleared place n st) (let e = left_cleared place n st in omega (arith, e, le)) (omega (arith, lk)) (omega (arith, ll)) has.1))

    start_sized : (line : ℕ) (ctype : CType) (place : ℕ) (x : Option Expr) (scope : Scope) → IsSized (started line ctype place x scope)
    start_sized line ctype place None scope b = refl
    start_sized line ctype place (Some x) scope b = let p = piece_of x scope in omega (arith, length-append (p.code b) (i.Write line storage.Local ctype (At place) ∷ i.Drop ∷ []), piece_sized x scope b)

    start_runs : (line : ℕ) (ctype : CType) (place : ℕ) (x : Option Expr) (scope : Scope) (stack : List Slot) → Runs code callers answers Any (started line ctype place x scope) stack (λ flow. stack) (means.started ctype place x scope calls)
    start_runs line ctype place None scope stack most b st le has = runs_none code callers answers Any Next (λ flow. stack) tt most b st le has
    start_runs line ctype place (Some x) scope stack most b st le has =
        let p = piece_of x scope in
        let rest = has_back code b p.size (p.code b) (i.Write line storage.Local ctype (At place) ∷ i.Drop ∷ []) (piece_sized x scope b) has in
        follows_bind code most Any Any _ (piece_runs x scope stack most b st le (has_front code b (p.code b) (i.Write line storage.Local ctype (At place) ∷ i.Drop ∷ []) has)) (λ v after le t.
        follows_step code most Any _ (i.Write line storage.Local ctype (At place)) (config code callers answers (b + p.size) (slot.Value v ∷ stack) after)
        (at (b + p.size + 1) (slot.Value (converted ctype v) ∷ stack) (with_local_at after place (converted ctype v).number)) rest.0
        (sym (from_gives (converted ctype v) (with_local_at after place (converted ctype v).number) (λ w st. at (b + p.size + 1) (slot.Value w ∷ stack) st)))
        (follows_step code most Any _ i.Drop (config code callers answers (b + p.size + 1) (slot.Value (converted ctype v) ∷ stack) (with_local_at after place (converted ctype v).number)) (at (b + p.size + 1 + 1) stack (with_local_at after place (converted ctype v).number)) rest.1.0 refl
        (Follows.gives le tt (0, ap (λ (k : ℕ). at k stack (with_local_at after place (converted ctype v).number)) (omega arith)))))

    locals_laid : (ctype : CType) (xs : List Local) (scope : Scope) → IsLaid (locals_strip ctype xs scope)
    locals_laid ctype [] scope = laid_none
    locals_laid ctype (x ∷ xs) scope = let size = size_in scope x.place.size in let place = scope.counts.places in let inner = with_local scope x.place.word.name ctype size in
        laid_joined (plain (i.Clear place (taken size) ∷ [])) (joined (of_piece (started x.place.word.spot.line ctype place x.start inner)) (locals_strip ctype xs inner)) (λ b k l. refl)
        (laid_joined (of_piece (started x.place.word.spot.line ctype place x.start inner)) (locals_strip ctype xs inner) (laid_piece (started x.place.word.spot.line ctype place x.start inner) (start_sized x.place.word.spot.line ctype place x.start inner)) (locals_laid ctype xs inner))

    locals_lay : (ctype : CType) (xs : List Local) (scope : Scope) (stack : List Slot) → Lays (locals_strip ctype xs scope) stack stack (means.locals_run ctype xs scope calls)
    locals_lay ctype [] scope stack = lays_none stack
    locals_lay ctype (x ∷ xs) scope stack = let size = size_in scope x.place.size in let place = scope.counts.places in let inner = with_local scope x.place.word.name ctype size in
        clear_lays place (taken size) (joined (of_piece (started x.place.word.spot.line ctype place x.start inner)) (locals_strip ctype xs inner)) stack
        (λ st. and_then (means.started ctype place x.start inner calls st) (λ flow st. means.locals_run ctype xs inner calls st))
        (lays_behind Any (started x.place.word.spot.line ctype place x.start inner) (locals_strip ctype xs inner) stack (λ flow. stack) stack (means.started ctype place x.start inner calls) (λ flow st. means.locals_run ctype xs inner calls st)
        (start_sized x.place.word.spot.line ctype place x.start inner) (start_runs x.place.word.spot.line ctype place x.start inner stack) (λ flow t. locals_lay ctype xs inner stack))

    handles_laid : (xs : List Place) (scope : Scope) → IsLaid (handles_strip xs scope)
    handles_laid [] scope = laid_none
    handles_laid (x ∷ xs) scope = let size = size_in scope x.size in laid_joined (plain (i.Clear scope.counts.places (taken size) ∷ [])) (handles_strip xs (with_handle scope x.word.name size)) (λ b k l. refl) (handles_laid xs (with_handle scope x.word.name size))

    handles_lay : (xs : List Place) (scope : Scope) (stack : List Slot) → Lays (handles_strip xs scope) stack stack (means.handles_run xs scope calls)
    handles_lay [] scope stack = lays_none stack
    handles_lay (x ∷ xs) scope stack = let size = size_in scope x.size in clear_lays scope.counts.places (taken size) (handles_strip xs (with_handle scope x.word.name size)) stack (means.handles_run xs (with_handle scope x.word.name size) calls)
        (handles_lay xs (with_handle scope x.word.name size) stack)

    -- ---- statements side by side

    pub record RunDoes (c : Run Laying) (m : Run Running) : Type 0 where
      pub walk : c.walk ≡ m.walk
      pub strip : StripDoes c.run m.run

    pub data ArmDoes : Armed Laying → Armed Running → Type 0 where
      arm : {w w' : Walk} (test : Expr) {c : Laying} {m : Running} → w ≡ w' → StripDoes c m → ArmDoes (record { walk = w; test = test; body = c }) (record { walk = w'; test = test; body = m })

    pub data AllRuns : List (Run Laying) → List (Run Running) → Type 0 where
      nil : AllRuns [] []
      cons : {c : Run Laying} {m : Run Running} {cs : List (Run Laying)} {ms : List (Run Running)} → RunDoes c m → AllRuns cs ms → AllRuns (c ∷ cs) (m ∷ ms)

    pub data AllArms : List (Armed Laying) → List (Armed Running) → Type 0 where
      nil : AllArms [] []
      cons : {c : Armed Laying} {m : Armed Running} {cs : List (Armed Laying)} {ms : List (Armed Running)} → ArmDoes c m → AllArms cs ms → AllArms (c ∷ cs) (m ∷ ms)

    pub data MayRun : Option (Run Laying) → Option (Run Running) → Type 0 where
      none : MayRun None None
      some : {c : Run Laying} {m : Run Running} → RunDoes c m → MayRun (Some c) (Some m)

    -- a block
    order_laid : (cs : List (Run Laying)) (ms : List (Run Running)) (scope : Scope) → AllRuns cs ms → IsLaid (in_order cs scope)
    order_laid _ _ scope AllRuns.nil = laid_none
    order_laid _ _ scope (AllRuns.cons {c = c} {cs = cs} {ms = ms} d ds) = laid_joined (c.run scope) (in_order cs (behind c.walk scope)) (d.strip.laid scope) (order_laid cs ms (behind c.walk scope) ds)

    order_lays : (cs : List (Run Laying)) (ms : List (Run Running)) (scope : Scope) (stack : List Slot) → AllRuns cs ms → Lays (in_order cs scope) stack stack (means.in_order ms scope calls)
    order_lays _ _ scope stack AllRuns.nil most b k l st le lk ll has = lays_none stack most b k l st le lk ll has
    order_lays _ _ scope stack (AllRuns.cons {c = c} {m = m} {cs = cs} {ms = ms} d ds) most b k l st le lk ll has =
        lays_joined (c.run scope) (in_order cs (behind c.walk scope)) stack (m.run scope calls) (means.in_order ms (behind m.walk scope) calls) (d.strip.laid scope) (d.strip.does scope stack)
        (subst (λ (w : Walk). Lays (in_order cs (behind c.walk scope)) stack stack (means.in_order ms (behind w scope) calls)) d.walk (order_lays cs ms (behind c.walk scope) stack ds)) most b k l st le lk ll has

    may_laid : (c : Option (Run Laying)) (m : Option (Run Running)) (scope : Scope) → MayRun c m → IsLaid (optional_run c scope)
    may_laid _ _ scope none = laid_none
    may_laid _ _ scope (some d) = d.strip.laid scope

    may_lays : (c : Option (Run Laying)) (m : Option (Run Running)) (scope : Scope) (stack : List Slot) → MayRun c m → Lays (optional_run c scope) stack stack (means.optional_run m scope calls)
    may_lays _ _ scope stack none most b k l st le lk ll has = lays_none stack most b k l st le lk ll has
    may_lays _ _ scope stack (some d) most b k l st le lk ll has = d.strip.does scope stack most b k l st le lk ll has

    -- `if`
    arms_laid : (cs : List (Armed Laying)) (ms : List (Armed Running)) (o : Option (Run Laying)) (o' : Option (Run Running)) (scope : Scope) → AllArms cs ms → MayRun o o' → IsLaid (first_of cs o scope)
    arms_laid _ _ o o' scope AllArms.nil e = may_laid o o' scope e
    arms_laid _ _ o o' scope (AllArms.cons {cs = cs} {ms = ms} (arm {w = w} test {c = c} same d) ds) e =
        laid_joined (of_piece (piece_of test scope)) (chosen (c scope) (first_of cs o (behind w scope))) (laid_piece (piece_of test scope) (piece_sized test scope))
        (laid_chosen (c scope) (first_of cs o (behind w scope)) (d.laid scope) (arms_laid cs ms o o' (behind w scope) ds e))

    arms_lay : (cs : List (Armed Laying)) (ms : List (Armed Running)) (o : Option (Run Laying)) (o' : Option (Run Running)) (scope : Scope) (stack : List Slot) → AllArms cs ms → MayRun o o' → Lays (first_of cs o scope) stack stack (means.first_of ms o' scope calls)
    arms_lay _ _ o o' scope stack AllArms.nil e most b k l st le lk ll has = may_lays o o' scope stack e most b k l st le lk ll has
    arms_lay _ _ o o' scope stack (AllArms.cons {cs = cs} {ms = ms} (arm {w = w} {w' = w'} test {c = c} {m = m} same d) ds) e most b k l st le lk ll has =
        lays_behind Any (piece_of test scope) (chosen (c scope) (first_of cs o (behind w scope))) stack (pushed code callers answers stack) stack (value_of test scope calls)
        (λ v st. choosing v (m scope calls st) (means.first_of ms o' (behind w' scope) calls st)) (piece_sized test scope) (piece_runs test scope stack)
        (λ v t. lays_chosen (c scope) (first_of cs o (behind w scope)) v stack (m scope calls) (means.first_of ms o' (behind w' scope) calls) (is_zero v) refl (d.laid scope) (arms_laid cs ms o o' (behind w scope) ds e) (d.does scope stack)
        (subst (λ (z : Walk). Lays (first_of cs o (behind w scope)) stack stack (means.first_of ms o' (behind z scope) calls)) same (arms_lay cs ms o o' (behind w scope) stack ds e)))
        most b k l st le lk ll has

    -- loops
    while_does : (line : ℕ) (test : Expr) (c : Run Laying) (m : Run Running) → RunDoes c m → StripDoes (λ scope. code_of.turning line (piece_of test scope) (c.run scope) (of_instrs []))
        (λ scope calls st. turning (left st) line (value_of test scope calls) (m.run scope calls) (λ st. Gives nothing st) st)
    while_does line test c m d = record {
      laid = λ scope. turning_laid line (piece_of test scope) (c.run scope) (of_instrs []) [] (value_of test scope calls) (m.run scope calls) (λ st. Gives nothing st) (piece_sized test scope) (d.strip.laid scope) (sized_plain []) (piece_runs test scope []) (d.strip.does scope []) (none_runs nothing []);
      does = λ scope stack. turning_lays line (piece_of test scope) (c.run scope) (of_instrs []) stack (value_of test scope calls) (m.run scope calls) (λ st. Gives nothing st) (piece_sized test scope) (d.strip.laid scope) (sized_plain []) (piece_runs test scope stack) (d.strip.does scope stack) (none_runs nothing stack);
    }

    do_does : (line : ℕ) (c : Run Laying) (m : Run Running) (test : Expr) → RunDoes c m → StripDoes (λ scope. code_of.repeating line (c.run scope) (piece_of test (behind c.walk scope)))
        (λ scope calls st. repeating (left st) line (m.run scope calls) (value_of test (behind m.walk scope) calls) st)
    do_does line c m test d = record {
      laid = λ scope. repeating_laid line (c.run scope) (piece_of test (behind c.walk scope)) [] (m.run scope calls) (value_of test (behind c.walk scope) calls) (d.strip.laid scope) (piece_sized test (behind c.walk scope)) (d.strip.does scope []) (piece_runs test (behind c.walk scope) []);
      does = λ scope stack. subst (λ (w : Walk). Lays (code_of.repeating line (c.run scope) (piece_of test (behind c.walk scope))) stack stack (λ st. repeating (left st) line (m.run scope calls) (value_of test (behind w scope) calls) st)) d.walk
          (repeating_lays line (c.run scope) (piece_of test (behind c.walk scope)) stack (m.run scope calls) (value_of test (behind c.walk scope) calls) (d.strip.laid scope) (piece_sized test (behind c.walk scope)) (d.strip.does scope stack) (piece_runs test (behind c.walk scope) stack));
    }

    for_laid : (line : ℕ) (test next : Option Expr) (c : Run Laying) (m : Run Running) (inner : Scope) → RunDoes c m → IsLaid (code_of.turning line (optional_piece test (i.Push one) inner) (c.run inner) (optional_alone next inner))
    for_laid line test next c m inner d = turning_laid line (optional_piece test (i.Push one) inner) (c.run inner) (optional_alone next inner) [] (means.optional_value test one inner calls) (m.run inner calls) (means.optional_value next nothing inner calls)
        (optional_sized test one inner) (d.strip.laid inner) (next_sized next inner) (optional_runs test one inner []) (d.strip.does inner []) (next_runs next inner [])

    for_lays : (line : ℕ) (test next : Option Expr) (c : Run Laying) (m : Run Running) (inner : Scope) (stack : List Slot) → RunDoes c m → Lays (code_of.turning line (optional_piece test (i.Push one) inner) (c.run inner) (optional_alone next inner)) stack stack
        (λ st. turning (left st) line (means.optional_value test one inner calls) (m.run inner calls) (means.optional_value next nothing inner calls) st)
    for_lays line test next c m inner stack d = turning_lays line (optional_piece test (i.Push one) inner) (c.run inner) (optional_alone next inner) stack (means.optional_value test one inner calls) (m.run inner calls) (means.optional_value next nothing inner calls)
        (optional_sized test one inner) (d.strip.laid inner) (next_sized next inner) (optional_runs test one inner stack) (d.strip.does inner stack) (next_runs next inner stack)

    for_does : (line : ℕ) (start : Option (Run Laying)) (start' : Option (Run Running)) (test next : Option Expr) (c : Run Laying) (m : Run Running) → MayRun start start' → RunDoes c m → StripDoes (for_strip line start test next c) (means.for_run line start' test next m)
    for_does line _ _ test next c m none d = record { laid = λ scope. for_laid line test next c m (entered scope) d; does = λ scope stack. for_lays line test next c m (entered scope) stack d }
    for_does line _ _ test next c m (some {c = a} {m = a'} e) d = record {
      laid = λ scope. let inner = behind a.walk (entered scope) in laid_joined (a.run (entered scope)) (code_of.turning line (optional_piece test (i.Push one) inner) (c.run inner) (optional_alone next inner)) (e.strip.laid (entered scope)) (for_laid line test next c m inner d);
      does = λ scope stack. let inner = behind a.walk (entered scope) in
          lays_joined (a.run (entered scope)) (code_of.turning line (optional_piece test (i.Push one) inner) (c.run inner) (optional_alone next inner)) stack (a'.run (entered scope) calls)
          (λ st. turning (left st) line (means.optional_value test one (behind a'.walk (entered scope)) calls) (m.run (behind a'.walk (entered scope)) calls) (means.optional_value next nothing (behind a'.walk (entered scope)) calls) st)
          (e.strip.laid (entered scope)) (e.strip.does (entered scope) stack)
          (subst (λ (w : Walk). Lays (code_of.turning line (optional_piece test (i.Push one) inner) (c.run inner) (optional_alone next inner)) stack stack
          (λ st. turning (left st) line (means.optional_value test one (behind w (entered scope)) calls) (m.run (behind w (entered scope)) calls) (means.optional_value next nothing (behind w (entered scope)) calls) st)) e.walk (for_lays line test next c m inner stack d));
    }

    -- ---- walks are the same

    walks_same : (cs : List (Run Laying)) (ms : List (Run Running)) → AllRuns cs ms → map walk_of_run cs ≡ map walk_of_run ms
    walks_same _ _ AllRuns.nil = refl
    walks_same _ _ (AllRuns.cons {c = c} {m = m} {cs = cs} {ms = ms} d ds) = ap (λ (w : Walk). w ∷ map walk_of_run cs) d.walk ∙ ap (λ (ws : List Walk). m.walk ∷ ws) (walks_same cs ms ds)

    arm_walks_same : (cs : List (Armed Laying)) (ms : List (Armed Running)) → AllArms cs ms → map walk_of_armed cs ≡ map walk_of_armed ms
    arm_walks_same _ _ AllArms.nil = refl
    arm_walks_same _ _ (AllArms.cons {cs = cs} {ms = ms} (arm {w' = w'} test w d) ds) = ap (λ (v : Walk). v ∷ map walk_of_armed cs) w ∙ ap (λ (ws : List Walk). w' ∷ ws) (arm_walks_same cs ms ds)

    -- ---- along the tree

    abbrev stmt_code : Stmt → Run Laying
    stmt_code = fold-Stmt (Run Laying) (Armed Laying) (Run Laying) (stmt_step strip_step) arm_step (block_step in_order)

    abbrev stmt_run : Stmt → Run Running
    stmt_run = fold-Stmt (Run Running) (Armed Running) (Run Running) (stmt_step run_step) arm_step (block_step means.in_order)

    abbrev arm_code : Arm → Armed Laying
    arm_code = fold-Arm (Run Laying) (Armed Laying) (Run Laying) (stmt_step strip_step) arm_step (block_step in_order)

    abbrev arm_run : Arm → Armed Running
    arm_run = fold-Arm (Run Running) (Armed Running) (Run Running) (stmt_step run_step) arm_step (block_step means.in_order)

    abbrev block_code : Block → Run Laying
    block_code = fold-Block (Run Laying) (Armed Laying) (Run Laying) (stmt_step strip_step) arm_step (block_step in_order)

    abbrev block_run : Block → Run Running
    block_run = fold-Block (Run Running) (Armed Running) (Run Running) (stmt_step run_step) arm_step (block_step means.in_order)

    abbrev IsStmt : Stmt → Type 0
    IsStmt x = RunDoes (stmt_code x) (stmt_run x)

    abbrev IsArm : Arm → Type 0
    IsArm x = ArmDoes (arm_code x) (arm_run x)

    abbrev IsBlock : Block → Type 0
    IsBlock x = RunDoes (block_code x) (block_run x)

    abbrev AStmt : Type 0
    AStmt = (x : Stmt) × IsStmt x

    abbrev AnArm : Type 0
    AnArm = (x : Arm) × IsArm x

    abbrev ABlock : Type 0
    ABlock = (x : Block) × IsBlock x

    all_stmts : (xs : List AStmt) → AllRuns (map stmt_code (map (λ u. u.0) xs)) (map stmt_run (map (λ u. u.0) xs))
    all_stmts [] = AllRuns.nil
    all_stmts (x ∷ xs) = AllRuns.cons x.1 (all_stmts xs)

    all_arms : (xs : List AnArm) → AllArms (map arm_code (map (λ u. u.0) xs)) (map arm_run (map (λ u. u.0) xs))
    all_arms [] = AllArms.nil
    all_arms (x ∷ xs) = AllArms.cons x.1 (all_arms xs)

    abbrev stmt_in_code : Stmt-F Stmt Arm Block → Run Laying
    stmt_in_code d = stmt_step strip_step (map-Stmt Stmt Arm Block (Run Laying) (Armed Laying) (Run Laying) stmt_code arm_code block_code d)

    abbrev stmt_in_meaning : Stmt-F Stmt Arm Block → Run Running
    stmt_in_meaning d = stmt_step run_step (map-Stmt Stmt Arm Block (Run Running) (Armed Running) (Run Running) stmt_run arm_run block_run d)

    abbrev bare_stmt : Stmt-F AStmt AnArm ABlock → Stmt-F Stmt Arm Block
    bare_stmt y = map-Stmt AStmt AnArm ABlock Stmt Arm Block (λ u. u.0) (λ u. u.0) (λ u. u.0) y

    stmt_layer : (y : Stmt-F AStmt AnArm ABlock) → RunDoes (stmt_in_code (bare_stmt y)) (stmt_in_meaning (bare_stmt y))
    stmt_layer (Stmt-F.Block x) = record {
      walk = ap (λ (w : Walk). stmt_walk (Stmt-F.Block w)) x.1.walk;
      strip = record { laid = λ scope. x.1.strip.laid (entered scope); does = λ scope stack. x.1.strip.does (entered scope) stack };
    }
    stmt_layer (Stmt-F.Empty spot) = record { walk = refl; strip = record { laid = λ scope. laid_none; does = λ scope stack. lays_none stack } }
    stmt_layer (Stmt-F.Expr x) = record { walk = refl; strip = expr_does_strip x }
    stmt_layer (Stmt-F.If spot arms None) = record {
      walk = ap (λ (ws : List Walk). stmt_walk (Stmt-F.If spot ws None)) (arm_walks_same _ _ (all_arms arms));
      strip = record { laid = λ scope. arms_laid _ _ None None scope (all_arms arms) none; does = λ scope stack. arms_lay _ _ None None scope stack (all_arms arms) none };
    }
    stmt_layer (Stmt-F.If spot arms (Some x)) = record {
      walk = ap (λ (ws : List Walk). stmt_walk (Stmt-F.If spot ws (Some (stmt_code x.0).walk))) (arm_walks_same _ _ (all_arms arms))
          ∙ ap (λ (w : Walk). stmt_walk (Stmt-F.If spot (map walk_of_armed (map arm_run (map (λ u. u.0) arms))) (Some w))) x.1.walk;
      strip = record { laid = λ scope. arms_laid _ _ (Some (stmt_code x.0)) (Some (stmt_run x.0)) scope (all_arms arms) (some x.1); does = λ scope stack. arms_lay _ _ (Some (stmt_code x.0)) (Some (stmt_run x.0)) scope stack (all_arms arms) (some x.1) };
    }
    stmt_layer (Stmt-F.While spot test x) = record { walk = ap (λ (w : Walk). stmt_walk (Stmt-F.While spot test w)) x.1.walk; strip = while_does spot.line test _ _ x.1 }
    stmt_layer (Stmt-F.Do spot x test) = record { walk = ap (λ (w : Walk). stmt_walk (Stmt-F.Do spot w test)) x.1.walk; strip = do_does spot.line _ _ test x.1 }
    stmt_layer (Stmt-F.For spot None test next x) = record { walk = ap (λ (w : Walk). stmt_walk (Stmt-F.For spot None test next w)) x.1.walk; strip = for_does spot.line None None test next _ _ none x.1 }
    stmt_layer (Stmt-F.For spot (Some a) test next x) = record {
      walk = ap (λ (w : Walk). stmt_walk (Stmt-F.For spot (Some w) test next (stmt_code x.0).walk)) a.1.walk ∙ ap (λ (w : Walk). stmt_walk (Stmt-F.For spot (Some (stmt_run a.0).walk) test next w)) x.1.walk;
      strip = for_does spot.line (Some (stmt_code a.0)) (Some (stmt_run a.0)) test next _ _ (some a.1) x.1;
    }
    stmt_layer (Stmt-F.Break spot) = record { walk = refl; strip = break_does }
    stmt_layer (Stmt-F.Continue spot) = record { walk = refl; strip = continue_does }
    stmt_layer (Stmt-F.Return spot value) = record { walk = refl; strip = return_does spot.line value }
    stmt_layer (Stmt-F.Locals spot ctype locals) = record { walk = refl; strip = record { laid = λ scope. locals_laid ctype locals scope; does = λ scope stack. locals_lay ctype locals scope stack } }
    stmt_layer (Stmt-F.Handles spot places) = record { walk = refl; strip = record { laid = λ scope. handles_laid places scope; does = λ scope stack. handles_lay places scope stack } }

    rolled_stmt : (d : Stmt-F Stmt Arm Block) → RunDoes (stmt_in_code d) (stmt_in_meaning d) → IsStmt (roll-Stmt d)
    rolled_stmt d h = rw (
      fold-roll-Stmt (Run Laying) (Armed Laying) (Run Laying) (stmt_step strip_step) arm_step (block_step in_order) d,
      fold-roll-Stmt (Run Running) (Armed Running) (Run Running) (stmt_step run_step) arm_step (block_step means.in_order) d,
    ) h

    abbrev arm_in_code : Arm-F Stmt Arm Block → Armed Laying
    arm_in_code d = arm_step (map-Arm Stmt Arm Block (Run Laying) (Armed Laying) (Run Laying) stmt_code arm_code block_code d)

    abbrev arm_in_meaning : Arm-F Stmt Arm Block → Armed Running
    arm_in_meaning d = arm_step (map-Arm Stmt Arm Block (Run Running) (Armed Running) (Run Running) stmt_run arm_run block_run d)

    rolled_arm : (d : Arm-F Stmt Arm Block) → ArmDoes (arm_in_code d) (arm_in_meaning d) → IsArm (roll-Arm d)
    rolled_arm d h = rw (
      fold-roll-Arm (Run Laying) (Armed Laying) (Run Laying) (stmt_step strip_step) arm_step (block_step in_order) d,
      fold-roll-Arm (Run Running) (Armed Running) (Run Running) (stmt_step run_step) arm_step (block_step means.in_order) d,
    ) h

    arm_layer : (y : Arm-F AStmt AnArm ABlock) → ArmDoes (arm_in_code (map-Arm AStmt AnArm ABlock Stmt Arm Block (λ u. u.0) (λ u. u.0) (λ u. u.0) y)) (arm_in_meaning (map-Arm AStmt AnArm ABlock Stmt Arm Block (λ u. u.0) (λ u. u.0) (λ u. u.0) y))
    arm_layer y = arm y.test (ap (λ (w : Walk). arm_walk (record { test = y.test; body = w })) y.body.1.walk) y.body.1.strip

    abbrev block_in_code : Block-F Stmt Arm Block → Run Laying
    block_in_code d = block_step in_order (map-Block Stmt Arm Block (Run Laying) (Armed Laying) (Run Laying) stmt_code arm_code block_code d)

    abbrev block_in_meaning : Block-F Stmt Arm Block → Run Running
    block_in_meaning d = block_step means.in_order (map-Block Stmt Arm Block (Run Running) (Armed Running) (Run Running) stmt_run arm_run block_run d)

    rolled_block : (d : Block-F Stmt Arm Block) → RunDoes (block_in_code d) (block_in_meaning d) → IsBlock (roll-Block d)
    rolled_block d h = rw (
      fold-roll-Block (Run Laying) (Armed Laying) (Run Laying) (stmt_step strip_step) arm_step (block_step in_order) d,
      fold-roll-Block (Run Running) (Armed Running) (Run Running) (stmt_step run_step) arm_step (block_step means.in_order) d,
    ) h

    block_layer : (y : Block-F AStmt AnArm ABlock) → RunDoes (block_in_code (map-Block AStmt AnArm ABlock Stmt Arm Block (λ u. u.0) (λ u. u.0) (λ u. u.0) y)) (block_in_meaning (map-Block AStmt AnArm ABlock Stmt Arm Block (λ u. u.0) (λ u. u.0) (λ u. u.0) y))
    block_layer y = record {
      walk = ap (λ (ws : List Walk). block_walk (record { spot = y.spot; items = ws; close = y.close })) (walks_same _ _ (all_stmts y.items));
      strip = record { laid = λ scope. order_laid _ _ scope (all_stmts y.items); does = λ scope stack. order_lays _ _ scope stack (all_stmts y.items) };
    }

    pub block_does : (x : Block) → RunDoes (code_of.strip_of_block x) (means.run_of_block x)
    block_does = ind-Block IsStmt IsArm IsBlock
        (λ x y is. rolled_stmt x (subst (λ (z : Stmt-F Stmt Arm Block). RunDoes (stmt_in_code z) (stmt_in_meaning z)) is (stmt_layer y)))
        (λ x y is. rolled_arm x (subst (λ (z : Arm-F Stmt Arm Block). ArmDoes (arm_in_code z) (arm_in_meaning z)) is (arm_layer y)))
        (λ x y is. rolled_block x (subst (λ (z : Block-F Stmt Arm Block). RunDoes (block_in_code z) (block_in_meaning z)) is (block_layer y)))
