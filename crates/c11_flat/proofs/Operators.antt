-- The code of operators does what their meaning says.
use Rattle.std.proofs.Common.{◌≡◌, ℕ, ◌+◌, ◌<◌, ◌≤◌, Bool, true, false, List, [], ◌∷◌, Option, Some, None, refl, ap, ◌∙◌, arith}
use Rattle.std.specs.Prelude.{nat_lt, slice_get, if◌then◌else◌}
use Rattle.std.proofs.lemmas.Bool.{lt-ltb}
use Rattle.std.proofs.lemmas.List.{length-append}
use Rattle.c11_num.specs.Ranges.{TypedNumber}
use Rattle.c11_num.specs.Operators.{binary_of, truth}
use Rattle.c11_num.specs.declared.value.CType.{CType}
use Rattle.c11_ast.specs.declared.expr.Infix.{Infix}
use Rattle.c11_ast.specs.declared.expr.Infix.TheVariants as x
use Rattle.c11_ast.specs.declared.expr.Prefix.{Prefix}
use Rattle.c11_ast.specs.declared.expr.Prefix.TheVariants as p
use Rattle.c11_ast.specs.declared.expr.CastTo.{CastTo}
use Rattle.c11_ast.specs.declared.expr.CastTo.TheVariants as to
use Rattle.c11_check.specs.Scopes.{Scope}
use Rattle.c11_check.specs.Types.{branches_type}
use Rattle.c11_meaning.specs.Outcome.{State, Outcome, Gives, and_then, computed, left}
use Rattle.c11_meaning.specs.Objects.{is_zero}
use Rattle.c11_meaning.specs.Parts.{Part, Linked}
use Rattle.c11_meaning.specs.Expressions.{Calls, Valuing, choosing, truth_of, prefixed, cast}
use Rattle.c11_meaning.specs.Expressions as means
use Rattle.c11_flat.specs.declared.instr.Instr.{Instr}
use Rattle.c11_flat.specs.declared.instr.Instr.TheVariants as i
use Rattle.c11_flat.specs.declared.slot.Slot.{Slot}
use Rattle.c11_flat.specs.declared.slot.Slot.TheVariants as slot
use Rattle.c11_flat.specs.Pieces.{Piece, Coding, plain, joined, with_instr, chosen, typed_as, branch, condition, right_truth, infixed, chained}
use Rattle.c11_flat.specs.Code.{Whole}
use Rattle.c11_flat.specs.Flat.{Caller, Next, To, Halts, jumping, act_at}
use Rattle.c11_flat.proofs.Follows.{Keeps, Follows, follows_step, reaches_on, IsSized, sized_plain, sized_joined, has_front, has_back, config, Runs, moved, runs_joined, runs_instr, runs_none, runs_same}
use Rattle.c11_flat.proofs.Parts.{Any, ValueDoes, PartDoes, linked, AllLinks, nil, cons}
use Rattle.c11_flat.proofs.Objects.{keeps_computed, from_gives, pushed, runs_push, runs_compute, behind_value}

-- ---- sizes

pub sized_chosen : (p q : Piece) → IsSized p → IsSized q → IsSized (chosen p q)
sized_chosen p q f g b = let c = b + 1 + p.size in
    omega (arith, length-append (p.code (b + 1)) (i.Jump (c + 1 + q.size) ∷ q.code (c + 1)), f (b + 1), g (c + 1))

-- ---- jumps

less_than : (a b : ℕ) → a < b → nat_lt a b ≡ true
less_than a b lt = lt-ltb a b lt

pub keeps_prefixed : (most line : ℕ) (op : Prefix) (value : TypedNumber) (st : State) → left st ≤ most → Keeps most Any (prefixed op line value st)
keeps_prefixed most line p.Minus value st le = keeps_computed most line _ st le
keeps_prefixed most line p.Plus value st le = Keeps.gives le tt
keeps_prefixed most line p.Not value st le = Keeps.gives le tt
keeps_prefixed most line p.Flip value st le = Keeps.gives le tt

module _ (code : Whole) (callers : List Caller) (answers : Option CType) where
  abbrev Pushes : Piece → List Slot → List Slot → (State → Outcome TypedNumber) → Type 0
  Pushes piece before stack m = Runs code callers answers Any piece before (pushed code callers answers stack) m

  abbrev at : ℕ → List Slot → State → Next
  at place stack st = To (config code callers answers place stack st)

  -- a jump forward
  pub jump_does : (b to : ℕ) (stack : List Slot) (st : State) → b < to → jumping (config code callers answers b stack st) to stack ≡ at to stack st
  jump_does b to stack st lt = ap (λ (t : Bool). if t then at to stack st else Halts) (less_than b to lt)

  -- behind a test, one piece or the other
  chosen_runs : (p q : Piece) (value : TypedNumber) (stack : List Slot) (m m' : State → Outcome TypedNumber) (t : Bool) → is_zero value ≡ t → IsSized p → IsSized q
      → Pushes p stack stack m → Pushes q stack stack m' → Pushes (chosen p q) (slot.Value value ∷ stack) stack (λ st. if t then m' st else m st)
  chosen_runs p q value stack m m' false is f g one other most b st le has =
      let c = b + 1 + p.size in
      let back = has_back code (b + 1) p.size (p.code (b + 1)) (i.Jump (c + 1 + q.size) ∷ q.code (c + 1)) (f (b + 1)) has.1 in
      follows_step code most Any _ (i.JumpIfZero (c + 1)) (config code callers answers b (slot.Value value ∷ stack) st) (at (b + 1) stack st) has.0
      (ap (λ (t : Bool). if t then jumping (config code callers answers b (slot.Value value ∷ stack) st) (c + 1) stack else at (b + 1) stack st) is)
      (after_jump (m st) (one most (b + 1) st le (has_front code (b + 1) (p.code (b + 1)) (i.Jump (c + 1 + q.size) ∷ q.code (c + 1)) has.1)) back.0)
    where
      after_jump : (o : Outcome TypedNumber) → Follows code most Any (at (b + 1) stack st) (λ v st. at (b + 1 + p.size) (slot.Value v ∷ stack) st) o
          → slice_get code.instrs (b + 1 + p.size) ≡ Some (i.Jump (b + 1 + p.size + 1 + q.size)) → Follows code most Any (at (b + 1) stack st) (λ v st. at (b + (1 + (p.size + (1 + q.size)))) (slot.Value v ∷ stack) st) o
      after_jump _ (Follows.gives {a = v} {st = st'} le p' r) at_jump = Follows.gives le p' (reaches_on code _ _ _ r (
        1,
        ap (λ (o : Option Instr). act_at code o (config code callers answers (b + 1 + p.size) (slot.Value v ∷ stack) st')) at_jump
            ∙ (jump_does (b + 1 + p.size) (b + 1 + p.size + 1 + q.size) (slot.Value v ∷ stack) st' (omega arith) ∙ ap (λ (k : ℕ). at k (slot.Value v ∷ stack) st') (omega arith)),
      ))
      after_jump _ (Follows.wanting r) at_jump = Follows.wanting r
      after_jump _ (Follows.over r) at_jump = Follows.over r
  chosen_runs p q value stack m m' true is f g one other most b st le has =
      let c = b + 1 + p.size in
      let back = has_back code (b + 1) p.size (p.code (b + 1)) (i.Jump (c + 1 + q.size) ∷ q.code (c + 1)) (f (b + 1)) has.1 in
      follows_step code most Any _ (i.JumpIfZero (c + 1)) (config code callers answers b (slot.Value value ∷ stack) st) (at (c + 1) stack st) has.0
      (ap (λ (t : Bool). if t then jumping (config code callers answers b (slot.Value value ∷ stack) st) (c + 1) stack else at (b + 1) stack st) is ∙ jump_does b (c + 1) stack st (omega arith))
      (moved code callers answers most Any _ (c + 1 + q.size) (b + (1 + (p.size + (1 + q.size)))) (pushed code callers answers stack) (omega arith) (other most (c + 1) st le back.1))

  -- ---- instructions that need no outcome of the memory model

  runs_cast : (to : CastTo) (value : TypedNumber) (stack : List Slot) → Pushes (plain (i.Cast to ∷ [])) (slot.Value value ∷ stack) stack (λ st. Gives (cast to value) st)
  runs_cast to value stack = runs_instr code callers answers Any (i.Cast to) (slot.Value value ∷ stack) (pushed code callers answers stack) (λ st. Gives (cast to value) st)
      (λ b st. from_gives (cast to value) st (λ v st. at (b + 1) (slot.Value v ∷ stack) st)) (λ most st le. Keeps.gives le tt)

  runs_truth : (value : TypedNumber) (stack : List Slot) → Pushes (plain (i.Truth ∷ [])) (slot.Value value ∷ stack) stack (λ st. Gives (truth_of value) st)
  runs_truth value stack = runs_instr code callers answers Any i.Truth (slot.Value value ∷ stack) (pushed code callers answers stack) (λ st. Gives (truth_of value) st)
      (λ b st. from_gives (truth_of value) st (λ v st. at (b + 1) (slot.Value v ∷ stack) st)) (λ most st le. Keeps.gives le tt)

  runs_typed : (ctype : Option CType) (value : TypedNumber) (stack : List Slot) → Pushes (plain (typed_as ctype)) (slot.Value value ∷ stack) stack (λ st. Gives (means.typed_as ctype value) st)
  runs_typed None value stack = runs_none code callers answers Any value (pushed code callers answers stack) tt
  runs_typed (Some ctype) value stack = runs_cast (to.Number ctype) value stack

  module _ (calls : Calls) where
    abbrev Does : Coding → Valuing → Type 0
    Does = ValueDoes code callers answers calls

    -- a value, and an instruction that makes another of it
    pub with_does : (c : Coding) (v : Valuing) (instr : Scope → Instr) (f : Scope → TypedNumber → State → Outcome TypedNumber) → Does c v
        → ((scope : Scope) (value : TypedNumber) (stack : List Slot) → Pushes (plain (instr scope ∷ [])) (slot.Value value ∷ stack) stack (f scope value))
        → Does (λ scope. with_instr (c scope) (instr scope)) (λ scope calls st. and_then (v scope calls st) (f scope))
    with_does c v instr f d rest = record {
      sized = λ scope. sized_joined (c scope) (plain (instr scope ∷ [])) (d.sized scope) (sized_plain (instr scope ∷ []));
      does = λ scope stack. behind_value code callers answers calls c v scope stack stack (plain (instr scope ∷ [])) (f scope) d (λ value. rest scope value stack);
    }

    pub prefix_does : (line : ℕ) (op : Prefix) (c : Coding) (v : Valuing) → Does c v → Does (λ scope. with_instr (c scope) (i.Prefix line op)) (λ scope calls st. and_then (v scope calls st) (prefixed op line))
    prefix_does line op c v d = with_does c v (λ scope. i.Prefix line op) (λ scope. prefixed op line) d
        (λ scope value stack. runs_instr code callers answers Any (i.Prefix line op) (slot.Value value ∷ stack) (pushed code callers answers stack) (prefixed op line value) (λ b st. refl) (λ most st le. keeps_prefixed most line op value st le))

    pub cast_does : (to : CastTo) (c : Coding) (v : Valuing) → Does c v → Does (λ scope. with_instr (c scope) (i.Cast to)) (λ scope calls st. and_then (v scope calls st) (λ value st. Gives (cast to value) st))
    cast_does to c v d = with_does c v (λ scope. i.Cast to) (λ scope value st. Gives (cast to value) st) d (λ scope value stack. runs_cast to value stack)

    pub literal_does : (value : TypedNumber) → Does (λ scope. plain (i.Push value ∷ [])) (λ scope calls st. Gives value st)
    literal_does value = record { sized = λ scope. sized_plain (i.Push value ∷ []); does = λ scope stack. runs_push code callers answers value stack }

    -- ---- `?:`

    module _ (p : Part Coding) (q : Part Valuing) (d : PartDoes code callers answers calls p q) where
      branch_sized : (ctype : Option CType) (scope : Scope) → IsSized (branch ctype p scope)
      branch_sized ctype scope = sized_joined (p.value scope) (plain (typed_as ctype)) (d.value.sized scope) (sized_plain (typed_as ctype))

      branch_runs : (ctype : Option CType) (scope : Scope) (stack : List Slot) → Pushes (branch ctype p scope) stack stack (means.branch ctype q scope calls)
      branch_runs ctype scope stack = behind_value code callers answers calls p.value q.value scope stack stack (plain (typed_as ctype)) (λ value st. Gives (means.typed_as ctype value) st) d.value (λ value. runs_typed ctype value stack)

      truth_sized : (scope : Scope) → IsSized (right_truth p scope)
      truth_sized scope = sized_joined (p.value scope) (plain (i.Truth ∷ [])) (d.value.sized scope) (sized_plain (i.Truth ∷ []))

      truth_runs : (scope : Scope) (stack : List Slot) → Pushes (right_truth p scope) stack stack (means.right_truth q scope calls)
      truth_runs scope stack = behind_value code callers answers calls p.value q.value scope stack stack (plain (i.Truth ∷ [])) (λ value st. Gives (truth_of value) st) d.value (λ value. runs_truth value stack)

    condition_type : (a : Part Coding) (b : Part Coding) (a' : Part Valuing) (b' : Part Valuing) (scope : Scope) → PartDoes code callers answers calls a a' → PartDoes code callers answers calls b b'
        → branches_type (a.typed scope) (b.typed scope) ≡ branches_type (a'.typed scope) (b'.typed scope)
    condition_type a b a' b' scope d f = ap (λ (t : Option CType). branches_type t (b.typed scope)) (d.typed scope) ∙ ap (λ (t : Option CType). branches_type (a'.typed scope) t) (f.typed scope)

    pub condition_does : (t a b : Part Coding) (t' a' b' : Part Valuing) → PartDoes code callers answers calls t t' → PartDoes code callers answers calls a a' → PartDoes code callers answers calls b b' → Does (condition t a b) (means.condition t' a' b')
    condition_does t a b t' a' b' dt da db = record {
      sized = λ scope. let ctype = branches_type (a.typed scope) (b.typed scope) in
          sized_joined (t.value scope) (chosen (branch ctype a scope) (branch ctype b scope)) (dt.value.sized scope)
          (sized_chosen (branch ctype a scope) (branch ctype b scope) (branch_sized a a' da ctype scope) (branch_sized b b' db ctype scope));
      does = λ scope stack. let ctype = branches_type (a.typed scope) (b.typed scope) in
          runs_same code callers answers Any (condition t a b scope) stack (pushed code callers answers stack)
          (λ st. and_then (t'.value scope calls st) (λ value st. choosing value (means.branch ctype a' scope calls st) (means.branch ctype b' scope calls st))) (means.condition t' a' b' scope calls)
          (λ st. ap (λ (c : Option CType). and_then (t'.value scope calls st) (λ value st. choosing value (means.branch c a' scope calls st) (means.branch c b' scope calls st))) (condition_type a b a' b' scope da db))
          (behind_value code callers answers calls t.value t'.value scope stack stack (chosen (branch ctype a scope) (branch ctype b scope)) (λ value st. choosing value (means.branch ctype a' scope calls st) (means.branch ctype b' scope calls st)) dt.value
          (λ value. chosen_runs (branch ctype a scope) (branch ctype b scope) value stack (means.branch ctype a' scope calls) (means.branch ctype b' scope calls) (is_zero value) refl (branch_sized a a' da ctype scope) (branch_sized b b' db ctype scope)
          (branch_runs a a' da ctype scope stack) (branch_runs b b' db ctype scope stack)));
    }

    -- ---- chains

    infix_sized : (op : Infix) (line : ℕ) (p : Part Coding) (q : Part Valuing) (scope : Scope) → PartDoes code callers answers calls p q → IsSized (infixed op line p scope)
    infix_sized (x.Number op) line p q scope d = sized_joined (p.value scope) (plain (i.Compute line op ∷ [])) (d.value.sized scope) (sized_plain (i.Compute line op ∷ []))
    infix_sized x.Both line p q scope d = sized_chosen (right_truth p scope) (plain (i.Push (truth false) ∷ [])) (truth_sized p q d scope) (sized_plain (i.Push (truth false) ∷ []))
    infix_sized x.Either line p q scope d = sized_chosen (plain (i.Push (truth true) ∷ [])) (right_truth p scope) (sized_plain (i.Push (truth true) ∷ [])) (truth_sized p q d scope)

    infix_runs : (op : Infix) (line : ℕ) (p : Part Coding) (q : Part Valuing) (scope : Scope) (value : TypedNumber) (stack : List Slot) → PartDoes code callers answers calls p q
        → Pushes (infixed op line p scope) (slot.Value value ∷ stack) stack (means.infixed op line q value scope calls)
    infix_runs (x.Number op) line p q scope value stack d = behind_value code callers answers calls p.value q.value scope (slot.Value value ∷ stack) stack (plain (i.Compute line op ∷ [])) (λ right st. computed line (binary_of op value right) st) d.value
        (λ right. runs_compute code callers answers line op value right stack)
    infix_runs x.Both line p q scope value stack d = chosen_runs (right_truth p scope) (plain (i.Push (truth false) ∷ [])) value stack (means.right_truth q scope calls) (λ st. Gives (truth false) st) (is_zero value) refl
        (truth_sized p q d scope) (sized_plain (i.Push (truth false) ∷ [])) (truth_runs p q d scope stack) (runs_push code callers answers (truth false) stack)
    infix_runs x.Either line p q scope value stack d = chosen_runs (plain (i.Push (truth true) ∷ [])) (right_truth p scope) value stack (λ st. Gives (truth true) st) (means.right_truth q scope calls) (is_zero value) refl
        (sized_plain (i.Push (truth true) ∷ [])) (truth_sized p q d scope) (runs_push code callers answers (truth true) stack) (truth_runs p q d scope stack)

    chain_sized : (ls : List (Linked Coding)) (ms : List (Linked Valuing)) (scope : Scope) → AllLinks code callers answers calls ls ms → IsSized (chained ls scope)
    chain_sized _ _ scope nil = sized_plain []
    chain_sized _ _ scope (cons {gs = ls} {hs = ms} (linked op line {p = p} {q = q} d) ds) = sized_joined (infixed op line p scope) (chained ls scope) (infix_sized op line p q scope d) (chain_sized ls ms scope ds)

    chain_runs : (ls : List (Linked Coding)) (ms : List (Linked Valuing)) (scope : Scope) (value : TypedNumber) (stack : List Slot) → AllLinks code callers answers calls ls ms
        → Pushes (chained ls scope) (slot.Value value ∷ stack) stack (means.chained ms value scope calls)
    chain_runs _ _ scope value stack nil = runs_none code callers answers Any value (pushed code callers answers stack) tt
    chain_runs _ _ scope value stack (cons {gs = ls} {hs = ms} (linked op line {p = p} {q = q} d) ds) = runs_joined code callers answers Any Any (infixed op line p scope) (chained ls scope) (slot.Value value ∷ stack) (pushed code callers answers stack) (pushed code callers answers stack)
        (means.infixed op line q value scope calls) (λ value st. means.chained ms value scope calls st) (infix_sized op line p q scope d) (infix_runs op line p q scope value stack d) (λ w t. chain_runs ls ms scope w stack ds)

    pub chain_does : (p : Part Coding) (q : Part Valuing) (ls : List (Linked Coding)) (ms : List (Linked Valuing)) → PartDoes code callers answers calls p q → AllLinks code callers answers calls ls ms
        → Does (λ scope. joined (p.value scope) (chained ls scope)) (λ scope calls st. and_then (q.value scope calls st) (λ value st. means.chained ms value scope calls st))
    chain_does p q ls ms d ds = record {
      sized = λ scope. sized_joined (p.value scope) (chained ls scope) (d.value.sized scope) (chain_sized ls ms scope ds);
      does = λ scope stack. behind_value code callers answers calls p.value q.value scope stack stack (chained ls scope) (λ value st. means.chained ms value scope calls st) d.value (λ value. chain_runs ls ms scope value stack ds);
    }
