-- Items of the grammar are read.
use Rattle.std.proofs.Common.{◌≡◌, ◌<◌, ◌∷◌, ◌∙◌, [], if◌then◌else◌, Bool, List, None, Option, Some, ap, arith, false, length, refl, true}
use Rattle.c11_ast.specs.declared.item.GlobalKind.{GlobalKind}
use Rattle.c11_ast.specs.declared.item.Item.{Item}
use Rattle.c11_ast.specs.declared.item.Var.{Var}
use Rattle.c11_ast.specs.declared.place.Place.{Place}
use Rattle.c11_ast.specs.declared.place.Spot.{Spot}
use Rattle.c11_ast.specs.declared.place.Word.{Word}
use Rattle.c11_grammar.proofs.DeclComplete.{mutex_complete, mutex_shorter, params_complete, params_shorter, size_not, started_complete, started_ends, started_shorter}
use Rattle.c11_grammar.proofs.Integers.{EndsType, answer_complete, answer_shorter, atomic_complete, atomic_first, atomic_shorter, integer_complete, integer_first, integer_shorter, no_integer}
use Rattle.c11_grammar.proofs.Steps.{begins_is, bind_is, bind_none, closes, commas_complete, commas_first, commas_shorter, counted_is, counted_one, given_is, given_not, may_shorter, named_is, named_one, past, skip_is, takes_is, takes_not, takes_one}
use Rattle.c11_grammar.proofs.StmtComplete.{block_complete, block_shorter, decl_at_complete, decl_at_shape, stmt_at_complete, stmt_at_shape}
use Rattle.c11_grammar.specs.Declarations.{IsMutexVar, IsPlace, IsVar}
use Rattle.c11_grammar.specs.Programs.{IsGlobals, IsItem}
use Rattle.c11_grammar.specs.Reading.{Out, answer_of, decl_reader, declared_of, define_after, function_after, global_after, globals_of, head_of, item_of, mutex_var, name, see_sort, seen, started_var, stmt_reader, take}
use Rattle.c11_grammar.specs.Statements.{decl_at, stmt_at}
use Rattle.c11_grammar.specs.Tokens.{Begins, Commas, MayTake, Sees, Takes, Tokens, atomic_of, exactly, sees, takes}
use Rattle.c11_grammar.specs.Types.{IsAnswer, IsAtomic, IsInteger}
use Rattle.c11_grammar.specs.contracts.token.Mark.{the_type}
use Rattle.c11_grammar.specs.declared.token.Mark.{Mark}
use Rattle.c11_grammar.specs.declared.token.Sort.{Sort}
use Rattle.c11_num.specs.declared.value.CType.{CType}
use denote.Enum.Bare.{same_true, sameb}
use Rattle.c11_grammar.specs.declared.token.Mark.TheVariants as m
use Rattle.c11_grammar.specs.declared.token.Sort.TheVariants as sort
use Rattle.c11_grammar.specs.Tokens as tk
use Rattle.c11_grammar.specs.Types as ty
use Rattle.c11_grammar.specs.Declarations as dc
use Rattle.c11_grammar.specs.Statements as st
use Rattle.c11_grammar.specs.Programs as pr

-- ---- the words that begin a type

abbrev pub types : Mark → Bool
types m.Int = true
types m.Unsigned = true
types m.Long = true
types m.Void = true
types m.Atomic = true
types m.AtomicInt = true
types m.AtomicUint = true
types m.AtomicLong = true
types m.AtomicUlong = true
types m.MtxT = true
types _ = false

abbrev pub typed_sort : Sort → Bool
typed_sort (sort.Mark mark) = types mark
typed_sort (sort.Name n) = false
typed_sort (sort.Literal n) = false
typed_sort (sort.Text n) = false
typed_sort sort.Reserved = false

abbrev pub typed : Tokens → Bool
typed [] = false
typed (t ∷ ts) = typed_sort t.sort

opposite : (mark other : Mark) → mark ≡ other → types mark ≡ false → types other ≡ true → ⊥
opposite mark other equal shut open_ = let same : types mark ≡ types other = ap types equal in cc

differs : (mark other : Mark) (p : Spot) (rest : Tokens) (b : Bool) → sameb the_type mark other ≡ b → types mark ≡ false → types other ≡ true
    → seen {A = Unit {0}} (if b then Some tt else None) p rest ≡ None
differs mark other p rest true same shut open_ = absurd (opposite mark other (same_true the_type tt mark other same) shut open_)
differs mark other p rest false same shut open_ = refl

no_type : (mark : Mark) → types mark ≡ false → (ts : Tokens) → typed ts ≡ true → take mark ts ≡ None
no_type mark shut [] opening = refl
no_type mark shut (t ∷ ts) opening = sort_differs t.sort opening
  where
    sort_differs : (s : Sort) → typed_sort s ≡ true → see_sort (exactly mark) s t.spot ts ≡ None
    sort_differs (sort.Mark other) open_ = differs mark other t.spot ts (sameb the_type mark other) refl shut open_
    sort_differs (sort.Name n) open_ = refl
    sort_differs (sort.Literal n) open_ = refl
    sort_differs (sort.Text n) open_ = refl
    sort_differs sort.Reserved open_ = refl

takes_typed : {mark : Mark} {ts rest : Tokens} {p : Spot} → Takes mark ts p rest → types mark ≡ true → typed ts ≡ true
takes_typed takes is = is

atomic_types : (mark : Mark) (t : CType) → atomic_of mark ≡ Some t → types mark ≡ true
atomic_types m.AtomicInt t e = refl
atomic_types m.AtomicUint t e = refl
atomic_types m.AtomicLong t e = refl
atomic_types m.AtomicUlong t e = refl
atomic_types _ t e = cc

sees_typed : {ts rest : Tokens} {t : CType} {p : Spot} → Sees atomic_of ts t p rest → typed ts ≡ true
sees_typed (sees {mark = mark} e) = atomic_types mark _ e

integer_typed : (ts : Tokens) (t : CType) (rest : Tokens) → IsInteger ts t rest → typed ts ≡ true
integer_typed ts t rest (ty.int word) = takes_typed word refl
integer_typed ts t rest (ty.long word int) = takes_typed word refl
integer_typed ts t rest (ty.unsigned word int) = takes_typed word refl
integer_typed ts t rest (ty.unsigned_long word long int) = takes_typed word refl

atomic_typed : (ts : Tokens) (t : CType) (rest : Tokens) → IsAtomic ts t rest → typed ts ≡ true
atomic_typed ts t rest (ty.by_word word) = sees_typed word
atomic_typed ts t rest (ty.qualified word integer) = takes_typed word refl
atomic_typed ts t rest (ty.specified word left integer right) = takes_typed word refl

answer_typed : (ts : Tokens) (answers : Option CType) (rest : Tokens) → IsAnswer ts answers rest → typed ts ≡ true
answer_typed ts answers rest (ty.IsAnswer.nothing word) = takes_typed word refl
answer_typed ts answers rest (ty.IsAnswer.number {ctype = t} integer) = integer_typed ts t rest integer

globals_typed : (ts : Tokens) (k : GlobalKind) (vars : List Var) (rest : Tokens) → IsGlobals ts k vars rest → typed ts ≡ true
globals_typed ts k vars rest (pr.plain {a = a} {ctype = t} integer all) = integer_typed ts t a integer
globals_typed ts k vars rest (pr.atomic {a = a} {ctype = t} type all) = atomic_typed ts t a type
globals_typed ts k vars rest (pr.mutexes word all) = takes_typed word refl

-- no directive begins where a type does, with `static` before it or without
static_not : (mark : Mark) → types mark ≡ false → exactly mark m.Static ≡ None → (ts a : Tokens) → MayTake m.Static ts a → typed a ≡ true → take mark ts ≡ None
static_not mark shut differ ts a tk.without first = no_type mark shut ts first
static_not mark shut differ ts a (tk.with_it word) first = takes_not (exactly mark) differ word

-- ---- globals

globals_complete : (ts : Tokens) (k : GlobalKind) (vars : List Var) (a rest : Tokens) (q : Spot) → IsGlobals ts k vars a → Takes m.Semicolon a q rest → globals_of ts ≡ Some ((k, vars), a)
unfolding globals_of
globals_complete ts k vars a rest q (pr.plain {a = b} {ctype = t} integer all) end = given_not _ _ (integer_first ts t b integer).no_mutex
    (given_is _ _ (integer_complete ts t b integer (commas_first IsVar EndsType started_ends b vars a all))
    (bind_is _ (commas_complete IsVar started_var 13 (omega arith) started_complete started_shorter (length b) [] b vars a all (closes m.Semicolon end (omega arith))
    (takes_not (exactly m.Comma) refl end) (omega arith)) refl))
globals_complete ts k vars a rest q (pr.atomic {a = b} {ctype = t} type all) end = given_not _ _ (atomic_first ts t b type).no_mutex
    (given_not _ _ (no_integer ts (atomic_first ts t b type).no_integer)
    (bind_is _ (atomic_complete ts t b type (commas_first IsVar EndsType started_ends b vars a all))
    (bind_is _ (commas_complete IsVar started_var 13 (omega arith) started_complete started_shorter (length b) [] b vars a all (closes m.Semicolon end (omega arith))
    (takes_not (exactly m.Comma) refl end) (omega arith)) refl)))
globals_complete ts k vars a rest q (pr.mutexes {a = b} word all) end = given_is _ _ (takes_is word)
    (bind_is _ (commas_complete IsMutexVar mutex_var 13 (omega arith) mutex_complete mutex_shorter (length b) [] b vars a all (closes m.Semicolon end (omega arith))
    (takes_not (exactly m.Comma) refl end) (omega arith)) refl)

globals_shorter : (ts : Tokens) (k : GlobalKind) (vars : List Var) (rest : Tokens) → IsGlobals ts k vars rest → length rest < length ts
globals_shorter ts k vars rest (pr.plain {a = a} {ctype = t} integer all) = omega (arith, integer_shorter ts t a integer, commas_shorter IsVar started_shorter a vars rest all)
globals_shorter ts k vars rest (pr.atomic {a = a} {ctype = t} type all) = omega (arith, atomic_shorter ts t a type, commas_shorter IsVar started_shorter a vars rest all)
globals_shorter ts k vars rest (pr.mutexes {a = a} word all) = omega (arith, takes_one word, commas_shorter IsMutexVar mutex_shorter a vars rest all)

-- a name, and behind it no parenthesis
record Uncalled (ts : Tokens) : Type 0 where
  word : Word
  after : Tokens
  front : name ts ≡ Some (word, after)
  none : take m.LeftParen after ≡ None

place_uncalled : (ts : Tokens) (x : Place) (rest : Tokens) → IsPlace ts x rest → take m.LeftParen rest ≡ None → Uncalled ts
place_uncalled ts x rest (dc.sized {a = a} {word = w} {size = k} front size) none = record { word = w; after = a; front = named_is front; none = size_not m.LeftParen refl a k rest size none }

var_uncalled : (ts : Tokens) (x : Var) (rest : Tokens) → IsVar ts x rest → take m.LeftParen rest ≡ None → Uncalled ts
var_uncalled ts x rest (dc.absent {place = p} place) none = place_uncalled ts p rest place none
var_uncalled ts x rest (dc.started {a = a} {place = p} place set value) none = place_uncalled ts p a place (takes_not (exactly m.LeftParen) refl set)

vars_uncalled : (ts : Tokens) (xs : List Var) (rest : Tokens) → Commas IsVar ts xs rest → take m.LeftParen rest ≡ None → Uncalled ts
vars_uncalled ts xs rest (tk.last {x = x} one) none = var_uncalled ts x rest one none
vars_uncalled ts xs rest (tk.comma {a = a} {x = x} one comma tail) none = var_uncalled ts x a one (takes_not (exactly m.LeftParen) refl comma)

-- what begins as globals is no head of a function
no_head : (ts : Tokens) (k : GlobalKind) (vars : List Var) (a rest : Tokens) (q : Spot) → IsGlobals ts k vars a → Takes m.Semicolon a q rest → head_of ts ≡ None
unfolding head_of answer_of
no_head ts k vars a rest q (pr.plain {a = b} {ctype = t} integer all) end =
    let front = vars_uncalled b vars a all (takes_not (exactly m.LeftParen) refl end) in
    bind_is _ (given_not _ _ (integer_first ts t b integer).no_void (bind_is _ (integer_complete ts t b integer (commas_first IsVar EndsType started_ends b vars a all)) refl))
    (bind_is _ front.front (bind_none _ front.none))
no_head ts k vars a rest q (pr.atomic {a = b} {ctype = t} type all) end = bind_none _ (given_not _ _ (atomic_first ts t b type).no_void
    (bind_none _ (no_integer ts (atomic_first ts t b type).no_integer)))
no_head ts k vars a rest q (pr.mutexes word all) end = bind_none _ (past m.Void _ _ word refl
    (bind_none _ (no_integer ts (record { no_int = takes_not (exactly m.Int) refl word; no_long = takes_not (exactly m.Long) refl word; no_unsigned = takes_not (exactly m.Unsigned) refl word }))))

-- ---- items

declared_goes : (ts a : Tokens) (p : Spot) (y : Out Item) → Begins ts p → MayTake m.Static ts a → typed a ≡ true → declared_of p a ≡ y → item_of ts ≡ y
unfolding item_of
declared_goes ts a p y first may type goes = given_not _ _ (static_not m.Include refl refl ts a may type) (given_not _ _ (static_not m.Define refl refl ts a may type)
    (bind_is _ (begins_is first) (ap (declared_of p) (skip_is may (no_type m.Static refl a type)) ∙ goes)))

pub item_complete : (ts : Tokens) (item : Item) (rest : Tokens) → IsItem ts item rest → item_of ts ≡ Some (item, rest)
unfolding item_of define_after declared_of global_after function_after head_of
item_complete ts it rest (pr.include word) = given_is _ _ (takes_is word) refl
item_complete ts it rest (pr.define word front number) = past m.Include _ _ word refl (given_is _ _ (takes_is word)
    (bind_is _ (named_is front) (bind_is _ (counted_is number) refl)))
item_complete ts it rest (pr.global {a = a} {b = b} {p = p} {q = q} {kind = k} {vars = vars} first may globals end) = declared_goes ts a p _ first may (globals_typed a k vars b globals)
    (given_not _ _ (no_head a k vars b rest q globals end) (bind_is _ (globals_complete a k vars b rest q globals end) (bind_is _ (takes_is end) refl)))
item_complete ts it rest (pr.function {a = a} {b = b} {c = c} {d = d} {e = f} {f = h} {p = p} {r = r} {answers = o} {word = w} {params = xs} first may answer front left params right
    (st.block {a = i} {b = j} {p = u} {q = v} {items = all} brace inner close)) = declared_goes ts a p _ first may (answer_typed a o b answer)
    (given_is _ _ (bind_is _ (answer_complete a o b c w answer front) (bind_is _ (named_is front) (bind_is _ (takes_is left) refl)))
    (bind_is _ (params_complete d xs f h r params right) (bind_is _ (takes_is brace)
    (bind_is _ (block_complete (decl_at 63) (decl_at_shape 63) (stmt_at 63) (stmt_at_shape 63) (decl_reader 63) (decl_at_complete 63) (stmt_reader 63) (stmt_at_complete 63)
    i all j rest u v inner close) refl))))

pub item_shorter : (ts : Tokens) (item : Item) (rest : Tokens) → IsItem ts item rest → length rest < length ts
item_shorter ts it rest (pr.include word) = omega (arith, takes_one word)
item_shorter ts it rest (pr.define word front number) = omega (arith, takes_one word, named_one front, counted_one number)
item_shorter ts it rest (pr.global {a = a} {b = b} {kind = k} {vars = vars} first may globals end) = omega (arith, may_shorter may, globals_shorter a k vars b globals, takes_one end)
item_shorter ts it rest (pr.function {a = a} {b = b} {d = d} {e = f} {f = h} {answers = o} {params = xs} {body = x} first may answer front left params right body) =
    omega (
      arith,
      may_shorter may,
      answer_shorter a o b answer,
      named_one front,
      takes_one left,
      params_shorter d xs f params,
      takes_one right,
      block_shorter (decl_at 63) (decl_at_shape 63) (stmt_at 63) (stmt_at_shape 63) h x rest body,
    )
