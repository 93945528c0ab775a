-- Types are read exactly.
use Rattle.std.proofs.Common.{◌≡◌, ◌<◌, None, Option, Some, ap, arith, length, refl}
use Rattle.c11_ast.specs.declared.expr.CastTo.{CastTo}
use Rattle.c11_ast.specs.declared.place.Spot.{Spot}
use Rattle.c11_ast.specs.declared.place.Word.{Word}
use Rattle.c11_grammar.proofs.Steps.{bind_is, bind_none, given_is, given_not, holds_bind, holds_given, may_shorter, named_not, past, see_sound, sees_is, sees_not, sees_one, skip_is, skip_sound, take_sound, takes_is, takes_not, takes_one, weaken}
use Rattle.c11_grammar.specs.Laws.{Sound, finds}
use Rattle.c11_grammar.specs.Reading.{answer_of, atomic_type_of, cast_to_of, integer_of, see, take}
use Rattle.c11_grammar.specs.Tokens.{Begins, MayTake, Named, Sees, Takes, Tokens, atomic_of, declares, exactly, takes}
use Rattle.c11_grammar.specs.Types.{IsAnswer, IsAtomic, IsCastTo, IsInteger}
use Rattle.c11_grammar.specs.declared.token.Mark.{Mark}
use Rattle.c11_num.specs.declared.value.CType.{CType}
use Rattle.c11_grammar.specs.declared.token.Mark.TheVariants as m
use Rattle.c11_num.specs.declared.value.CType.TheVariants as c
use Rattle.c11_grammar.specs.Tokens as tk
use Rattle.c11_grammar.specs.Types as ty

-- ---- what is read is a type

pub integer_sound : Sound IsInteger integer_of
unfolding integer_of
integer_sound ts =
    holds_given (take_sound m.Int ts) (
    holds_given (take_sound m.Long ts) (
    holds_bind (take_sound m.Unsigned ts) λ p unsigned.
    holds_given (take_sound m.Long p.1) (finds (ty.unsigned unsigned (skip_sound m.Int p.1))) λ q long.
    finds (ty.unsigned_long unsigned long (skip_sound m.Int q.1)))
    λ p long. finds (ty.long long (skip_sound m.Int p.1)))
    λ p int. finds (ty.int int)

pub atomic_sound : Sound IsAtomic atomic_type_of
unfolding atomic_type_of
atomic_sound ts =
    holds_given (see_sound atomic_of ts) (
    holds_bind (take_sound m.Atomic ts) λ p word.
    holds_given (take_sound m.LeftParen p.1)
    (weaken (integer_sound p.1) λ t integer. ty.qualified word integer)
    λ q left. holds_bind (integer_sound q.1) λ t integer. holds_bind (take_sound m.RightParen t.1) λ r right. finds (ty.specified word left integer right))
    λ w word. finds (ty.by_word word)

pub cast_to_sound : Sound IsCastTo cast_to_of
unfolding cast_to_of
cast_to_sound ts = holds_given (take_sound m.Void ts) (holds_bind (integer_sound ts) λ t integer. finds (ty.IsCastTo.number integer))
    λ p word. holds_given (take_sound m.Star p.1) (finds (ty.IsCastTo.nothing word)) λ q star. finds (ty.pointer word star)

pub answer_sound : Sound IsAnswer answer_of
unfolding answer_of
answer_sound ts = holds_given (take_sound m.Void ts) (holds_bind (integer_sound ts) λ t integer. finds (ty.IsAnswer.number integer))
    λ p word. finds (ty.IsAnswer.nothing word)

-- ---- a type is read

-- Behind a type stands no word that goes on with it.
pub record EndsType (ts : Tokens) : Type 0 where
  pub no_int : take m.Int ts ≡ None
  pub no_long : take m.Long ts ≡ None

pub named_ends : {ts rest : Tokens} {word : Word} → Named ts word rest → EndsType ts
named_ends h = record { no_int = named_not (exactly m.Int) h; no_long = named_not (exactly m.Long) h }

pub right_ends : {ts rest : Tokens} {p : Spot} → Takes m.RightParen ts p rest → EndsType ts
right_ends h = record { no_int = takes_not (exactly m.Int) refl h; no_long = takes_not (exactly m.Long) refl h }

no_long_after : (ts rest : Tokens) → MayTake m.Int ts rest → EndsType rest → take m.Long ts ≡ None
no_long_after ts rest tk.without ends = ends.no_long
no_long_after ts rest (tk.with_it h) ends = takes_not (exactly m.Long) refl h

pub integer_complete : (ts : Tokens) (ctype : CType) (rest : Tokens) → IsInteger ts ctype rest → EndsType rest → integer_of ts ≡ Some (ctype, rest)
unfolding integer_of
integer_complete ts ctype rest (ty.int word) ends = given_is _ _ (takes_is word) refl
integer_complete ts ctype rest (ty.long word int) ends = past m.Int _ _ word refl (given_is _ _ (takes_is word) (ap (λ r. Some (c.Long, r)) (skip_is int ends.no_int)))
integer_complete ts ctype rest (ty.unsigned {a = a} word int) ends = past m.Int _ _ word refl (past m.Long _ _ word refl (bind_is _ (takes_is word)
    (given_not _ _ (no_long_after a rest int ends) (ap (λ r. Some (c.Unsigned, r)) (skip_is int ends.no_int)))))
integer_complete ts ctype rest (ty.unsigned_long word long int) ends = past m.Int _ _ word refl (past m.Long _ _ word refl (bind_is _ (takes_is word)
    (given_is _ _ (takes_is long) (ap (λ r. Some (c.ULong, r)) (skip_is int ends.no_int)))))

-- no integer type begins with this mark
pub record NoInteger (ts : Tokens) : Type 0 where
  pub no_int : take m.Int ts ≡ None
  pub no_long : take m.Long ts ≡ None
  pub no_unsigned : take m.Unsigned ts ≡ None

pub no_integer : (ts : Tokens) → NoInteger ts → integer_of ts ≡ None
unfolding integer_of
no_integer ts none = given_not _ _ none.no_int (given_not _ _ none.no_long (bind_none _ none.no_unsigned))

pub named_no_integer : {ts rest : Tokens} {word : Word} → Named ts word rest → NoInteger ts
named_no_integer h = record { no_int = named_not (exactly m.Int) h; no_long = named_not (exactly m.Long) h; no_unsigned = named_not (exactly m.Unsigned) h }

no_paren : {ts rest : Tokens} {ctype : CType} → IsInteger ts ctype rest → take m.LeftParen ts ≡ None
no_paren (ty.int word) = takes_not (exactly m.LeftParen) refl word
no_paren (ty.long word int) = takes_not (exactly m.LeftParen) refl word
no_paren (ty.unsigned word int) = takes_not (exactly m.LeftParen) refl word
no_paren (ty.unsigned_long word long int) = takes_not (exactly m.LeftParen) refl word

atomic_no_int : (mark : Mark) (t : CType) → atomic_of mark ≡ Some t → exactly m.Int mark ≡ None
atomic_no_int m.AtomicInt t e = refl
atomic_no_int m.AtomicUint t e = refl
atomic_no_int m.AtomicLong t e = refl
atomic_no_int m.AtomicUlong t e = refl
atomic_no_int _ t e = cc

atomic_no_long : (mark : Mark) (t : CType) → atomic_of mark ≡ Some t → exactly m.Long mark ≡ None
atomic_no_long m.AtomicInt t e = refl
atomic_no_long m.AtomicUint t e = refl
atomic_no_long m.AtomicLong t e = refl
atomic_no_long m.AtomicUlong t e = refl
atomic_no_long _ t e = cc

atomic_no_unsigned : (mark : Mark) (t : CType) → atomic_of mark ≡ Some t → exactly m.Unsigned mark ≡ None
atomic_no_unsigned m.AtomicInt t e = refl
atomic_no_unsigned m.AtomicUint t e = refl
atomic_no_unsigned m.AtomicLong t e = refl
atomic_no_unsigned m.AtomicUlong t e = refl
atomic_no_unsigned _ t e = cc

atomic_no_void : (mark : Mark) (t : CType) → atomic_of mark ≡ Some t → exactly m.Void mark ≡ None
atomic_no_void m.AtomicInt t e = refl
atomic_no_void m.AtomicUint t e = refl
atomic_no_void m.AtomicLong t e = refl
atomic_no_void m.AtomicUlong t e = refl
atomic_no_void _ t e = cc

atomic_no_mutex : (mark : Mark) (t : CType) → atomic_of mark ≡ Some t → exactly m.MtxT mark ≡ None
atomic_no_mutex m.AtomicInt t e = refl
atomic_no_mutex m.AtomicUint t e = refl
atomic_no_mutex m.AtomicLong t e = refl
atomic_no_mutex m.AtomicUlong t e = refl
atomic_no_mutex _ t e = cc

atomic_no_static : (mark : Mark) (t : CType) → atomic_of mark ≡ Some t → exactly m.Static mark ≡ None
atomic_no_static m.AtomicInt t e = refl
atomic_no_static m.AtomicUint t e = refl
atomic_no_static m.AtomicLong t e = refl
atomic_no_static m.AtomicUlong t e = refl
atomic_no_static _ t e = cc

-- what an atomic type does not begin with
pub record AtomicFirst (ts : Tokens) : Type 0 where
  pub no_integer : NoInteger ts
  pub no_void : take m.Void ts ≡ None
  pub no_mutex : take m.MtxT ts ≡ None
  pub no_static : take m.Static ts ≡ None

word_first : {ts rest : Tokens} {t : CType} {p : Spot} → Sees atomic_of ts t p rest → AtomicFirst ts
word_first h = record {
  no_integer = record {
    no_int = sees_not (exactly m.Int) atomic_no_int h;
    no_long = sees_not (exactly m.Long) atomic_no_long h;
    no_unsigned = sees_not (exactly m.Unsigned) atomic_no_unsigned h;
  };
  no_void = sees_not (exactly m.Void) atomic_no_void h;
  no_mutex = sees_not (exactly m.MtxT) atomic_no_mutex h;
  no_static = sees_not (exactly m.Static) atomic_no_static h;
}

mark_first : {ts rest : Tokens} {p : Spot} → Takes m.Atomic ts p rest → AtomicFirst ts
mark_first h = record {
  no_integer = record { no_int = takes_not (exactly m.Int) refl h; no_long = takes_not (exactly m.Long) refl h; no_unsigned = takes_not (exactly m.Unsigned) refl h };
  no_void = takes_not (exactly m.Void) refl h;
  no_mutex = takes_not (exactly m.MtxT) refl h;
  no_static = takes_not (exactly m.Static) refl h;
}

pub atomic_first : (ts : Tokens) (t : CType) (rest : Tokens) → IsAtomic ts t rest → AtomicFirst ts
atomic_first ts t rest (ty.by_word h) = word_first h
atomic_first ts t rest (ty.qualified h integer) = mark_first h
atomic_first ts t rest (ty.specified h left integer right) = mark_first h

pub atomic_complete : (ts : Tokens) (ctype : CType) (rest : Tokens) → IsAtomic ts ctype rest → EndsType rest → atomic_type_of ts ≡ Some (ctype, rest)
unfolding atomic_type_of
atomic_complete ts t rest (ty.by_word word) ends = given_is _ _ (sees_is word) refl
atomic_complete ts t rest (ty.qualified {a = a} word integer) ends = given_not _ _ (takes_not atomic_of refl word) (bind_is _ (takes_is word)
    (given_not _ _ (no_paren integer) (integer_complete a t rest integer ends)))
atomic_complete ts t rest (ty.specified {b = b} {c = d} word left integer right) ends = given_not _ _ (takes_not atomic_of refl word) (bind_is _ (takes_is word)
    (given_is _ _ (takes_is left) (bind_is _ (integer_complete b t d integer (right_ends right)) (bind_is _ (takes_is right) refl))))

integer_no_void : {ts rest : Tokens} {ctype : CType} → IsInteger ts ctype rest → take m.Void ts ≡ None
integer_no_void (ty.int word) = takes_not (exactly m.Void) refl word
integer_no_void (ty.long word int) = takes_not (exactly m.Void) refl word
integer_no_void (ty.unsigned word int) = takes_not (exactly m.Void) refl word
integer_no_void (ty.unsigned_long word long int) = takes_not (exactly m.Void) refl word

-- what an integer type does not begin with
pub record IntegerFirst (ts : Tokens) : Type 0 where
  pub no_void : take m.Void ts ≡ None
  pub no_mutex : take m.MtxT ts ≡ None
  pub no_static : take m.Static ts ≡ None
  pub no_thread : take m.ThrdT ts ≡ None
  pub no_right : take m.RightParen ts ≡ None
  pub no_brace : take m.RightBrace ts ≡ None
  pub no_semicolon : take m.Semicolon ts ≡ None

integer_mark : (mark : Mark) {ts rest : Tokens} {p : Spot} → Takes mark ts p rest → exactly m.Void mark ≡ None → exactly m.MtxT mark ≡ None → exactly m.Static mark ≡ None
    → exactly m.ThrdT mark ≡ None → exactly m.RightParen mark ≡ None → exactly m.RightBrace mark ≡ None → exactly m.Semicolon mark ≡ None → IntegerFirst ts
integer_mark mark h v x s t r b z = record {
  no_void = takes_not (exactly m.Void) v h;
  no_mutex = takes_not (exactly m.MtxT) x h;
  no_static = takes_not (exactly m.Static) s h;
  no_thread = takes_not (exactly m.ThrdT) t h;
  no_right = takes_not (exactly m.RightParen) r h;
  no_brace = takes_not (exactly m.RightBrace) b h;
  no_semicolon = takes_not (exactly m.Semicolon) z h;
}

pub integer_first : (ts : Tokens) (t : CType) (rest : Tokens) → IsInteger ts t rest → IntegerFirst ts
integer_first ts t rest (ty.int word) = integer_mark m.Int word refl refl refl refl refl refl refl
integer_first ts t rest (ty.long word int) = integer_mark m.Long word refl refl refl refl refl refl refl
integer_first ts t rest (ty.unsigned word int) = integer_mark m.Unsigned word refl refl refl refl refl refl refl
integer_first ts t rest (ty.unsigned_long word long int) = integer_mark m.Unsigned word refl refl refl refl refl refl refl

pub integer_declares : (ts : Tokens) (t : CType) (rest : Tokens) → IsInteger ts t rest → (p : Spot) → Begins ts p → (r : (Unit {0} × Spot) × Tokens) × (see declares ts ≡ Some r)
integer_declares ts t rest (ty.int takes) p b = (_, refl)
integer_declares ts t rest (ty.long takes int) p b = (_, refl)
integer_declares ts t rest (ty.unsigned takes int) p b = (_, refl)
integer_declares ts t rest (ty.unsigned_long takes long int) p b = (_, refl)

pub integer_shorter : (ts : Tokens) (t : CType) (rest : Tokens) → IsInteger ts t rest → length rest < length ts
integer_shorter ts t rest (ty.int word) = omega (arith, takes_one word)
integer_shorter ts t rest (ty.long word int) = omega (arith, takes_one word, may_shorter int)
integer_shorter ts t rest (ty.unsigned word int) = omega (arith, takes_one word, may_shorter int)
integer_shorter ts t rest (ty.unsigned_long word long int) = omega (arith, takes_one word, takes_one long, may_shorter int)

pub atomic_shorter : (ts : Tokens) (t : CType) (rest : Tokens) → IsAtomic ts t rest → length rest < length ts
atomic_shorter ts t rest (ty.by_word word) = omega (arith, sees_one word)
atomic_shorter ts t rest (ty.qualified {a = a} word integer) = omega (arith, takes_one word, integer_shorter a t rest integer)
atomic_shorter ts t rest (ty.specified {b = b} {c = d} word left integer right) = omega (arith, takes_one word, takes_one left, integer_shorter b t d integer, takes_one right)

pub cast_to_complete : (ts : Tokens) (to : CastTo) (a rest : Tokens) (q : Spot) → IsCastTo ts to a → Takes m.RightParen a q rest → cast_to_of ts ≡ Some (to, a)
unfolding cast_to_of
cast_to_complete ts to a rest q (ty.IsCastTo.number {ctype = t} integer) right = given_not _ _ (integer_no_void integer) (bind_is _ (integer_complete ts t a integer (right_ends right)) refl)
cast_to_complete ts to a rest q (ty.IsCastTo.nothing word) right = given_is _ _ (takes_is word) (past m.Star _ _ right refl refl)
cast_to_complete ts to a rest q (ty.pointer word star) right = given_is _ _ (takes_is word) (given_is _ _ (takes_is star) refl)

pub cast_to_shorter : (ts : Tokens) (to : CastTo) (rest : Tokens) → IsCastTo ts to rest → length rest < length ts
cast_to_shorter ts to rest (ty.IsCastTo.number {ctype = t} integer) = integer_shorter ts t rest integer
cast_to_shorter ts to rest (ty.IsCastTo.nothing word) = omega (arith, takes_one word)
cast_to_shorter ts to rest (ty.pointer word star) = omega (arith, takes_one word, takes_one star)

pub answer_complete : (ts : Tokens) (answers : Option CType) (a rest : Tokens) (word : Word) → IsAnswer ts answers a → Named a word rest → answer_of ts ≡ Some (answers, a)
unfolding answer_of
answer_complete ts answers a rest word (ty.IsAnswer.nothing h) begins_it = given_is _ _ (takes_is h) refl
answer_complete ts answers a rest word (ty.IsAnswer.number {ctype = t} integer) begins_it = given_not _ _ (integer_no_void integer)
    (bind_is _ (integer_complete ts t a integer (named_ends begins_it)) refl)

pub answer_shorter : (ts : Tokens) (answers : Option CType) (rest : Tokens) → IsAnswer ts answers rest → length rest < length ts
answer_shorter ts answers rest (ty.IsAnswer.nothing h) = omega (arith, takes_one h)
answer_shorter ts answers rest (ty.IsAnswer.number {ctype = t} integer) = integer_shorter ts t rest integer
