-- Declarations of the grammar are read.
use Rattle.std.proofs.Common.{◌≡◌, ◌<◌, ◌≤◌, ◌∷◌, ◌++◌, ◌∙◌, [], List, None, Option, Some, ap, arith, length, refl, suc, zero, ℕ}
use Rattle.c11_ast.specs.declared.expr.Expr.{Expr}
use Rattle.c11_ast.specs.declared.item.Param.{Param}
use Rattle.c11_ast.specs.declared.item.Start.{Start}
use Rattle.c11_ast.specs.declared.item.Var.{Var}
use Rattle.c11_ast.specs.declared.place.Constant.{Constant}
use Rattle.c11_ast.specs.declared.place.Known.{Known}
use Rattle.c11_ast.specs.declared.place.Place.{Place}
use Rattle.c11_ast.specs.declared.place.Spot.{Spot}
use Rattle.c11_ast.specs.declared.stmt.Local.{Local}
use Rattle.c11_ast.specs.declared.stmt.Stmt.{Stmt}
use Rattle.c11_grammar.proofs.Integers.{EndsType, integer_complete, integer_declares, integer_first, integer_shorter, named_ends}
use Rattle.c11_grammar.proofs.Shapes.{Shape}
use Rattle.c11_grammar.proofs.Steps.{begins_is, bind_is, bind_none, closes, commas_complete, commas_first, commas_shorter, counted_is, counted_not, counted_one, given_is, given_not, may_shorter, named_is, named_no_literal, named_not, named_one, not_taken, past, takes_binds, takes_is, takes_not, takes_one}
use Rattle.c11_grammar.specs.Declarations.{IsConstant, IsDecl, IsInitializer, IsKnown, IsLocal, IsMutexVar, IsParam, IsParams, IsPlace, IsSigned, IsSize, IsStart, IsVar}
use Rattle.c11_grammar.specs.Laws.{Complete}
use Rattle.c11_grammar.specs.Reading.{Out, constant_of, decl_of, initializer_of, known_of, local_of, mutex_var, param_of, params_of, place_of, see, signed_of, size_after, start_of, started_var, starts, take, void_only}
use Rattle.c11_grammar.specs.Tokens.{Commas, MayTake, Takes, Tokens, declares, exactly, takes}
use Rattle.c11_grammar.specs.declared.token.Mark.{Mark}
use Rattle.std.proofs.lemmas.List.{append_assoc}
use Rattle.c11_grammar.specs.declared.token.Mark.TheVariants as m
use Rattle.c11_grammar.specs.Tokens as tk
use Rattle.c11_grammar.specs.Declarations as dc

-- What is a part is read, whatever follows it.
abbrev pub Always : {A : Type 0} → (Tokens → A → Tokens → Type 0) → (Tokens → Out A) → Type 0
Always {A = A} is read = (ts : Tokens) (part : A) (rest : Tokens) → is ts part rest → read ts ≡ Some (part, rest)

-- ---- constants

known_is : {ts rest : Tokens} {value : Known} {p : Spot} → IsKnown ts value p rest → known_of ts ≡ Some ((value, p), rest)
unfolding known_of
known_is (dc.literal number) = given_is _ _ (counted_is number) refl
known_is (dc.name front) = given_not _ _ (named_no_literal front) (bind_is _ (named_is front) refl)

known_not : {A : Type 0} {ts rest : Tokens} {value : Known} {p : Spot} (what : Mark → Option A) → IsKnown ts value p rest → see what ts ≡ None
known_not what (dc.literal number) = counted_not what number
known_not what (dc.name front) = named_not what front

known_one : {ts rest : Tokens} {value : Known} {p : Spot} → IsKnown ts value p rest → length ts ≡ suc (length rest)
known_one (dc.literal number) = counted_one number
known_one (dc.name front) = named_one front

constant_complete : Always IsConstant constant_of
unfolding constant_of
constant_complete ts k rest (dc.constant value) = bind_is _ (known_is value) refl

constant_shorter : (ts : Tokens) (k : Constant) (rest : Tokens) → IsConstant ts k rest → length rest < length ts
constant_shorter ts k rest (dc.constant value) = omega (arith, known_one value)

signed_complete : Always IsSigned signed_of
unfolding signed_of constant_of
signed_complete ts k rest (dc.IsSigned.plain value) = given_not _ _ (known_not (exactly m.Minus) value) (bind_is _ (known_is value) refl)
signed_complete ts k rest (dc.minus minus value) = given_is _ _ (takes_is minus) (bind_is _ (known_is value) refl)

signed_not : (mark : Mark) → exactly mark m.Minus ≡ None → (ts : Tokens) (k : Constant) (rest : Tokens) → IsSigned ts k rest → take mark ts ≡ None
signed_not mark differ ts k rest (dc.IsSigned.plain value) = known_not (exactly mark) value
signed_not mark differ ts k rest (dc.minus minus value) = takes_not (exactly mark) differ minus

signed_shorter : (ts : Tokens) (k : Constant) (rest : Tokens) → IsSigned ts k rest → length rest < length ts
signed_shorter ts k rest (dc.IsSigned.plain value) = omega (arith, known_one value)
signed_shorter ts k rest (dc.minus minus value) = omega (arith, takes_one minus, known_one value)

start_complete : Always IsStart start_of
unfolding start_of
start_complete ts k rest (dc.IsStart.plain value) = given_not _ _ (signed_not m.AtomicVarInit refl ts k rest value) (signed_complete ts k rest value)
start_complete ts k rest (dc.wrapped {b = b} {c = d} {constant = j} word left value right) = given_is _ _ (takes_is word) (bind_is _ (takes_is left)
    (bind_is _ (signed_complete b j d value) (bind_is _ (takes_is right) refl)))

start_not : (mark : Mark) → exactly mark m.Minus ≡ None → exactly mark m.AtomicVarInit ≡ None → (ts : Tokens) (k : Constant) (rest : Tokens) → IsStart ts k rest → take mark ts ≡ None
start_not mark minus init ts k rest (dc.IsStart.plain value) = signed_not mark minus ts k rest value
start_not mark minus init ts k rest (dc.wrapped word left value right) = takes_not (exactly mark) init word

start_shorter : (ts : Tokens) (k : Constant) (rest : Tokens) → IsStart ts k rest → length rest < length ts
start_shorter ts k rest (dc.IsStart.plain value) = signed_shorter ts k rest value
start_shorter ts k rest (dc.wrapped {b = b} {c = d} {constant = j} word left value right) = omega (arith, takes_one word, takes_one left, signed_shorter b j d value, takes_one right)

-- ---- places and variables

size_complete : Complete 0 IsSize size_after
unfolding size_after
size_complete ts size rest dc.single less = given_not _ _ (not_taken m.LeftSquare rest less) refl
size_complete ts size rest (dc.array {a = a} {b = b} {size = k} left value right) less = given_is _ _ (takes_is left)
    (bind_is _ (constant_complete a k b value) (bind_is _ (takes_is right) refl))

size_shorter : (ts : Tokens) (size : Option Constant) (rest : Tokens) → IsSize ts size rest → length rest ≤ length ts
size_shorter ts size rest dc.single = omega arith
size_shorter ts size rest (dc.array {a = a} {b = b} {size = k} left value right) = omega (arith, takes_one left, constant_shorter a k b value, takes_one right)

pub size_not : (mark : Mark) → exactly mark m.LeftSquare ≡ None → (ts : Tokens) (size : Option Constant) (rest : Tokens) → IsSize ts size rest → take mark rest ≡ None → take mark ts ≡ None
size_not mark differ ts size rest dc.single none = none
size_not mark differ ts size rest (dc.array left value right) none = takes_not (exactly mark) differ left

place_complete : Complete 0 IsPlace place_of
unfolding place_of
place_complete ts place rest (dc.sized {a = a} {size = k} front size) less = bind_is _ (named_is front) (bind_is _ (size_complete a k rest size less) refl)

place_shorter : (ts : Tokens) (place : Place) (rest : Tokens) → IsPlace ts place rest → length rest < length ts
place_shorter ts place rest (dc.sized {a = a} {size = k} front size) = omega (arith, named_one front, size_shorter a k rest size)

place_ends : (ts : Tokens) (place : Place) (rest : Tokens) → IsPlace ts place rest → EndsType ts
place_ends ts place rest (dc.sized front size) = named_ends front

starts_complete : (n : ℕ) (found : List Constant) (ts : Tokens) (xs : List Constant) (a b rest : Tokens) (q : Spot) → Commas IsStart ts xs a → MayTake m.Comma a b
    → Takes m.RightBrace b q rest → length ts ≤ n → starts n found ts ≡ Some (found ++ xs, rest)
unfolding starts
starts_complete zero found ts xs a b rest q all may right room = absurd (omega (arith, commas_shorter IsStart start_shorter ts xs a all))
starts_complete (suc n) found ts xs a b rest q (tk.last {x = x} one) tk.without right room = bind_is _ (start_complete ts x a one)
    (past m.Comma _ _ right refl (bind_is _ (takes_is right) refl))
starts_complete (suc n) found ts xs a b rest q (tk.last {x = x} one) (tk.with_it comma) right room = bind_is _ (start_complete ts x a one)
    (given_is _ _ (takes_is comma) (given_is _ _ (takes_is right) refl))
starts_complete (suc n) found ts xs a b rest q (tk.comma {a = d} {b = f} {x = x} {xs = others} one comma tail) may right room = bind_is _ (start_complete ts x d one)
    (given_is _ _ (takes_is comma) (given_not _ _ (commas_first IsStart (λ t. take m.RightBrace t ≡ None) (start_not m.RightBrace refl refl) f others a tail)
    (starts_complete n (found ++ x ∷ []) f others a b rest q tail may right (omega (arith, start_shorter ts x d one, takes_one comma))
    ∙ ap (λ l. Some (l, rest)) (append_assoc found (x ∷ []) others))))

initializer_complete : Always IsInitializer initializer_of
unfolding initializer_of
initializer_complete ts v rest (dc.one {constant = k} value) = given_not _ _ (start_not m.LeftBrace refl refl ts k rest value) (bind_is _ (start_complete ts k rest value) refl)
initializer_complete ts v rest (dc.brace {a = a} {b = b} {c = d} {q = q} {constants = ks} left all may right) = given_is _ _ (takes_is left)
    (bind_is _ (starts_complete (length a) [] a ks b d rest q all may right (omega arith)) refl)

initializer_shorter : (ts : Tokens) (v : Start) (rest : Tokens) → IsInitializer ts v rest → length rest < length ts
initializer_shorter ts v rest (dc.one {constant = k} value) = start_shorter ts k rest value
initializer_shorter ts v rest (dc.brace {a = a} {b = b} {constants = ks} left all may right) = omega (arith, takes_one left, commas_shorter IsStart start_shorter a ks b all, may_shorter may, takes_one right)

pub started_complete : Complete 13 IsVar started_var
unfolding started_var
started_complete ts v rest (dc.absent {place = p} place) less = bind_is _ (place_complete ts p rest place (omega arith)) (given_not _ _ (not_taken m.Set rest less) refl)
started_complete ts v rest (dc.started {a = a} {b = b} {place = p} {value = w} place set value) less = bind_is _ (place_complete ts p a place (omega (arith, takes_binds set)))
    (given_is _ _ (takes_is set) (bind_is _ (initializer_complete b w rest value) refl))

pub started_shorter : (ts : Tokens) (v : Var) (rest : Tokens) → IsVar ts v rest → length rest < length ts
started_shorter ts v rest (dc.absent {place = p} place) = place_shorter ts p rest place
started_shorter ts v rest (dc.started {a = a} {b = b} {place = p} {value = w} place set value) = omega (arith, place_shorter ts p a place, takes_one set, initializer_shorter b w rest value)

pub started_ends : (ts : Tokens) (v : Var) (rest : Tokens) → IsVar ts v rest → EndsType ts
started_ends ts v rest (dc.absent {place = p} place) = place_ends ts p rest place
started_ends ts v rest (dc.started {a = a} {place = p} place set value) = place_ends ts p a place

pub mutex_complete : Complete 13 IsMutexVar mutex_var
unfolding mutex_var
mutex_complete ts v rest (dc.mutex {place = p} place) less = bind_is _ (place_complete ts p rest place (omega arith)) refl

pub mutex_shorter : (ts : Tokens) (v : Var) (rest : Tokens) → IsMutexVar ts v rest → length rest < length ts
mutex_shorter ts v rest (dc.mutex {place = p} place) = place_shorter ts p rest place

-- ---- parameters

param_complete : Complete 13 IsParam param_of
unfolding param_of
param_complete ts x rest (dc.number {a = a} {ctype = t} first integer front) less = given_not _ _ (integer_first ts t a integer).no_void (bind_is _ (begins_is first)
    (bind_is _ (integer_complete ts t a integer (named_ends front)) (bind_is _ (named_is front) refl)))
param_complete ts x rest (dc.pointer word star front) less = given_is _ _ (takes_is word) (bind_is _ (takes_is star) (bind_is _ (named_is front) refl))

param_shorter : (ts : Tokens) (x : Param) (rest : Tokens) → IsParam ts x rest → length rest < length ts
param_shorter ts x rest (dc.number {a = a} {ctype = t} first integer front) = omega (arith, integer_shorter ts t a integer, named_one front)
param_shorter ts x rest (dc.pointer word star front) = omega (arith, takes_one word, takes_one star, named_one front)

-- parameters do not begin with a closing parenthesis, nor with `void` and one
record ParamFirst (ts : Tokens) : Type 0 where
  no_right : take m.RightParen ts ≡ None
  no_void : void_only ts ≡ None

param_first : (ts : Tokens) (x : Param) (rest : Tokens) → IsParam ts x rest → ParamFirst ts
unfolding void_only
param_first ts x rest (dc.number {a = a} {ctype = t} first integer front) = record { no_right = (integer_first ts t a integer).no_right; no_void = bind_none _ (integer_first ts t a integer).no_void }
param_first ts x rest (dc.pointer word star front) = record {
  no_right = takes_not (exactly m.RightParen) refl word;
  no_void = bind_is _ (takes_is word) (takes_not (exactly m.RightParen) refl star);
}

pub params_complete : (ts : Tokens) (xs : List Param) (a rest : Tokens) (q : Spot) → IsParams ts xs a → Takes m.RightParen a q rest → params_of ts ≡ Some (xs, rest)
unfolding params_of void_only
params_complete ts xs a rest q dc.none right = given_is _ _ (takes_is right) refl
params_complete ts xs a rest q (dc.void word) right = past m.RightParen _ _ word refl (given_is _ _ (bind_is _ (takes_is word) (takes_is right)) refl)
params_complete ts xs a rest q (dc.some all) right =
    let first = commas_first IsParam ParamFirst param_first ts xs a all in
    given_not _ _ first.no_right (given_not _ _ first.no_void
    (bind_is _ (commas_complete IsParam param_of 13 (omega arith) param_complete param_shorter (length ts) [] ts xs a all (closes m.RightParen right (omega arith)) (takes_not (exactly m.Comma) refl right) (omega arith))
    (bind_is _ (takes_is right) refl)))

pub params_shorter : (ts : Tokens) (xs : List Param) (rest : Tokens) → IsParams ts xs rest → length rest ≤ length ts
params_shorter ts xs rest dc.none = omega arith
params_shorter ts xs rest (dc.void word) = omega (arith, takes_one word)
params_shorter ts xs rest (dc.some all) = omega (arith, commas_shorter IsParam param_shorter ts xs rest all)

-- ---- declarations in a block

-- A declaration takes a token, and begins with one of the words that begin one.
pub record DeclShape (ts rest : Tokens) : Type 0 where
  pub inside : take m.RightBrace ts ≡ None
  pub unended : take m.Semicolon ts ≡ None
  pub word : (Unit {0} × Spot) × Tokens
  pub declared : see declares ts ≡ Some word
  pub shorter : length rest < length ts

thread_declares : {ts rest : Tokens} {p : Spot} → Takes m.ThrdT ts p rest → see declares ts ≡ Some ((tt, p), rest)
thread_declares takes = refl

module _ (is : Tokens → Expr → Tokens → Type 0) (shaped : (ts : Tokens) (part : Expr) (rest : Tokens) → is ts part rest → Shape ts rest) where
  local_shorter : (ts : Tokens) (x : Local) (rest : Tokens) → IsLocal is ts x rest → length rest < length ts
  local_shorter ts x rest (dc.unset {place = p} place) = place_shorter ts p rest place
  local_shorter ts x rest (dc.set front set value) = omega (arith, named_one front, takes_one set, (shaped _ _ _ value).shorter)

  local_ends : (ts : Tokens) (x : Local) (rest : Tokens) → IsLocal is ts x rest → EndsType ts
  local_ends ts x rest (dc.unset {place = p} place) = place_ends ts p rest place
  local_ends ts x rest (dc.set front set value) = named_ends front

  pub decl_shape : (ts : Tokens) (x : Stmt) (rest : Tokens) → IsDecl is ts x rest → DeclShape ts rest
  decl_shape ts x rest (dc.locals {a = a} {b = b} {p = p} {ctype = t} {all = xs} first integer all end) =
      let front = integer_first ts t a integer in
      let declares_it = integer_declares ts t a integer p first in
      record {
        inside = front.no_brace;
        unended = front.no_semicolon;
        word = declares_it.0;
        declared = declares_it.1;
        shorter = omega (arith, integer_shorter ts t a integer, commas_shorter (IsLocal is) local_shorter a xs b all, takes_one end);
      }
  decl_shape ts x rest (dc.handles {a = a} {b = b} {all = xs} word all end) = record {
    inside = takes_not (exactly m.RightBrace) refl word;
    unended = takes_not (exactly m.Semicolon) refl word;
    word = _;
    declared = thread_declares word;
    shorter = omega (arith, takes_one word, commas_shorter IsPlace place_shorter a xs b all, takes_one end);
  }

module _ (is : Tokens → Expr → Tokens → Type 0) (shaped : (ts : Tokens) (part : Expr) (rest : Tokens) → is ts part rest → Shape ts rest)
    (expr : Tokens → Out Expr) (complete : Complete 13 is expr) where
  local_complete : Complete 13 (IsLocal is) (local_of expr)
  unfolding local_of
  local_complete ts x rest (dc.unset (dc.sized {a = a} {size = k} front size)) less = bind_is _ (named_is front)
      (given_not _ _ (size_not m.Set refl a k rest size (not_taken m.Set rest less)) (bind_is _ (size_complete a k rest size (omega arith)) refl))
  local_complete ts x rest (dc.set {b = b} {value = v} front set value) less = bind_is _ (named_is front) (given_is _ _ (takes_is set) (bind_is _ (complete b v rest value less) refl))

  pub decl_complete : Always (IsDecl is) (decl_of expr)
  unfolding decl_of
  decl_complete ts x rest (dc.locals {a = a} {b = b} {ctype = t} {all = xs} first integer all end) = given_not _ _ (integer_first ts t a integer).no_thread
      (bind_is _ (begins_is first) (bind_is _ (integer_complete ts t a integer (commas_first (IsLocal is) EndsType (local_ends is shaped) a xs b all))
      (bind_is _ (commas_complete (IsLocal is) (local_of expr) 13 (omega arith) local_complete (local_shorter is shaped) (length a) [] a xs b all
      (closes m.Semicolon end (omega arith)) (takes_not (exactly m.Comma) refl end) (omega arith))
      (bind_is _ (takes_is end) refl))))
  decl_complete ts x rest (dc.handles {a = a} {b = b} {all = xs} word all end) = given_is _ _ (takes_is word)
      (bind_is _ (commas_complete IsPlace place_of 13 (omega arith) (λ c y d h less. place_complete c y d h (omega arith)) place_shorter (length a) [] a xs b all
      (closes m.Semicolon end (omega arith)) (takes_not (exactly m.Comma) refl end) (omega arith))
      (bind_is _ (takes_is end) refl))
