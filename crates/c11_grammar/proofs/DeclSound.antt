-- Declarations that are read are in the grammar.
use Rattle.std.proofs.Common.{◌≡◌, ◌∷◌, ◌++◌, ◌∙◌, [], List, length, refl, subst, suc, sym, zero, ℕ}
use Rattle.c11_ast.specs.declared.expr.Expr.{Expr}
use Rattle.c11_ast.specs.declared.item.Param.{Param}
use Rattle.c11_ast.specs.declared.place.Constant.{Constant}
use Rattle.c11_ast.specs.declared.place.Spot.{Spot}
use Rattle.c11_grammar.proofs.Integers.{integer_sound}
use Rattle.c11_grammar.proofs.Steps.{holds_bind, holds_given, list_sound, literal_sound, name_sound, spot_sound, take_sound, weaken}
use Rattle.c11_grammar.specs.Declarations.{IsConstant, IsDecl, IsInitializer, IsKnown, IsLocal, IsMutexVar, IsParam, IsParams, IsPlace, IsSigned, IsSize, IsStart, IsVar}
use Rattle.c11_grammar.specs.Laws.{Holds, Sound, finds, nothing}
use Rattle.c11_grammar.specs.Reading.{Out, constant_of, decl_of, initializer_of, known_of, local_of, mutex_var, param_of, params_of, place_of, signed_of, size_after, start_of, started_var, starts, void_only}
use Rattle.c11_grammar.specs.Tokens.{Commas, MayTake, Takes, Tokens}
use Rattle.std.proofs.lemmas.List.{append_assoc}
use Rattle.c11_grammar.specs.declared.token.Mark.TheVariants as m
use Rattle.c11_grammar.specs.Tokens as tk
use Rattle.c11_grammar.specs.Declarations as dc

known_sound : (ts : Tokens) → Holds (λ x. IsKnown ts x.0.0 x.0.1 x.1) (known_of ts)
unfolding known_of
known_sound ts = holds_given (literal_sound ts) (holds_bind (name_sound ts) λ w front. finds (dc.name front)) λ n number. finds (dc.literal number)

constant_sound : Sound IsConstant constant_of
unfolding constant_of
constant_sound ts = holds_bind (known_sound ts) λ k value. finds (dc.constant value)

signed_sound : Sound IsSigned signed_of
unfolding signed_of constant_of
signed_sound ts = holds_given (take_sound m.Minus ts) (holds_bind (known_sound ts) λ k value. finds (dc.IsSigned.plain value))
    λ p minus. holds_bind (known_sound p.1) λ k value. finds (dc.minus minus value)

start_sound : Sound IsStart start_of
unfolding start_of
start_sound ts = holds_given (take_sound m.AtomicVarInit ts) (weaken (signed_sound ts) λ k value. dc.IsStart.plain value)
    λ p word. holds_bind (take_sound m.LeftParen p.1) λ q left. holds_bind (signed_sound q.1) λ k value. holds_bind (take_sound m.RightParen k.1) λ r right. finds (dc.wrapped word left value right)

size_sound : Sound IsSize size_after
unfolding size_after
size_sound ts = holds_given (take_sound m.LeftSquare ts) (finds dc.single)
    λ p left. holds_bind (constant_sound p.1) λ k value. holds_bind (take_sound m.RightSquare k.1) λ q right. finds (dc.array left value right)

place_sound : Sound IsPlace place_of
unfolding place_of
place_sound ts = holds_bind (name_sound ts) λ w front. holds_bind (size_sound w.1) λ k size. finds (dc.sized front size)

AddsStarts : List Constant → Tokens → List Constant × Tokens → Type 0
AddsStarts found ts x = (more : List Constant) × (a : Tokens) × (b : Tokens) × (q : Spot) × (x.0 ≡ found ++ more) × Commas IsStart ts more a × MayTake m.Comma a b × Takes m.RightBrace b q x.1

starts_sound : (n : ℕ) (found : List Constant) (ts : Tokens) → Holds (AddsStarts found ts) (starts n found ts)
unfolding starts AddsStarts
starts_sound zero found ts = nothing
starts_sound (suc n) found ts = holds_bind (start_sound ts) λ x one.
    holds_given (take_sound m.Comma x.1)
    (holds_bind (take_sound m.RightBrace x.1) λ q right. finds (x.0 ∷ [], x.1, x.1, q.0.1, refl, tk.last one, tk.without, right))
    λ p comma. holds_given (take_sound m.RightBrace p.1)
    (weaken (starts_sound n (found ++ x.0 ∷ []) p.1) λ y h. (x.0 ∷ h.0, h.1, h.2, h.3, h.4 ∙ append_assoc found (x.0 ∷ []) h.0, tk.comma one comma h.5, h.6, h.7))
    λ q right. finds (x.0 ∷ [], x.1, p.1, q.0.1, refl, tk.last one, tk.with_it comma, right)

initializer_sound : Sound IsInitializer initializer_of
unfolding initializer_of AddsStarts
initializer_sound ts = holds_given (take_sound m.LeftBrace ts) (holds_bind (start_sound ts) λ k value. finds (dc.one value))
    λ p left. holds_bind (starts_sound (length p.1) [] p.1) λ all h.
    finds (dc.brace left (subst (λ (l : List Constant). Commas IsStart p.1 l h.1) (sym h.4) h.5) h.6 h.7)

pub started_sound : Sound IsVar started_var
unfolding started_var
started_sound ts = holds_bind (place_sound ts) λ p place.
    holds_given (take_sound m.Set p.1) (finds (dc.absent place)) λ q set. holds_bind (initializer_sound q.1) λ v value. finds (dc.started place set value)

pub mutex_sound : Sound IsMutexVar mutex_var
unfolding mutex_var
mutex_sound ts = holds_bind (place_sound ts) λ p place. finds (dc.mutex place)

param_sound : Sound IsParam param_of
unfolding param_of
param_sound ts = holds_given (take_sound m.Void ts)
    (holds_bind (spot_sound ts) λ p first. holds_bind (integer_sound ts) λ t integer. holds_bind (name_sound t.1) λ w front. finds (dc.number first integer front))
    λ p word. holds_bind (take_sound m.Star p.1) λ q star. holds_bind (name_sound q.1) λ w front. finds (dc.pointer word star front)

void_only_sound : (ts : Tokens) → Holds (λ x. (a : Tokens) × (p : Spot) × Takes m.Void ts p a × Takes m.RightParen a x.0.1 x.1) (void_only ts)
unfolding void_only
void_only_sound ts = holds_bind (take_sound m.Void ts) λ p word. weaken (take_sound m.RightParen p.1) λ q right. (p.1, p.0.1, word, right)

unfoldable pub IsClosedParams : Tokens → List Param × Tokens → Type 0
IsClosedParams ts x = (a : Tokens) × (q : Spot) × IsParams ts x.0 a × Takes m.RightParen a q x.1

pub params_sound : (ts : Tokens) → Holds (IsClosedParams ts) (params_of ts)
unfolding params_of IsClosedParams
params_sound ts = holds_given (take_sound m.RightParen ts)
    (holds_given (void_only_sound ts)
    (holds_bind (list_sound IsParam param_of param_sound (length ts) ts) λ ps all. holds_bind (take_sound m.RightParen ps.1) λ q right. finds (ps.1, q.0.1, dc.some all, right))
    λ q h. finds (h.0, q.0.1, dc.void h.2, h.3))
    λ q right. finds (ts, q.0.1, dc.none, right)

module _ (is : Tokens → Expr → Tokens → Type 0) (expr : Tokens → Out Expr) (sound : Sound is expr) where
  local_sound : Sound (IsLocal is) (local_of expr)
  unfolding local_of
  local_sound ts = holds_bind (name_sound ts) λ w front.
      holds_given (take_sound m.Set w.1) (holds_bind (size_sound w.1) λ k size. finds (dc.unset (dc.sized front size)))
      λ p set. holds_bind (sound p.1) λ x value. finds (dc.set front set value)

  pub decl_sound : Sound (IsDecl is) (decl_of expr)
  unfolding decl_of
  decl_sound ts = holds_given (take_sound m.ThrdT ts)
      (holds_bind (spot_sound ts) λ p first. holds_bind (integer_sound ts) λ t integer.
      holds_bind (list_sound (IsLocal is) (local_of expr) local_sound (length t.1) t.1) λ all h.
      holds_bind (take_sound m.Semicolon all.1) λ q end. finds (dc.locals first integer h end))
      λ p word. holds_bind (list_sound IsPlace place_of place_sound (length p.1) p.1) λ all h.
      holds_bind (take_sound m.Semicolon all.1) λ q end. finds (dc.handles word h end)
