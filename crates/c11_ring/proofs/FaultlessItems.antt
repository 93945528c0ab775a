-- The items of a ring: each is one of the grammar, in which the checks find no fault.
use Rattle.std.proofs.Common.{◌≡◌, ◌<◌, ◌∙◌, ℕ, zero, suc, ◌+◌, ◌/◌, ◌%◌, pos, Bool, true, false, List, [], ◌∷◌, ◌++◌, map, Some, None, refl, ap, arith}
use Rattle.std.specs.Prelude.{codes}
use Rattle.std.proofs.Math.Nat.{mod-lt}
use Rattle.c11_num.specs.Ranges.{TypedNumber}
use Rattle.c11_num.specs.declared.value.CType.TheVariants as c
use Rattle.c11_ast.specs.declared.place.Spot.{Spot}
use Rattle.c11_ast.specs.declared.place.Word.{Word}
use Rattle.c11_ast.specs.declared.place.Known.TheVariants as known
use Rattle.c11_ast.specs.declared.stmt.Stmt.{Stmt}
use Rattle.c11_ast.specs.declared.item.GlobalKind.TheVariants as kind
use Rattle.c11_ast.specs.declared.item.Start.TheVariants as start
use Rattle.c11_ast.specs.declared.item.Param.{Param}
use Rattle.c11_ast.specs.declared.item.Item.{Item}
use Rattle.c11_ast.specs.declared.item.Item.TheVariants as item
use Rattle.c11_grammar.specs.declared.token.Mark.TheVariants as m
use Rattle.c11_grammar.specs.declared.token.Sort.{Sort}
use Rattle.c11_grammar.specs.declared.token.Sort.TheVariants as sort
use Rattle.c11_grammar.specs.Tokens.{Tokens, Takes, takes, sees, named, counted}
use Rattle.c11_grammar.specs.Tokens as tk
use Rattle.c11_grammar.specs.Types as ty
use Rattle.c11_grammar.specs.Declarations.{IsParams, constant_at, place_with, var_with}
use Rattle.c11_grammar.specs.Declarations as d
use Rattle.c11_grammar.specs.Statements.{made_block, decl_at, stmt_at}
use Rattle.c11_grammar.specs.Statements as st
use Rattle.c11_grammar.specs.Programs.{IsItem, function_with}
use Rattle.c11_grammar.specs.Programs as g
use Rattle.c11_check.specs.Library.{library_entity}
use Rattle.c11_check.specs.declared.entity.Entity.TheVariants as e
use Rattle.c11_check.specs.declared.fault.Rule.TheVariants as rule
use Rattle.c11_check.specs.declared.fault.Fault.{Fault}
use Rattle.c11_check.specs.Faults.{when, twice, is_missized}
use Rattle.c11_check.specs.Scopes.{Scope, elements, passes, counted as counted_up, plain_limit, file_scope, with_function, entered_function}
use Rattle.c11_check.specs.Statements.{Walk, Walked, walked, before, followed, inside, walk_of, walk_of_block, in_order}
use Rattle.c11_check.specs.Programs.{item_walk, is_main, params_walk}
use Rattle.c11_ring.proofs.RingSorts as r
use Rattle.c11_ring.proofs.TreesSpelled.{spelled, behind, first_spot, later_spots}
use Rattle.c11_ring.proofs.TreesStmts.{walk_block}
use Rattle.c11_ring.proofs.FaultlessScopes.{ring_scope, producer_named, consumer_named, main_named, producer_scope, consumer_scope, main_scope, threads_scope, in_int}
use Rattle.c11_ring.proofs.FaultlessPackets.{producer_body_stands, consumer_body_stands, main_body_stands}

-- An item without a fault, which leaves this scope, and behind which these sorts follow; and whether it is the function `main`.
pub record ItemStands (scope after : Scope) (is_the_main : Bool) (ts : Tokens) (more : List Sort) : Type 0 where
  pub item : Item
  pub spots : List Spot
  pub whole : IsItem ts item (spelled more spots)
  pub walk : item_walk item scope ≡ walked [] after
  pub is : is_main item ≡ is_the_main

-- ---- the head

pub include_stands : (scope : Scope) (more : List Sort) (spots : List Spot) → ItemStands scope scope false (spelled (sort.Mark m.Include ∷ more) spots) more
include_stands scope more spots = record { item = item.Include (first_spot spots); spots = later_spots spots; whole = g.IsItem.include takes; walk = refl; is = refl }

abbrev int_value : ℕ → TypedNumber
int_value n = record { ctype = c.Int; number = pos n }

-- the elements of the array, as the checks count them
abbrev pub size_of : ℕ → ℕ
size_of number = elements (Some (int_value (r.places number)))

abbrev pub plains_of : ℕ → ℕ
plains_of number = counted_up plain_limit 0 (Some (size_of number))

few_sized : (n : ℕ) → n < 8 → is_missized (Some (int_value (1 + n))) 0 ≡ false
few_sized zero less = refl
few_sized (suc zero) less = refl
few_sized (suc (suc zero)) less = refl
few_sized (suc (suc (suc zero))) less = refl
few_sized (suc (suc (suc (suc zero)))) less = refl
few_sized (suc (suc (suc (suc (suc zero))))) less = refl
few_sized (suc (suc (suc (suc (suc (suc zero)))))) less = refl
few_sized (suc (suc (suc (suc (suc (suc (suc zero))))))) less = refl
few_sized (suc (suc (suc (suc (suc (suc (suc (suc n)))))))) less = absurd (omega (arith, less))

few_pass : (n : ℕ) → n < 8 → passes plain_limit 0 (Some (elements (Some (int_value (1 + n))))) ≡ false
few_pass zero less = refl
few_pass (suc zero) less = refl
few_pass (suc (suc zero)) less = refl
few_pass (suc (suc (suc zero))) less = refl
few_pass (suc (suc (suc (suc zero)))) less = refl
few_pass (suc (suc (suc (suc (suc zero))))) less = refl
few_pass (suc (suc (suc (suc (suc (suc zero)))))) less = refl
few_pass (suc (suc (suc (suc (suc (suc (suc zero))))))) less = refl
few_pass (suc (suc (suc (suc (suc (suc (suc (suc n)))))))) less = absurd (omega (arith, less))

-- the scope behind the array, and behind the first counter
abbrev pub array_scope : ℕ → Scope
array_scope number = record {
  names = record { name = codes "ring"; entity = e.Plain c.Int 0 (Some (size_of number)) } ∷ [];
  start = 0;
  counts = record { atomics = 0; plains = plains_of number; mutexes = 0; functions = 0; places = 0 };
}

abbrev pub head_scope : ℕ → Scope
head_scope number = record {
  names = record { name = codes "ring"; entity = e.Plain c.Int 0 (Some (size_of number)) } ∷ record { name = codes "head"; entity = e.Atomic c.Int 0 None } ∷ [];
  start = 0;
  counts = record { atomics = 1; plains = plains_of number; mutexes = 0; functions = 0; places = 0 };
}

abbrev pub objects_scope : ℕ → Scope
objects_scope number = ring_scope (size_of number) (plains_of number) [] 0 0 0

-- int ring[K];
pub ring_line_stands : (number : ℕ) (more : List Sort) (spots : List Spot) → ItemStands file_scope (array_scope number) false (spelled (r.ring_line number ++ more) spots) more
unfolding library_entity
ring_line_stands number more spots =
    let word : Word = record { spot = first_spot (later_spots spots); name = codes "ring" } in
    let less : (number / 4) % 8 < 8 = mod-lt (number / 4) (omega arith) in
    record {
      item = item.Global (first_spot spots) (kind.Plain c.Int)
          (var_with (place_with word (Some (constant_at (first_spot (later_spots (later_spots (later_spots spots)))) false (known.Literal (int_value (r.places number)))))) start.Absent ∷ []);
      spots = behind (r.ring_line number) spots;
      whole = g.IsItem.global tk.begins tk.MayTake.without (g.IsGlobals.plain (ty.IsInteger.int takes)
          (tk.Commas.last (d.IsVar.absent (d.IsPlace.sized named (d.IsSize.array takes (d.IsConstant.constant (d.IsKnown.literal counted)) takes))))) takes;
      walk = ap (λ (b : Bool). walked (((when b rule.Size word.spot ++ (when (passes plain_limit 0 (Some (size_of number))) rule.TooMany word.spot ++ [])) ++ []) ++ []) (array_scope number))
          (few_sized ((number / 4) % 8) less)
          ∙ ap (λ (b : Bool). walked (((when b rule.TooMany word.spot ++ []) ++ []) ++ []) (array_scope number)) (few_pass ((number / 4) % 8) less);
      is = refl;
    }

-- atomic_int head;
pub head_line_stands : (number : ℕ) (more : List Sort) (spots : List Spot) → ItemStands (array_scope number) (head_scope number) false (spelled (r.head_line ++ more) spots) more
unfolding library_entity
head_line_stands number more spots =
    let word : Word = record { spot = first_spot (later_spots spots); name = codes "head" } in
    record {
      item = item.Global (first_spot spots) (kind.Atomic c.Int) (var_with (place_with word None) start.Absent ∷ []);
      spots = behind r.head_line spots;
      whole = g.IsItem.global tk.begins tk.MayTake.without (g.IsGlobals.atomic (ty.IsAtomic.by_word (sees refl))
          (tk.Commas.last (d.IsVar.absent (d.IsPlace.sized named d.IsSize.single)))) takes;
      walk = refl;
      is = refl;
    }

-- atomic_int tail;
pub tail_line_stands : (number : ℕ) (more : List Sort) (spots : List Spot) → ItemStands (head_scope number) (objects_scope number) false (spelled (r.tail_line ++ more) spots) more
unfolding library_entity
tail_line_stands number more spots =
    let word : Word = record { spot = first_spot (later_spots spots); name = codes "tail" } in
    record {
      item = item.Global (first_spot spots) (kind.Atomic c.Int) (var_with (place_with word None) start.Absent ∷ []);
      spots = behind r.tail_line spots;
      whole = g.IsItem.global tk.begins tk.MayTake.without (g.IsGlobals.atomic (ty.IsAtomic.by_word (sees refl))
          (tk.Commas.last (d.IsVar.absent (d.IsPlace.sized named d.IsSize.single)))) takes;
      walk = refl;
      is = refl;
    }

-- ---- functions

-- Where the names before a body are without a fault and lead to the body's scope, the function is without a fault.
function_walks : (spot : Spot) (word : Word) (params : List Param) (p q : Spot) (stmts : List Stmt) (scope inner after : Scope)
    → twice scope word ≡ []
    → params_walk params (entered_function (with_function scope (function_with spot word (Some c.Int) params (made_block p stmts q)))) ≡ walked [] inner
    → in_order (map walk_of stmts) in_int inner ≡ walked [] after
    → item_walk (item.Function (function_with spot word (Some c.Int) params (made_block p stmts q))) scope
    ≡ inside (with_function scope (function_with spot word (Some c.Int) params (made_block p stmts q))) (walked [] after)
function_walks spot word params p q stmts scope inner after once given all =
    let f = function_with spot word (Some c.Int) params (made_block p stmts q) in
    let outer = with_function scope f in
    ap (λ (fs : List Fault). before fs (inside outer (followed (params_walk params (entered_function outer)) (λ s. walk_of_block f.body in_int s)))) once
    ∙ (ap (λ (w : Walked). before [] (inside outer (followed w (λ s. walk_of_block f.body in_int s)))) given
    ∙ (ap (λ (w : Walk). before [] (inside outer (before [] (w in_int inner)))) (walk_block p q stmts)
    ∙ ap (λ (w : Walked). before [] (inside outer (before [] w))) all))

abbrev pub producer_after : ℕ → ℕ → Scope
producer_after size plains = ring_scope size plains (producer_named ∷ []) 0 1 1

abbrev pub consumer_after : ℕ → ℕ → Scope
consumer_after size plains = ring_scope size plains (producer_named ∷ consumer_named ∷ []) 0 2 1

abbrev pub main_after : ℕ → ℕ → Scope
main_after size plains = ring_scope size plains (producer_named ∷ consumer_named ∷ main_named ∷ []) 0 3 2

abbrev word_at : Spot → List ℕ → Word
word_at spot name = record { spot = spot; name = name }

abbrev pointer_at : Spot → Spot → List Param
pointer_at spot word = record { spot = spot; word = word_at word (codes "a"); ctype = None } ∷ []

module _ (size plains number count : ℕ) where
  pub producer_stands : (more : List Sort) (spots : List Spot)
      → ItemStands (ring_scope size plains [] 0 0 0) (producer_after size plains) false (spelled (r.producer_sorts number count ++ more) spots) more
  unfolding library_entity
  producer_stands more spots =
      let body = producer_body_stands 59 size plains number count more (behind (r.opening (codes "producer")) spots) in
      let word = first_spot (later_spots spots) in
      let parameter = first_spot (later_spots (later_spots (later_spots spots))) in
      let parameter_word = first_spot (later_spots (later_spots (later_spots (later_spots (later_spots spots))))) in
      let brace = first_spot (later_spots (later_spots (later_spots (later_spots (later_spots (later_spots (later_spots spots))))))) in
      record {
        item = item.Function (function_with (first_spot spots) (word_at word (codes "producer")) (Some c.Int) (pointer_at parameter parameter_word)
            (made_block brace body.all.stmts (first_spot body.spots)));
        spots = later_spots body.spots;
        whole = g.IsItem.function tk.begins tk.MayTake.without (ty.IsAnswer.number (ty.IsInteger.int takes)) named takes
            (d.IsParams.some (tk.Commas.last (d.IsParam.pointer takes takes named))) takes (st.IsBlock.block takes body.all.whole takes);
        walk = function_walks (first_spot spots) (word_at word (codes "producer")) (pointer_at parameter parameter_word) brace (first_spot body.spots) body.all.stmts
            (ring_scope size plains [] 0 0 0) (producer_scope size plains) (producer_scope size plains) refl refl body.all.walk;
        is = refl;
      }

  pub consumer_stands : (more : List Sort) (spots : List Spot)
      → ItemStands (producer_after size plains) (consumer_after size plains) false (spelled (r.consumer_sorts number count ++ more) spots) more
  unfolding library_entity
  consumer_stands more spots =
      let body = consumer_body_stands 59 size plains number count more (behind (r.opening (codes "consumer")) spots) in
      let word = first_spot (later_spots spots) in
      let parameter = first_spot (later_spots (later_spots (later_spots spots))) in
      let parameter_word = first_spot (later_spots (later_spots (later_spots (later_spots (later_spots spots))))) in
      let brace = first_spot (later_spots (later_spots (later_spots (later_spots (later_spots (later_spots (later_spots spots))))))) in
      record {
        item = item.Function (function_with (first_spot spots) (word_at word (codes "consumer")) (Some c.Int) (pointer_at parameter parameter_word)
            (made_block brace body.all.stmts (first_spot body.spots)));
        spots = later_spots body.spots;
        whole = g.IsItem.function tk.begins tk.MayTake.without (ty.IsAnswer.number (ty.IsInteger.int takes)) named takes
            (d.IsParams.some (tk.Commas.last (d.IsParam.pointer takes takes named))) takes (st.IsBlock.block takes body.all.whole takes);
        walk = function_walks (first_spot spots) (word_at word (codes "consumer")) (pointer_at parameter parameter_word) brace (first_spot body.spots) body.all.stmts
            (producer_after size plains) (consumer_scope size plains) (consumer_scope size plains) refl refl body.all.walk;
        is = refl;
      }

  pub main_stands : (spots : List Spot) → ItemStands (consumer_after size plains) (main_after size plains) true (spelled (r.main_sorts number count) spots) []
  unfolding library_entity
  main_stands spots =
      let body = main_body_stands 59 size plains number count [] (behind r.main_opening spots) in
      let word = first_spot (later_spots spots) in
      let brace = first_spot (later_spots (later_spots (later_spots (later_spots (later_spots spots))))) in
      record {
        item = item.Function (function_with (first_spot spots) (word_at word (codes "main")) (Some c.Int) [] (made_block brace body.all.stmts (first_spot body.spots)));
        spots = later_spots body.spots;
        whole = g.IsItem.function tk.begins tk.MayTake.without (ty.IsAnswer.number (ty.IsInteger.int takes)) named takes
            (d.IsParams.void takes) takes (st.IsBlock.block takes body.all.whole takes);
        walk = function_walks (first_spot spots) (word_at word (codes "main")) [] brace (first_spot body.spots) body.all.stmts
            (consumer_after size plains) (main_scope size plains) (threads_scope size plains) refl refl body.all.walk;
        is = refl;
      }
