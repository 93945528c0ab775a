-- Each line in a function of a ring is a statement or a declaration without a fault.
use Rattle.std.proofs.Common.{ℕ, suc, Bool, true, false, List, [], ◌∷◌, ◌++◌, refl}
use Rattle.std.specs.Prelude.{codes}
use Rattle.c11_num.specs.declared.value.CType.TheVariants as c
use Rattle.c11_ast.specs.declared.place.Spot.{Spot}
use Rattle.c11_grammar.specs.declared.token.Mark.TheVariants as m
use Rattle.c11_grammar.specs.declared.token.Sort.{Sort}
use Rattle.c11_grammar.specs.declared.token.Sort.TheVariants as sort
use Rattle.c11_grammar.specs.Tokens.{Tokens, takes, sees, named, counted, quoted}
use Rattle.c11_grammar.specs.Tokens as tk
use Rattle.c11_grammar.specs.Declarations as d
use Rattle.c11_grammar.specs.Expressions.{Parts, parts}
use Rattle.c11_grammar.specs.Statements.{stmt_at, decl_at}
use Rattle.c11_check.specs.Scopes.{Scope}
use Rattle.c11_check.specs.Library.{library_entity}
use Rattle.c11_ring.proofs.RingSorts as r
use Rattle.c11_ring.proofs.TreesSpelled.{spelled, behind}
use Rattle.c11_ring.proofs.TreesParts.{literal_unary, indexed_target, read_unary, call_unary, climbed, whole_unary, whole_fourth, whole_fifth, third_second, chained, assigned_whole, text, value, number_whole, number_argument, name_argument, address_argument, one_arg, more_args}
use Rattle.c11_ring.proofs.TreesStmts.{Stands, while_stands, expr_stands, handles_stand, return_stands}
use Rattle.c11_ring.proofs.FaultlessScopes.{producer_scope, consumer_scope, main_scope, threads_scope, in_int}

-- the parts of a statement's expression, those of an argument in it, and those of an index in such an argument
abbrev outer_parts : ℕ → Parts
outer_parts room = parts (suc (suc (suc room)))

abbrev inner_parts : ℕ → Parts
inner_parts room = parts (suc (suc room))

abbrev index_parts : ℕ → Parts
index_parts room = parts (suc room)

-- the levels that a statement of a function has at least
abbrev pub levels : ℕ → ℕ
levels room = suc (suc (suc (suc room)))

-- a statement for this line, which leaves the scope as it was
abbrev pub LineStands : ℕ → Scope → List Sort → Type 0
LineStands room scope line = (more : List Sort) (spots : List Spot) → Stands (stmt_at (levels room)) in_int scope scope (spelled (line ++ more) spots) (spelled more (behind line spots))

-- ---- the producer

module _ (room size plains : ℕ) where
  -- while (I - atomic_load_explicit(&tail, memory_order_acquire) >= K);
  pub room_stands : (number packet : ℕ) → LineStands room (producer_scope size plains) (r.room_line number packet)
  unfolding library_entity
  room_stands number packet more spots = while_stands (suc (suc room)) in_int (producer_scope size plains) takes takes
      (whole_fourth (outer_parts room) (chained (outer_parts room) 3
      (third_second (outer_parts room) (chained (outer_parts room) 1 (climbed (outer_parts room) 1 (literal_unary (outer_parts room) counted)) (sees refl)
      (climbed (outer_parts room) 1 (call_unary (outer_parts room) named takes
      (more_args (address_argument (inner_parts room) takes named) takes
      (one_arg (name_argument (inner_parts room) named))) takes))))
      (sees refl) (climbed (outer_parts room) 3 (literal_unary (outer_parts room) counted))))
      takes takes refl

  -- ring[R] = V;
  pub write_stands : (number packet : ℕ) → LineStands room (producer_scope size plains) (r.write_line number packet)
  unfolding library_entity
  write_stands number packet more spots = expr_stands (suc (suc (suc room))) in_int (producer_scope size plains)
      (assigned_whole (outer_parts room) (indexed_target (outer_parts room) named takes (number_whole (inner_parts room) counted) takes)
      (sees refl) (number_whole (inner_parts room) counted))
      takes refl

  -- atomic_store_explicit(&head, J, ORDER);
  pub publish_stands : (release : Bool) (packet : ℕ) → LineStands room (producer_scope size plains) (r.store_line (codes "head") release packet)
  unfolding library_entity
  publish_stands true packet more spots = expr_stands (suc (suc (suc room))) in_int (producer_scope size plains)
      (whole_unary (outer_parts room) (call_unary (outer_parts room) named takes (more_args (address_argument (inner_parts room) takes named) takes
      (more_args (number_argument (inner_parts room) counted) takes (one_arg (name_argument (inner_parts room) named)))) takes))
      takes refl
  publish_stands false packet more spots = expr_stands (suc (suc (suc room))) in_int (producer_scope size plains)
      (whole_unary (outer_parts room) (call_unary (outer_parts room) named takes (more_args (address_argument (inner_parts room) takes named) takes
      (more_args (number_argument (inner_parts room) counted) takes (one_arg (name_argument (inner_parts room) named)))) takes))
      takes refl

-- ---- the consumer

module _ (room size plains : ℕ) where
  -- while (atomic_load_explicit(&head, memory_order_acquire) <= I);
  pub full_stands : (packet : ℕ) → LineStands room (consumer_scope size plains) (r.full_line packet)
  unfolding library_entity
  full_stands packet more spots = while_stands (suc (suc room)) in_int (consumer_scope size plains) takes takes
      (whole_fourth (outer_parts room) (chained (outer_parts room) 3
      (climbed (outer_parts room) 3 (call_unary (outer_parts room) named takes
      (more_args (address_argument (inner_parts room) takes named) takes
      (one_arg (name_argument (inner_parts room) named))) takes))
      (sees refl) (climbed (outer_parts room) 3 (literal_unary (outer_parts room) counted))))
      takes takes refl

  -- assert(ring[R] == V);
  pub assert_stands : (number packet : ℕ) → LineStands room (consumer_scope size plains) (r.assert_line number packet)
  unfolding library_entity
  assert_stands number packet more spots = expr_stands (suc (suc (suc room))) in_int (consumer_scope size plains)
      (whole_unary (outer_parts room) (call_unary (outer_parts room) named takes
      (one_arg (value (inner_parts room) (whole_fifth (inner_parts room) (chained (inner_parts room) 4
      (climbed (inner_parts room) 4 (read_unary (inner_parts room)
      (indexed_target (inner_parts room) named takes (number_whole (index_parts room) counted) takes)))
      (sees refl) (climbed (inner_parts room) 4 (literal_unary (inner_parts room) counted)))))) takes))
      takes refl

  -- atomic_store_explicit(&tail, J, ORDER);
  pub free_stands : (release : Bool) (packet : ℕ) → LineStands room (consumer_scope size plains) (r.store_line (codes "tail") release packet)
  unfolding library_entity
  free_stands true packet more spots = expr_stands (suc (suc (suc room))) in_int (consumer_scope size plains)
      (whole_unary (outer_parts room) (call_unary (outer_parts room) named takes (more_args (address_argument (inner_parts room) takes named) takes
      (more_args (number_argument (inner_parts room) counted) takes (one_arg (name_argument (inner_parts room) named)))) takes))
      takes refl
  free_stands false packet more spots = expr_stands (suc (suc (suc room))) in_int (consumer_scope size plains)
      (whole_unary (outer_parts room) (call_unary (outer_parts room) named takes (more_args (address_argument (inner_parts room) takes named) takes
      (more_args (number_argument (inner_parts room) counted) takes (one_arg (name_argument (inner_parts room) named)))) takes))
      takes refl

-- ---- main

module _ (room size plains : ℕ) where
  -- thrd_t p, c;
  pub handles_line_stands : (more : List Sort) (spots : List Spot)
      → Stands (decl_at (levels room)) in_int (main_scope size plains) (threads_scope size plains) (spelled (r.handles_line ++ more) spots) (spelled more (behind r.handles_line spots))
  unfolding library_entity
  handles_line_stands more spots = handles_stand (suc (suc (suc room))) in_int (main_scope size plains) takes
      (tk.Commas.comma (d.IsPlace.sized named d.IsSize.single) takes (tk.Commas.last (d.IsPlace.sized named d.IsSize.single))) takes refl

  -- thrd_create(&p, producer, NULL);
  pub first_create_stands : LineStands room (threads_scope size plains) (r.create_line (codes "p") (codes "producer"))
  unfolding library_entity
  first_create_stands more spots = expr_stands (suc (suc (suc room))) in_int (threads_scope size plains)
      (whole_unary (outer_parts room) (call_unary (outer_parts room) named takes
      (more_args (address_argument (inner_parts room) takes named) takes
      (more_args (name_argument (inner_parts room) named) takes
      (one_arg (name_argument (inner_parts room) named)))) takes))
      takes refl

  -- thrd_create(&c, consumer, NULL);
  pub second_create_stands : LineStands room (threads_scope size plains) (r.create_line (codes "c") (codes "consumer"))
  unfolding library_entity
  second_create_stands more spots = expr_stands (suc (suc (suc room))) in_int (threads_scope size plains)
      (whole_unary (outer_parts room) (call_unary (outer_parts room) named takes
      (more_args (address_argument (inner_parts room) takes named) takes
      (more_args (name_argument (inner_parts room) named) takes
      (one_arg (name_argument (inner_parts room) named)))) takes))
      takes refl

  -- thrd_join(p, NULL);
  pub first_join_stands : LineStands room (threads_scope size plains) (r.join_line (codes "p"))
  unfolding library_entity
  first_join_stands more spots = expr_stands (suc (suc (suc room))) in_int (threads_scope size plains)
      (whole_unary (outer_parts room) (call_unary (outer_parts room) named takes
      (more_args (name_argument (inner_parts room) named) takes
      (one_arg (name_argument (inner_parts room) named))) takes))
      takes refl

  -- thrd_join(c, NULL);
  pub second_join_stands : LineStands room (threads_scope size plains) (r.join_line (codes "c"))
  unfolding library_entity
  second_join_stands more spots = expr_stands (suc (suc (suc room))) in_int (threads_scope size plains)
      (whole_unary (outer_parts room) (call_unary (outer_parts room) named takes
      (more_args (name_argument (inner_parts room) named) takes
      (one_arg (name_argument (inner_parts room) named))) takes))
      takes refl

  -- printf("%d\n", ring[L]);
  pub print_stands : (number packets : ℕ) → LineStands room (threads_scope size plains) (r.print_line number packets)
  unfolding library_entity
  print_stands number packets more spots = expr_stands (suc (suc (suc room))) in_int (threads_scope size plains)
      (whole_unary (outer_parts room) (call_unary (outer_parts room) named takes
      (more_args (text (inner_parts room) quoted) takes
      (one_arg (value (inner_parts room) (whole_unary (inner_parts room) (read_unary (inner_parts room)
      (indexed_target (inner_parts room) named takes (number_whole (index_parts room) counted) takes)))))) takes))
      takes refl

-- ---- the ends

-- return 0;
abbrev pub return_line : List Sort
return_line = sort.Mark m.Return ∷ r.counted 0 ∷ sort.Mark m.Semicolon ∷ []

pub return_line_stands : (room : ℕ) (scope : Scope) → LineStands room scope return_line
return_line_stands room scope more spots = return_stands (suc (suc (suc room))) c.Int false scope takes (number_whole (outer_parts room) counted) takes refl
