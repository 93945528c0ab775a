-- The bodies of a ring's functions: the lines of its packets, by induction on their number, and the lines behind them.
use Rattle.std.proofs.Common.{ℕ, zero, suc, ◌+◌, List, ◌∷◌, ◌++◌}
use Rattle.std.specs.Prelude.{codes}
use Rattle.c11_ast.specs.declared.place.Spot.{Spot}
use Rattle.c11_grammar.specs.declared.token.Mark.TheVariants as m
use Rattle.c11_grammar.specs.declared.token.Sort.{Sort}
use Rattle.c11_grammar.specs.declared.token.Sort.TheVariants as sort
use Rattle.c11_grammar.specs.Tokens.{Tokens}
use Rattle.c11_check.specs.Scopes.{Scope}
use Rattle.c11_ring.proofs.RingSorts as r
use Rattle.c11_ring.proofs.RingSorts.{packets_from}
use Rattle.c11_ring.proofs.TreesSpelled.{spelled, behind}
use Rattle.c11_ring.proofs.TreesStmts.{AllStand, none_stand, stmt_before, decl_before}
use Rattle.c11_ring.proofs.FaultlessScopes.{producer_scope, consumer_scope, main_scope, threads_scope, in_int}
use Rattle.c11_ring.proofs.FaultlessLines.{levels, return_line, return_line_stands, room_stands, write_stands, publish_stands, full_stands, assert_stands, free_stands, handles_line_stands, first_create_stands, second_create_stands, first_join_stands, second_join_stands, print_stands}

-- statements in which nothing is at fault, up to a closing brace and these sorts
pub record BodyStands (room : ℕ) (scope after : Scope) (ts : Tokens) (more : List Sort) : Type 0 where
  pub spots : List Spot
  pub all : AllStand (levels room) in_int scope after ts (spelled (sort.Mark m.RightBrace ∷ more) spots)

-- the lines of one packet stand before what stands
abbrev PacketStands : ℕ → Scope → (ℕ → List Sort) → Type 0
PacketStands room scope line = (packet : ℕ) (others ends more : List Sort) (spots : List Spot) (after : Scope) (rest : Tokens)
    → AllStand (levels room) in_int scope after (spelled ((others ++ ends) ++ more) (behind (line packet) spots)) rest
    → AllStand (levels room) in_int scope after (spelled (((line packet ++ others) ++ ends) ++ more) spots) rest

ends_stand : (room : ℕ) (scope : Scope) (more : List Sort) (spots : List Spot) → BodyStands room scope scope (spelled (r.end_sorts ++ more) spots) more
ends_stand room scope more spots = record {
  spots = behind return_line spots;
  all = stmt_before (levels room) in_int (return_line_stands room scope (sort.Mark m.RightBrace ∷ more) spots) (none_stand (levels room) in_int scope);
}

module _ (room : ℕ) (scope : Scope) (line : ℕ → List Sort) (one : PacketStands room scope line) where
  packets_stand : (count first : ℕ) (more : List Sort) (spots : List Spot) → BodyStands room scope scope (spelled ((packets_from line first count ++ r.end_sorts) ++ more) spots) more
  unfolding packets_from
  packets_stand zero first more spots = ends_stand room scope more spots
  packets_stand (suc count) first more spots = let others = packets_stand count (first + 1) more (behind (line first) spots) in
      record { spots = others.spots; all = one first (packets_from line (first + 1) count) r.end_sorts more spots scope (spelled (sort.Mark m.RightBrace ∷ more) others.spots) others.all }

module _ (room size plains number : ℕ) where
  produced_stands : PacketStands room (producer_scope size plains) (r.produced number)
  produced_stands packet others ends more spots after rest all =
      let store = r.store_line (codes "head") (r.publishing number) packet in
      stmt_before (levels room) in_int (room_stands room size plains number packet (r.write_line number packet ++ (store ++ ((others ++ ends) ++ more))) spots)
      (stmt_before (levels room) in_int (write_stands room size plains number packet (store ++ ((others ++ ends) ++ more)) (behind (r.room_line number packet) spots))
      (stmt_before (levels room) in_int (publish_stands room size plains (r.publishing number) packet ((others ++ ends) ++ more)
      (behind (r.write_line number packet) (behind (r.room_line number packet) spots))) all))

  consumed_stands : PacketStands room (consumer_scope size plains) (r.consumed number)
  consumed_stands packet others ends more spots after rest all =
      let store = r.store_line (codes "tail") (r.consuming number) packet in
      stmt_before (levels room) in_int (full_stands room size plains packet (r.assert_line number packet ++ (store ++ ((others ++ ends) ++ more))) spots)
      (stmt_before (levels room) in_int (assert_stands room size plains number packet (store ++ ((others ++ ends) ++ more)) (behind (r.full_line packet) spots))
      (stmt_before (levels room) in_int (free_stands room size plains (r.consuming number) packet ((others ++ ends) ++ more)
      (behind (r.assert_line number packet) (behind (r.full_line packet) spots))) all))

  pub producer_body_stands : (count : ℕ) (more : List Sort) (spots : List Spot)
      → BodyStands room (producer_scope size plains) (producer_scope size plains) (spelled ((packets_from (r.produced number) 0 count ++ r.end_sorts) ++ more) spots) more
  producer_body_stands count more spots = packets_stand room (producer_scope size plains) (r.produced number) produced_stands count 0 more spots

  pub consumer_body_stands : (count : ℕ) (more : List Sort) (spots : List Spot)
      → BodyStands room (consumer_scope size plains) (consumer_scope size plains) (spelled ((packets_from (r.consumed number) 0 count ++ r.end_sorts) ++ more) spots) more
  consumer_body_stands count more spots = packets_stand room (consumer_scope size plains) (r.consumed number) consumed_stands count 0 more spots

  pub main_body_stands : (count : ℕ) (more : List Sort) (spots : List Spot)
      → BodyStands room (main_scope size plains) (threads_scope size plains) (spelled ((r.threads_sorts ++ (r.print_line number count ++ r.end_sorts)) ++ more) spots) more
  main_body_stands count more spots =
      let first = r.create_line (codes "p") (codes "producer") in
      let second = r.create_line (codes "c") (codes "consumer") in
      let third = r.join_line (codes "p") in
      let fourth = r.join_line (codes "c") in
      let print = r.print_line number count in
      let behind_handles = behind r.handles_line spots in
      let behind_first = behind first behind_handles in
      let behind_second = behind second behind_first in
      let behind_third = behind third behind_second in
      let behind_fourth = behind fourth behind_third in
      let last = ends_stand room (threads_scope size plains) more (behind print behind_fourth) in
      record {
        spots = last.spots;
        all = decl_before (levels room) in_int (handles_line_stands room size plains (first ++ (second ++ (third ++ (fourth ++ (print ++ (r.end_sorts ++ more)))))) spots)
            (stmt_before (levels room) in_int (first_create_stands room size plains (second ++ (third ++ (fourth ++ (print ++ (r.end_sorts ++ more))))) behind_handles)
            (stmt_before (levels room) in_int (second_create_stands room size plains (third ++ (fourth ++ (print ++ (r.end_sorts ++ more)))) behind_first)
            (stmt_before (levels room) in_int (first_join_stands room size plains (fourth ++ (print ++ (r.end_sorts ++ more))) behind_second)
            (stmt_before (levels room) in_int (second_join_stands room size plains (print ++ (r.end_sorts ++ more)) behind_third)
            (stmt_before (levels room) in_int (print_stands room size plains number count (r.end_sorts ++ more) behind_fourth) last.all)))));
      }
