use Rattle.std.proofs.Common.{rules, arith, ◌≡◌, ℕ, ◌+◌, IfOk, Option, Some, None, sym, ap, ◌∙◌, subst}
use Rattle.c11_num.specs.declared.kind.BinaryOp.{BinaryOp}
use Rattle.c11_meaning.specs.Parts.{entity_of, line_of}
use Rattle.c11_flat.specs.Pieces.{Piece, piece_of, located, place_in, assigning}
use Rattle.c11_pieces.specs.Sizes.{write_size, compound_size}
use Rattle.c11_pieces.specs.Trees.{object_of}
use Rattle.c11_pieces.proofs.Counted.{write_length, compound_length}
use Rattle.c11_pieces.proofs.Parts.{piece_assign}
use Rattle.c11_pieces.proofs.sizes.+sizes.Goals as goal

pub expr_size-returns-in_ok-plus-in-None : goal.expr_size-returns-in_ok-plus-in-None
expr_size-returns-in_ok-plus-in-None t c =
    let s = c.args.scopes.now in
    let o = object_of c.in-Assign.target in
    let value = piece_of c.in-Assign.value in
    let line = c.in-Assign.op_spot.line in
    let l : c.in_ok-located-in-Assign.located ≡ (located o s).size = search rules in
    let v : c.in_ok-value-in-Assign.value ≡ (value s).size = search rules in
    let w : c.write_size.result ≡ write_size (entity_of o s) (place_in o s) = search rules in
    let written = write_length (entity_of o s) (line_of o) (place_in o s) in
    let sum : c.in_ok-plus-in-None.field-0 ≡ c.in_ok-value-in-Assign.value + c.write_size.result = search rules in
    let is = piece_assign c.args.expr.now c.in-Assign.target c.in-Assign.op c.in-Assign.op_spot c.in-Assign.value s c.in-Assign.is in
    let all : c.in_ok-located-in-Assign.located + c.in_ok-plus-in-None.field-0 ≡ (assigning o None line value s).size = omega (arith, l, v, w, written, sum) in
    let same = all ∙ sym (ap (λ (p : Piece). p.size) is ∙ ap (λ (op : Option BinaryOp). (assigning o op line value s).size) c.in-None.is) in
    subst (λ (n : ℕ). IfOk c.plus-in-None.result (λ size. size ≡ n)) same c.plus-in-None.ensures

pub expr_size-returns-in_ok-compound_size-in-Some : goal.expr_size-returns-in_ok-compound_size-in-Some
expr_size-returns-in_ok-compound_size-in-Some t c =
    let s = c.args.scopes.now in
    let o = object_of c.in-Assign.target in
    let value = piece_of c.in-Assign.value in
    let line = c.in-Assign.op_spot.line in
    let op = c.in-Some.field-0 in
    let l : c.in_ok-located-in-Assign.located ≡ (located o s).size = search rules in
    let v : c.in_ok-value-in-Assign.value ≡ (value s).size = search rules in
    let made : c.in_ok-compound_size-in-Some.field-0 ≡ compound_size (entity_of o s) (place_in o s) c.in_ok-value-in-Assign.value = search rules in
    let w = made ∙ (ap (λ (n : ℕ). compound_size (entity_of o s) (place_in o s) n) v ∙ sym (compound_length (entity_of o s) (line_of o) line op (place_in o s) (value s))) in
    let is = piece_assign c.args.expr.now c.in-Assign.target c.in-Assign.op c.in-Assign.op_spot c.in-Assign.value s c.in-Assign.is in
    let all : c.in_ok-located-in-Assign.located + c.in_ok-compound_size-in-Some.field-0 ≡ (assigning o (Some op) line value s).size = omega (arith, l, w) in
    let same = all ∙ sym (ap (λ (p : Piece). p.size) is ∙ ap (λ (op : Option BinaryOp). (assigning o op line value s).size) c.in-Some.is) in
    subst (λ (n : ℕ). IfOk c.plus-in-Some.result (λ size. size ≡ n)) same c.plus-in-Some.ensures
