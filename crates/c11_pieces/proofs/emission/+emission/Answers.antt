use Rattle.std.proofs.Common.{rules, ◌≡◌, ◌+◌, List, [], ◌∷◌, length, map, Option, sym, ◌∙◌, subst}
use Rattle.c11_num.specs.declared.value.CType.{CType}
use Rattle.c11_ast.specs.declared.expr.Link.{Link}
use Rattle.c11_check.specs.Types.{branches_type}
use Rattle.c11_meaning.specs.Parts.{entity_of, line_of}
use Rattle.c11_flat.specs.declared.instr.Instr.TheVariants as i
use Rattle.c11_flat.specs.Pieces.{Piece, plain, joined, part_of, piece_of, located, place_in, branch, chosen, chained}
use Rattle.c11_pieces.specs.Growth.{Grows}
use Rattle.c11_pieces.specs.Places.{assigned}
use Rattle.c11_pieces.specs.Trees.{object_of, linked_of, links_of}
use Rattle.c11_pieces.proofs.Joins.{grows_joined, grows_chosen}
use Rattle.c11_pieces.proofs.Parts.{piece_assign, piece_cond, piece_chain, piece_prefix, piece_cast, assigning_is, chain_links}
use Rattle.c11_pieces.proofs.emission.+emission.Goals as goal

pub emit-returns-in_ok-put-in-Prefix : goal.emit-returns-in_ok-put-in-Prefix
emit-returns-in_ok-put-in-Prefix t c =
    let s = c.args.scopes.now in
    let mid = c.emit-in-Prefix.new.code.items in
    let new = c.put-in-Prefix.new.code.items in
    let value : Grows c.args.code.now.items mid (piece_of c.in-Prefix.inner s) = search rules in
    let instr : Grows mid new (plain (i.Prefix c.in-Prefix.spot.line c.in-Prefix.op ∷ [])) = search rules in
    subst (λ (p : Piece). Grows c.args.code.now.items new p) (sym (piece_prefix c.args.expr.now c.in-Prefix.spot c.in-Prefix.op c.in-Prefix.inner s c.in-Prefix.is)) (grows_joined value instr)

pub emit-returns-in_ok-put-in-Cast : goal.emit-returns-in_ok-put-in-Cast
emit-returns-in_ok-put-in-Cast t c =
    let s = c.args.scopes.now in
    let mid = c.emit-in-Cast.new.code.items in
    let new = c.put-in-Cast.new.code.items in
    let value : Grows c.args.code.now.items mid (piece_of c.in-Cast.inner s) = search rules in
    let instr : Grows mid new (plain (i.Cast c.in-Cast.to ∷ [])) = search rules in
    subst (λ (p : Piece). Grows c.args.code.now.items new p) (sym (piece_cast c.args.expr.now c.in-Cast.spot c.in-Cast.to c.in-Cast.inner s c.in-Cast.is)) (grows_joined value instr)

pub emit-returns-in_ok-emit_links-in-Chain : goal.emit-returns-in_ok-emit_links-in-Chain
emit-returns-in_ok-emit_links-in-Chain t c =
    let s = c.args.scopes.now in
    let expr = c.args.expr.now in
    let mid = c.emit-in-Chain.new.code.items in
    let new = c.emit_links.new.code.items in
    let value : Grows c.args.code.now.items mid (piece_of c.in-Chain.first s) = search rules in
    let links : Grows mid new (chained (map linked_of (links_of expr)) s) = search rules in
    let rest = subst (λ (ls : List Link). Grows mid new (chained (map linked_of ls) s)) (chain_links expr c.in-Chain.first c.in-Chain.rest c.in-Chain.is) links in
    subst (λ (p : Piece). Grows c.args.code.now.items new p) (sym (piece_chain expr c.in-Chain.first c.in-Chain.rest s c.in-Chain.is)) (grows_joined value rest)

pub emit-returns-in_ok-emit_assigned-in-Assign : goal.emit-returns-in_ok-emit_assigned-in-Assign
emit-returns-in_ok-emit_assigned-in-Assign t c =
    let s = c.args.scopes.now in
    let o = object_of c.in-Assign.target in
    let line = c.in-Assign.op_spot.line in
    let value = piece_of c.in-Assign.value in
    let mid = c.emit_located.new.code.items in
    let new = c.emit_assigned.new.code.items in
    let place : Grows c.args.code.now.items mid (located o s) = search rules in
    let rest : Grows mid new (assigned c.in-Assign.op (entity_of o s) (line_of o) line (place_in o s) (value s)) = search rules in
    let is = piece_assign c.args.expr.now c.in-Assign.target c.in-Assign.op c.in-Assign.op_spot c.in-Assign.value s c.in-Assign.is ∙ assigning_is o c.in-Assign.op line value s in
    subst (λ (p : Piece). Grows c.args.code.now.items new p) (sym is) (grows_joined place rest)

pub emit-returns-in_ok-emit_branch-in-Cond-2 : goal.emit-returns-in_ok-emit_branch-in-Cond-2
emit-returns-in_ok-emit_branch-in-Cond-2 t c =
    let s = c.args.scopes.now in
    let one = part_of c.in-Cond.yes in
    let another = part_of c.in-Cond.no in
    let ctype = branches_type (one.typed s) (another.typed s) in
    let old = c.args.code.now.items in
    let tested = c.emit.new.code.items in
    let jumped = c.put.new.code.items in
    let done = c.emit_branch.new.code.items in
    let over = c.put-in-Cond.new.code.items in
    let new = c.emit_branch-in-Cond.new.code.items in
    let b = c.in_ok-ctype-in-Cond in
    let test : Grows old tested (piece_of c.in-Cond.test s) = search rules in
    let type_is : b.ctype ≡ ctype = search rules in
    let at_other : b.other ≡ length tested + (branch b.ctype one s).size + 2 = search rules in
    let at_end : b.end ≡ b.other + (branch b.ctype another s).size = search rules in
    let jump : Grows tested jumped (plain (i.JumpIfZero b.other ∷ [])) = search rules in
    let first : Grows jumped done (branch b.ctype one s) = search rules in
    let past : Grows done over (plain (i.Jump b.end ∷ [])) = search rules in
    let second : Grows over new (branch b.ctype another s) = search rules in
    let all = grows_joined test (grows_chosen at_other at_end jump first past second) in
    let typed = subst (λ (t : Option CType). Grows old new (joined (piece_of c.in-Cond.test s) (chosen (branch t one s) (branch t another s)))) type_is all in
    subst (λ (p : Piece). Grows old new p) (sym (piece_cond c.args.expr.now c.in-Cond.test c.in-Cond.yes c.in-Cond.no s c.in-Cond.is)) typed
