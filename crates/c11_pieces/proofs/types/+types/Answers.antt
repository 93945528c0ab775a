use Rattle.std.proofs.Common.{rules, ◌≡◌, List, map, Some, sym, ap, ◌∙◌}
use Rattle.c11_num.specs.declared.value.CType.{CType}
use Rattle.c11_ast.specs.declared.expr.Link.{Link}
use Rattle.c11_check.specs.Types.{links_type, or_int}
use Rattle.c11_meaning.specs.Parts.{Part, type_of_link}
use Rattle.c11_flat.specs.Pieces.{Coding, part_of}
use Rattle.c11_pieces.specs.Trees.{linked_of}
use Rattle.c11_pieces.proofs.Parts.{part_chain, chain_links}
use Rattle.c11_pieces.proofs.types.+types.Goals as goal

pub value_type-returns-in-Chain : goal.value_type-returns-in-Chain
value_type-returns-in-Chain t c =
    let s = c.args.scopes.now in
    let first = c.in-Chain.first in
    let left : c.or_int-left.result ≡ or_int ((part_of first).typed s) = search rules in
    let links = ap (λ (ls : List Link). links_type c.or_int-left.result (map type_of_link (map linked_of ls)) s) (chain_links c.args.expr.now first c.in-Chain.rest c.in-Chain.is) in
    ap (λ (t : CType). Some t) (c.links_type.ensures ∙ (links ∙ ap (λ (t : CType). links_type t (map type_of_link (map linked_of c.in-Chain.rest)) s) left))
    ∙ sym (ap (λ (p : Part Coding). p.typed s) (part_chain c.args.expr.now first c.in-Chain.rest c.in-Chain.is))
