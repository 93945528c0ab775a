use Rattle.std.proofs.Common.{◌≡◌, drop, map}
use Rattle.c11_check.specs.Types as spec
use Rattle.c11_meaning.specs.Parts.{type_of_link}
use Rattle.c11_pieces.specs.Trees.{linked_of, links_of}
use Rattle.c11_pieces.proofs.types.+types.Given as goal

abbrev pub invariant-links_type-loop-link : goal.invariant-links_type-loop-link
invariant-links_type-loop-link l = spec.links_type l.left (map type_of_link (map linked_of (drop l.link-index l.link-items))) l.scopes
    ≡ spec.links_type l.fn.left (map type_of_link (map linked_of (links_of l.chain))) l.scopes
