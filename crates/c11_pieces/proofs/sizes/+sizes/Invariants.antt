use Rattle.std.proofs.Common.{◌≡◌, ◌+◌, drop, map}
use Rattle.c11_flat.specs.Pieces.{chained, values_given}
use Rattle.c11_pieces.specs.Trees.{given_of, linked_of, links_of}
use Rattle.c11_pieces.proofs.sizes.+sizes.Given as goal

abbrev pub invariant-links_size-loop-link : goal.invariant-links_size-loop-link
invariant-links_size-loop-link l = l.size + (chained (map linked_of (drop l.link-index l.link-items)) l.scopes).size ≡ (chained (map linked_of (links_of l.chain)) l.scopes).size

abbrev pub invariant-values_size-loop-place : goal.invariant-values_size-loop-place
invariant-values_size-loop-place l = l.size + (values_given (map given_of (drop l.place l.args)) l.scopes).size ≡ (values_given (map given_of (drop l.from l.args)) l.scopes).size
