use Rattle.std.proofs.Common.{◌≡◌, drop, map}
use Rattle.c11_check.specs.Chains.{links_behind}
use Rattle.c11_check.specs.Expressions.{links, arguments, faults_of_link, part_of_arg}
use Rattle.c11_check.specs.Programs.{keep}
use Rattle.c11_check.proofs.expressions.+expressions.Given as goal

abbrev pub invariant-links-loop-link : goal.invariant-links-loop-link
invariant-links-loop-link l = keep l.first (links (map faults_of_link (drop l.link-index l.link-items)) l.scopes) ≡ keep l.fn.first (links_behind l.chain l.scopes)

abbrev pub invariant-arguments-loop-place : goal.invariant-arguments-loop-place
invariant-arguments-loop-place l = keep l.first (arguments l.word (drop l.place l.wants) (map part_of_arg (drop l.place l.args)) l.scopes) ≡ keep l.fn.first (arguments l.word l.wants (map part_of_arg l.args) l.scopes)
