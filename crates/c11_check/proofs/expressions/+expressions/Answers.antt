use Rattle.std.proofs.Common.{◌≡◌, rules, ap, ◌∙◌, sym, map, ◌++◌, length, Bool, ℕ}
use Rattle.std.proofs.lemmas.List.{length-map}
use Rattle.std.specs.Prelude.{is_some}
use Rattle.c11_ast.specs.declared.place.Word.{Word}
use Rattle.c11_check.specs.Chains.{want_at}
use Rattle.c11_check.specs.Scopes.{denoted}
use Rattle.c11_check.specs.Faults.{misassigned, miscomputed, unknown, misindexed, miscalled, miscounted, misprinted, misfailed, misexpected}
use Rattle.c11_check.specs.Expressions.{Part, part_of, part_of_arg, used, alone, naming, named_by, faults_of_link, links, argument, arguments, forms_in, wants_in_call}
use Rattle.c11_check.specs.Programs.{keep}
use Rattle.c11_check.proofs.Parts.{both, part_assign, part_cond, part_chain, part_step, chain_behind, named_word, named_indexed, links_more, arguments_more}
use Rattle.c11_check.proofs.expressions.+expressions.Goals as goal

pub faults-returns-in-Cond : goal.faults-returns-in-Cond
faults-returns-in-Cond t c =
    let s = c.args.scopes.now in
    let k = c.args.first in
    let test = used (part_of c.in-Cond.test) s in
    let one = alone (part_of c.in-Cond.yes) s in
    let another = alone (part_of c.in-Cond.no) s in
    let a : c.used-first.result ≡ keep k test = search rules in
    let b : c.alone-first.result ≡ keep c.used-first.result one = search rules in
    let d : c.alone.result ≡ keep c.alone-first.result another = search rules in
    both k test (one ++ another) a (both c.used-first.result one another b d) ∙ sym (ap (λ (p : Part). keep k (p.faults s)) (part_cond _ _ _ _ c.in-Cond.is))

pub faults-returns-in-Chain : goal.faults-returns-in-Chain
faults-returns-in-Chain t c =
    let s = c.args.scopes.now in
    let k = c.args.first in
    let operand = used (part_of c.in-Chain.operand) s in
    let rest = links (map faults_of_link c.in-Chain.rest) s in
    let a : c.used-first-in-Chain.result ≡ keep k operand = search rules in
    let b : c.links.result ≡ keep c.used-first-in-Chain.result rest = c.links.ensures ∙ ap (keep c.used-first-in-Chain.result) (chain_behind _ _ _ s c.in-Chain.is) in
    both k operand rest a b ∙ sym (ap (λ (p : Part). keep k (p.faults s)) (part_chain _ _ _ c.in-Chain.is))

pub faults-returns-in-Step : goal.faults-returns-in-Step
faults-returns-in-Step t c =
    let s = c.args.scopes.now in
    let k = c.args.first in
    let target = named_by c.in-Step.target in
    let a : c.naming-first-in-Step.result ≡ keep k (naming target s) = search rules in
    let b : c.found.result ≡ keep c.naming-first-in-Step.result (misassigned s c.in-Step.target.word) = search rules in
    let d = b ∙ ap (λ (w : Word). keep c.naming-first-in-Step.result (misassigned s w)) (sym (named_word c.in-Step.target)) in
    both k (naming target s) (misassigned s target.word) a d ∙ sym (ap (λ (p : Part). keep k (p.faults s)) (part_step _ _ _ _ _ _ c.in-Step.is))

pub faults-returns-in-Assign : goal.faults-returns-in-Assign
faults-returns-in-Assign t c =
    let s = c.args.scopes.now in
    let k = c.args.first in
    let target = named_by c.in-Assign.target in
    let value = used (part_of c.in-Assign.value) s in
    let a : c.naming-first.result ≡ keep k (naming target s) = search rules in
    let b : c.found-first.result ≡ keep c.naming-first.result (misassigned s c.in-Assign.target.word) = search rules in
    let b' = b ∙ ap (λ (w : Word). keep c.naming-first.result (misassigned s w)) (sym (named_word c.in-Assign.target)) in
    let d : c.found-first-in-Assign.result ≡ keep c.found-first.result (miscomputed s c.in-Assign.target.word c.in-Assign.op) = search rules in
    let d' = d ∙ ap (λ (w : Word). keep c.found-first.result (miscomputed s w c.in-Assign.op)) (sym (named_word c.in-Assign.target)) in
    let e : c.used.result ≡ keep c.found-first-in-Assign.result value = search rules in
    both k (naming target s) _ a (both c.naming-first.result (misassigned s target.word) _ b' (both c.found-first.result (miscomputed s target.word c.in-Assign.op) value d' e))
    ∙ sym (ap (λ (p : Part). keep k (p.faults s)) (part_assign _ _ _ _ _ c.in-Assign.is))

pub naming-returns : goal.naming-returns
naming-returns t c =
    let s = c.args.scopes.now in
    let k = c.args.first in
    let target = c.args.target.now in
    let named = named_by target in
    let a : c.within-first.result ≡ keep k (named.within s) = search rules in
    let b : c.found-first.result ≡ keep c.within-first.result (unknown s target.word) = search rules in
    let b' = b ∙ ap (λ (w : Word). keep c.within-first.result (unknown s w)) (sym (named_word target)) in
    let d : c.found.result ≡ keep c.found-first.result (misindexed s target.word (is_some target.index)) = search rules in
    let d' = d ∙ (ap (λ (w : Word). keep c.found-first.result (misindexed s w (is_some target.index))) (sym (named_word target))
    ∙ ap (λ (b : Bool). keep c.found-first.result (misindexed s named.word b)) (sym (named_indexed target))) in
    both k (named.within s) _ a (both c.within-first.result (unknown s named.word) (misindexed s named.word named.indexed) b' d')

pub links-loop-link-preserved : goal.links-loop-link-preserved
links-loop-link-preserved t c = links_more c.loop-link.first c.as_slice-link-items.result.now c.loop-link.link-index c.link-item.result c.args.scopes.now c.loop-link-test.true c.link-item.is c.used-first.ensures
    ∙ c.loop-link.invariant

pub arguments-loop-place-preserved : goal.arguments-loop-place-preserved
arguments-loop-place-preserved t c = let one : c.argument-first.result ≡ keep c.loop-place.first (argument c.args.word.now (want_at c.args.wants.now c.loop-place.place) (part_of_arg c.index-args-place.result) c.args.scopes.now) = search rules in
    arguments_more c.loop-place.first c.args.word.now c.args.wants.now c.args.args.now c.loop-place.place c.index-args-place.result c.args.scopes.now c.loop-place-test.true c.index-args-place.is one
    ∙ c.loop-place.invariant

pub call-returns : goal.call-returns
call-returns t c =
    let s = c.args.scopes.now in
    let k = c.args.first in
    let word = c.args.word.now in
    let parts = map part_of_arg c.args.args.now in
    let entity = denoted s word.name in
    let forms = forms_in parts s in
    let a : c.found-first.result ≡ keep k (unknown s word) = search rules in
    let b : c.found-first-2.result ≡ keep c.found-first.result (miscalled s word) = search rules in
    let count : length c.args.args.now ≡ length parts = sym (length-map c.args.args.now part_of_arg) in
    let d' : c.found-first-3.result ≡ keep c.found-first-2.result (miscounted s word (length c.args.args.now)) = search rules in
    let d = d' ∙ ap (λ (n : ℕ). keep c.found-first-2.result (miscounted s word n)) count in
    let e : c.found-first-4.result ≡ keep c.found-first-3.result (misprinted s word forms) = search rules in
    let f : c.misfailed-first.result ≡ keep c.found-first-4.result (misfailed entity forms) = search rules in
    let g : c.misexpected-first.result ≡ keep c.misfailed-first.result (misexpected entity forms) = search rules in
    let h : c.arguments.result ≡ keep c.misexpected-first.result (arguments word (wants_in_call entity) parts s) = search rules in
    both k (unknown s word) _ a (both c.found-first.result (miscalled s word) _ b (both c.found-first-2.result (miscounted s word (length parts)) _ d
    (both c.found-first-3.result (misprinted s word forms) _ e (both c.found-first-4.result (misfailed entity forms) _ f
    (both c.misfailed-first.result (misexpected entity forms) _ g h)))))
