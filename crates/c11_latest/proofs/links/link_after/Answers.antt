use Rattle.std.proofs.Common.{◌≡◌, ◌∙◌, ℕ, Some, ap, sym, subst}
use Rattle.c11_latest.specs.Linked.{HasLikeJumps}
use Rattle.c11_latest.proofs.links.link_after.Goals as goal

pub returns-in-Some-clause-over : goal.returns-in-Some-clause-over
returns-in-Some-clause-over c = λ place far at like.
    let both : Some c.in-Some.place ≡ Some place = sym c.in-Some.is ∙ at in
    let same : place ≡ c.in-Some.place = cc in
    ap (λ (x : ℕ). Some x) (c.jump_after.ensures.far far (subst (λ (p : ℕ). HasLikeJumps c.args.links.now p far) same like))
