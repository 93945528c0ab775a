use Rattle.std.proofs.Common.{◌≡◌, true, false, sym, subst, ◌∙◌}
use Rattle.c11_mayread.specs.Standing.{Words, StandsFor}
use Rattle.c11_mayread.specs.SoundReads.{words_of}
use Rattle.c11_mayread.proofs.Following.{follows_relaxed, follows_ruled, follows_not}
use Rattle.c11_mayread.proofs.reads.Reads.may_follow.Goals as goal

pub returns-then-not-seq_cst : goal.returns-then-not-seq_cst
returns-then-not-seq_cst c = λ events e stores now store from next lists.
    let stands : StandsFor (words_of c.self.inside) events = subst (λ (w : Words). StandsFor w events) (sym c.self.view_is) now in (
      λ t. follows_relaxed (words_of c.self.inside) events stands c.args.cell c.args.x store e from stores c.args.priors.now (lists e next) c.may_precede.result c.may_precede.ensures c.if-may_precede.true (next.seq_cst ∙ c.if-not-seq_cst.true),
      λ may. let is = c.if-not-seq_cst.true in cc,
    )

pub returns-else-not-seq_cst : goal.returns-else-not-seq_cst
returns-else-not-seq_cst c = λ events e stores now store from next lists.
    let stands : StandsFor (words_of c.self.inside) events = subst (λ (w : Words). StandsFor w events) (sym c.self.view_is) now in
    follows_ruled (words_of c.self.inside) events stands c.args.cell c.args.x store e from stores c.args.priors.now (lists e next) c.may_precede.result c.may_precede.ensures c.if-may_precede.true (next.seq_cst ∙ c.if-not-seq_cst.false)
    c.keeps_read_rule.result (c.keeps_read_rule.ensures events stands.past)

pub returns-else-may_precede : goal.returns-else-may_precede
returns-else-may_precede c = λ events e stores now store from next lists.
    let stands : StandsFor (words_of c.self.inside) events = subst (λ (w : Words). StandsFor w events) (sym c.self.view_is) now in (
      λ t. absurd (let clash : false ≡ true = t in cc),
      λ may. absurd (follows_not (words_of c.self.inside) events stands c.args.cell c.args.x store e from stores c.args.priors.now (lists e next) c.may_precede.result c.may_precede.ensures c.if-may_precede.false may),
    )
