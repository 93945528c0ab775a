use Rattle.std.proofs.Common.{◌≡◌, subst, drop, length, ℕ, add-one, arith, rules, pos}
use Rattle.c11_num.specs.declared.value.CType.TheVariants as t
use Rattle.c11_lexer.specs.Numbers.{FirstHolding}
use Rattle.c11_lexer.proofs.Numbers.{here_at, later_at, beyond_at, none_at_end}
use Rattle.c11_lexer.proofs.number.first_holding.Goals as goal

pub returns-then-holds-clause-found : goal.returns-then-holds-clause-found
returns-then-holds-clause-found c = c.loop-ctype.invariant.0 _ (here_at _ _ _ _ c.loop-ctype-test.true (c.if-holds.ensures.0 (search rules)))

pub loop-ctype-preserved : goal.loop-ctype-preserved
loop-ctype-preserved c = (
  λ ctype h. c.loop-ctype.invariant.0 ctype (later_at _ _ _ t.Int ctype c.loop-ctype-test.true (λ range. search (rules, c.if-holds.ensures.1 range)) (rw add-one at h)),
  λ ctype h. rw add-one (beyond_at _ _ _ t.Int ctype c.loop-ctype-test.true (λ range. search (rules, c.if-holds.ensures.1 range)) (c.loop-ctype.invariant.1 ctype h)),
)

pub returns-clause-none : goal.returns-clause-none
returns-clause-none c ctype h =
    let same : c.loop-ctype.ctype-index ≡ length c.args.types.now = omega arith in
    none_at_end _ c.args.types.now ctype (subst (λ (i : ℕ). FirstHolding (pos c.args.number) (drop i c.args.types.now) ctype) same (c.loop-ctype.invariant.1 ctype h))
