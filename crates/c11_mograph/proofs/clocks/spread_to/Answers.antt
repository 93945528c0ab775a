use Rattle.std.proofs.Common.{List, ℕ, length, subst, sym, ◌∙◌}
use Rattle.c11_clock.proofs.Joined.{length-joined}
use Rattle.c11_mograph.specs.Spread.{row, AreWide}
use Rattle.c11_mograph.proofs.Tables.{wide_set}
use Rattle.c11_mograph.proofs.clocks.spread_to.Goals as goal

pub returns-then-covers-clause-wide : goal.returns-then-covers-clause-wide
returns-then-covers-clause-wide c = subst (λ (t : List (List ℕ)). AreWide (length (row c.args.clocks.now c.args.from)) t) (sym c.grow.ensures.grown)
    (wide_set _ _ _ _ c.requires.wide (λ lt. length-joined _ _ (sym (c.requires.wide _ lt)) ∙ c.requires.wide _ lt))
