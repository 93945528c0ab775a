use Rattle.std.proofs.Common.{[], List, ℕ, sym, subst, Vec, Global}
use Rattle.c11_tally.specs.Pairs.{pairs_of}
use Rattle.c11_tally.specs.Tallies.{AreTalliesOf, AreOutputsOf}
use Rattle.c11_tally.proofs.Printed.{outputs_none}
use Rattle.c11_tally.proofs.Tallying.{tallies_none}
use Rattle.c11_tally.proofs.tallied.Tallied.new.Goals as goal

pub returns-clause-stands : goal.returns-clause-stands
returns-clause-stands c = record {
  tallies = subst (AreTalliesOf []) (sym c.no_tallies.ensures) tallies_none;
  outputs = subst (λ (entries : List (Vec ℕ Global × ℕ)). AreOutputsOf [] (pairs_of entries)) (sym c.new.ensures.empty) outputs_none;
}
