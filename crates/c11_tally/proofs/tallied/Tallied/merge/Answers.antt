use Rattle.std.proofs.Common.{◌≡◌, ◌+◌, ◌∙◌, ◌++◌, List, sym, ap, subst, arith}
use Rattle.std.proofs.lemmas.Result.{on_ok_weaker}
use Rattle.c11_report.specs.Summaries.{HaveLeasts}
use Rattle.c11_tally.specs.Joined.{joined_tallies}
use Rattle.c11_tally.specs.Pairs.{pairs_of, Adds}
use Rattle.c11_tally.specs.Tallies.{Ran, Kept, StandsFor, AreTalliesOf, runs}
use Rattle.c11_tally.proofs.Printed.{outputs_add}
use Rattle.c11_tally.proofs.Tallying.{leasts_join, tallies_join}
use Rattle.c11_tally.proofs.tallied.Tallied.merge.Goals as goal

pub invariant_of-self : goal.invariant_of-self
invariant_of-self c =
    let a = c.self.inside.tallies in let b = c.other.inside.tallies in let is = c.joined_tallies-self-inside.ensures in
    let all : runs c.joined_tallies-self-inside.result ≡ runs a + runs b = ap runs is ∙ (let sum : runs (joined_tallies a b) ≡ runs a + runs b = omega arith in sum) in (
      subst HaveLeasts (sym is) (leasts_join a b c.self.invariant.0 c.other.invariant.0),
      λ bytes. omega (arith, c.add_outputs.ensures.most bytes, c.self.invariant.1 bytes, c.other.invariant.1 bytes),
    )

pub returns-clause-stands : goal.returns-clause-stands
returns-clause-stands c = on_ok_weaker c.add_outputs.result all c.add_outputs.ensures.ok
  where
    all : Adds (pairs_of c.other.inside.outputs.entries) (pairs_of c.self.inside.outputs.entries) (pairs_of c.add_outputs.new.outputs.entries) → (xs ys : List Ran)
        → StandsFor c.args.self.now xs → StandsFor c.args.other ys
        → StandsFor (record { tallies = c.joined_tallies-self-inside.result; outputs = pairs_of c.add_outputs.new.outputs.entries }) (xs ++ ys)
    all adds xs ys h g =
        let a = c.self.inside in let b = c.other.inside in
        let mine : StandsFor (record { tallies = a.tallies; outputs = pairs_of a.outputs.entries }) xs = subst (λ (kept : Kept). StandsFor kept xs) (sym c.self.view_is) h in
        let others : StandsFor (record { tallies = b.tallies; outputs = pairs_of b.outputs.entries }) ys = subst (λ (kept : Kept). StandsFor kept ys) (sym c.other.view_is) g in
        record {
          tallies = subst (AreTalliesOf (xs ++ ys)) (sym c.joined_tallies-self-inside.ensures) (tallies_join xs ys a.tallies b.tallies mine.tallies others.tallies);
          outputs = outputs_add xs ys (pairs_of b.outputs.entries) (pairs_of a.outputs.entries) (pairs_of c.add_outputs.new.outputs.entries) mine.outputs others.outputs adds;
        }
