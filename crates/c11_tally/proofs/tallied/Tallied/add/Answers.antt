use Rattle.std.proofs.Common.{◌≡◌, ◌∙◌, ◌++◌, ◌∷◌, [], List, ℕ, sym, ap, subst, arith}
use Rattle.std.specs.Str.{bytes_eq}
use Rattle.c11_report.specs.Summaries.{HaveLeasts}
use Rattle.c11_tally.specs.Pairs.{pairs_of, Raises}
use Rattle.c11_tally.specs.Tallies.{Kept, StandsFor, AreTalliesOf, cut, output_of, ran_of, runs}
use Rattle.c11_tally.proofs.Printed.{outputs_more, share_le}
use Rattle.c11_tally.proofs.Tallying.{leasts_more, runs_with_run, tallies_more}
use Rattle.c11_tally.proofs.tallied.Tallied.add.Goals as goal

pub invariant_of-self-2 : goal.invariant_of-self-2
invariant_of-self-2 c =
    let tallies = c.self.inside.tallies in let seed = c.args.seed in let verdict = c.args.verdict in let is = c.with_run-self-inside.ensures in
    let more = ap runs is ∙ runs_with_run tallies seed verdict in (
      subst HaveLeasts (sym is) (leasts_more tallies seed verdict c.self.invariant.0),
      λ bytes. omega (arith, c.in_ok-count_output.ensures.ok.counts bytes, c.self.invariant.1 bytes, share_le (bytes_eq c.as_slice.result.now bytes) 1),
    )

pub returns-clause-stands : goal.returns-clause-stands
returns-clause-stands c = λ rans h.
    let ran = ran_of c.args.seed c.args.verdict c.args.entries.now in
    let old : StandsFor (record { tallies = c.self.inside.tallies; outputs = pairs_of c.self.inside.outputs.entries }) rans = subst (λ (kept : Kept). StandsFor kept rans) (sym c.self.view_is) h in
    let bytes : c.as_slice.result.now ≡ cut (output_of c.args.entries.now) = c.as_slice.ensures.value ∙ c.in_ok-read_output.ensures in
    let raises = subst (λ (xs : List ℕ). Raises xs 1 (pairs_of c.self.inside.outputs.entries) (pairs_of c.count_output.new.outputs.entries)) bytes c.in_ok-count_output.ensures.ok in
    record {
      tallies = subst (AreTalliesOf (rans ++ ran ∷ [])) (sym c.with_run-self-inside.ensures) (tallies_more rans c.self.inside.tallies ran old.tallies);
      outputs = outputs_more rans ran (pairs_of c.self.inside.outputs.entries) (pairs_of c.count_output.new.outputs.entries) old.outputs raises;
    }
