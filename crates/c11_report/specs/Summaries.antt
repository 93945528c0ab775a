-- The text of a campaign's summary, as a list of bytes.
use Rattle.std.specs.Prelude.{ℕ, ◌≡◌, ◌↔◌, List, [], ◌∷◌, ◌++◌, Option, Some, None, length, flat_map, codes}
use Rattle.std.specs.Fmt.{decimal}
use Rattle.c11_report.specs.declared.tally.Tally.{Tally}
use Rattle.c11_report.specs.declared.tally.Tallies.{Tallies}
use Rattle.c11_report.specs.declared.summary.Summary.{Summary}
use Rattle.c11_report.specs.Execution.{hex_bytes}

-- there is a least seed exactly where a run was counted
abbrev pub HasLeast : Tally → Type 0
HasLeast tally = (tally.least ≡ None) ↔ (tally.count ≡ 0)

pub record HaveLeasts (tallies : Tallies) : Type 0 where
  pub done : HasLeast tallies.done
  pub bound : HasLeast tallies.bound
  pub race : HasLeast tallies.race
  pub assert_ : HasLeast tallies.assert_
  pub fault : HasLeast tallies.fault
  pub local : HasLeast tallies.local
  pub deadlock : HasLeast tallies.deadlock

abbrev pub least_bytes : Option ℕ → List ℕ
least_bytes None = codes "-"
least_bytes (Some seed) = decimal seed

-- a line for one way to end
abbrev pub tally_bytes : List ℕ → Tally → List ℕ
tally_bytes word tally = word ++ codes " " ++ decimal tally.count ++ codes " " ++ least_bytes tally.least ++ 10 ∷ []

abbrev pub tallies_bytes : Tallies → List ℕ
tallies_bytes tallies =
    tally_bytes (codes "done") tallies.done ++ tally_bytes (codes "bound") tallies.bound ++ tally_bytes (codes "race") tallies.race
    ++ tally_bytes (codes "assert") tallies.assert_ ++ tally_bytes (codes "fault") tallies.fault ++ tally_bytes (codes "local") tallies.local
    ++ tally_bytes (codes "deadlock") tallies.deadlock

-- a line for one output
abbrev pub output_bytes : List ℕ × ℕ → List ℕ
output_bytes pair = decimal pair.1 ++ codes " " ++ hex_bytes pair.0 ++ 10 ∷ []

abbrev pub outputs_bytes : List (List ℕ × ℕ) → List ℕ
outputs_bytes pairs = codes "outputs " ++ decimal (length pairs) ++ 10 ∷ [] ++ flat_map output_bytes pairs

-- the first line: the first seed, how many seeds, and the bound on steps
abbrev pub campaign_bytes : ℕ → ℕ → ℕ → List ℕ
campaign_bytes first count steps = codes "campaign 1 first " ++ decimal first ++ codes " count " ++ decimal count ++ codes " steps " ++ decimal steps ++ 10 ∷ []

-- the text of a summary
abbrev pub summary_bytes : Summary → List ℕ
summary_bytes summary = campaign_bytes summary.first summary.count summary.steps ++ tallies_bytes summary.tallies ++ outputs_bytes summary.outputs
