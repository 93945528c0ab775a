-- What the program ends with: the statuses, and which come with what.
use Rattle.std.specs.Prelude.{ℕ, ⊤, Bool, nat_lt, ◌||◌, if◌then◌else◌}
use Rattle.c11_events.specs.declared.verdict.Verdict.{Verdict}
use Rattle.c11_events.specs.declared.verdict.Verdict.TheVariants as verdict
use Rattle.c11_report.specs.declared.tally.Tallies.{Tallies}
use Rattle.c11_commands.specs.declared.words.Status.{Status}
use Rattle.c11_commands.specs.declared.words.Status.TheVariants.{Done, Found, Bound, Refused, Usage, ReadFault, WriteFault, NoMemory}

-- the number that the program ends with
abbrev pub exit_number : Status → ℕ
exit_number Done = 0
exit_number Found = 1
exit_number Bound = 2
exit_number Refused = 3
exit_number Usage = 4
exit_number ReadFault = 5
exit_number WriteFault = 6
exit_number NoMemory = 7

-- the status of a run, by its verdict
abbrev pub status_of : Verdict → Status
status_of verdict.Done = Done
status_of verdict.Bound = Bound
status_of _ = Found

-- a run ended otherwise than with `done` or `bound`
abbrev pub found_some : Tallies → Bool
found_some t = nat_lt 0 t.race.count || nat_lt 0 t.assert_.count || nat_lt 0 t.fault.count || nat_lt 0 t.local.count || nat_lt 0 t.deadlock.count

-- the status of a campaign, by what it counted: that of the worst run
abbrev pub status_of_tallies : Tallies → Status
status_of_tallies t = if found_some t then Found else (if nat_lt 0 t.bound.count then Bound else Done)

-- the statuses that come with a whole text
abbrev pub IsWhole : Status → Type 0
IsWhole ReadFault = ⊥
IsWhole WriteFault = ⊥
IsWhole NoMemory = ⊥
IsWhole _ = ⊤

-- those of an answer that is no refusal
abbrev pub IsAnswer : Status → Type 0
IsAnswer Refused = ⊥
IsAnswer status = IsWhole status
