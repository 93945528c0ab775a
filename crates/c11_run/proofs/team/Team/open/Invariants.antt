use Rattle.std.proofs.Common.{◌≡◌, ℕ, [], Some, length, slice_get}
use Rattle.c11_run.specs.declared.team.Member.{Member}
use Rattle.c11_run.specs.Going.{IsWaiting}
use Rattle.c11_run.proofs.team.Team.open.Given as goal

abbrev pub invariant-loop-number : goal.invariant-loop-number
invariant-loop-number l = record {
  count : length l.members.items ≡ l.number;
  waiting : (u : ℕ) (member : Member) → slice_get l.members.items u ≡ Some member → IsWaiting l.checked.program member [];
  numbered : (u : ℕ) (member : Member) → slice_get l.members.items u ≡ Some member → member.thread.number ≡ u;
}
