use denote.Exit.{no}
use denote.Param.Send.{param_sync, arg_sync}
use Rattle.std.proofs.Common.{◌≡◌, ℕ, length, subst, arith}
use Rattle.c11_machine.specs.Programs.{program_of}
use Rattle.c11_campaign.proofs.Crossing.{closure_sync}
use Rattle.c11_campaign.specs.Workers.{HasRunAll}
use Rattle.c11_campaign.proofs.Summing.{sums_up_if}
use Rattle.c11_campaign.proofs.Together.{all_worked}
use Rattle.c11_campaign.proofs.whole.campaign.Goals as goal

pub map_vec-requires-sync-F : goal.map_vec-requires-sync-F
map_vec-requires-sync-F g c = λ κs w. param_sync 4 _ (arg_sync _ no _ (closure_sync _ _ _ _ _ _ _ _ g.row.G c.type_bounds.sync-G))

pub gather-requires-clause-worked : goal.gather-requires-clause-worked
gather-requires-clause-worked g c =
    let same : length c.in_ok-worked.worked.items ≡ length c.in_ok-team.team.items = omega (arith, c.in_ok-worked.ensures.len, c.in_ok-worked.worked.ok, c.in_ok-team.team.ok) in
    all_worked (program_of c.args.checked.now) c.args.first c.args.steps c.in_ok-claims.claims c.in_ok-team.team.items c.in_ok-worked.worked.items same
    (λ i d low. let e = c.in_ok-worked.ensures.each i d low in record { seat = e.1.job; seat_is = e.1.job_is; gives = e.1.call.met })
    c.in_ok-team.ensures.dealt

pub returns-clause-summary : goal.returns-clause-summary
returns-clause-summary g c =
    let program = program_of c.args.checked.now in
    let all : HasRunAll program c.args.first c.args.count c.args.steps c.in_ok-tallied.tallied =
    subst (λ (n : ℕ). HasRunAll program c.args.first n c.args.steps c.in_ok-tallied.tallied) c.in_ok-claims.ensures.claims c.in_ok-tallied.ensures in
    sums_up_if c.order_is_free.ensures program c.args.first c.args.count c.args.steps c.in_ok-tallied.tallied all c.summary.result c.summary.ensures.head c.summary.ensures.kept
