use Rattle.std.proofs.Common.{◌≡◌, ◌+◌, ◌≤◌, ◌∙◌, ◌++◌, ◌∷◌, [], ℕ, List, length, ap, sym, subst, arith}
use Rattle.std.proofs.lemmas.List.{length-append}
use Rattle.c11_claims.specs.Claims.{Hand}
use Rattle.c11_events.specs.declared.entry.Entry.{Entry}
use Rattle.c11_events.specs.Offered.{Offered}
use Rattle.c11_machine.specs.Programs.{program_of}
use Rattle.c11_machine.specs.Runs.{OneRun}
use Rattle.c11_campaign.specs.Workers.{HasRun}
use Rattle.c11_campaign.proofs.Tallying.{one_more, ended}
use Rattle.c11_campaign.proofs.hunt.tally_seeds.Goals as goal

pub returns-in_default-clause-tallied : goal.returns-in_default-clause-tallied
returns-in_default-clause-tallied g c =
    let none = c.in_default.ensures.none in
    let inv = c.loop-turn.invariant in
    let few : length c.loop-turn.claimer.claimed ≤ c.args.claims.now.count = omega (arith, inv.3, inv.4, c.requires.count) in
    ended (program_of c.args.hunt.now.checked.now) c.args.hunt.now.first c.args.hunt.now.steps c.args.claims.now c.loop-turn.claimer.claimed c.claim.new.claimer.claimed none.0 c.loop-turn.tallied
    inv.5 inv.2 few none.1 (ap (λ (h : Hand). h.claimed) none.3)

pub loop-turn-preserved : goal.loop-turn-preserved
loop-turn-preserved g c =
    let some = c.in-Some.ensures.some in
    let inv = c.loop-turn.invariant in
    let program = program_of c.args.hunt.now.checked.now in
    let first = c.args.hunt.now.first in
    let bound = c.args.hunt.now.steps in
    let n = c.in-Some.number in
    let claimed = c.loop-turn.claimer.claimed in
    let now_is : c.claim.new.claimer.claimed ≡ claimed ++ n ∷ [] = ap (λ (h : Hand). h.claimed) some.1 in
    let entries = c.as_slice.result.now in
    let verdict = c.in_ok-run.run'.verdict in
    let run : OneRun Offered program (first + n) bound entries verdict = subst (λ (es : List Entry). OneRun Offered program (first + n) bound es verdict) (sym c.as_slice.ensures.value) c.in_ok-run.ensures.run in
    let more = one_more program first bound claimed n c.loop-turn.tallied c.add.new.self verdict entries inv.5 run c.in_ok-add.ensures.stands c.in_ok-add.ensures.runs in
    let longer : length c.claim.new.claimer.claimed ≡ length claimed + 1 = ap length now_is ∙ length-append claimed (n ∷ []) in (
      ap (λ (h : Hand). h.claims) some.1,
      ap (λ (h : Hand). h.shares) some.1 ∙ inv.1,
      c.in-Some.ensures.going,
      omega (arith, longer, inv.3),
      omega (arith, c.in-Some.ensures.fewer, some.0, inv.3, c.requires.count),
      subst (λ (xs : List ℕ). HasRun program first bound xs c.add.new.self) (sym now_is) more,
    )
