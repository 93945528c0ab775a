use Rattle.std.proofs.Common.{sym, ap, ◌∙◌, subst}
use Rattle.std.specs.Prelude.{is_some}
use Rattle.std.proofs.lemmas.Result.{on_ok_weaker}
use Rattle.c11_run.specs.declared.team.Team.{Team}
use Rattle.c11_run.specs.Going.{IsAt}
use Rattle.c11_run.proofs.Stepping.{all_within, at_end, at_stop, at_told, fits_now, more_steps, waits_told}
use Rattle.c11_run.proofs.turns.go.Goals as goal
use Rattle.c11_run.proofs.turns.go.Goals.{then-is_some-via-then-is_some, then-is_some-via-else-is_some+then-is_end}

pub step-requires-clause-within : goal.step-requires-clause-within
step-requires-clause-within c = all_within c.asks_are_legal.ensures _ _ _ c.requires.at c.requires.goes_on

pub returns-then-is_some-clause-at : goal.returns-then-is_some-clause-at
returns-then-is_some-clause-at c =
    let turn = c.in_ok-thread.ensures c.requires.at.words c.requires.at.drawn in
    let kept = ap is_some (sym c.verdict.ensures.kept) ∙ sym c.is_some.ensures in
    elim c.then-is_some.branch [
      | then-is_some-via-then-is_some w ↦ subst (λ (t : Team). IsAt c.args.checked.now c.step.new.memory t.members.items) (sym w.team-is)
          (at_stop c.asks_are_legal.ensures _ _ _ c.requires.at c.requires.goes_on _ c.requires.enabled c.requires.undecided _ _ _ turn _ c.index_mut-member.ensures.value (kept ∙ w.if-is_some.true))
      | then-is_some-via-else-is_some+then-is_end w ↦ subst (λ (t : Team). IsAt c.args.checked.now c.step.new.memory t.members.items) (sym w.team-is)
          (at_end c.asks_are_legal.ensures _ _ _ c.requires.at c.requires.goes_on _ c.requires.enabled c.requires.undecided _ _ _ turn _ c.index_mut-member.ensures.value (w.is_end.ensures.0 w.if-is_end.true))
    ]

pub returns-then-is_some-clause-steps : goal.returns-then-is_some-clause-steps
returns-then-is_some-clause-steps c =
    more_steps c.asks_are_legal.ensures _ _ _ c.requires.at c.requires.goes_on _ c.requires.enabled c.requires.undecided _ _ _ (c.in_ok-thread.ensures c.requires.at.words c.requires.at.drawn)

pub tell-requires-clause-waits : goal.tell-requires-clause-waits
tell-requires-clause-waits c =
    waits_told c.asks_are_legal.ensures _ _ _ c.requires.at c.requires.goes_on _ c.requires.enabled c.requires.undecided _ _ _ (c.in_ok-thread.ensures c.requires.at.words c.requires.at.drawn)
    _ c.index_mut-member.ensures.value

pub tell-requires-clause-kind : goal.tell-requires-clause-kind
tell-requires-clause-kind c =
    fits_now c.asks_are_legal.ensures _ _ _ c.requires.at c.requires.goes_on _ c.requires.enabled c.requires.undecided _ _ _ (c.in_ok-thread.ensures c.requires.at.words c.requires.at.drawn)
    _ c.index_mut-member.ensures.value c.faultless_lies_within.ensures (ap is_some (sym c.verdict.ensures.kept) ∙ (sym c.is_some.ensures ∙ c.if-is_some.false)) _ c.is_end.ensures.1 c.if-is_end.false

pub returns-clause-at : goal.returns-clause-at
returns-clause-at c =
    on_ok_weaker c.tell.result
    (at_told c.asks_are_legal.ensures _ _ _ c.requires.at c.requires.goes_on _ c.requires.enabled c.requires.undecided _ _ _ (c.in_ok-thread.ensures c.requires.at.words c.requires.at.drawn)
    _ c.index_mut-member.ensures.value _)
    c.tell.ensures

pub returns-clause-steps : goal.returns-clause-steps
returns-clause-steps c =
    let more = more_steps c.asks_are_legal.ensures _ _ _ c.requires.at c.requires.goes_on _ c.requires.enabled c.requires.undecided _ _ _ (c.in_ok-thread.ensures c.requires.at.words c.requires.at.drawn) in
    on_ok_weaker c.tell.result (λ told. more) c.tell.ensures
