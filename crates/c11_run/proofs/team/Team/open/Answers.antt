use Rattle.std.proofs.Common.{◌≡◌, ℕ, List, [], Some, slice_get, sym, subst, arith, length-append, ap, ◌∙◌, inl, inr}
use Rattle.c11_run.specs.Going.{IsWaiting}
use Rattle.c11_run.specs.declared.team.Member.{Member}
use Rattle.c11_run.proofs.Lists.{each_more, old_or_end}
use Rattle.c11_run.proofs.team.Team.open.Goals as goal

pub loop-number-preserved : goal.loop-number-preserved
loop-number-preserved c = record {
  count = grind (arith, length-append {A = Member}, c.in_ok-push.ensures.items);
  waiting = subst (λ (ms : List Member). (u : ℕ) (member : Member) → slice_get ms u ≡ Some member → IsWaiting c.args.checked.now.program member []) (sym c.in_ok-push.ensures.items)
      (each_more (λ (m : Member). IsWaiting c.args.checked.now.program m []) c.loop-number.members.items c.in_ok-open.field-0 c.loop-number.invariant.waiting c.in_ok-open.ensures.waiting);
  numbered = subst (λ (ms : List Member). (u : ℕ) (member : Member) → slice_get ms u ≡ Some member → member.thread.number ≡ u) (sym c.in_ok-push.ensures.items)
      (λ u member at. elim (old_or_end c.loop-number.members.items c.in_ok-open.field-0 u member at) [
        | inl old ↦ c.loop-number.invariant.numbered u member old
        | inr end ↦ ap (λ (m : Member). m.thread.number) (sym end.1) ∙ (c.in_ok-open.ensures.number ∙ (sym c.loop-number.invariant.count ∙ sym end.0))
      ]);
}
