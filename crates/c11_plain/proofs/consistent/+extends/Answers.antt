use Rattle.std.proofs.Common.{ℕ, ◌-◌, ◌++◌, ◌∷◌, [], List, sym, ◌∙◌, subst, arith}
use borrow.Author.Count.{below_more}
use Rattle.c11_plain.specs.Consistency.{Extends}
use Rattle.c11_plain.proofs.Numbers.{apart}
use Rattle.c11_plain.proofs.Extending.{may_stand_of, extends_none}
use Rattle.c11_plain.proofs.consistent.+extends.Goals as goal
use Rattle.c11_plain.proofs.consistent.+extends.Goals.{then-may_stand+in_ok-longer+in_ok-extends+else-branch, else-may_stand}

pub loop-x-preserved : goal.loop-x-preserved
loop-x-preserved t c =
    let P : ℕ → Type 0 = λ y. Extends c.args.events.now c.args.cell (c.args.order.now ++ y ∷ []) (c.args.depth - 1) → ⊥ in
    let here : P c.loop-x.x = elim c.if-may_stand.branch [
      | then-may_stand+in_ok-longer+in_ok-extends+else-branch w ↦ (λ e. apart w.if-branch.false (w.in_ok-extends.ensures.1
          (subst (λ (z : List ℕ). Extends c.args.events.now c.args.cell z (c.args.depth - 1)) (sym (w.as_slice.ensures.value ∙ w.in_ok-longer.ensures)) e)))
      | else-may_stand w ↦ (λ e. apart w.if-may_stand.false (c.may_stand.ensures.1 (may_stand_of c.args.events.now c.args.cell c.args.order.now c.loop-x.x (c.args.depth - 1) e)))
    ] in
    below_more P c.loop-x.x c.loop-x.invariant here

pub returns : goal.returns
returns t c = (
  λ h. cc,
  λ e. absurd (extends_none c.args.events.now c.args.cell c.args.order.now c.args.depth c.args.all.now.count c.requires.count
      (λ l. apart c.if-keeps_all.false (c.keeps_all.ensures.1 l)) (λ y lt. c.loop-x.invariant y (omega arith)) e),
)
