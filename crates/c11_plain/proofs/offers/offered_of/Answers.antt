use Rattle.std.proofs.Common.{◌≡◌, ℕ, ◌+◌, ◌++◌, ◌∷◌, [], List, sym, subst, arith}
use Rattle.c11_events.specs.Offered.{IsOffered, op_reading}
use Rattle.c11_plain.proofs.Ends.{below}
use Rattle.c11_plain.proofs.Numbers.{apart}
use Rattle.c11_plain.proofs.Rising.{IsRisingBelow, rising_push, rising_skip, rising_done}
use Rattle.c11_plain.proofs.offers.offered_of.Goals as goal
use Rattle.c11_plain.proofs.offers.offered_of.Goals.{then-branch+in_ok-push, else-branch}

pub loop-x-preserved : goal.loop-x-preserved
loop-x-preserved c =
    let P : ℕ → Type 0 = IsOffered c.args.events.now c.args.thread (op_reading c.args.events.now c.args.op.now) c.args.cell in
    let Next : List ℕ → Type 0 = λ xs. IsRisingBelow P (c.loop-x.x + 1) xs in
    elim c.if-branch.branch [
      | then-branch+in_ok-push w ↦
          let e : c.if-branch.offers.items ≡ c.loop-x.offers.items ++ c.loop-x.x ∷ [] = cc (w.offers-is, w.in_ok-push.ensures.items) in
          subst Next (sym e) (rising_push P c.loop-x.x c.loop-x.offers.items (c.in_ok-is_offered.ensures.0 w.if-branch.true) c.loop-x.invariant)
      | else-branch w ↦
          let e : c.if-branch.offers.items ≡ c.loop-x.offers.items = cc w.offers-is in
          subst Next (sym e) (rising_skip P c.loop-x.x c.loop-x.offers.items (λ o. apart w.if-branch.false (c.in_ok-is_offered.ensures.1 o)) c.loop-x.invariant)
    ]

pub returns : goal.returns
returns c = rising_done (IsOffered c.args.events.now c.args.thread (op_reading c.args.events.now c.args.op.now) c.args.cell) c.loop-x.x c.loop-x.offers.items
    (λ x o. omega (arith, below c.args.events.now c.in_ok-count.count c.in_ok-count.ensures o.store)) c.loop-x.invariant
