use Rattle.std.proofs.Common.{ℕ, ◌+◌, ◌<◌, [], ◌∷◌, length-append, sym, length, ap, ◌∙◌, subst, arith, Vec, Global}
use Rattle.c11_events.specs.EventOf.{events_of}
use Rattle.c11_events.specs.Offered.{IsRisingList}
use Rattle.c11_run.specs.Going.{GoesOn}
use Rattle.c11_run.proofs.Enabling.{at, goes, goes_not, goes_below}
use Rattle.c11_run.proofs.Lists.{rising_all, rising_more, rising_same}
use Rattle.c11_run.proofs.team.Team.enabled.Goals as goal
use Rattle.c11_run.proofs.team.Team.enabled.Goals.{then-can_go+in_ok-push, else-can_go}

pub can_go-requires-clause-within : goal.can_go-requires-clause-within
can_go-requires-clause-within c =
    c.requires.within c.loop-number.number c.index.result.now
    (at (events_of c.args.memory.now.history) c.args.self.now.members.items c.loop-number.number c.index.result.now (omega (arith, c.requires.count)) c.index.ensures)

pub loop-number-preserved : goal.loop-number-preserved
loop-number-preserved c =
    let events = events_of c.args.memory.now.history in
    let members = c.args.self.now.members.items in
    let n = c.loop-number.number in
    let inside : n < length members = omega (arith, c.requires.count) in
    elim c.if-can_go.branch [
      | then-can_go+in_ok-push w ↦
          let pushed = ap (λ (v : Vec ℕ Global). v.items) w.enabled-is ∙ w.in_ok-push.ensures.items in
          record {
            few = omega (arith, ap length pushed, length-append c.loop-number.enabled.items (n ∷ []), c.loop-number.invariant.few);
            all = subst (IsRisingList (λ u. (u < n + 1) × GoesOn events members u)) (sym pushed)
                (rising_more (GoesOn events members) n c.loop-number.enabled.items c.loop-number.invariant.all
                (goes events members n c.index.result.now inside c.index.ensures c.can_go.result c.can_go.ensures w.if-can_go.true));
          }
      | else-can_go w ↦ record {
        few = omega (arith, ap (λ (v : Vec ℕ Global). length v.items) w.enabled-is, c.loop-number.invariant.few);
        all = subst (λ (v : Vec ℕ Global). IsRisingList (λ u. (u < n + 1) × GoesOn events members u) v.items) (sym w.enabled-is)
            (rising_same (GoesOn events members) n c.loop-number.enabled.items c.loop-number.invariant.all
            (goes_not events members n c.index.result.now inside c.index.ensures c.can_go.result c.can_go.ensures w.if-can_go.false));
      }
    ]

pub returns-clause-all : goal.returns-clause-all
returns-clause-all c =
    let events = events_of c.args.memory.now.history in
    let members = c.args.self.now.members.items in
    rising_all (GoesOn events members) c.loop-number.number c.loop-number.enabled.items c.loop-number.invariant.all
    (λ u g. omega (arith, goes_below events members 16 u c.requires.count g, c.loop-number-test.false))
