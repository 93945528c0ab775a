use Rattle.std.proofs.Common.{◌∙◌, ◌<◌, ap, List, [], ◌++◌, ℕ, length, slice_index_or, slice_set, arith}
use Rattle.std.proofs.lemmas.List.{get_or_default}
use Rattle.c11_events.specs.Events.{unlocked_mutex}
use Rattle.c11_happens.specs.Noting.{by_unlocked}
use Rattle.c11_happens.specs.Mutexes.{state_in}
use Rattle.c11_happens.proofs.Handing.{handed_in_place}
use Rattle.c11_happens.proofs.hand.hand_on.Goals as goal

pub returns : goal.returns
returns c =
    let front = c.split_at_mut-earlier.result.0.now in
    let back = c.split_at_mut-earlier.result.1.now in
    let some : 0 < length back = omega (arith, c.split_at_mut-earlier.ensures.back_len, c.requires.number) in
    ap (λ (y : List ℕ). front ++ slice_set back 0 y)
    (c.hand_unlock.ensures.joined ∙ ap (λ (y : List ℕ). by_unlocked (unlocked_mutex c.args.event.now.kind) (state_in c.args.mutexes.now) front c.args.own.now y) c.hand_store.ensures.joined)
    ∙ handed_in_place (unlocked_mutex c.args.event.now.kind) (state_in c.args.mutexes.now) c.args.event.now c.args.passed.now front back c.args.fenced.now c.args.own.now (slice_index_or back 0 c.index-rest-0.result)
    c.split_at_mut-earlier.ensures.value c.split_at_mut-earlier.ensures.front_len (get_or_default back 0 c.index-rest-0.result [] some) c.requires.within c.requires.unlocks
