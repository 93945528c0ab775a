use Rattle.std.proofs.Common.{ℕ, List, Option, Some, None, length, slice_set, refl, sym, ap, ◌∙◌, subst}
use Rattle.std.proofs.Math.ListN.{length-set}
use Rattle.c11_events.specs.declared.verdict.Verdict.{Verdict}
use Rattle.c11_events.specs.declared.verdict.Verdict.TheVariants.{Deadlock}
use Rattle.c11_events.specs.EventOf.{events_of}
use Rattle.c11_events.specs.Threads.{IsLive}
use Rattle.c11_memory.specs.declared.marks.Mark.{Mark}
use Rattle.c11_memory.specs.Marks.{AreWithin, IsStuck}
use Rattle.c11_memory.specs.Sound.{execution}
use Rattle.c11_memory.proofs.Sticking.{all_stuck, is_awaiting, stuck_all}
use Rattle.c11_memory.proofs.Waiting.{goes_on, is_marked, IsWaiting, no_verdict, sound_deadlocked, sound_waiting, within_more}
use Rattle.c11_memory.proofs.memory.Memory.wait.Goals as goal

pub of-requires : goal.of-requires
of-requires c = is_awaiting (events_of c.args.self.now.history) c.args.thread c.args.ask.now.op c.requires.blocked

pub all_stuck-requires : goal.all_stuck-requires
all_stuck-requires c =
    let w : IsWaiting c.args.self.now c.self.inside.history c.self.inside.seed c.self.inside.bound c.self.inside.draws c.self.inside.verdict c.self.inside.steps c.self.inside.marks.items c.args.ask.now c.of.result =
    record { is = c.self.view_is; sound = c.self.invariant; none = c.requires.none; within = c.requires.within; asked = c.of.ensures } in
    record {
      few = (goes_on _ _ _ _ _ _ _ _ c.args.thread _ _ w).few_threads;
      each = ap length c.as_slice.ensures.value ∙ length-set c.self.inside.marks.items c.args.thread (Some c.of.result) ∙ c.self.invariant.each_thread;
      within = subst (λ (marks : List (Option Mark)). AreWithin c.self.inside.history marks) (sym c.as_slice.ensures.value) (within_more _ _ _ _ _ _ _ _ c.args.thread _ _ w);
    }

pub invariant_of-self : goal.invariant_of-self
invariant_of-self c =
    let w : IsWaiting c.args.self.now c.self.inside.history c.self.inside.seed c.self.inside.bound c.self.inside.draws c.self.inside.verdict c.self.inside.steps c.self.inside.marks.items c.args.ask.now c.of.result =
    record { is = c.self.view_is; sound = c.self.invariant; none = c.requires.none; within = c.requires.within; asked = c.of.ensures } in
    sound_waiting _ _ _ _ _ _ _ _ c.args.thread _ _ w

pub returns-then-not-all_stuck-clause-waits : goal.returns-then-not-all_stuck-clause-waits
returns-then-not-all_stuck-clause-waits c = λ none stuck.
    let all = stuck_all c.self.inside.history c.self.inside.seed c.self.inside.bound c.self.inside.draws c.self.inside.verdict (slice_set c.self.inside.marks.items c.args.thread (Some c.of.result)) stuck in
    let clash = c.if-not-all_stuck.ensures.1 (subst (λ (marks : List (Option Mark)). (t : ℕ) → IsLive (events_of c.self.inside.history.entries) t → IsStuck (events_of c.self.inside.history.entries) marks t) (sym c.as_slice.ensures.value) all) in cc

pub returns-then-not-all_stuck-clause-kept : goal.returns-then-not-all_stuck-clause-kept
returns-then-not-all_stuck-clause-kept c =
    let w : IsWaiting c.args.self.now c.self.inside.history c.self.inside.seed c.self.inside.bound c.self.inside.draws c.self.inside.verdict c.self.inside.steps c.self.inside.marks.items c.args.ask.now c.of.result =
    record { is = c.self.view_is; sound = c.self.invariant; none = c.requires.none; within = c.requires.within; asked = c.of.ensures } in
    ap (λ (v : Option Verdict). execution c.self.inside.history c.self.inside.seed c.self.inside.bound c.self.inside.draws v (slice_set c.self.inside.marks.items c.args.thread (Some c.of.result))) (no_verdict _ _ _ _ _ _ _ _ c.args.thread _ _ w)
    ∙ is_marked _ _ _ _ _ _ _ _ c.args.thread _ _ w None

pub invariant_of-self-2 : goal.invariant_of-self-2
invariant_of-self-2 c =
    let w : IsWaiting c.args.self.now c.self.inside.history c.self.inside.seed c.self.inside.bound c.self.inside.draws c.self.inside.verdict c.self.inside.steps c.self.inside.marks.items c.args.ask.now c.of.result =
    record { is = c.self.view_is; sound = c.self.invariant; none = c.requires.none; within = c.requires.within; asked = c.of.ensures } in
    let all = subst (λ (marks : List (Option Mark)). (t : ℕ) → IsLive (events_of c.self.inside.history.entries) t → IsStuck (events_of c.self.inside.history.entries) marks t) c.as_slice.ensures.value (c.if-not-all_stuck.ensures.0 refl) in
    sound_deadlocked _ _ _ _ _ _ _ _ c.args.thread _ _ w (all_stuck c.self.inside.history c.self.inside.seed c.self.inside.bound c.self.inside.draws (Some Deadlock) (slice_set c.self.inside.marks.items c.args.thread (Some c.of.result)) all)

pub returns-clause-deadlock : goal.returns-clause-deadlock
returns-clause-deadlock c = λ is.
    let all = subst (λ (marks : List (Option Mark)). (t : ℕ) → IsLive (events_of c.self.inside.history.entries) t → IsStuck (events_of c.self.inside.history.entries) marks t) c.as_slice.ensures.value (c.if-not-all_stuck.ensures.0 refl) in
    all_stuck c.self.inside.history c.self.inside.seed c.self.inside.bound c.self.inside.draws (Some Deadlock) (slice_set c.self.inside.marks.items c.args.thread (Some c.of.result)) all

pub returns-clause-kept : goal.returns-clause-kept
returns-clause-kept c =
    let w : IsWaiting c.args.self.now c.self.inside.history c.self.inside.seed c.self.inside.bound c.self.inside.draws c.self.inside.verdict c.self.inside.steps c.self.inside.marks.items c.args.ask.now c.of.result =
    record { is = c.self.view_is; sound = c.self.invariant; none = c.requires.none; within = c.requires.within; asked = c.of.ensures } in
    is_marked _ _ _ _ _ _ _ _ c.args.thread _ _ w (Some Deadlock)
