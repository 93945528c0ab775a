use Rattle.std.proofs.Common.{List, Option, Some, ap, arith, drop, refl, reverse, ◌-◌, ◌∙◌}
use Rattle.std.proofs.lemmas.List.{length-map, length-reverse}
use Rattle.c11_flat.specs.Code.{Start}
use Rattle.c11_flat.specs.Flat.{entering}
use Rattle.c11_flat.specs.declared.slot.Slot.{Slot}
use Rattle.c11_machine.proofs.Effects.{counts_none, counts_one, seen, stops_at, test_false, test_true}
use Rattle.c11_machine.proofs.Stacks.{drop_reverse}
use Rattle.c11_machine.proofs.Takes.{has_room, too_deep, took_same}
use Rattle.c11_machine.specs.Slots.{values_of}
use Rattle.c11_machine.specs.Views.{caller_of, config_of}
use Rattle.c11_machine.proofs.machine.Machine.call.Goals as goal

pub returns-then-self-eq0 : goal.returns-then-self-eq0
returns-then-self-eq0 c = took_same _ _ _ _ _ (c.in-Some.ensures.1 _ ∙ (counts_none c.args.self.now.turns c.args.line (config_of c.args.self.now) c.args.self.now.pending _ refl (omega arith) ∙ seen _ _ (config_of c.args.self.now) c.stops-effect.ensures)) c.perform.ensures

pub returns-then-len-ge-FRAME_LIMIT : goal.returns-then-len-ge-FRAME_LIMIT
returns-then-len-ge-FRAME_LIMIT c = took_same _ _ _ _ _ (c.in-Some.ensures.1 _ ∙ (counts_one c.args.self.now.turns c.args.line (config_of c.args.self.now).state _ (omega arith) ∙ (test_false _ _ _ (too_deep _ _ (length-map (reverse c.args.self.now.callers.items) caller_of ∙ length-reverse c.args.self.now.callers.items) (omega arith))
    ∙ (stops_at c.args.line _ (record (config_of c.args.self.now).state { turns = c.args.self.now.turns - 1 }) (config_of c.args.self.now) c.args.self.now.pending _ refl ∙ seen _ _ (config_of c.args.self.now) c.stops-effect-then-len-ge-FRAME_LIMIT.ensures)))) c.perform-then-len-ge-FRAME_LIMIT.ensures

pub returns-in-Some-start_of : goal.returns-in-Some-start_of
returns-in-Some-start_of c = let items = c.args.self.now.stack.items in let bottom = c.in-Some.bottom in let m = (config_of c.args.self.now) in
    took_same _ _ _ _ _ (c.in-Some.ensures.1 _ ∙ (counts_one c.args.self.now.turns c.args.line m.state _ (omega arith) ∙ (test_true _ _ _ (has_room _ _ (length-map (reverse c.args.self.now.callers.items) caller_of ∙ length-reverse c.args.self.now.callers.items) (omega arith))
    ∙ (ap (λ (s : Option Start). entering s m (values_of (drop bottom items)) (drop c.args.count (reverse items)) (record m.state { turns = m.state.turns - 1 })) c.in-Some-start_of.ensures
    ∙ ap (λ (s : List Slot). entering (Some c.in-Some-start_of.start.now) m (values_of (drop bottom items)) s (record m.state { turns = m.state.turns - 1 })) (drop_reverse items bottom c.args.count c.in-Some.ensures.0))))) c.enter.ensures
