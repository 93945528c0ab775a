use Rattle.c11_machine.specs.Effects.{ActsAs}
use Rattle.std.proofs.Common.{List, ap, arith, drop, length, sym, ℕ, ◌∙◌, ◌≡◌}
use Rattle.std.proofs.lemmas.Int.{ints, to_z-of_z}
use Rattle.std.specs.Prelude.{pos}
use Rattle.c11_check.specs.declared.format.Within.TheVariants.{Plain}
use Rattle.c11_flat.specs.declared.slot.Slot.{Slot}
use Rattle.c11_machine.proofs.Effects.{from_same}
use Rattle.c11_machine.proofs.Takes.{int_is}
use Rattle.c11_machine.specs.Slots.{values_of}
use Rattle.c11_machine.specs.Views.{config_of}
use Rattle.c11_meaning.specs.Objects.{int_of}
use Rattle.c11_meaning.specs.Outcome.{operation, when_done}
use Rattle.c11_meaning.specs.Prints.{printed}
use Rattle.c11_num.specs.Ranges.{TypedNumber}
use Rattle.c11_events.specs.declared.op.Op.TheVariants as op
use Rattle.c11_machine.proofs.machine.Machine.print.Goals as goal

pub returns-in_default : goal.returns-in_default
unfolding ActsAs
returns-in_default c code = c.in_default.ensures _

pub returns : goal.returns
unfolding ActsAs
returns c code =
    let m = (config_of c.args.self.now) in
    let values = values_of (drop c.in-Some.bottom c.args.self.now.stack.items) in
    let bytes : c.new.result ≡ printed Plain c.args.text.now values = c.new.ensures ∙ (c.in_ok-bytes.ensures ∙ (ap (λ (t : List ℕ). printed Plain t (values_of c.slots_from.result.now)) c.as_slice.ensures
    ∙ ap (λ (s : List Slot). printed Plain c.args.text.now (values_of s)) c.slots_from.ensures)) in
    let long : length (printed Plain c.args.text.now values) ≡ length c.in_ok-bytes.bytes.items = ap (λ (bs : List ℕ). length bs) (sym bytes ∙ c.new.ensures) in
    let size : c.new-size.result ≡ int_of (pos (length (printed Plain c.args.text.now values))) = int_is _ _ c.new-size.ensures.ctype (let number : c.new-size.result.number ≡ pos (length c.in_ok-bytes.bytes.items) = grind (arith, ints, to_z-of_z) in number ∙ ap (λ (n : ℕ). pos n) (sym long)) in
    c.in-Some.ensures.1 _ ∙ (from_same _ _ _ (ap (λ (bs : List ℕ). operation c.args.line (op.Out bs) m.state (when_done (int_of (pos (length (printed Plain c.args.text.now values)))))) (sym bytes)
    ∙ ap (λ (v : TypedNumber). operation c.args.line (op.Out c.new.result) m.state (when_done v)) (sym size)) ∙ c.operates.ensures)
