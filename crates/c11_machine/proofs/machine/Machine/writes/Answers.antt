use Rattle.c11_flat.specs.Flat.{from}
use Rattle.std.proofs.Common.{ap, drop, sym, ◌∙◌}
use Rattle.c11_flat.specs.Flat.{giving, write_at}
use Rattle.c11_flat.specs.declared.instr.Storage.{Storage}
use Rattle.c11_machine.proofs.Effects.{done_keeps, from_same, writes_local}
use Rattle.c11_machine.specs.Views.{config_of}
use Rattle.c11_meaning.specs.Objects.{new_or_old}
use Rattle.c11_meaning.specs.Outcome.{operation, when_done}
use Rattle.c11_num.specs.Ranges.{TypedNumber}
use Rattle.c11_events.specs.declared.op.Op.TheVariants as op
use Rattle.c11_machine.proofs.machine.Machine.writes.Goals as goal

pub returns-in-Local : goal.returns-in-Local
unfolding from
returns-in-Local c = from_same _ _ _ (ap (λ (s : Storage). write_at s c.args.object.ctype c.args.line c.args.object.place c.args.value (config_of c.args.self.now).state) c.in-Local.is) ∙ writes_local (config_of c.args.self.now) c.args.takes c.args.object.place _ _ _ c.args.new c.args.old c.convert-written.ensures c.kept_of-kept.ensures

pub returns-in-Plain : goal.returns-in-Plain
returns-in-Plain c = let m = config_of c.args.self.now in
    from_same _ _ _ (ap (λ (s : Storage). write_at s c.args.object.ctype c.args.line c.args.object.place c.args.value (config_of c.args.self.now).state) c.in-Plain.is)
    ∙ (from_same _ _ _ (ap (λ (v : TypedNumber). operation c.args.line (op.PlainWrite c.args.object.place v) m.state (when_done v)) (sym c.convert-written.ensures))
    ∙ (done_keeps c.args.line _ m.state _ (λ z. new_or_old c.args.new z c.args.old) (giving m (drop c.args.takes m.stack))
    ∙ (from_same _ _ _ (ap (λ (v : TypedNumber). operation c.args.line (op.PlainWrite c.args.object.place c.convert-written.result) m.state (when_done v)) (sym c.kept_of-kept.ensures)) ∙ c.operates.ensures)))
