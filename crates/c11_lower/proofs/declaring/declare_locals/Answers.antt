use Rattle.std.proofs.Common.{rules, ◌≡◌, [], ◌∷◌, ◌++◌, ◌∙◌}
use Rattle.c11_check.specs.Scopes.{size_in, taken, with_local}
use Rattle.c11_flat.specs.declared.instr.Instr.TheVariants as i
use Rattle.c11_flat.specs.Code.{started}
use Rattle.c11_lower.proofs.Behind.{local_passed}
use Rattle.c11_lower.proofs.Codes.{Wrote, local_written}
use Rattle.c11_lower.proofs.declaring.declare_locals.Goals as goal

pub loop-local-preserved : goal.loop-local-preserved
loop-local-preserved c =
    let x = c.local-item.result in
    let s = c.loop-local.scopes in
    let xs = c.args.locals.now in
    let n = c.loop-local.local-index in
    let after = c.declare_local.new.scopes in
    let cleared : c.emit_clear.new.code.items ≡ c.loop-local.code.items ++ i.Clear s.counts.places (taken (size_in s x.place.size)) ∷ [] = search rules in
    let is : after ≡ with_local s x.place.word.name c.args.ctype (size_in s x.place.size) = search rules in
    let w : Wrote c.emit_clear.new.code.items (started x.place.word.spot.line c.args.ctype s.counts.places x.start after).code c.emit_started.new.code.items = search rules in
    record {
      code = λ k l. local_written c.args.ctype xs n x s k l c.loop-local.code.items c.loop-local-test.true c.local-item.is cleared is w ∙ c.loop-local.invariant.code k l;
      passed = local_passed c.args.ctype xs n x s c.loop-local-test.true c.local-item.is is ∙ c.loop-local.invariant.passed;
    }
