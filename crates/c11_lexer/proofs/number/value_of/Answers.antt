use Rattle.std.proofs.Common.{◌≡◌, ◌∙◌}
use Rattle.c11_lexer.proofs.Numbers.{value_past, value_all, radix_some}
use Rattle.c11_lexer.specs.Numbers.{radix}
use Rattle.c11_lexer.proofs.number.value_of.Goals as goal

pub returns-in_default : goal.returns-in_default
returns-in_default c =
    let base : c.from-radix.result ≡ radix c.args.base = c.from-radix.ensures ∙ c.radix.ensures in
    value_past (radix c.args.base) c.loop-byte.value c.loop-byte.byte-index c.args.digits.now (radix_some c.args.base) c.loop-byte-test.true
    (rw (← base) c.loop-byte.invariant.0) (rw (← base, ← c.digit_of.ensures) c.in_default.ensures)

pub returns : goal.returns
returns c =
    let base : c.from-radix.result ≡ radix c.args.base = c.from-radix.ensures ∙ c.radix.ensures in
    let all = value_all (radix c.args.base) c.loop-byte.value c.loop-byte.byte-index c.args.digits.now c.loop-byte-test.false (rw (← base) c.loop-byte.invariant.0) in
    (rw (← all) c.loop-byte.invariant.1, all)
