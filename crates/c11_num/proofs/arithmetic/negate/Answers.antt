use Rattle.std.proofs.Common.{◌≡◌, neg_ℤ, ap, ◌∙◌, rules}
use Rattle.c11_num.specs.Ranges.{TypedNumber}
use Rattle.c11_num.specs.Wrapping.{wrapped}
use Rattle.std.proofs.Common.{sym, Ok}
use Rattle.c11_num.specs.Arithmetic.{Overflows}
use Rattle.c11_num.proofs.Wrapped.{wrapped_number}
use Rattle.c11_num.proofs.Numbers.{exact_unless_overflow}
use Rattle.c11_num.proofs.arithmetic.negate.Goals as goal

pub returns-clause-exact : goal.returns-clause-exact
returns-clause-exact c =
    let e : c.wrapped.result ≡ wrapped c.args.a.ctype (neg_ℤ c.args.a.number) = search rules in
    λ held. ap (λ (v : TypedNumber). v.number) e ∙ wrapped_number c.args.a.ctype (neg_ℤ c.args.a.number) held

pub returns-clause-outcome : goal.returns-clause-outcome
returns-clause-outcome c =
    let e : c.wrapped.result ≡ wrapped c.args.a.ctype (neg_ℤ c.args.a.number) = search rules in
    let within : Overflows c.args.a.ctype (neg_ℤ c.args.a.number) → ⊥ = search rules in
    ap Ok e ∙ sym (exact_unless_overflow c.args.a.ctype (neg_ℤ c.args.a.number) within)
