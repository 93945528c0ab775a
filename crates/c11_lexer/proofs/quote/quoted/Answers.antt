use Rattle.std.proofs.Common.{◌≡◌, ◌-◌, length, Option, ℕ, List, subst, arith}
use Rattle.std.proofs.lemmas.Grind.{common_steps}
use Rattle.c11_lexer.specs.Reading.{quoted, ahead_of}
use Rattle.c11_lexer.proofs.Quotes.{all_read, quoted_closes, quoted_end}
use Rattle.c11_lexer.proofs.quote.quoted.Goals as goal

pub returns-then-rest-eq34-clause-value : goal.returns-then-rest-eq34-clause-value
returns-then-rest-eq34-clause-value c =
    let some = quoted_closes c.loop-rest.rest.now (grind (arith, common_steps)) c.if-rest-eq34.true in
    rw c.new.ensures (all_read c.loop-rest.value.items _ _ _ some c.loop-rest.invariant.0)

pub returns-clause-value : goal.returns-clause-value
returns-clause-value c =
    let none = quoted_end c.loop-rest.rest.now (grind (arith, common_steps)) in
    (subst (λ (x : Option (List ℕ × ℕ)). ahead_of c.loop-rest.value.items (length c.args.bytes.now - length c.loop-rest.rest.now) x ≡ quoted c.args.bytes.now) none c.loop-rest.invariant.0)
