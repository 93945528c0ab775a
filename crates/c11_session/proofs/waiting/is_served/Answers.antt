use Rattle.std.proofs.Common.{◌≡◌, sym, ◌∙◌, arith}
use Rattle.std.proofs.lemmas.Bool.Decides.{nat_tests}
use Rattle.c11_session.proofs.Polling.{comes, goes_on}
use Rattle.c11_session.proofs.waiting.is_served.Goals as goal

pub returns-clause-arrives : goal.returns-clause-arrives
returns-clause-arrives c = λ yes.
    let p = c.poll.ensures.seen in
    let served : c.served_in.result ≡ p.served = c.served_in.ensures p.served _ _ p.sees.fits p.sees.front in
    let same : c.served_in.result ≡ c.args.ticket = grind (arith, nat_tests) in
    comes c.args.chair.now.me c.poll.new.chair.me c.args.ticket c.poll.result c.requires.waits p (sym served ∙ same)

pub returns-clause-waits : goal.returns-clause-waits
returns-clause-waits c = λ no.
    let p = c.poll.ensures.seen in
    let served : c.served_in.result ≡ p.served = c.served_in.ensures p.served _ _ p.sees.fits p.sees.front in
    goes_on c.args.chair.now.me c.poll.new.chair.me c.args.ticket c.poll.result c.requires.waits p
    (λ is. let same : c.served_in.result ≡ c.args.ticket = served ∙ is in grind (arith, nat_tests))
