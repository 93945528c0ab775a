use Rattle.std.proofs.Common.{rules, ◌≡◌, length, take}
use Rattle.c11_lower.specs.Lowered.{passed_locals}
use Rattle.c11_lower.proofs.Walks.{locals_kept}
use Rattle.c11_lower.proofs.Sizes.{gone_back}
use Rattle.c11_lower.proofs.declaring.emit_locals.Goals as goal

pub returns-clause-same : goal.returns-clause-same
returns-clause-same c =
    let scope = c.args.scopes.now in
    let inner = c.declare_locals.new.scopes in
    let is : inner ≡ passed_locals c.args.ctype c.args.locals.now scope = search rules in
    let back : c.go_back.new.self ≡ record { names = take (length scope.names) inner.names; start = scope.start; counts = scope.counts } = search rules in
    gone_back scope inner (passed_locals c.args.ctype c.args.locals.now scope) is (locals_kept c.args.ctype c.args.locals.now scope) back
