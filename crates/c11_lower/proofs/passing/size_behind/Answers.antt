use Rattle.std.proofs.Common.{rules, ◌≡◌, length, take}
use Rattle.c11_lower.specs.Lowered.{passed}
use Rattle.c11_lower.proofs.Walks.{passed_kept}
use Rattle.c11_lower.proofs.Sizes.{gone_back}
use Rattle.c11_lower.proofs.passing.size_behind.Goals as goal

pub returns-clause-same : goal.returns-clause-same
returns-clause-same c =
    let scope = c.args.scopes.now in
    let inner = c.pass.new.scopes in
    let is : inner ≡ passed c.args.stmt.now scope = search rules in
    let back : c.go_back.new.self ≡ record { names = take (length scope.names) inner.names; start = scope.start; counts = scope.counts } = search rules in
    gone_back scope inner (passed c.args.stmt.now scope) is (passed_kept c.args.stmt.now scope) back
