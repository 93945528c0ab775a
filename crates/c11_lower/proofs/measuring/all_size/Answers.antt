use Rattle.std.proofs.Common.{rules, ◌≡◌, length, take}
use Rattle.c11_lower.specs.Lowered.{passed_all}
use Rattle.c11_lower.proofs.Walks.{passed_all_kept}
use Rattle.c11_lower.proofs.Sizes.{gone_back}
use Rattle.c11_lower.proofs.measuring.all_size.Goals as goal

pub returns-clause-same : goal.returns-clause-same
returns-clause-same c =
    let scope = c.args.scopes.now in
    let inner = c.size_of_all.new.scopes in
    let is : inner ≡ passed_all c.args.stmts.now scope = search rules in
    let back : c.go_back.new.self ≡ record { names = take (length scope.names) inner.names; start = scope.start; counts = scope.counts } = search rules in
    gone_back scope inner (passed_all c.args.stmts.now scope) is (passed_all_kept c.args.stmts.now scope) back
