use Rattle.std.proofs.Common.{rules, ◌≡◌, length, take}
use Rattle.c11_lower.specs.Lowered.{passed_handles}
use Rattle.c11_lower.proofs.Walks.{handles_kept}
use Rattle.c11_lower.proofs.Sizes.{gone_back}
use Rattle.c11_lower.proofs.declaring.emit_handles.Goals as goal

pub returns-clause-same : goal.returns-clause-same
returns-clause-same c =
    let scope = c.args.scopes.now in
    let inner = c.declare_handles.new.scopes in
    let is : inner ≡ passed_handles c.args.places.now scope = search rules in
    let back : c.go_back.new.self ≡ record { names = take (length scope.names) inner.names; start = scope.start; counts = scope.counts } = search rules in
    gone_back scope inner (passed_handles c.args.places.now scope) is (handles_kept c.args.places.now scope) back
