use Rattle.std.proofs.Common.{◌≡◌, rules, map, false}
use Rattle.c11_check.specs.declared.around.Around.{Around}
use Rattle.c11_check.specs.Scopes.{Scope, left_for, with_function, entered_function}
use Rattle.c11_check.specs.Faults.{twice}
use Rattle.c11_check.specs.Statements.{Walked, followed, inside, walk_of, walk_of_block, in_order}
use Rattle.c11_check.specs.Programs.{params_walk}
use Rattle.c11_check.proofs.Walking.{IsWalked, walks_inside, walked_same, walked_before, walked_followed}
use Rattle.c11_check.proofs.Stmts.{block_is}
use Rattle.c11_check.proofs.programs.function.Goals as goal

pub returns : goal.returns
returns c =
    let s = c.args.scopes.now in
    let f = c.args.function.now in
    let around : Around = record { answers = f.answers; in_loop = false } in
    let outer = with_function s f in
    let mid = c.params.new.scopes in
    let inner = c.in_order.new.scopes in
    let found = c.in_ok-first-2.first in
    let begun : IsWalked (params_walk f.params (entered_function outer)) c.twice-first.result c.in_ok-first.first mid = search rules in
    let items : IsWalked (in_order (map walk_of f.body.items) around mid) c.in_ok-first.first found inner = search rules in
    let body = walked_same c.in_ok-first.first found inner (block_is f.body around mid) items in
    let left : c.leave.new.self ≡ left_for outer inner = search rules in
    let next : Scope → Walked = λ inner. walk_of_block f.body around inner in
    let all = followed (params_walk f.params (entered_function outer)) next in
    walked_before (twice s f.word) (inside outer all) c.args.first c.twice-first.ensures
    (walks_inside outer all c.twice-first.result found inner (walked_followed (params_walk f.params (entered_function outer)) next c.twice-first.result begun body) left)
