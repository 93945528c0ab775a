use Rattle.std.proofs.Common.{rules, ◌≡◌}
use Rattle.c11_parser.proofs.Sources.{rise_inside, exact, refused}
use Rattle.c11_parser.specs.Sorting.{lexemes}
use Rattle.c11_parser.proofs.whole.parse.Goals as goal

pub lexemes-requires : goal.lexemes-requires
lexemes-requires c = rise_inside c.args.source.now c.args.tokens.now c.requires

pub returns-clause-exact : goal.returns-clause-exact
returns-clause-exact c =
    let sorted : c.as_slice.result.now ≡ lexemes c.args.source.now c.args.tokens.now = search rules in
    exact c.args.source.now c.args.tokens.now c.program.result (search rules) (search rules)

pub returns-clause-refused : goal.returns-clause-refused
returns-clause-refused c =
    let sorted : c.as_slice.result.now ≡ lexemes c.args.source.now c.args.tokens.now = search rules in
    refused c.args.source.now c.args.tokens.now c.program.result (search rules) (search rules)
