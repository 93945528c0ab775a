use Rattle.std.proofs.Common.{map, string_bytes, sym, ap, ◌∙◌, arith, Global}
use Rattle.std.proofs.lemmas.List.{length-map}
use Rattle.c11_commands.specs.Words.{values_of}
use Rattle.c11_commands.proofs.WordsLemmas.{pairs_of-short}
use Rattle.c11_commands.proofs.words.first_value.Goals as goal

pub returns : goal.returns
returns c =
    let left = map string_bytes c.loop-left.left.now in
    sym c.loop-left.invariant ∙ ap (values_of c.args.name.now) (pairs_of-short left (omega (arith, length-map c.loop-left.left.now (string_bytes {Z = Global}))))
