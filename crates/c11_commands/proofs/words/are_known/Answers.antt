use Rattle.std.proofs.Common.{map, string_bytes, sym, ap, ◌∙◌, arith, Global, Bor, List, ℕ}
use Rattle.std.proofs.lemmas.List.{length-map}
use Rattle.c11_commands.specs.Words.{are_known}
use Rattle.c11_commands.proofs.WordsLemmas.{pairs_of-short}
use Rattle.c11_commands.proofs.words.are_known.Goals as goal

pub returns : goal.returns
returns c =
    let left = map string_bytes c.loop-left.left.now in
    sym (ap (are_known (map (λ (name : Bor (List ℕ)). name.now) c.args.names.now)) (pairs_of-short left (omega (arith, length-map c.loop-left.left.now (string_bytes {Z = Global}))))) ∙ c.loop-left.invariant
