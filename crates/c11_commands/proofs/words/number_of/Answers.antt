use Rattle.std.proofs.Common.{sym, ◌∙◌, arith}
use Rattle.std.proofs.lemmas.Bool.{eq-eqb, false≢true}
use Rattle.c11_commands.proofs.WordsLemmas.{number_of-parse}
use Rattle.c11_commands.proofs.words.number_of.Goals as goal

pub returns : goal.returns
returns c =
    let plus = c.starts_with.ensures.byte (omega arith) (omega arith) (λ w o x. x) in
    rw c.ok.ensures.value (number_of-parse c.args.value.now c.parse.result c.parse.ensures.value.0 (λ e. false≢true (sym c.if-starts_with.false ∙ plus ∙ eq-eqb _ _ e)) (omega arith))
