use Rattle.c11_commands.proofs.WordsLemmas.{list_any-map}
use Rattle.std.proofs.Common.{sym, ◌∙◌}
use Rattle.c11_commands.proofs.words.is_known.Goals as goal

pub returns : goal.returns
returns c = c.contains.ensures.value ∙ sym (list_any-map _ _ c.args.names.now)
