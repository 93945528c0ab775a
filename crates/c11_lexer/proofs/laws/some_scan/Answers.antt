use Rattle.c11_lexer.proofs.EveryText.{some_scan}
use Rattle.c11_lexer.proofs.laws.some_scan.Goals as goal

pub returns : goal.returns
returns c = some_scan
