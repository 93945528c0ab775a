use Rattle.c11_lexer.proofs.Scanning.{one_scan}
use Rattle.c11_lexer.proofs.laws.one_scan.Goals as goal

pub returns : goal.returns
returns c = one_scan
