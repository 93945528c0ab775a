use Rattle.std.proofs.Common.{subst, arith}
use Rattle.std.proofs.lemmas.Grind.{common_steps}
use Rattle.c11_lexer.specs.Pieces.{Text}
use Rattle.c11_lexer.specs.Scan.{start, Scans}
use Rattle.c11_lexer.proofs.Scanning as law
use Rattle.c11_lexer.proofs.scan.lex.Goals as goal

pub pieces-init : goal.pieces-init
pieces-init c = ((λ scanned scan. rw c.new-tokens.ensures.items (law.begun _ scanned scan)), omega arith, omega arith, omega arith)

pub returns-in-Err-clause-fault : goal.returns-in-Err-clause-fault
returns-in-Err-clause-fault c = λ other. law.fault_here _ _ _ _ _ (c.in-Err.ensures.fault other) c.pieces.invariant.0

pub returns-in-Err-clause-exact : goal.returns-in-Err-clause-exact
returns-in-Err-clause-exact c = λ scanned scan other. law.scans_once start _ _ _ scan (law.fault_here _ _ _ _ _ (c.in-Err.ensures.fault other) c.pieces.invariant.0)

pub pieces-preserved : goal.pieces-preserved
pieces-preserved c =
    let moves = c.in-Ok.ensures.moves in
    let sum = c.pieces.invariant.1 in
    let line = c.pieces.invariant.2 in
    let column = c.pieces.invariant.3 in
    let left = c.split_at.ensures.back_len in (
      (λ scanned scan. law.step_on _ _ _ _ _ _ _ c.in-Ok.ensures.steps c.pieces.invariant.0 scanned (subst (λ (x : Text). Scans c.in-Ok.next x scanned) c.split_at.ensures.back scan)),
      omega (arith, moves.offset, sum, left),
      omega (arith, moves.line, moves.offset, line),
      omega (arith, moves.column, moves.offset, column),
    )

pub returns-clause-tokens : goal.returns-clause-tokens
returns-clause-tokens c = law.finished _ _ _ _ (grind (arith, common_steps)) c.pieces.invariant.0

pub returns-clause-exact : goal.returns-clause-exact
returns-clause-exact c = λ scanned scan. law.scans_once start _ _ _ scan (law.finished _ _ _ _ (grind (arith, common_steps)) c.pieces.invariant.0)

pub returns-clause-slices : goal.returns-clause-slices
returns-clause-slices c = law.slices_rise _ _ (law.finished _ _ _ _ (grind (arith, common_steps)) c.pieces.invariant.0)
