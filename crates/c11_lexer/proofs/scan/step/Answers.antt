use Rattle.std.proofs.Common.{refl}
use Rattle.c11_lexer.specs.Scan.{Means, leads, line_of, start, Scans}
use Rattle.c11_lexer.specs.Scan as s
use Rattle.c11_lexer.proofs.Scanning as law
use Rattle.c11_lexer.proofs.scan.step.Goals as goal

pub split_at-requires : goal.split_at-requires
split_at-requires c = law.front_within _ _ _ _ c.in_ok-piece.ensures

pub returns-in-Fault-clause-fault : goal.returns-in-Fault-clause-fault
returns-in-Fault-clause-fault c = λ _. s.FaultsAt.faulty c.in_ok-piece.ensures (rw c.split_at.ensures.front at c.in-Fault.ensures)

pub returns-in-Gap-clause-steps : goal.returns-in-Gap-clause-steps
returns-in-Gap-clause-steps c = law.gap_step _ _ _ _ _ _ _ c.split_at.ensures.front c.in_ok-piece.ensures c.in-Gap.ensures c.advance-next.ensures.value

pub returns-in-Gap-clause-moves : goal.returns-in-Gap-clause-moves
returns-in-Gap-clause-moves c = let moved = c.advance-next.ensures in
    law.moves _ _ _ _ _ c.advance-next.result _ c.split_at.ensures.front c.in_ok-piece.ensures moved.line moved.column moved.offset refl refl refl

pub returns-in_ok-push-in-Token-clause-steps : goal.returns-in_ok-push-in-Token-clause-steps
returns-in_ok-push-in-Token-clause-steps c =
    law.token_step _ _ _ _ _ _ _ _ _ c.split_at.ensures.front c.in_ok-piece.ensures c.in-Token.ensures c.advance-next.ensures.value c.advance-next.ensures.offset c.in_ok-push-in-Token.ensures.items

pub returns-in_ok-push-in-Token-clause-moves : goal.returns-in_ok-push-in-Token-clause-moves
returns-in_ok-push-in-Token-clause-moves c = let moved = c.advance-next.ensures in
    law.moves _ _ _ _ _ c.advance-next.result _ c.split_at.ensures.front c.in_ok-piece.ensures moved.line moved.column moved.offset refl refl refl
