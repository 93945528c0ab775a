use Rattle.c11_lexer.specs.Scan.{Means, leads, line_of, start, Scans}
use Rattle.c11_lexer.specs.Scan as s
use Rattle.c11_lexer.proofs.scan.outcome_of.Goals as goal

pub returns-in-Blank : goal.returns-in-Blank
returns-in-Blank c = rw c.in-Blank.is s.Means.blank

pub returns-in-LineComment : goal.returns-in-LineComment
returns-in-LineComment c = rw c.in-LineComment.is s.Means.line_comment

pub returns-in-Comment : goal.returns-in-Comment
returns-in-Comment c = rw c.in-Comment.is s.Means.comment

pub returns-in-OpenComment : goal.returns-in-OpenComment
returns-in-OpenComment c = rw c.in-OpenComment.is s.Means.open_comment

pub returns-in-Mark : goal.returns-in-Mark
returns-in-Mark c = rw c.in-Mark.is s.Means.mark

pub returns-in-Text : goal.returns-in-Text
returns-in-Text c = rw c.in-Text.is s.Means.text

pub returns-in-OpenText : goal.returns-in-OpenText
returns-in-OpenText c = rw c.in-OpenText.is s.Means.open_text

pub returns-in-Stray : goal.returns-in-Stray
returns-in-Stray c = rw c.in-Stray.is s.Means.stray

pub returns-in-Include : goal.returns-in-Include
returns-in-Include c = rw c.in-Include.is s.Means.include

pub returns-in-Define : goal.returns-in-Define
returns-in-Define c = rw c.in-Define.is s.Means.define

pub returns-in-NoDirective : goal.returns-in-NoDirective
returns-in-NoDirective c = rw c.in-NoDirective.is s.Means.no_directive
