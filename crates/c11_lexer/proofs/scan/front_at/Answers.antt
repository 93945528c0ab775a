use Rattle.std.proofs.Common.{sym, subst}
use Rattle.c11_lexer.specs.Pieces.{Text}
use Rattle.c11_lexer.specs.Directives.{IsDirective, NoDirective}
use Rattle.c11_lexer.specs.Scan.{Means, leads, line_of, start, Scans}
use Rattle.c11_lexer.specs.Scan as s
use Rattle.c11_lexer.proofs.Scanning as law
use Rattle.c11_lexer.proofs.scan.front_at.Goals as goal

pub returns-then-not-leads : goal.returns-then-not-leads
returns-then-not-leads c = law.plain_ok c.front.result _ _ (sym c.if-not-leads.ensures) c.front.ensures

pub directive-requires-clause-some : goal.directive-requires-clause-some
directive-requires-clause-some c = rw c.line_of.ensures (law.leads_line c.args.at c.args.text.now (sym c.if-not-leads.ensures)).0

pub directive-requires-clause-hash : goal.directive-requires-clause-hash
directive-requires-clause-hash c = rw c.line_of.ensures (law.leads_line c.args.at c.args.text.now (sym c.if-not-leads.ensures)).1

pub returns-in-Some : goal.returns-in-Some
returns-in-Some c =
    s.Front.directive (sym c.if-not-leads.ensures) (subst (λ (x : Text). IsDirective x c.in-Some.found.1 c.in-Some.found.0) c.line_of.ensures (rw c.in-Some.is at c.in_ok-found.ensures.found))

pub returns-in-None : goal.returns-in-None
returns-in-None c =
    s.Front.no_directive (sym c.if-not-leads.ensures) (subst NoDirective c.line_of.ensures (rw c.in-None.is at c.in_ok-found.ensures.none))
