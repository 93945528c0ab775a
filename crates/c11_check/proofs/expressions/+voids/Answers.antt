use Rattle.std.proofs.Common.{◌≡◌, rules, ap, ◌∙◌, sym}
use Rattle.c11_check.specs.Faults.{unvalued}
use Rattle.c11_check.specs.Expressions.{Part, part_of}
use Rattle.c11_check.specs.Programs.{keep}
use Rattle.c11_check.proofs.Parts.{both_voids, part_cond}
use Rattle.c11_check.proofs.expressions.+voids.Goals as goal

pub returns-in-Cond : goal.returns-in-Cond
returns-in-Cond t c =
    let s = c.args.scopes.now in
    let a : c.voids-first.result ≡ keep c.args.first (unvalued ((part_of c.in-Cond.yes).voids s)) = search rules in
    let b : c.voids.result ≡ keep c.voids-first.result (unvalued ((part_of c.in-Cond.no).voids s)) = search rules in
    both_voids c.args.first ((part_of c.in-Cond.yes).voids s) ((part_of c.in-Cond.no).voids s) a b ∙ sym (ap (λ (p : Part). keep c.args.first (unvalued (p.voids s))) (part_cond _ _ _ _ c.in-Cond.is))
