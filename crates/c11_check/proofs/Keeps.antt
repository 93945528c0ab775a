-- The first fault of two lists of faults.
use Rattle.std.proofs.Common.{◌≡◌, List, [], ◌∷◌, ◌++◌, Option, refl, ap, ◌∙◌}
use Rattle.std.proofs.lemmas.List.{map-append}
use Rattle.c11_ast.specs.declared.place.Spot.{Spot}
use Rattle.c11_check.specs.declared.fault.Fault.{Fault}
use Rattle.c11_check.specs.declared.fault.Rule.TheVariants as rule
use Rattle.c11_check.specs.Faults.{unvalued, fault_at}
use Rattle.c11_check.specs.Programs.{keep, earlier}

pub keep_append : (kept : Option Fault) (xs ys : List Fault) → keep kept (xs ++ ys) ≡ keep (keep kept xs) ys
keep_append kept [] ys = refl
keep_append kept (x ∷ xs) ys = keep_append (earlier kept x) xs ys

pub keep_unvalued : (kept : Option Fault) (xs ys : List Spot) → keep kept (unvalued (xs ++ ys)) ≡ keep (keep kept (unvalued xs)) (unvalued ys)
keep_unvalued kept xs ys = ap (keep kept) (map-append (fault_at rule.Typing) xs ys) ∙ keep_append kept (unvalued xs) (unvalued ys)
