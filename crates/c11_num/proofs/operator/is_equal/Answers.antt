use Rattle.std.proofs.Common.{of_z, ap, sym, ◌∙◌}
use Rattle.std.specs.Int.{w128}
use Rattle.std.proofs.lemmas.Bool.Decides.{same_from_decides, Decides-eqb, Decides-int_eq}
use Rattle.c11_num.proofs.Numbers.{same_read}
use Rattle.c11_num.proofs.operator.is_equal.Goals as goal

pub returns : goal.returns
returns c =
    let left = c.number.ensures in
    let right = c.number-2.ensures in
    let d = Decides-eqb (of_z w128 c.number.result) (of_z w128 c.number-2.result) in
    same_from_decides _ _ (λ t. same_read _ _ _ _ _ _ left.in_range right.in_range left.number right.number (d.0 t), λ e. d.1 (ap (of_z w128) (left.number ∙ e ∙ sym right.number)))
    (Decides-int_eq c.args.left.number c.args.right.number)
