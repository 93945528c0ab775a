use Rattle.std.proofs.Common.{◌≡◌, ap, subst, length, slice_get, arith, List, Option, Some, ℕ}
use Rattle.c11_latest.proofs.Places.{get_of_index}
use Rattle.c11_scorder.specs.Tables.{Tables}
use Rattle.c11_scorder.proofs.Answering.{last_fence}
use Rattle.c11_scorder.proofs.order.ScOrder.last_fence.Goals as goal

pub returns : goal.returns
returns c = λ events stands.
    let same = ap (λ (t : Tables). t.last_fences) c.self.view_is in
    let count = ap (λ (l : List (Option ℕ)). length l) same in
    last_fence c.args.self.now events stands c.args.thread c.index.result.now
    (subst (λ (l : List (Option ℕ)). slice_get l c.args.thread ≡ Some c.index.result.now) same
    (get_of_index c.self.inside.last_fences.items c.args.thread c.index.result.now (omega (arith, c.requires, count)) c.index.ensures))
