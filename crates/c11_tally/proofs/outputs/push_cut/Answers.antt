use Rattle.std.proofs.Common.{◌≡◌, ℕ, ◌-◌, ◌++◌, length, min, take, ap, ◌∙◌}
use Rattle.c11_tally.proofs.Cutting.{cut_room}
use Rattle.c11_tally.proofs.outputs.push_cut.Goals as goal

pub returns : goal.returns
returns c =
    let old = c.args.buffer.now.items in let more = c.args.more.now in
    let room : c.len-room.result ≡ length old = c.len-room.ensures ∙ c.args.buffer.now.ok.0 in
    let taken = c.min-taken.ensures ∙ ap (λ (n : ℕ). min (256 - n) (length more)) room in
    c.in_ok-extend_from_slice.ensures.items ∙ (ap (λ (n : ℕ). old ++ take n more) taken ∙ cut_room old more c.requires)
