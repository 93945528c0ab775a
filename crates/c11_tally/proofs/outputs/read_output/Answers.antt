use Rattle.std.proofs.Common.{◌≡◌, ℕ, length, get_or, take, sym, ap, ◌∙◌, arith, Vec, Global}
use Rattle.c11_events.specs.declared.entry.Entry.{Entry}
use Rattle.c11_tally.specs.Tallies.{out_bytes, output_of}
use Rattle.c11_tally.proofs.Cutting.{cut_short, cut_more, cut_same, no_bytes}
use Rattle.c11_tally.proofs.outputs.read_output.Goals as goal
use Rattle.c11_tally.proofs.outputs.read_output.Goals.{in-Out+in_ok-push_cut, in_default}

pub push_cut-requires : goal.push_cut-requires
push_cut-requires c = let short = cut_short (output_of (take c.loop-entry.entry-index c.args.entries.now)) in let same = ap length c.loop-entry.invariant in omega arith

pub loop-entry-preserved : goal.loop-entry-preserved
loop-entry-preserved c =
    let entries = c.args.entries.now in let i = c.loop-entry.entry-index in let d = c.entry-item.result in let old = c.loop-entry.buffer.items in
    let here : out_bytes (get_or entries i d).op ≡ out_bytes d.op = sym (ap (λ (e : Entry). out_bytes e.op) c.entry-item.is) in
    elim c.match-entry.branch [
      | in-Out+in_ok-push_cut w ↦
          let bytes : out_bytes (get_or entries i d).op ≡ w.as_slice.result.now = here ∙ (ap out_bytes w.in-Out.is ∙ sym w.as_slice.ensures) in
          ap (λ (v : Vec ℕ Global). v.items) w.buffer-is
          ∙ cut_more entries i d old w.push_cut.new.buffer.items w.as_slice.result.now c.loop-entry-test.true bytes c.loop-entry.invariant w.in_ok-push_cut.ensures
      | in_default w ↦
          ap (λ (v : Vec ℕ Global). v.items) w.buffer-is
          ∙ cut_same entries i d old c.loop-entry-test.true (here ∙ no_bytes d.op w.in_default.not-Out) c.loop-entry.invariant
    ]
