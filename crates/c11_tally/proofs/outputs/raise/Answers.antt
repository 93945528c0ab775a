use Rattle.std.proofs.Common.{◌+◌, sym, arith}
use Rattle.c11_tally.proofs.Listing.{found_le, raised}
use Rattle.c11_tally.proofs.outputs.raise.Goals as goal

pub overflow_add-count : goal.overflow_add-count
overflow_add-count c = let le = found_le c.args.output.now c.in-Some.count.now c.args.outputs.now.entries (sym c.in-Some.ensures.value) in omega (arith, c.requires)

pub returns-in-Some-clause-found : goal.returns-in-Some-clause-found
returns-in-Some-clause-found c =
    let count = c.in-Some.count.now in let written = c.get_mut.follows.holds (count + c.args.by) in
    raised c.args.output.now c.args.by count c.args.outputs.now.entries (c.get_mut.follows.lender (count + c.args.by)).entries (sym c.in-Some.ensures.value) written.0 written.4
