use Rattle.std.proofs.Common.{[], sym, arith, ◌∙◌}
use Rattle.c11_mograph.specs.Made.{nothing_made}
use Rattle.c11_mayread.proofs.Beginning.{nothing_lawful, nothing_agrees}
use Rattle.c11_mayread.proofs.reads.Reads.open.Goals as goal

pub returns-clause-stands : goal.returns-clause-stands
returns-clause-stands c = record { past = c.in_ok-open.ensures.stands; lawful = nothing_lawful; made = nothing_made; graph = c.in_ok-open-2.ensures.none; agrees = nothing_agrees }

pub invariant_of-result : goal.invariant_of-result
invariant_of-result c =
    let none = c.in_ok-open-2.ensures.none.count in
    let threads = c.in_ok-open.ensures.threads in
    record {
      events = [];
      stands = returns-clause-stands c;
      fitting = record {
        cells = c.in_ok-open-2.ensures.cells ∙ sym c.in_ok-open.ensures.cells;
        threads = c.in_ok-open-2.ensures.threads ∙ sym c.in_ok-open.ensures.threads;
        size = c.in_ok-open-2.ensures.size ∙ sym c.in_ok-open.ensures.room;
        few = omega (arith, none);
      };
      priors_fit = omega (arith, threads, c.in_ok-with_capacity.ensures.capacity, c.most_priors.ensures);
    }
