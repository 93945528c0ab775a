use Rattle.c11_tally.proofs.Listing.{put_in}
use Rattle.c11_tally.proofs.outputs.put.Goals as goal

pub returns-clause-ok : goal.returns-clause-ok
returns-clause-ok c =
    put_in c.args.output c.args.count c.args.outputs.now.entries c.insert.new.self.entries c.requires c.in_ok-insert.ensures.entries c.insert.ensures.ordered
