use Rattle.c11_mograph.proofs.Added.{tracks_longer}
use Rattle.c11_mograph.proofs.Found.{tracks_of}
use Rattle.c11_mograph.proofs.graph.Graph.place_store.Goals as goal

pub returns-clause-stands : goal.returns-clause-stands
returns-clause-stands c = λ made stands can.
    tracks_longer made stands.well _ can c.args.self.now c.mark_after.new.self c.push.new.self (tracks_of _ made stands) stands.own _ _ c.chained-head.ensures c.mark_after.ensures.begins c.mark_after.ensures.marks
    c.mark_after.ensures.rest c.mark_after.ensures.count c.chained-head.ensures.sized c.chained-head.ensures.few c.requires.cell c.requires.thread c.push.ensures c.note_store.new.self c.note_store.ensures
