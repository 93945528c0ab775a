use Rattle.c11_mayread.proofs.lists.note_at.Goals as goal

pub note-requires-clause-rises : goal.note-requires-clause-rises
note-requires-clause-rises c = c.requires.rises c.in-Some.cell c.args.thread
