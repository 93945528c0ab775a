use Rattle.c11_session.proofs.Arriving.{has_played, is_due, stays_short}
use Rattle.c11_session.proofs.place.Place.take_turn.Goals as goal

pub turn-turned-requires : goal.turn-turned-requires
turn-turned-requires g c =
    let p = c.args.self.now in
    record {
      due = (p.terms, is_due p c.in-Some.ask c.number.result c.begin-ticket.result.ticket c.begin-ticket.new.chair.me c.begin-ticket.result.memory c.requires.seated c.in-Some.is c.number.ensures c.begin-ticket.ensures.begins);
    }

pub word_with-word-requires-clause-fits : goal.word_with-word-requires-clause-fits
word_with-word-requires-clause-fits g c =
    let p = c.args.self.now in
    let due = is_due p c.in-Some.ask c.number.result c.begin-ticket.result.ticket c.begin-ticket.new.chair.me c.begin-ticket.result.memory c.requires.seated c.in-Some.is c.number.ensures c.begin-ticket.ensures.begins in
    let made = c.turn-turned.ensures.turn p.terms due in
    (stays_short c.histories_are_short.ensures p.terms c.turn-turned.new.memory made.has made.follows).1

pub returns-clause-played : goal.returns-clause-played
returns-clause-played g c =
    let p = c.args.self.now in
    let due = is_due p c.in-Some.ask c.number.result c.begin-ticket.result.ticket c.begin-ticket.new.chair.me c.begin-ticket.result.memory c.requires.seated c.in-Some.is c.number.ensures c.begin-ticket.ensures.begins in
    let made = c.turn-turned.ensures.turn p.terms due in
    has_played p c.begin-ticket.result.ticket c.begin-ticket.new.chair.me c.begin-ticket.result.memory c.turn-turned.new.memory c.exchange.new.chair c.requires.seated c.requires.ready c.begin-ticket.ensures.begins
    c.exchange.ensures.after c.histories_are_short.ensures c.requires.going c.in-Some.ask c.in-Some.is c.number.result c.number.ensures c.turn-turned.result made c.word_with-word.result c.word_with-word.ensures
