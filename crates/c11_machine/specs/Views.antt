-- How a machine is seen: as a configuration of flat code, whose stack and callers have the last first.
use Rattle.std.specs.Prelude.{List, [], ◌∷◌, Option, Some, None, ℤ, map, reverse}
use Rattle.c11_num.specs.Ranges.{TypedNumber}
use Rattle.c11_events.specs.declared.reply.Reply.{Reply}
use Rattle.c11_flat.specs.Flat as flat
use Rattle.c11_machine.specs.declared.machine.Caller.{Caller}
use Rattle.c11_machine.specs.declared.machine.Machine.{Machine}

abbrev pub listed : Option Reply → List Reply
listed None = []
listed (Some reply) = reply ∷ []

abbrev pub numbers_of : List TypedNumber → List ℤ
numbers_of values = map (λ value. value.number) values

abbrev pub caller_of : Caller → flat.Caller
caller_of caller = record { place = caller.place; answers = caller.answers; locals = numbers_of caller.locals.items }

abbrev pub config_of : Machine → flat.Config
config_of m = record {
  place = m.place;
  stack = reverse m.stack.items;
  callers = map caller_of (reverse m.callers.items);
  answers = m.answers;
  state = record { locals = numbers_of m.locals.items; replies = listed m.pending; turns = m.turns };
}
