-- A seat's thread makes its local work.
use Rattle.std.proofs.Common.{◌≡◌, true, false, List, Some, sym, ◌∙◌, subst}
use Rattle.c11_events.specs.declared.entry.Entry.{Entry}
use Rattle.c11_flat.specs.Code.{Whole}
use Rattle.c11_machine.specs.Stands.{AsksWhereWanted, CanAsk}
use Rattle.c11_turn.specs.Asking.{AsksUntilOver, IsOver}
use Rattle.c11_session.specs.declared.place.Place.{Place}
use Rattle.c11_session.specs.declared.rule.Account.{Account}
use Rattle.c11_session.specs.Places.{IsSeated}
use Rattle.c11_session.specs.Seats.{asks_after, code_in, replies_of}

-- a thread that is not over asks for something, so its machine may go on
module _ (p : Place) (h : IsSeated p) where
  abbrev mine : Account
  mine = p.chair.me.0.mine

  not_over : p.over ≡ false → IsOver mine.made → ⊥
  not_over going over = let clash : true ≡ false = sym (h.over.1 over) ∙ going in cc

  pub may_advance : AsksUntilOver → AsksWhereWanted → (code : Whole) → code ≡ code_in p.terms → p.over ≡ false → CanAsk code p.thread
  may_advance until law code is going =
      let next = (until p.terms mine.seen p.thread.number h.part.follows).1 (λ over. not_over going (subst IsOver h.part.own over)) in
      let asks : asks_after p.terms mine.made ≡ Some next.0 = subst (λ (es : List Entry). asks_after p.terms es ≡ Some next.0) h.part.own next.1 in
      subst (λ (c : Whole). CanAsk c p.thread) (sym is) (law p.terms.program.value.program (replies_of mine.made) next.0 p.thread asks h.part.stands)
