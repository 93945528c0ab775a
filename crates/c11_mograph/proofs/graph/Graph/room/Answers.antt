use Rattle.std.proofs.Common.{true, refl, subst, sym, ◌∙◌, arith, inl}
use Rattle.c11_mograph.specs.Words.{Words, StandsFor}
use Rattle.c11_mograph.proofs.Grown.{still_stands, still_safe, made_safe, still_room_but}
use Rattle.c11_mograph.proofs.graph.Graph.room.Goals as goal

pub invariant_of-self : goal.invariant_of-self
invariant_of-self c = record {
  safe = still_safe _ _ c.make_room.ensures.count c.make_room.ensures.grown _ refl c.self.inside.clocks.items (inl refl) c.self.inside.ready refl c.self.invariant.safe;
  linked = c.self.invariant.linked;
  cells = c.self.invariant.cells ∙ sym c.make_room.ensures.count;
  full = λ cell e. still_room_but _ _ c.make_room.ensures.count c.make_room.ensures.grown cell (c.self.invariant.full cell e);
  numbers_fit = c.self.invariant.numbers_fit;
  kept_fit = c.self.invariant.kept_fit;
  leads_fit = c.self.invariant.leads_fit;
}

pub returns-in_err-make_room-clause-stands : goal.returns-in_err-make_room-clause-stands
returns-in_err-make_room-clause-stands c = λ made stands.
    still_stands _ _ c.make_room.ensures.count c.make_room.ensures.grown _ refl c.self.inside.clocks.items (inl refl) c.self.inside.ready made (subst (λ (w : Words). StandsFor w made) (sym c.self.view_is) stands)

pub invariant_of-self-in_err-add_spare : goal.invariant_of-self-in_err-add_spare
invariant_of-self-in_err-add_spare c = record {
  safe = still_safe _ _ c.make_room.ensures.count c.make_room.ensures.grown _ refl _ c.add_spare.ensures.gained c.self.inside.ready refl c.self.invariant.safe;
  linked = c.self.invariant.linked;
  cells = c.self.invariant.cells ∙ sym c.make_room.ensures.count;
  full = λ cell e. still_room_but _ _ c.make_room.ensures.count c.make_room.ensures.grown cell (c.self.invariant.full cell e);
  numbers_fit = c.self.invariant.numbers_fit;
  kept_fit = c.self.invariant.kept_fit;
  leads_fit = c.self.invariant.leads_fit;
}

pub returns-in_err-add_spare-clause-stands : goal.returns-in_err-add_spare-clause-stands
returns-in_err-add_spare-clause-stands c = λ made stands.
    still_stands _ _ c.make_room.ensures.count c.make_room.ensures.grown _ refl _ c.add_spare.ensures.gained c.self.inside.ready made (subst (λ (w : Words). StandsFor w made) (sym c.self.view_is) stands)

pub invariant_of-self-then-not-self : goal.invariant_of-self-then-not-self
invariant_of-self-then-not-self c = record {
  safe = made_safe _ _ c.make_room.ensures.count c.make_room.ensures.grown _ refl _ c.add_spare.ensures.gained true (omega (arith, c.in_ok-add_spare.ensures.spare, c.len.ensures)) c.in_ok-make_room.ensures.room c.self.invariant.safe;
  linked = c.self.invariant.linked;
  cells = c.self.invariant.cells ∙ sym c.make_room.ensures.count;
  full = λ cell e. still_room_but _ _ c.make_room.ensures.count c.make_room.ensures.grown cell (c.self.invariant.full cell e);
  numbers_fit = c.self.invariant.numbers_fit;
  kept_fit = c.self.invariant.kept_fit;
  leads_fit = c.self.invariant.leads_fit;
}

pub returns-in_ok-add_spare-clause-stands : goal.returns-in_ok-add_spare-clause-stands
returns-in_ok-add_spare-clause-stands c = λ made stands.
    still_stands _ _ c.make_room.ensures.count c.make_room.ensures.grown _ refl _ c.add_spare.ensures.gained true made (subst (λ (w : Words). StandsFor w made) (sym c.self.view_is) stands)
