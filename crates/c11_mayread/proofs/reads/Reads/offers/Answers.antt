use Rattle.std.proofs.Common.{◌≡◌, ℕ, List, Some, None, ap, sym, subst, ◌∙◌}
use Rattle.c11_events.specs.declared.event.Event.{Event}
use Rattle.c11_events.specs.Offered.{op_cell, op_reading, ChainOffered}
use Rattle.c11_events.proofs.Agreement.{offers_agree}
use Rattle.c11_mayread.specs.Standing.{StandsFor}
use Rattle.c11_mayread.specs.declared.asked.Asked.{Asked}
use Rattle.c11_mayread.proofs.Offering.{AskedBy, asked_by, asked_none}
use Rattle.c11_mayread.proofs.Nonempty.{some_offered}
use Rattle.c11_mayread.proofs.reads.Reads.offers.Goals as goal

module _ (c : goal.After-new) where
  abbrev asked : Asked
  asked = c.in-Some.asked

  by : AskedBy c.args.op.now asked
  by = asked_by c.args.op.now asked (sym c.asked_of.ensures ∙ c.in-Some.is)

  same_cell : (cell : ℕ) → op_cell c.args.op.now ≡ Some cell → asked.cell ≡ cell
  same_cell cell is = let both : Some asked.cell ≡ Some cell = sym by.0 ∙ is in cc

  offered : (events : List Event) (cell : ℕ) → StandsFor c.args.self.now events → op_cell c.args.op.now ≡ Some cell → ChainOffered events c.args.thread (op_reading events c.args.op.now) cell c.new.result
  offered events cell stands is =
      subst (λ (l : List ℕ). ChainOffered events c.args.thread (op_reading events c.args.op.now) cell l) (sym c.new.ensures)
      (subst (λ (k : ℕ). ChainOffered events c.args.thread (op_reading events c.args.op.now) k c.in_ok-offers_of-in-Some.field-0.items) (same_cell cell is)
      (c.in_ok-offers_of-in-Some.ensures events (op_reading events c.args.op.now) stands (λ x. by.1 events x)))

pub returns-in_ok-offers_of-in-Some-clause-chain_offers : goal.returns-in_ok-offers_of-in-Some-clause-chain_offers
returns-in_ok-offers_of-in-Some-clause-chain_offers c = offered c

pub returns-in_ok-offers_of-in-Some-clause-offers : goal.returns-in_ok-offers_of-in-Some-clause-offers
returns-in_ok-offers_of-in-Some-clause-offers c = λ events cell stands is. (offers_agree events c.args.thread (op_reading events c.args.op.now) cell c.new.result).1 (offered c events cell stands is)

pub returns-in_ok-offers_of-in-Some-clause-some : goal.returns-in_ok-offers_of-in-Some-clause-some
returns-in_ok-offers_of-in-Some-clause-some c = λ events cell s stands is store.
    some_offered events c.args.thread (op_reading events c.args.op.now) cell s c.new.result stands.lawful store
    (λ x. ((by c).1 events x).loads ∙ ap (λ (k : ℕ). Some k) (same_cell c cell is)) (offered c events cell stands is)

pub returns-in_ok-offers_of-in-Some-clause-none : goal.returns-in_ok-offers_of-in-Some-clause-none
returns-in_ok-offers_of-in-Some-clause-none c = λ none. absurd (let clash : None ≡ Some (asked c).cell = sym none ∙ (by c).0 in cc)

pub returns-in-None-clause-chain_offers : goal.returns-in-None-clause-chain_offers
returns-in-None-clause-chain_offers c = λ events cell stands is. absurd (let none = asked_none c.args.op.now (sym c.asked_of.ensures ∙ c.in-None.is) in let clash : None ≡ Some cell = sym none ∙ is in cc)

pub returns-in-None-clause-offers : goal.returns-in-None-clause-offers
returns-in-None-clause-offers c = λ events cell stands is. absurd (let none = asked_none c.args.op.now (sym c.asked_of.ensures ∙ c.in-None.is) in let clash : None ≡ Some cell = sym none ∙ is in cc)

pub returns-in-None-clause-some : goal.returns-in-None-clause-some
returns-in-None-clause-some c = λ events cell s stands is store. absurd (let none = asked_none c.args.op.now (sym c.asked_of.ensures ∙ c.in-None.is) in let clash : None ≡ Some cell = sym none ∙ is in cc)
