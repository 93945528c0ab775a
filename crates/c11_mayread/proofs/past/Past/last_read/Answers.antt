use Rattle.std.proofs.Common.{◌≡◌, ◌-◌, Some, sym, subst, arith}
use Rattle.c11_latest.proofs.Places.{get_of_index}
use Rattle.c11_events.specs.Events.{loaded_cell}
use Rattle.c11_mayread.specs.Facts.{Facts, IsPastOf}
use Rattle.c11_mayread.specs.Sound.{facts_of}
use Rattle.c11_mayread.proofs.Recalling.{positive, within, noted_load, no_read, last_read}
use Rattle.c11_mayread.proofs.past.Past.last_read.Goals as goal

pub last_up_to-requires : goal.last_up_to-requires
last_up_to-requires c = λ cell thread y noted.
    positive c.self.invariant.events y (λ e. (loaded_cell e.kind ≡ Some cell) × (e.thread ≡ thread)) ((c.self.invariant.stands.loads cell thread y).0 noted)

pub overflow_sub-load : goal.overflow_sub-load
overflow_sub-load c =
    let past = c.self.invariant.stands in
    let t = noted_load (facts_of c.self.inside) c.self.invariant.events past c.args.cell c.args.of c.in-Some.load c.in-Some.ensures.noted in
    positive c.self.invariant.events c.in-Some.load (λ e. (loaded_cell e.kind ≡ Some c.args.cell) × (e.thread ≡ c.args.of)) t

pub index-requires : goal.index-requires
index-requires c =
    let past = c.self.invariant.stands in
    let t = noted_load (facts_of c.self.inside) c.self.invariant.events past c.args.cell c.args.of c.in-Some.load c.in-Some.ensures.noted in
    let lt = positive c.self.invariant.events c.in-Some.load (λ e. (loaded_cell e.kind ≡ Some c.args.cell) × (e.thread ≡ c.args.of)) t in
    let le = within c.self.invariant.events c.in-Some.load (λ e. (loaded_cell e.kind ≡ Some c.args.cell) × (e.thread ≡ c.args.of)) t in
    omega (arith, past.count)

pub returns-in-Some : goal.returns-in-Some
returns-in-Some c = λ events now.
    let past : IsPastOf (facts_of c.self.inside) events = subst (λ (f : Facts). IsPastOf f events) (sym c.self.view_is) now in
    let t = noted_load (facts_of c.self.inside) events past c.args.cell c.args.of c.in-Some.load c.in-Some.ensures.noted in
    let lt = positive events c.in-Some.load (λ e. (loaded_cell e.kind ≡ Some c.args.cell) × (e.thread ≡ c.args.of)) t in
    let le = within events c.in-Some.load (λ e. (loaded_cell e.kind ≡ Some c.args.cell) × (e.thread ≡ c.args.of)) t in
    last_read (facts_of c.self.inside) events past c.args.cell c.args.of c.args.number c.in-Some.load c.index.result.now c.in-Some.ensures
    (get_of_index c.self.inside.kept.items (c.in-Some.load - 1) c.index.result.now (omega (arith, past.count)) c.index.ensures)

pub returns-in-None : goal.returns-in-None
returns-in-None c = λ events now.
    let past : IsPastOf (facts_of c.self.inside) events = subst (λ (f : Facts). IsPastOf f events) (sym c.self.view_is) now in
    no_read (facts_of c.self.inside) events past c.args.cell c.args.of c.args.number c.in-None.ensures
