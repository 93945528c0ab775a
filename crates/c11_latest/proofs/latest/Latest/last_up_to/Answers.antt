use Rattle.std.proofs.Common.{◌<◌, ℕ, suc, List, Option, length, ap, sym, subst, arith}
use Rattle.c11_latest.specs.declared.latest.Note.{Note}
use Rattle.c11_latest.specs.declared.links.Link.{Link}
use Rattle.c11_latest.specs.Notes.{Notes, HasNoneUpTo, IsLastUpTo}
use Rattle.c11_latest.specs.Linked.{last_in, IsLastPlace, IsStep}
use Rattle.c11_latest.proofs.Places.{get_of_index}
use Rattle.c11_latest.proofs.Searching.{AreAbove, measure, within, begin, found, step}
use Rattle.c11_latest.proofs.latest.Latest.last_up_to.Goals as goal

pub loop-place-init : goal.loop-place-init
loop-place-init c = begin c.self.inside.notes.items c.args.cell c.args.thread c.args.number c.last_place-place.result
    (subst (λ (o : Option ℕ). IsLastPlace c.self.inside.notes.items c.args.cell c.args.thread (length c.self.inside.notes.items) o) (sym c.last_place-place.ensures)
    (c.self.invariant.linked.last c.args.cell c.args.thread))

pub index-requires : goal.index-requires
index-requires c = let less = within c.self.inside.notes.items c.args.cell c.args.thread c.args.number c.loop-place.place c.in-Some.at c.in-Some.is c.loop-place.invariant in omega (arith, less, c.self.inside.notes.ok.0)

pub returns-then-found-number : goal.returns-then-found-number
returns-then-found-number c =
    let less = within c.self.inside.notes.items c.args.cell c.args.thread c.args.number c.loop-place.place c.in-Some.at c.in-Some.is c.loop-place.invariant in
    subst (λ (n : Notes). IsLastUpTo n.notes c.args.cell c.args.thread c.args.number c.index.result.now.number) c.self.view_is
    (found c.self.inside.notes.items c.args.cell c.args.thread c.args.number c.self.inside.links.items (last_in c.self.inside.last) c.self.invariant.linked c.in-Some.at
    (subst (λ (o : Option ℕ). AreAbove c.self.inside.notes.items c.args.cell c.args.thread c.args.number o) c.in-Some.is c.loop-place.invariant) c.index.result.now
    (get_of_index c.self.inside.notes.items c.in-Some.at c.index.result.now less c.index.ensures) c.if-found-number.true)

pub earlier-place-requires-clause-inside : goal.earlier-place-requires-clause-inside
earlier-place-requires-clause-inside c =
    let less = within c.self.inside.notes.items c.args.cell c.args.thread c.args.number c.loop-place.place c.in-Some.at c.in-Some.is c.loop-place.invariant in
    omega (arith, less, c.self.invariant.linked.count, ap (λ (l : List Link). length l) c.deref-in-Some.ensures.value)

module _ (c : goal.After-earlier-place) where
  moved : AreAbove c.self.inside.notes.items c.args.cell c.args.thread c.args.number c.earlier-place.result × (measure c.earlier-place.result < suc c.in-Some.at)
  moved =
      let less = within c.self.inside.notes.items c.args.cell c.args.thread c.args.number c.loop-place.place c.in-Some.at c.in-Some.is c.loop-place.invariant in
      step c.self.inside.notes.items c.args.cell c.args.thread c.args.number c.self.inside.links.items (last_in c.self.inside.last) c.self.invariant.linked c.in-Some.at
      (subst (λ (o : Option ℕ). AreAbove c.self.inside.notes.items c.args.cell c.args.thread c.args.number o) c.in-Some.is c.loop-place.invariant) c.index.result.now
      (get_of_index c.self.inside.notes.items c.in-Some.at c.index.result.now less c.index.ensures) c.if-found-number.false c.earlier-place.result
      (subst (λ (p : List Note × List Link). IsStep p.0 p.1 c.in-Some.at c.args.number c.earlier-place.result) (λ i. (c.deref.ensures.value i, c.deref-in-Some.ensures.value i)) c.earlier-place.ensures)

pub loop-place-smaller : goal.loop-place-smaller
loop-place-smaller c = let less = moved c in let is = ap (λ (o : Option ℕ). measure o) c.in-Some.is in subst (λ (m : ℕ). measure c.earlier-place.result < m) (sym is) less.1

pub loop-place-preserved : goal.loop-place-preserved
loop-place-preserved c = let is = moved c in is.0

pub returns : goal.returns
returns c = subst (λ (n : Notes). HasNoneUpTo n.notes c.args.cell c.args.thread c.args.number) c.self.view_is
    (subst (λ (o : Option ℕ). AreAbove c.self.inside.notes.items c.args.cell c.args.thread c.args.number o) c.in_default.is c.loop-place.invariant)
