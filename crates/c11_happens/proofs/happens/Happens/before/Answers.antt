use Rattle.std.proofs.Common.{◌≡◌, ◌≤◌, ◌∙◌, ap, sym, subst, List, [], ℕ, Some, Bool, true, false, length, slice_index, nat_eq, arith}
use Rattle.std.specs.Prelude.{not, ◌↔◌}
use Rattle.std.proofs.lemmas.Bool.{eq-eqb}
use Rattle.std.proofs.lemmas.List.{get_or_default}
use Rattle.c11_events.specs.declared.event.Event.{Event}
use Rattle.c11_events.specs.HappensBefore.{HappensBefore}
use Rattle.c11_happens.specs.Noting.{row}
use Rattle.c11_happens.specs.Sound.{contents}
use Rattle.c11_happens.specs.Trace.{Trace}
use Rattle.c11_happens.proofs.Answering.{at_index, before_is, never_itself}
use Rattle.c11_happens.proofs.Rows.{width_at}
use Rattle.c11_happens.proofs.happens.Happens.before.Goals as goal

pub covers-requires : goal.covers-requires
covers-requires c =
    let kept = c.self.invariant.kept in
    let noted = ap (λ (h : Trace). length h.events) c.self.view_is in
    let first_is = at_index c.self.inside.events.items c.args.a c.index.result.now c.requires.first (omega (arith, noted, c.requires.first_noted)) ∙ ap (λ (f : Event). Some f) (sym c.index.ensures) in
    let size = ap (λ (x : List ℕ). length x) c.index-then-a-b.ensures ∙ width_at c.self.inside.threads c.self.inside.tables.clocks.items c.args.b c.index-then-a-b.result.now kept.sized.wide_clocks (omega (arith, noted, kept.fits, kept.sized.clocks, c.requires.second_noted)) in
    omega (arith, size, kept.within c.args.a c.index.result.now first_is)

pub returns-then-a-b : goal.returns-then-a-b
returns-then-a-b c =
    let kept = c.self.invariant.kept in
    let noted = ap (λ (h : Trace). length h.events) c.self.view_is in
    let first_is = at_index c.self.inside.events.items c.args.a c.index.result.now c.requires.first (omega (arith, noted, c.requires.first_noted)) ∙ ap (λ (f : Event). Some f) (sym c.index.ensures) in
    let second_is = at_index c.self.inside.events.items c.args.b c.index.result.now c.requires.second (omega (arith, noted, c.requires.second_noted)) in
    let row_is : row c.self.inside.tables.clocks.items c.args.b ≡ c.index-then-a-b.result.now = sym (c.index-then-a-b.ensures
    ∙ get_or_default c.self.inside.tables.clocks.items c.args.b c.index-then-a-b.result.now [] (omega (arith, noted, kept.fits, kept.sized.clocks, c.requires.second_noted))) in
    let is = before_is c.self.inside.threads c.self.inside.room c.self.inside.events.items (contents c.self.inside.tables) kept c.args.a c.args.b c.index.result.now _ first_is second_is c.if-a-b.true in
    let exact : (c.args.a ≤ slice_index c.index-then-a-b.result.now c.index.result.now.thread) ↔ HappensBefore c.args.self.now.events c.args.a c.args.b =
    subst (λ (h : Trace). (c.args.a ≤ slice_index c.index-then-a-b.result.now c.index.result.now.thread) ↔ HappensBefore h.events c.args.a c.args.b) c.self.view_is
    (subst (λ (k : List ℕ). (c.args.a ≤ slice_index k c.index.result.now.thread) ↔ HappensBefore c.self.inside.events.items c.args.a c.args.b) row_is is) in
    (λ yes'. exact.0 (c.covers.ensures.0 yes'), λ h. c.covers.ensures.1 (exact.1 h))

pub returns-else-a-b : goal.returns-else-a-b
returns-else-a-b c =
    let same : not (nat_eq c.args.a c.args.b) ≡ false = ap (λ (b : Bool). not b) (eq-eqb c.args.a c.args.b c.if-a-b.false) in (
      λ is. absurd (let clash : false ≡ true = sym same ∙ is in cc),
      λ h. absurd (never_itself c.self.inside.threads c.self.inside.room c.self.inside.events.items (contents c.self.inside.tables) c.self.invariant.kept c.args.a c.args.b c.if-a-b.false
          (subst (λ (t : Trace). HappensBefore t.events c.args.a c.args.b) (sym c.self.view_is) h)),
    )
