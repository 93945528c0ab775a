use Rattle.std.proofs.Common.{◌≡◌, ◌<◌, ◌∙◌, ap, sym, subst, List, [], ℕ, arith}
use Rattle.std.proofs.lemmas.List.{get_or_default}
use Rattle.c11_happens.specs.Covers.{UpTo, CoversExactly, HasNoEvent, IsLastOf, IsCreateOf}
use Rattle.c11_happens.specs.Noting.{row}
use Rattle.c11_happens.specs.Sound.{contents}
use Rattle.c11_happens.specs.Trace.{Trace}
use Rattle.c11_happens.proofs.Answering.{last_clock, started_clock, unborn_clock}
use Rattle.c11_happens.proofs.happens.Happens.clock.Goals as goal

module _ (c : goal.After-index) where
  is_thread : c.args.thread < c.self.inside.threads
  is_thread = let same = ap (λ (h : Trace). h.threads) c.self.view_is in omega (arith, c.requires)

  row_is : row c.self.inside.tables.known.items c.args.thread ≡ c.index.result.now
  row_is = sym (c.index.ensures ∙ get_or_default c.self.inside.tables.known.items c.args.thread c.index.result.now [] (omega (arith, is_thread, c.self.invariant.kept.sized.known)))

pub returns-clause-last : goal.returns-clause-last
returns-clause-last c = subst (λ (h : Trace). (b : ℕ) → IsLastOf h.events c.args.thread b → CoversExactly h.events c.index.result.now (UpTo h.events b)) c.self.view_is
    (λ b last. subst (λ (clock : List ℕ). CoversExactly c.self.inside.events.items clock (UpTo c.self.inside.events.items b)) (row_is c)
    (last_clock c.self.inside.threads c.self.inside.room c.self.inside.events.items (contents c.self.inside.tables) c.self.invariant.kept c.args.thread (is_thread c) b last))

pub returns-clause-started : goal.returns-clause-started
returns-clause-started c = subst (λ (h : Trace). (b : ℕ) → HasNoEvent h.events c.args.thread → IsCreateOf h.events c.args.thread b → CoversExactly h.events c.index.result.now (UpTo h.events b)) c.self.view_is
    (λ b none create. subst (λ (clock : List ℕ). CoversExactly c.self.inside.events.items clock (UpTo c.self.inside.events.items b)) (row_is c)
    (started_clock c.self.inside.threads c.self.inside.room c.self.inside.events.items (contents c.self.inside.tables) c.self.invariant.kept c.args.thread (is_thread c) b none create))

pub returns-clause-unborn : goal.returns-clause-unborn
returns-clause-unborn c = subst (λ (h : Trace). HasNoEvent h.events c.args.thread → ((b : ℕ) → IsCreateOf h.events c.args.thread b → ⊥) → CoversExactly h.events c.index.result.now (λ a. ⊥)) c.self.view_is
    (λ none none'. subst (λ (clock : List ℕ). CoversExactly c.self.inside.events.items clock (λ a. ⊥)) (row_is c)
    (unborn_clock c.self.inside.threads c.self.inside.room c.self.inside.events.items (contents c.self.inside.tables) c.self.invariant.kept c.args.thread (is_thread c) none none'))
