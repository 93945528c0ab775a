-- A chain-lawful list has a layout, and a layout is lawful.
use Rattle.std.proofs.Common.{◌≡◌, ℕ, suc, ◌<◌, List, length, sym, subst, arith, inl, inr}
use native.Mathlib.Decide.{ℕ_discrete}
use mathlib.Core.Logic.{dite}
use Rattle.c11_events.specs.declared.event.Event.{Event}
use Rattle.c11_events.specs.Closure.{one, join}
use Rattle.c11_events.specs.Lawful.{Precedes}
use Rattle.c11_events.specs.Chains.{IsRanked, MustPrecede, Links, ChainLawful}
use Rattle.c11_events.specs.Layout.{IsHead, IsLayout}
use Rattle.c11_events.specs.Laws.{LayoutIsLawful, LayoutExists}
use Rattle.c11_events.proofs.Arrange.{In}
use Rattle.c11_events.proofs.ByTurn.{order, is_order, follows, turn_before, before_turn}
use Rattle.c11_events.proofs.DecideEvents.{dec_ranked, dec_links}
use Rattle.c11_events.proofs.Keeps.{keeps_lawful}
use Rattle.c11_events.proofs.Level.{level, level_less, head_of, head_below, links_from}
use Rattle.c11_events.proofs.Pieces.{members_before, ranks_before}
use Rattle.c11_events.proofs.Ranks.{placed, ranked_one}
use Rattle.c11_events.proofs.Turns.{Laid, turn_in, turn_apart, turn_links, turn_least, whole}

must_keep : (events : List Event) (cell : ℕ) (order : List ℕ) (c : ChainLawful events) → IsLayout events cell order → (a b : ℕ) → MustPrecede events cell a b → Precedes order a b
must_keep events cell order c layout a b m =
    let p = placed events cell c.reads a m.first in
    let q = placed events cell c.reads b m.second in
    dite (ℕ_discrete p.0 q.0)
    (λ (same : p.0 ≡ q.0).
    let rb : IsRanked events cell p.0 q.1.0 b = subst (λ (z : ℕ). IsRanked events cell z q.1.0 b) (sym same) q.1.1 in
    let differ : p.1.0 ≡ q.1.0 → ⊥ = λ e. m.differ (ranked_one events cell (c.once cell) p.0 p.1.0 a b p.1.1 (subst (λ (z : ℕ). IsRanked events cell p.0 z b) (sym e) rb)) in
    let forward : q.1.0 < p.1.0 → ⊥ = c.ranked cell a b p.0 p.1.0 q.1.0 m p.1.1 rb in
    ranks_before events cell order layout.stores layout.chains p.0 p.1.0 q.1.0 a b p.1.1 rb (omega arith))
    (λ (differ : p.0 ≡ q.0 → ⊥).
    members_before events cell order layout.stores layout.chains p.0 q.0 p.1.0 q.1.0 a b p.1.1 q.1.1
    (layout.links p.0 q.0 (one (record { differ = differ; a = a; b = b; i = p.1.0; j = q.1.0; first = p.1.1; second = q.1.1; must = m }))))

pub layout_lawful : LayoutIsLawful
layout_lawful events cell order c layout = keeps_lawful events cell order c.reads layout.stores (must_keep events cell order c layout) layout.chains (c.seq_cst_read cell)

links_to : (events : List Event) (cell h k : ℕ) → Links events cell h k → IsHead events cell k
links_to events cell h k (one l) = head_of events cell k l.j l.b l.second
links_to events cell h k (join {b = m} l l') = links_to events cell m k l'

module _ (events : List Event) (c : ChainLawful events) (cell : ℕ) where
  abbrev all_laid : (qs : List ℕ) × (Laid (IsHead events cell) (Links events cell) qs × ((h : ℕ) → IsHead events cell h → In h qs))
  all_laid = whole (suc (length events)) (IsHead events cell) (Links events cell) (λ h. dec_ranked events cell h 0 h) (dec_links events c.reads cell)
      (λ h r. head_below events cell h 0 h r) (links_from events cell) (level events c cell) (level_less events c cell)

  module _ (qs : List ℕ) (laid : Laid (IsHead events cell) (Links events cell) qs) (all : (h : ℕ) → IsHead events cell h → In h qs) where
    distinct : (h k : ℕ) → IsHead events cell h → IsHead events cell k → turn_in qs h ≡ turn_in qs k → h ≡ k
    distinct h k rh rk e = turn_apart qs h k (all h rh) (all k rk) e

    laid_layout : IsLayout events cell (order events c.reads cell (c.once cell) (turn_in qs) distinct)
    laid_layout = record {
      stores = is_order events c.reads cell (c.once cell) (turn_in qs) distinct;
      chains = follows events c.reads cell (c.once cell) (turn_in qs) distinct;
      links = λ h k l. let rk = links_to events cell h k l in
          turn_before events c.reads cell (c.once cell) (turn_in qs) distinct h k (links_from events cell h k l) rk
          (turn_links (suc (length events)) (IsHead events cell) (Links events cell) (λ h. dec_ranked events cell h 0 h) (dec_links events c.reads cell) (λ h r. head_below events cell h 0 h r) (links_from events cell) qs laid h k l (all k rk)).1;
      least = λ h k rh rk b lt.
          let turns = before_turn events c.reads cell (c.once cell) (turn_in qs) distinct h k rh rk b in
          let t = turn_least (suc (length events)) (IsHead events cell) (Links events cell) (λ h. dec_ranked events cell h 0 h) (dec_links events c.reads cell) (λ h r. head_below events cell h 0 h r) (links_from events cell) qs laid h k (all h rh) (all k rk) turns lt in
          let rj = links_from events cell t.0 k t.1.0 in (
            t.0,
            (
              t.1.0,
              dite (ℕ_discrete t.0 h) (λ (e : t.0 ≡ h). inl e)
                  (λ (differ : t.0 ≡ h → ⊥). let apart : turn_in qs t.0 ≡ turn_in qs h → ⊥ = λ e. differ (distinct t.0 h rj rh e) in
                  inr (turn_before events c.reads cell (c.once cell) (turn_in qs) distinct h t.0 rh rj (omega (arith, t.1.1)))),
            ),
          );
    }

pub layout_exists : LayoutExists
layout_exists events cell c = let t = all_laid events c cell in
    (order events c.reads cell (c.once cell) (turn_in t.0) (distinct events c cell t.0 t.1.0 t.1.1), laid_layout events c cell t.0 t.1.0 t.1.1)
