-- How many chains reach a chain.
use Rattle.std.proofs.Common.{ℕ, suc, ◌<◌, List, length}
use Rattle.c11_events.specs.declared.event.Event.{Event}
use Rattle.c11_events.specs.Closure.{one, join}
use Rattle.c11_events.specs.HappensBefore.{here}
use Rattle.c11_events.specs.Chains.{IsRanked, Links, ChainLawful}
use Rattle.c11_events.specs.Layout.{IsHead}
use Rattle.c11_events.proofs.Count.{count, count_less}
use Rattle.c11_events.proofs.DecideEvents.{event_below, dec_links}
use Rattle.c11_events.proofs.Basics.{chain_head}

pub head_of : (events : List Event) (cell h i x : ℕ) → IsRanked events cell h i x → IsHead events cell h
head_of events cell h i x r = record { chain = here (chain_head events cell h i x r.chain); first = r.first }

pub head_below : (events : List Event) (cell h i x : ℕ) → IsRanked events cell h i x → h < suc (length events)
head_below events cell h i x r = event_below events h r.first.event r.first.is

pub links_from : (events : List Event) (cell h k : ℕ) → Links events cell h k → IsHead events cell h
links_from events cell h k (one l) = head_of events cell h l.i l.a l.first
links_from events cell h k (join {b = m} l l') = links_from events cell h m l

module _ (events : List Event) (c : ChainLawful events) (cell : ℕ) where
  pub level : ℕ → ℕ
  level h = count (suc (length events)) (λ j. Links events cell j h) (λ j. dec_links events c.reads cell j h)

  pub level_less : (h k : ℕ) → Links events cell h k → level h < level k
  unfolding level
  level_less h k l = let head = links_from events cell h k l in
      count_less (λ j. Links events cell j h) (λ j. Links events cell j k) (λ j. dec_links events c.reads cell j h) (λ j. dec_links events c.reads cell j k)
      (λ j w. join w l) (suc (length events)) h (head_below events cell h 0 h head) (c.acyclic cell h) l
