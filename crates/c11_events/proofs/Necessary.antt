-- A consistent list is chain-lawful.
use Rattle.std.proofs.Common.{◌≡◌, ℕ, suc, ◌+◌, ◌<◌, List, arith}
use Rattle.c11_events.specs.declared.event.Event.{Event}
use Rattle.c11_events.specs.Events.{IsStore, IsLoad, IsRmw}
use Rattle.c11_events.specs.Closure.{one, join}
use Rattle.c11_events.specs.Lawful.{Precedes, Lawful, Fenced, before, after, between}
use Rattle.c11_events.specs.Chains.{IsRanked, Cause, write_write, write_read, read_write, read_read, seq_cst, fenced_read, fenced_write, MustPrecede, Link, Links}
use Rattle.c11_events.specs.Laws.{ConsistentIsChainLawful}
use Rattle.c11_events.proofs.Basics.{head_no_rmw, chain_head}
use Rattle.c11_events.proofs.Pieces.{place_in_chain, within_chain}
use Rattle.c11_events.proofs.Orders.{before_places, before_irreflexive, before_transitive, same_place, before_or}

module _ (events : List Event) (cell : ℕ) (order : List ℕ) (lawful : Lawful events cell order) where
  fenced_read_not : (a l x : ℕ) → IsStore events cell a → IsLoad events cell l x → Fenced events a l → Precedes order x a → ⊥
  fenced_read_not a l x sa load (before f) = lawful.fence_before_read a l x sa load f
  fenced_read_not a l x sa load (after f) = lawful.fence_after_write a l x sa load f
  fenced_read_not a l x sa load (between f) = lawful.fences_between a l x sa load f

  cause_before : (a b : ℕ) → IsStore events cell a → IsStore events cell b → (a ≡ b → ⊥) → Cause events cell a b → Precedes order a b
  cause_before a b sa sb differ (write_write h) = lawful.write_write_coherence a b sa sb h
  cause_before a b sa sb differ (write_read {l = l} h load) = before_or events cell order lawful.stores a b sa sb differ (lawful.write_read_coherence a l b sa load h)
  cause_before a b sa sb differ (read_write {l = l} load h) = lawful.read_write_coherence l a b load sb h
  cause_before a b sa sb differ (read_read {l = l} {k = k} load load' h) = before_or events cell order lawful.stores a b sa sb differ (lawful.read_read_coherence l a k b load load' h)
  cause_before a b sa sb differ (seq_cst s) = lawful.seq_cst_write_order a b sa sb s
  cause_before a b sa sb differ (fenced_read {l = l} f load) = before_or events cell order lawful.stores a b sa sb differ (fenced_read_not a l b sa load f)
  cause_before a b sa sb differ (fenced_write f) = lawful.fences_between_writes a b sa sb f

  pub must_before : (a b : ℕ) → MustPrecede events cell a b → Precedes order a b
  must_before a b m = cause_before a b m.first m.second m.differ m.cause

  link_before : (h k : ℕ) → Link events cell h k → Precedes order h k
  link_before h k l =
      let p = lawful.stores.all h (chain_head events cell h l.i l.a l.first.chain) in
      let q = lawful.stores.all k (chain_head events cell k l.j l.b l.second.chain) in
      let lt = before_places events cell order lawful.stores (p.0 + l.i) (q.0 + l.j) l.a l.b (place_in_chain events cell order lawful.stores lawful.rmw_atomicity h l.i l.a p.0 p.1 l.first.chain) (place_in_chain events cell order lawful.stores lawful.rmw_atomicity k l.j l.b q.0 q.1 l.second.chain) (must_before l.a l.b l.must) in
      before_or events cell order lawful.stores h k (chain_head events cell h l.i l.a l.first.chain) (chain_head events cell k l.j l.b l.second.chain) l.differ
      (λ back. let less = before_places events cell order lawful.stores q.0 p.0 k h q.1 p.1 back in
      let r = within_chain events cell order lawful.stores lawful.rmw_atomicity k l.j l.b q.0 p.0 h q.1 l.second.chain p.1 less (omega arith) in head_no_rmw events cell h r.0 l.first.first r.1)

  pub links_before : (h k : ℕ) → Links events cell h k → Precedes order h k
  links_before h k (one l) = link_before h k l
  links_before h k (join {b = m} l l') = before_transitive events cell order lawful.stores h m k (links_before h m l) (links_before m k l')

  not_reversed : (a b head i j : ℕ) → MustPrecede events cell a b → IsRanked events cell head i a → IsRanked events cell head j b → j < i → ⊥
  not_reversed a b head i j m ra rb lt =
      let p = lawful.stores.all head (chain_head events cell head i a ra.chain) in
      omega (arith, before_places events cell order lawful.stores (p.0 + i) (p.0 + j) a b (place_in_chain events cell order lawful.stores lawful.rmw_atomicity head i a p.0 p.1 ra.chain) (place_in_chain events cell order lawful.stores lawful.rmw_atomicity head j b p.0 p.1 rb.chain) (must_before a b m))

  read_once : (b c x : ℕ) → IsRmw events cell b x → IsRmw events cell c x → b ≡ c
  read_once b c x rb rc =
      let n = lawful.rmw_atomicity b x rb in
      let m = lawful.rmw_atomicity c x rc in
      same_place events cell order lawful.stores (suc n.place) (suc m.place) b c n.second m.second (omega (arith, lawful.stores.once n.place m.place x n.first m.first))

pub chain_lawful : ConsistentIsChainLawful
chain_lawful events c = record {
  reads = c.reads;
  acyclic = λ cell h l. before_irreflexive events cell (c.orders cell) (c.lawful cell).stores h (links_before events cell (c.orders cell) (c.lawful cell) h h l);
  ranked = λ cell. not_reversed events cell (c.orders cell) (c.lawful cell);
  once = λ cell. read_once events cell (c.orders cell) (c.lawful cell);
  seq_cst_read = λ cell. (c.lawful cell).seq_cst_read;
}
