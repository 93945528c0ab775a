-- A prefix of a consistent list is consistent.
use Rattle.std.proofs.Common.{◌≡◌, ℕ, ◌≤◌, List, ◌++◌, None, length, arith, inl, inr}
use Rattle.c11_events.specs.declared.event.Event.{Event}
use Rattle.c11_events.specs.Events.{IsLoad, ReadsEarlier, loaded_cell}
use Rattle.c11_events.specs.Lawful.{SeqCstReads, IsLastSeqCst}
use Rattle.c11_events.specs.Chains.{IsRanked, Cause, write_write, write_read, read_write, read_read, seq_cst, fenced_read, fenced_write, MustPrecede, Link, ChainLawful}
use Rattle.c11_events.specs.Laws.{PrefixIsConsistent}
use Rattle.c11_events.proofs.DecideEvents.{at_below}
use Rattle.c11_events.proofs.Prefix.{closure_map, same_more, store_more, store_less, load_more, load_less, rmw_more, chain_more, reads_less, hb_more, hb_less, seq_more, seq_before_more, seq_before_less, fenced_more, fenced_less}
use Rattle.c11_events.proofs.Necessary.{chain_lawful}
use Rattle.c11_events.proofs.Sufficient.{consistent}
use Rattle.c11_events.proofs.Rises.{hb_rises}
use Rattle.c11_events.proofs.Keeps.{fenced_rises}

module _ (events more : List Event) where
  cause_more : (cell a b : ℕ) → Cause events cell a b → Cause (events ++ more) cell a b
  cause_more cell a b (write_write h) = write_write (hb_more events more a b h)
  cause_more cell a b (write_read {l = l} h load) = write_read (hb_more events more a l h) (load_more events more cell l b load)
  cause_more cell a b (read_write {l = l} load h) = read_write (load_more events more cell l a load) (hb_more events more l b h)
  cause_more cell a b (read_read {l = l} {k = k} load load' h) = read_read (load_more events more cell l a load) (load_more events more cell k b load') (hb_more events more l k h)
  cause_more cell a b (seq_cst s) = seq_cst (seq_before_more events more a b s)
  cause_more cell a b (fenced_read {l = l} f load) = fenced_read (fenced_more events more a l f) (load_more events more cell l b load)
  cause_more cell a b (fenced_write f) = fenced_write (fenced_more events more a b f)

  pub must_more : (cell a b : ℕ) → MustPrecede events cell a b → MustPrecede (events ++ more) cell a b
  must_more cell a b m = record { first = store_more events more cell a m.first; second = store_more events more cell b m.second; differ = m.differ; cause = cause_more cell a b m.cause }

  pub ranked_more : (cell h i x : ℕ) → IsRanked events cell h i x → IsRanked (events ++ more) cell h i x
  ranked_more cell h i x r = record { chain = chain_more events more cell h i x r.chain; first = same_more events more h (λ e. loaded_cell e.kind ≡ None) r.first }

  pub link_more : (cell h k : ℕ) → Link events cell h k → Link (events ++ more) cell h k
  link_more cell h k l = record { differ = l.differ; a = l.a; b = l.b; i = l.i; j = l.j; first = ranked_more cell h l.i l.a l.first; second = ranked_more cell k l.j l.b l.second; must = must_more cell l.a l.b l.must }

  last_more : (cell l a : ℕ) → IsLastSeqCst events cell l a → IsLastSeqCst (events ++ more) cell l a
  last_more cell l a s = record {
    store = store_more events more cell a s.store;
    before = seq_before_more events more a l s.before;
    last = λ b sb t. let le = at_below events l (λ e. _) s.before.second in
        s.last b (store_less events more cell b (omega (arith, t.earlier)) sb) (seq_before_less events more b l (omega arith) t);
  }

  seq_reads_less : (cell : ℕ) → SeqCstReads (events ++ more) cell → SeqCstReads events cell
  seq_reads_less cell seq l x a load s = elim (seq l x a (load_more events more cell l x load) (last_more cell l a s))
      [ inl e ↦ inl e | inr n ↦ inr ((λ t. n.0 (seq_more events more x t)), (λ h. n.1 (hb_more events more x a h))) ]

  pub prefix_lawful : ChainLawful (events ++ more) → ChainLawful events
  prefix_lawful c = record {
    reads = reads_less events more c.reads;
    acyclic = λ cell h l. c.acyclic cell h (closure_map (Link events cell) (Link (events ++ more) cell) (link_more cell) h h l);
    ranked = λ cell a b head i j m r s. c.ranked cell a b head i j (must_more cell a b m) (ranked_more cell head i a r) (ranked_more cell head j b s);
    once = λ cell b d x r s. c.once cell b d x (rmw_more events more cell b x r) (rmw_more events more cell d x s);
    seq_cst_read = λ cell. seq_reads_less cell (c.seq_cst_read cell);
  }

  -- the other way, where the longer list has no further load of b
  module _ (reads : ReadsEarlier (events ++ more)) (cell a b : ℕ) (le : b ≤ length events) (loads : (l : ℕ) → IsLoad (events ++ more) cell l b → l ≤ length events) where
    first_within : Cause (events ++ more) cell a b → a ≤ length events
    first_within (write_write h) = omega (arith, hb_rises (events ++ more) a b reads h)
    first_within (write_read {l = l} h load) = omega (arith, loads l load, hb_rises (events ++ more) a l reads h)
    first_within (read_write {l = l} load h) = omega (arith, (reads cell l a load).1, hb_rises (events ++ more) l b reads h)
    first_within (read_read {l = l} {k = k} load load' h) = omega (arith, (reads cell l a load).1, loads k load', hb_rises (events ++ more) l k reads h)
    first_within (seq_cst s) = omega (arith, s.earlier)
    first_within (fenced_read {l = l} f load) = omega (arith, loads l load, fenced_rises (events ++ more) a l f)
    first_within (fenced_write f) = omega (arith, fenced_rises (events ++ more) a b f)

    cause_less : Cause (events ++ more) cell a b → Cause events cell a b
    cause_less (write_write h) = write_write (hb_less events more reads a b le h)
    cause_less (write_read {l = l} h load) = write_read (hb_less events more reads a l (loads l load) h) (load_less events more cell l b (loads l load) load)
    cause_less (read_write {l = l} load h) = read_write (load_less events more cell l a (omega (arith, hb_rises (events ++ more) l b reads h)) load) (hb_less events more reads l b le h)
    cause_less (read_read {l = l} {k = k} load load' h) = read_read (load_less events more cell l a (omega (arith, loads k load', hb_rises (events ++ more) l k reads h)) load)
        (load_less events more cell k b (loads k load') load') (hb_less events more reads l k (loads k load') h)
    cause_less (seq_cst s) = seq_cst (seq_before_less events more a b le s)
    cause_less (fenced_read {l = l} f load) = fenced_read (fenced_less events more a l (loads l load) f) (load_less events more cell l b (loads l load) load)
    cause_less (fenced_write f) = fenced_write (fenced_less events more a b le f)

    pub must_less : MustPrecede (events ++ more) cell a b → MustPrecede events cell a b
    must_less m = record { first = store_less events more cell a (first_within m.cause) m.first; second = store_less events more cell b le m.second; differ = m.differ; cause = cause_less m.cause }

    pub must_within : MustPrecede (events ++ more) cell a b → a ≤ length events
    must_within m = first_within m.cause

pub prefix_consistent : PrefixIsConsistent
prefix_consistent events more c = consistent events (prefix_lawful events more (chain_lawful (events ++ more) c))
