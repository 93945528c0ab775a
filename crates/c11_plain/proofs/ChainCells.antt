-- What is asked of chains, cell by cell.
use Rattle.std.proofs.Common.{◌≡◌, ℕ, zero, suc, ◌+◌, ◌<◌, ◌≤◌, List, Some, None, slice_get, length, sym, ◌∙◌, subst, arith}
use native.Mathlib.Decide.{ℕ_discrete}
use mathlib.Core.Logic.{dite}
use Rattle.std.proofs.lemmas.Option.{slice_get_within}
use Rattle.c11_events.specs.declared.event.Event.{Event}
use Rattle.c11_events.specs.Closure.{one, join}
use Rattle.c11_events.specs.Events.{IsStore, ReadsEarlier}
use Rattle.c11_events.specs.Chains.{Links, ChainLawful}
use Rattle.c11_events.proofs.Basics.{chain_head}
use Rattle.c11_events.proofs.Rises.{rmw_store}
use Rattle.c11_plain.specs.ChainParts.{IsCellChainLawful, IsEventChainLawful}

module _ (events : List Event) where
  abbrev pub CellsBelow : ℕ → Type 0
  CellsBelow n = (k : ℕ) (e : Event) → k < n → slice_get events k ≡ Some e → IsEventChainLawful events e

  pub cells_next : (n : ℕ) (e : Event) → slice_get events n ≡ Some e → IsEventChainLawful events e → CellsBelow n → CellsBelow (n + 1)
  cells_next n e at has cells k f lt at_f = dite (ℕ_discrete k n)
      (λ (same : k ≡ n).
      let there : Some e ≡ Some f = sym at ∙ subst (λ (z : ℕ). slice_get events z ≡ Some f) same at_f in
      let is : e ≡ f = cc in subst (λ (z : Event). IsEventChainLawful events z) is has)
      (λ (differ : k ≡ n → ⊥). cells k f (omega arith) at_f)

  pub cells_of : ChainLawful events → (e : Event) → IsEventChainLawful events e
  cells_of c e = record { lawful = λ cell is. record { acyclic = c.acyclic cell; ranked = c.ranked cell; once = c.once cell; seq_cst_read = c.seq_cst_read cell } }

  linked_store : (cell h k : ℕ) → Links events cell h k → IsStore events cell h
  linked_store cell h k (one l) = chain_head events cell h l.i l.a l.first.chain
  linked_store cell h k (join {b = b} v w) = linked_store cell h b v

  module _ (reads : ReadsEarlier events) (n : ℕ) (enough : length events ≤ n) (cells : CellsBelow n) where
    store_cell_lawful : (cell x : ℕ) → IsStore events cell x → IsCellChainLawful events cell
    store_cell_lawful cell zero s = let e : None ≡ Some s.event = s.is in absurd (cc)
    store_cell_lawful cell (suc k) s = (cells k s.event (omega (arith, slice_get_within events k s.event s.is)) s.is).lawful cell s.holds

    pub chain_lawful_of : ChainLawful events
    chain_lawful_of = record {
      reads = reads;
      acyclic = λ cell h l. (store_cell_lawful cell h (linked_store cell h h l)).acyclic h l;
      ranked = λ cell a b head i j m. (store_cell_lawful cell a m.first).ranked a b head i j m;
      once = λ cell b c x r. (store_cell_lawful cell b (rmw_store events cell b x r)).once b c x r;
      seq_cst_read = λ cell l x a load. (store_cell_lawful cell x (reads cell l x load).0).seq_cst_read l x a load;
    }
