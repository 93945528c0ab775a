-- No event, and nothing made.
use Rattle.std.proofs.Common.{◌≡◌, ℕ, [], Some}
use Rattle.c11_events.specs.Events.{IsStore, stored_cell, loaded_cell}
use Rattle.c11_events.specs.Chains.{ChainLawful}
use Rattle.c11_events.proofs.Basics.{chain_head}
use Rattle.c11_events.proofs.Level.{links_from}
use Rattle.c11_mograph.specs.Made.{nothing_made}
use Rattle.c11_mayread.specs.Agreement.{IsStoreAs, Agrees}
use Rattle.c11_mayread.proofs.Noting.{no_event, no_reads}

no_store : (cell x : ℕ) → IsStore [] cell x → ⊥
no_store cell x s = no_event x (λ e. stored_cell e.kind ≡ Some cell) s

pub nothing_lawful : ChainLawful []
nothing_lawful = record {
  reads = no_reads;
  acyclic = λ cell h links. let head = links_from [] cell h h links in no_store cell h (chain_head [] cell h 0 h head.chain);
  ranked = λ cell a b head i j must r s lt. no_store cell a must.first;
  once = λ cell b c x r s. absurd (no_event b (λ e. (stored_cell e.kind ≡ Some cell) × (loaded_cell e.kind ≡ Some cell) × (e.from ≡ x)) r);
  seq_cst_read = λ cell l x a load s. absurd (no_event l (λ e. (loaded_cell e.kind ≡ Some cell) × (e.from ≡ x)) load);
}

pub nothing_agrees : Agrees nothing_made []
nothing_agrees = record {
  stores = λ x s. ((λ t. absurd (let clash = t.is in cc)), (λ t. absurd (no_event x (λ e. IsStoreAs x e s) t)));
  must = λ cell a b must. absurd (no_store cell a must.first);
  pairs = λ a b p. absurd (let clash = p.is in cc);
}
