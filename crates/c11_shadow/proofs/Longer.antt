-- A list with one plain access or other event more: what races in it, and what is read and written.
use Rattle.std.proofs.Common.{◌≡◌, ℕ, suc, ◌≤◌, List, [], ◌∷◌, ◌++◌, Some, None, length, sym, ◌∙◌, refl, arith, ◌⊎◌, inl, inr}
use Rattle.c11_events.specs.declared.event.Event.{Event}
use Rattle.c11_events.specs.declared.event.EventKind.{EventKind}
use Rattle.c11_events.specs.declared.event.EventKind.TheVariants.{PlainRead, PlainWrite}
use Rattle.c11_events.specs.Events.{At, ReadsEarlier, loaded_cell, read_cell, written_cell}
use Rattle.c11_events.specs.Races.{IsRead, IsWrite, SameThread, Races}
use Rattle.c11_events.proofs.Prefix.{at_more, same_less, same_more, store_more, load_less, hb_stays}
use Rattle.c11_events.proofs.Longer.{old_or_new}

pub read_is_no_load : (kind : EventKind) (cell : ℕ) → read_cell kind ≡ Some cell → loaded_cell kind ≡ None
read_is_no_load (PlainRead c) cell is = refl
read_is_no_load _ cell is = cc

pub write_is_no_load : (kind : EventKind) (cell : ℕ) → written_cell kind ≡ Some cell → loaded_cell kind ≡ None
write_is_no_load (PlainWrite c v) cell is = refl
write_is_no_load _ cell is = cc

pub read_is_no_write : (kind : EventKind) (cell : ℕ) → read_cell kind ≡ Some cell → written_cell kind ≡ None
read_is_no_write (PlainRead c) cell is = refl
read_is_no_write _ cell is = cc

module _ (events : List Event) (e : Event) where
  -- an event that is no load reads nothing
  pub reads_longer : ReadsEarlier events → loaded_cell e.kind ≡ None → ReadsEarlier (events ++ e ∷ [])
  reads_longer reads none cell l x load =
      elim (old_or_new events e l (λ f. (loaded_cell f.kind ≡ Some cell) × (f.from ≡ x)) load) [
        | inl le ↦ let old = reads cell l x (load_less events (e ∷ []) cell l x le load) in (store_more events (e ∷ []) cell x old.0, old.1)
        | inr new ↦ let clash : None ≡ Some cell = sym none ∙ new.1.0 in cc
      ]

  pub same_thread_more : (a b : ℕ) → SameThread events a b → SameThread (events ++ e ∷ []) a b
  same_thread_more a b s = at_more events (e ∷ []) a (λ f. At events b (λ g. f.thread ≡ g.thread)) (λ f. At (events ++ e ∷ []) b (λ g. f.thread ≡ g.thread))
      (λ f t. same_more events (e ∷ []) b (λ g. f.thread ≡ g.thread) t) s

  -- what raced among the earlier events raced before
  pub races_less : (cell m n : ℕ) → ReadsEarlier (events ++ e ∷ []) → n ≤ length events → Races (events ++ e ∷ []) cell m n → Races events cell m n
  races_less cell m n reads le r =
      let low : m ≤ length events = omega (arith, r.earlier) in
      let write_less : (a : ℕ) → a ≤ length events → IsWrite (events ++ e ∷ []) cell a → IsWrite events cell a = λ a few w. same_less events (e ∷ []) a (λ f. written_cell f.kind ≡ Some cell) few w in
      let read_less : (a : ℕ) → a ≤ length events → IsRead (events ++ e ∷ []) cell a → IsRead events cell a = λ a few w. same_less events (e ∷ []) a (λ f. read_cell f.kind ≡ Some cell) few w in
      record {
        accesses = elim r.accesses [
          | inl p ↦ inl (write_less m low p.0, elim p.1 [ inl q ↦ inl (read_less n le q) | inr q ↦ inr (write_less n le q) ])
          | inr p ↦ inr (read_less m low p.0, write_less n le p.1)
        ];
        earlier = r.earlier;
        apart = λ s. r.apart (same_thread_more m n s);
        unordered = λ h. r.unordered ((hb_stays events (e ∷ []) m n reads le).0 h);
      }

  -- a plain access of the longer list is an old one, or the new event
  pub write_cases : (cell a : ℕ) → IsWrite (events ++ e ∷ []) cell a → IsWrite events cell a ⊎ ((a ≡ suc (length events)) × (written_cell e.kind ≡ Some cell))
  write_cases cell a w = elim (old_or_new events e a (λ f. written_cell f.kind ≡ Some cell) w) [
    | inl le ↦ inl (same_less events (e ∷ []) a (λ f. written_cell f.kind ≡ Some cell) le w)
    | inr new ↦ inr new
  ]

  pub read_cases : (cell a : ℕ) → IsRead (events ++ e ∷ []) cell a → IsRead events cell a ⊎ ((a ≡ suc (length events)) × (read_cell e.kind ≡ Some cell))
  read_cases cell a w = elim (old_or_new events e a (λ f. read_cell f.kind ≡ Some cell) w) [
    | inl le ↦ inl (same_less events (e ∷ []) a (λ f. read_cell f.kind ≡ Some cell) le w)
    | inr new ↦ inr new
  ]
