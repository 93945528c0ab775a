-- Causes and links as ways through tables.
use Rattle.std.proofs.Common.{◌≡◌, ℕ, List, ◌⊎◌, inl, inr}
use Rattle.c11_events.specs.declared.event.Event.{Event}
use Rattle.c11_events.specs.Chains.{Cause, write_write, write_read, read_write, read_read, seq_cst, fenced_read, fenced_write, MustPrecede, Link}
use Rattle.c11_plain.specs.Parts.{Joined}
use Rattle.c11_plain.specs.ChainParts.{ByOrder, ByFences, AreTwoStores, InChain, Chained}

module _ (events : List Event) (cell : ℕ) where
  abbrev pub Causes : ℕ → ℕ → Type 0
  Causes a b = ByOrder events cell a b ⊎ ByFences events cell a b

  causes_cause : (a b : ℕ) → Causes a b → Cause events cell a b
  causes_cause a b (inl (inl (inl h))) = write_write h
  causes_cause a b (inl (inl (inr t))) = write_read t.1.0 t.1.1
  causes_cause a b (inl (inr (inl t))) = read_write t.1.0 t.1.1
  causes_cause a b (inl (inr (inr t))) = read_read t.1.0.1.0 t.1.1 t.1.0.1.1
  causes_cause a b (inr (inl s)) = seq_cst s
  causes_cause a b (inr (inr (inl t))) = fenced_read t.1.0 t.1.1
  causes_cause a b (inr (inr (inr f))) = fenced_write f

  cause_causes : (a b : ℕ) → Cause events cell a b → Causes a b
  cause_causes a b (write_write h) = inl (inl (inl h))
  cause_causes a b (write_read {l = l} h load) = inl (inl (inr (l, (h, load))))
  cause_causes a b (read_write {l = l} load h) = inl (inr (inl (l, (load, h))))
  cause_causes a b (read_read {l = l} {k = k} load load' h) = inl (inr (inr (k, ((l, (load, h)), load'))))
  cause_causes a b (seq_cst s) = inr (inl s)
  cause_causes a b (fenced_read {l = l} f load) = inr (inr (inl (l, (f, load))))
  cause_causes a b (fenced_write f) = inr (inr (inr f))

  pub must_of : (a b : ℕ) → Causes a b × AreTwoStores events cell a b → MustPrecede events cell a b
  must_of a b p = record { first = p.1.first; second = p.1.second; differ = p.1.differ; cause = causes_cause a b p.0 }

  pub of_must : (a b : ℕ) → MustPrecede events cell a b → Causes a b × AreTwoStores events cell a b
  of_must a b m = (cause_causes a b m.cause, record { first = m.first; second = m.second; differ = m.differ })

  abbrev pub LinkWay : ℕ → ℕ → Type 0
  LinkWay h k = Joined (Joined (InChain events cell) (MustPrecede events cell)) (Chained events cell) h k × (h ≡ k → ⊥)

  pub link_of : (h k : ℕ) → LinkWay h k → Link events cell h k
  link_of h k w =
      let b = w.0.0 in
      let t = w.0.1.0 in
      record { differ = w.1; a = t.0; b = b; i = t.1.0.rank; j = w.0.1.1.rank; first = t.1.0.ranked; second = w.0.1.1.ranked; must = t.1.1 }

  pub of_link : (h k : ℕ) → Link events cell h k → LinkWay h k
  of_link h k l = ((l.b, ((l.a, (record { rank = l.i; ranked = l.first }, l.must)), record { rank = l.j; ranked = l.second })), l.differ)
