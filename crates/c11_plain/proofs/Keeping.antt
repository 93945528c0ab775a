-- From tables to the relations that they hold, rule by rule.
use Rattle.std.proofs.Common.{◌≡◌, ℕ, zero, suc, ◌+◌, ◌<◌, List, Bool, Option, Some, None, MatchOption, is_some, not, true, false, IsTrue, ◌↔◌, refl, sym, ap, ◌∙◌, subst, arith}
use native.Mathlib.Decide.{ℕ_discrete}
use mathlib.Core.Logic.{dite}
use Rattle.c11_events.specs.declared.event.Event.{Event}
use Rattle.c11_events.specs.Lawful.{Lawful}
use Rattle.c11_plain.specs.declared.pairs.Pairs.{Pairs}
use Rattle.c11_plain.specs.declared.broken.Broken.{Broken}
use Rattle.c11_plain.specs.declared.broken.Broken.TheVariants.{ModificationOrder, WriteWriteCoherence, WriteReadCoherence, ReadWriteCoherence, ReadReadCoherence, RmwAtomicity, SeqCstWriteOrder, SeqCstRead, FenceBeforeRead, FenceAfterWrite, FencesBetween, FencesBetweenWrites}
use Rattle.c11_plain.specs.Pairs.{Holds, IsTableOf}
use Rattle.c11_plain.specs.Rules.{WritesInOrder, ReadsNoOlder, WritesAfterReads, ReadsInOrder, Rule, place_of, IsFirstBroken}

-- the rule at a place
abbrev rule_of : ℕ → Broken
rule_of zero = ModificationOrder
rule_of (suc zero) = WriteWriteCoherence
rule_of (suc (suc zero)) = WriteReadCoherence
rule_of (suc (suc (suc zero))) = ReadWriteCoherence
rule_of (suc (suc (suc (suc zero)))) = ReadReadCoherence
rule_of (suc (suc (suc (suc (suc zero))))) = RmwAtomicity
rule_of (suc (suc (suc (suc (suc (suc zero)))))) = SeqCstWriteOrder
rule_of (suc (suc (suc (suc (suc (suc (suc zero))))))) = SeqCstRead
rule_of (suc (suc (suc (suc (suc (suc (suc (suc zero)))))))) = FenceBeforeRead
rule_of (suc (suc (suc (suc (suc (suc (suc (suc (suc zero))))))))) = FenceAfterWrite
rule_of (suc (suc (suc (suc (suc (suc (suc (suc (suc (suc zero)))))))))) = FencesBetween
rule_of _ = FencesBetweenWrites

rule_placed : (rule : Broken) → rule_of (place_of rule) ≡ rule
rule_placed ModificationOrder = refl
rule_placed WriteWriteCoherence = refl
rule_placed WriteReadCoherence = refl
rule_placed ReadWriteCoherence = refl
rule_placed ReadReadCoherence = refl
rule_placed RmwAtomicity = refl
rule_placed SeqCstWriteOrder = refl
rule_placed SeqCstRead = refl
rule_placed FenceBeforeRead = refl
rule_placed FenceAfterWrite = refl
rule_placed FencesBetween = refl
rule_placed FencesBetweenWrites = refl

one_place : (rule other : Broken) → place_of rule ≡ place_of other → rule ≡ other
one_place rule other same = sym (rule_placed rule) ∙ (ap rule_of same ∙ rule_placed other)

module _ (events : List Event) (cell : ℕ) (order : List ℕ) where
  module _ {table : Pairs} {R : ℕ → ℕ → Type 0} (b : Bool) (t : IsTableOf table R) where
    pub writes_as : (IsTrue b ↔ WritesInOrder events cell order (Holds table)) → IsTrue b ↔ WritesInOrder events cell order R
    writes_as e = (λ h x y s s' r. e.0 h x y s s' (t.complete x y r), λ w. e.1 (λ x y s s' r. w x y s s' (t.sound x y r)))

    pub no_older_as : (IsTrue b ↔ ReadsNoOlder events cell order (Holds table)) → IsTrue b ↔ ReadsNoOlder events cell order R
    no_older_as e = (λ h a l x s i r. e.0 h a l x s i (t.complete a l r), λ w. e.1 (λ a l x s i r. w a l x s i (t.sound a l r)))

    pub after_as : (IsTrue b ↔ WritesAfterReads events cell order (Holds table)) → IsTrue b ↔ WritesAfterReads events cell order R
    after_as e = (λ h l x a i s r. e.0 h l x a i s (t.complete l a r), λ w. e.1 (λ l x a i s r. w l x a i s (t.sound l a r)))

    pub reads_as : (IsTrue b ↔ ReadsInOrder events cell order (Holds table)) → IsTrue b ↔ ReadsInOrder events cell order R
    reads_as e = (λ h l x k y i j r. e.0 h l x k y i j (t.complete l k r), λ w. e.1 (λ l x k y i j r. w l x k y i j (t.sound l k r)))

  -- the rules before a place
  abbrev pub KeepsBelow : ℕ → Type 0
  KeepsBelow n = (rule : Broken) → place_of rule < n → Rule events cell order rule

  pub keeps_all : (n : ℕ) → 11 < n → KeepsBelow n → Lawful events cell order
  keeps_all n lt k = record {
    stores = k ModificationOrder (omega arith);
    write_write_coherence = k WriteWriteCoherence (omega arith);
    write_read_coherence = k WriteReadCoherence (omega arith);
    read_write_coherence = k ReadWriteCoherence (omega arith);
    read_read_coherence = k ReadReadCoherence (omega arith);
    rmw_atomicity = k RmwAtomicity (omega arith);
    seq_cst_write_order = k SeqCstWriteOrder (omega arith);
    seq_cst_read = k SeqCstRead (omega arith);
    fence_before_read = k FenceBeforeRead (omega arith);
    fence_after_write = k FenceAfterWrite (omega arith);
    fences_between = k FencesBetween (omega arith);
    fences_between_writes = k FencesBetweenWrites (omega arith);
  }

  pub lawful_keeps : Lawful events cell order → (rule : Broken) → Rule events cell order rule
  lawful_keeps l ModificationOrder = l.stores
  lawful_keeps l WriteWriteCoherence = l.write_write_coherence
  lawful_keeps l WriteReadCoherence = l.write_read_coherence
  lawful_keeps l ReadWriteCoherence = l.read_write_coherence
  lawful_keeps l ReadReadCoherence = l.read_read_coherence
  lawful_keeps l RmwAtomicity = l.rmw_atomicity
  lawful_keeps l SeqCstWriteOrder = l.seq_cst_write_order
  lawful_keeps l SeqCstRead = l.seq_cst_read
  lawful_keeps l FenceBeforeRead = l.fence_before_read
  lawful_keeps l FenceAfterWrite = l.fence_after_write
  lawful_keeps l FencesBetween = l.fences_between
  lawful_keeps l FencesBetweenWrites = l.fences_between_writes

  pub keeps_next : (n : ℕ) (rule : Broken) → place_of rule ≡ n → Rule events cell order rule → KeepsBelow n → KeepsBelow (n + 1)
  keeps_next n rule at r k other lt = dite (ℕ_discrete (place_of other) n)
      (λ (same : place_of other ≡ n). subst (λ (z : Broken). Rule events cell order z) (one_place rule other (at ∙ sym same)) r)
      (λ (differ : place_of other ≡ n → ⊥). k other (omega arith))

  pub rule_as : {rule known : Broken} (b : Bool) → rule ≡ known → (IsTrue b ↔ Rule events cell order known) → IsTrue b ↔ Rule events cell order rule
  rule_as b is e = subst (λ (z : Broken). IsTrue b ↔ Rule events cell order z) (sym is) e

  pub none_lawful : (o : Option Broken) (b : Bool) → is_some o ≡ not b → MatchOption o (Lawful events cell order) (IsFirstBroken events cell order) → IsTrue b ↔ Lawful events cell order
  none_lawful None true e l = (λ _. l, λ _. refl)
  none_lawful None false e l = cc
  none_lawful (Some rule) true e broken = cc
  none_lawful (Some rule) false e broken = (λ h. cc, λ l. absurd (broken.is (lawful_keeps l rule)))
