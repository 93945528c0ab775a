-- Instructions that are done in place.
use Rattle.std.proofs.Common.{◌≡◌, ℕ, Bool, true, false, drop, Some, Result, Ok, ap, subst, sym, ◌∙◌}
use Rattle.c11_num.specs.Ranges.{TypedNumber}
use Rattle.c11_num.specs.declared.fault.NumFault.{NumFault}
use Rattle.c11_num.specs.declared.memory.NoMemory.{NoMemory}
use Rattle.c11_num.specs.declared.value.CType.{CType}
use Rattle.c11_meaning.specs.Outcome.{computed}
use Rattle.c11_meaning.specs.Objects.{local_value, new_or_old}
use Rattle.c11_num.specs.Wrapping.{converted}
use Rattle.c11_flat.specs.declared.instr.Instr.{Instr}
use Rattle.c11_flat.specs.declared.instr.Storage.{Storage}
use Rattle.c11_flat.specs.declared.instr.Storage.TheVariants.{Local}
use Rattle.c11_flat.specs.declared.slot.Slot.TheVariants as slot
use Rattle.c11_flat.specs.Code.{Whole}
use Rattle.c11_flat.specs.Flat.{Config, Next, To, from, giving, next, read_at, write_at}
use Rattle.c11_machine.specs.Effects.{gives, meant, replaces}
use Rattle.c11_machine.specs.Steps.{Did, DidAs, Took}
use Rattle.c11_machine.specs.declared.step.Step.{Step}
use Rattle.c11_machine.proofs.Effects.{from_same, gives_value, writes_local}

pub did_same : (n m : Next) (old new : Config) (did : Bool) → n ≡ m → Did m old new did → Did n old new did
did_same n m old new did e d = subst (λ (x : Next). Did x old new did) (sym e) d

pub did_as : (instr same : Instr) (old new : Config) (did : Bool) → instr ≡ same → DidAs same old new did → DidAs instr old new did
did_as instr same old new did e d = subst (λ (x : Instr). DidAs x old new did) (sym e) d

-- what is not done is left to what comes after it
pub took_quick : (next : Next) (old new : Config) (did : Bool) → did ≡ true → Did next old new did → next ≡ To new
took_quick next old new did e d = let P : Bool → Type 0 = λ x. Did next old new x in subst P e d

pub took_later : (code : Whole) (old mid new : Config) (did : Bool) (r : Result Step NoMemory) → did ≡ false → Did (next code (To old)) old mid did
    → Took (next code (To mid)) mid new r → Took (next code (To old)) old new r
took_later code old mid new did r e d t =
    let P : Bool → Type 0 = λ x. Did (next code (To old)) old mid x in
    let same : mid ≡ old = subst P e d in
    subst (λ (c : Config). Took (next code (To c)) c new r) same t

-- ---- what instructions come to

pub computes_to : (line takes : ℕ) (v : TypedNumber) (r r' : Result TypedNumber NumFault) (c : Config) → r' ≡ r → r' ≡ Ok v
    → from (computed line r c.state) (giving c (drop takes c.stack)) ≡ meant (gives takes v) c
computes_to line takes v r r' c is ok =
    from_same _ _ _ (ap (λ (x : Result TypedNumber NumFault). computed line x c.state) (sym is ∙ ok)) ∙ gives_value line takes v c

pub reads_local : (line takes place : ℕ) (storage : Storage) (ctype : CType) (v : TypedNumber) (c : Config) → storage ≡ Local → v ≡ local_value ctype c.state place
    → from (read_at storage ctype line place c.state) (giving c (drop takes c.stack)) ≡ meant (gives takes v) c
unfolding from
reads_local line takes place storage ctype v c is same =
    from_same _ _ _ (ap (λ (s : Storage). read_at s ctype line place c.state) is) ∙ ap (λ (x : TypedNumber). giving c (drop takes c.stack) x c.state) (sym same)

pub writes_to : (line takes place : ℕ) (storage : Storage) (ctype : CType) (value v kept : TypedNumber) (new : Bool) (old : TypedNumber) (c : Config)
    → storage ≡ Local → v ≡ converted ctype value → kept ≡ new_or_old new v old
    → from (write_at storage ctype line place value c.state) (λ z st. giving c (drop takes c.stack) (new_or_old new z old) st)
    ≡ meant (replaces takes (slot.Value kept) (Some (record { place = place; value = v }))) c
unfolding from
writes_to line takes place storage ctype value v kept new old c is same keeps =
    from_same _ _ _ (ap (λ (s : Storage). write_at s ctype line place value c.state) is) ∙ writes_local c takes place _ v kept new old same keeps
