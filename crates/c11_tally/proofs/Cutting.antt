-- An output that is cut as it comes.
use Rattle.std.proofs.Common.{◌≡◌, ℕ, ◌+◌, ◌-◌, ◌<◌, ◌≤◌, List, [], ◌∷◌, ◌++◌, length, get_or, min, take, sym, refl, ap, ◌∙◌, ⊎_elim, append-nil, arith}
use Rattle.std.proofs.Math.Seq.{take-append-add}
use Rattle.std.proofs.lemmas.Bool.{cases_lt}
use Rattle.std.proofs.lemmas.List.{take_min, take-append-le, take_all, take_more, length-take, length-take-le}
use Rattle.std.proofs.lemmas.List.Concat.{flat_map-append}
use Rattle.c11_events.specs.declared.entry.Entry.{Entry}
use Rattle.c11_events.specs.declared.op.Op.{Op}
use Rattle.c11_events.specs.declared.op.Op.TheVariants.{Out}
use Rattle.c11_tally.specs.Tallies.{cut, out_bytes, output_of}

-- what there is room for, behind bytes that are within the cut
pub cut_room : (old more : List ℕ) → length old ≤ 256 → old ++ take (min (256 - length old) (length more)) more ≡ cut (old ++ more)
cut_room old more le =
    let whole : length old + (256 - length old) ≡ 256 = omega arith in
    ap (λ (xs : List ℕ). old ++ xs) (take_min (256 - length old) more) ∙ (sym (take-append-add old more (256 - length old)) ∙ ap (λ (n : ℕ). take n (old ++ more)) whole)

pub cut_short : (bytes : List ℕ) → length (cut bytes) ≤ 256
cut_short bytes = omega (arith, length-take 256 bytes)

-- what was cut before does not matter
pub cut_again : (old more : List ℕ) → cut (cut old ++ more) ≡ cut (old ++ more)
cut_again old more = ⊎_elim long (λ (le : length old ≤ 256). ap (λ (xs : List ℕ). take 256 (xs ++ more)) (take_all 256 old le)) (cases_lt 256 (length old))
  where
    long : 256 < length old → cut (cut old ++ more) ≡ cut (old ++ more)
    long lt =
        let exact = length-take-le 256 old (omega arith) in let front : 256 ≤ length (take 256 old) = omega arith in let back : length (take 256 old) ≤ 256 = omega arith in
        take-append-le 256 (take 256 old) more front ∙ (take_all 256 (take 256 old) back ∙ sym (take-append-le 256 old more (omega arith)))

-- the output of one more entry
output_more : (entries : List Entry) (i : ℕ) (d : Entry) → i < length entries → output_of (take (i + 1) entries) ≡ output_of (take i entries) ++ out_bytes (get_or entries i d).op
output_more entries i d lt =
    ap output_of (take_more entries i d lt) ∙ (flat_map-append (λ (e : Entry). out_bytes e.op) (take i entries) (get_or entries i d ∷ [])
    ∙ ap (λ (xs : List ℕ). output_of (take i entries) ++ xs) (append-nil (out_bytes (get_or entries i d).op)))

pub cut_more : (entries : List Entry) (i : ℕ) (d : Entry) (old new bytes : List ℕ) → i < length entries → out_bytes (get_or entries i d).op ≡ bytes
    → old ≡ cut (output_of (take i entries)) → new ≡ cut (old ++ bytes) → new ≡ cut (output_of (take (i + 1) entries))
cut_more entries i d old new bytes lt op so is =
    let all : output_of (take (i + 1) entries) ≡ output_of (take i entries) ++ bytes = output_more entries i d lt ∙ ap (λ (xs : List ℕ). output_of (take i entries) ++ xs) op in
    is ∙ (ap (λ (xs : List ℕ). cut (xs ++ bytes)) so ∙ (cut_again (output_of (take i entries)) bytes ∙ ap cut (sym all)))

pub cut_same : (entries : List Entry) (i : ℕ) (d : Entry) (old : List ℕ) → i < length entries → out_bytes (get_or entries i d).op ≡ []
    → old ≡ cut (output_of (take i entries)) → old ≡ cut (output_of (take (i + 1) entries))
cut_same entries i d old lt op so =
    let all : output_of (take (i + 1) entries) ≡ output_of (take i entries) ++ [] = output_more entries i d lt ∙ ap (λ (xs : List ℕ). output_of (take i entries) ++ xs) op in
    so ∙ ap cut (sym (all ∙ append-nil (output_of (take i entries))))

-- another operation prints nothing
pub no_bytes : (op : Op) → ((bytes : List ℕ) → op ≡ Out bytes → ⊥) → out_bytes op ≡ []
no_bytes (Out bytes) other = absurd (other bytes refl)
no_bytes _ other = refl
