-- What is written for packets in a row.
use Rattle.std.proofs.Common.{◌≡◌, ℕ, zero, suc, ◌+◌, List, ◌++◌, sym, ap, ◌∙◌, add-one, arith, append_assoc}
use Rattle.std.proofs.lemmas.List.{append-nil}
use Rattle.c11_ring.specs.Ring.{packets_from}

-- one packet more
pub packets_last : (first count : ℕ) (text : ℕ → List ℕ) → packets_from first (suc count) text ≡ packets_from first count text ++ text (first + count)
packets_last first zero text = append-nil (text first) ∙ ap text (omega arith)
packets_last first (suc count) text =
    ap (λ (t : List ℕ). text first ++ t) (packets_last (first + 1) count text ∙ ap (λ (n : ℕ). packets_from (first + 1) count text ++ text n) (omega arith))
    ∙ sym (append_assoc (text first) (packets_from (first + 1) count text) (text (first + suc count)))

pub packets_more : (text : ℕ → List ℕ) (old before after : List ℕ) (count : ℕ) → before ≡ old ++ packets_from 0 count text → after ≡ before ++ text count
    → after ≡ old ++ packets_from 0 (count + 1) text
packets_more text old before after count e f =
    f ∙ ap (λ (t : List ℕ). t ++ text count) e ∙ append_assoc old (packets_from 0 count text) (text count)
    ∙ ap (λ (t : List ℕ). old ++ t) (ap (λ (n : ℕ). packets_from 0 count text ++ text n) (omega arith) ∙ sym (packets_last 0 count text)
    ∙ ap (λ (n : ℕ). packets_from 0 n text) (sym (add-one count)))

-- an opening, all packets and an ending behind what was there
pub joined : (text : ℕ → List ℕ) (old opening ending one two three : List ℕ) (count size : ℕ) → one ≡ old ++ opening → two ≡ one ++ packets_from 0 count text
    → three ≡ two ++ ending → count ≡ size → three ≡ old ++ (opening ++ (packets_from 0 size text ++ ending))
joined text old opening ending one two three count size e f g same =
    g ∙ ap (λ (t : List ℕ). t ++ ending) (f ∙ ap (λ (t : List ℕ). t ++ packets_from 0 count text) e)
    ∙ append_assoc (old ++ opening) (packets_from 0 count text) ending ∙ append_assoc old opening (packets_from 0 count text ++ ending)
    ∙ ap (λ (n : ℕ). old ++ (opening ++ (packets_from 0 n text ++ ending))) same
