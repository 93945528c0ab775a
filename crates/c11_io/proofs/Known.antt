-- What a step of a whole read or a whole write adds to the steps before it.
use Rattle.std.proofs.Common.{◌≡◌, ℕ, ◌+◌, ◌-◌, List, None, Some, arith, ap, sym, ◌∙◌, length, length-append, take, drop}
use Rattle.std.specs.Prelude.{Option}
use Rattle.std.specs.Io.KnownBytes.{Appends, Consumes}
use Rattle.std.proofs.KnownBytes.{Appends-trans, Consumes-trans}
use Rattle.std.proofs.lemmas.List.{drop_at, take_rest}
use Rattle.std.proofs.Math.Seq.{take-add}
use Rattle.c11_io.specs.Whole.{LosesFront}

-- what was consumed is gone from the front
LosesFront-consumed : (a b : Option (List ℕ)) (bs : List ℕ) (n : ℕ) → length bs ≡ n → Consumes a b bs → LosesFront a b n
LosesFront-consumed None b bs n e p = tt
LosesFront-consumed (Some x) None bs n e p = absurd p
LosesFront-consumed (Some x) (Some y) bs n e p =
    (omega (arith, simp length-append at (ap length p)), ap Some (sym (drop_at bs y n e) ∙ ap (drop n) (sym p)))

-- so is what was consumed in two steps
pub lost_in_two : (a b c : Option (List ℕ)) (bs cs : List ℕ) (n : ℕ) → length bs + length cs ≡ n → Consumes a b bs → Consumes b c cs → LosesFront a c n
lost_in_two a b c bs cs n e p q = LosesFront-consumed a c _ n (length-append bs cs ∙ e) (Consumes-trans a b c bs cs p q)

-- a front was appended, and then some of the rest
pub appended_more : (a b c : Option (List ℕ)) (bs : List ℕ) (m n : ℕ) → Appends a b (take m bs) → Appends b c (take n (take (length bs - m) (drop m bs))) → Appends a c (take (m + n) bs)
appended_more a b c bs m n p q = rw take-add (Appends-trans a b c _ _ p (rw take_rest at q))
