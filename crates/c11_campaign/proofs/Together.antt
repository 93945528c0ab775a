-- What the workers of a campaign tallied, taken one worker after the other from the end of their list.
use Rattle.std.proofs.Common.{suc, refl, slice_index_or, ◌≡◌, ℕ, ◌+◌, ◌<◌, ◌≤◌, List, [], ◌∷◌, ◌++◌, length, All, Result, Ok, IfOk, ap, sym, subst, ◌∙◌, arith}
use Rattle.std.proofs.lemmas.List.{length-append}
use Rattle.std.proofs.lemmas.List.Elements.{All-nil, All-cons, All-head, All-tail}
use Rattle.std.proofs.lemmas.List.Sums.{sum_by-append}
use Rattle.c11_num.specs.declared.memory.NoMemory.{NoMemory}
use Rattle.c11_machine.specs.Runs.{Program}
use Rattle.c11_claims.specs.Claims.{Counter, beyond, times}
use Rattle.c11_claims.proofs.Counts.{beyond-append}
use Rattle.c11_tally.specs.Tallies.{Ran, Kept, StandsFor, runs}
use Rattle.c11_campaign.specs.declared.hunt.Worked.{Worked}
use Rattle.c11_campaign.specs.declared.hunt.Worker.{Worker}
use Rattle.c11_campaign.specs.Workers.{AreDealt, AreWorked, Gives, HasRun, HasRunAll, HasWorked, IsWorked, below, worked_shares, worker_shares}
use Rattle.c11_campaign.proofs.Numbers.{below-append, few_below, once_claimed}
use Rattle.c11_campaign.proofs.Tallying.{together}

all_but_last : {X : Type 0} (P : X → Type 0) (xs : List X) (x : X) → All P (xs ++ x ∷ []) → All P xs × P x
all_but_last P [] x all = (All-nil P, All-head P x [] all)
all_but_last P (y ∷ ys) x all =
    let rest = all_but_last P ys x (All-tail P y (ys ++ x ∷ []) all) in
    (All-cons P y ys (All-head P y (ys ++ x ∷ []) all) rest.0, rest.1)

-- the last worker of a list, and those before it
pub record Popped (program : Program) (first bound : ℕ) (claims : Counter) (old left : List Worked) (last : Worked) : Type 0 where
  pub each : All (IsWorked program first bound claims) left
  pub last_is : IsWorked program first bound claims last
  pub shares : worked_shares old ≡ worked_shares left + last.claimer.shares
  pub fewer : length old ≡ length left + 1

pub popped : (program : Program) (first bound : ℕ) (claims : Counter) (old left : List Worked) (last : Worked) → old ≡ left ++ last ∷ [] → All (IsWorked program first bound claims) old
    → Popped program first bound claims old left last
popped program first bound claims old left last is all =
    let both = all_but_last (IsWorked program first bound claims) left last (subst (All (IsWorked program first bound claims)) is all) in
    record {
      each = both.0;
      last_is = both.1;
      shares = ap worked_shares is ∙ (sum_by-append (λ (w : Worked). w.claimer.shares) left (last ∷ []) ∙ omega arith);
      fewer = ap length is ∙ length-append left (last ∷ []);
    }

-- what a worker that found memory tallied
pub told : (program : Program) (first bound : ℕ) (claims : Counter) (w : Worked) (kept : Kept) → w.tallied ≡ Ok kept → IsWorked program first bound claims w
    → HasWorked program first bound claims w.claimer.claimed kept
told program first bound claims w kept is h = subst (λ (r : Result Kept NoMemory). IfOk r (HasWorked program first bound claims w.claimer.claimed)) is h.tallied

-- it is not more than there are seeds
pub few_told : (program : Program) (first bound : ℕ) (claims : Counter) (claimed : List ℕ) (kept : Kept) → claims.count ≤ 1000000 → HasWorked program first bound claims claimed kept
    → runs kept.tallies ≤ 1000001
few_told program first bound claims claimed kept few h = omega (arith, few, h.run.counted, few_below claims.count claimed, h.few)

-- one worker more
pub gathered : (program : Program) (first bound : ℕ) (claims : Counter) (xs ys now : List ℕ) (a b new : Kept) → HasRun program first bound (below claims.count xs) a
    → HasWorked program first bound claims ys b → ((us vs : List Ran) → StandsFor a us → StandsFor b vs → StandsFor new (us ++ vs)) → runs new.tallies ≡ runs a.tallies + runs b.tallies
    → now ≡ xs ++ ys → HasRun program first bound (below claims.count now) new
gathered program first bound claims xs ys now a b new h k joins counts is =
    subst (λ (zs : List ℕ). HasRun program first bound zs new) (sym (ap (below claims.count) is ∙ below-append claims.count xs ys))
    (together program first bound (below claims.count xs) (below claims.count ys) a b new h k.run joins counts)

pub still_ended : (count : ℕ) (xs ys now : List ℕ) → 0 < beyond count xs → now ≡ xs ++ ys → 0 < beyond count now
still_ended count xs ys now some is = subst (λ (zs : List ℕ). 0 < beyond count zs) (sym is) (omega (arith, some, beyond-append count xs ys))

-- all of them
pub all_gathered : (program : Program) (first bound : ℕ) (claims : Counter) (claimed : List ℕ) (kept : Kept) → HasRun program first bound (below claims.count claimed) kept
    → ((x : ℕ) → x < claims.count → times x claimed ≡ 1) → HasRunAll program first claims.count bound kept
all_gathered program first bound claims claimed kept h once = record { numbers = below claims.count claimed; run = h; once = once_claimed claims.count claimed once }

-- ---- one worker's results beside its seat

-- the result at this place, and the seat that it was made with
pub record Picked (program : Program) (first bound : ℕ) (claims : Counter) (team : List Worker) (worked : List Worked) (i : ℕ) (d : Worked) : Type 0 where
  pub seat : Worker
  pub seat_is : (e : Worker) → slice_index_or team i e ≡ seat
  pub gives : Gives program first bound claims seat (slice_index_or worked i d)

pairwise : (program : Program) (first bound : ℕ) (claims : Counter) (team : List Worker) (worked : List Worked) → length worked ≡ length team
    → ((i : ℕ) (d : Worked) → i < length team → Picked program first bound claims team worked i d)
    → All (IsWorked program first bound claims) worked × (worked_shares worked ≡ worker_shares team)
pairwise program first bound claims [] [] same each = (All-nil (IsWorked program first bound claims), refl)
pairwise program first bound claims [] (x ∷ xs) same each = absurd (omega (arith, same))
pairwise program first bound claims (w ∷ ws) [] same each = absurd (omega (arith, same))
pairwise program first bound claims (w ∷ ws) (x ∷ xs) same each =
    let p = each 0 x (omega arith) in
    let rest = pairwise program first bound claims ws xs (omega (arith, same))
    (λ i d low. let q = each (suc i) d (omega (arith, low)) in record { seat = q.seat; seat_is = q.seat_is; gives = q.gives }) in
    let shares : x.claimer.shares ≡ w.claimer.shares = p.gives.shares ∙ ap (λ (v : Worker). v.claimer.shares) (sym (p.seat_is w)) in
    let here : worked_shares (x ∷ xs) ≡ (0 + x.claimer.shares) + worked_shares xs = sum_by-append (λ (v : Worked). v.claimer.shares) (x ∷ []) xs in
    let dealt : worker_shares (w ∷ ws) ≡ (0 + w.claimer.shares) + worker_shares ws = sum_by-append (λ (v : Worker). v.claimer.shares) (w ∷ []) ws in
    (All-cons (IsWorked program first bound claims) x xs p.gives.is rest.0, omega (arith, here, dealt, shares, rest.1))

-- the results of all workers that were dealt a seat
pub all_worked : (program : Program) (first bound : ℕ) (claims : Counter) (team : List Worker) (worked : List Worked) → length worked ≡ length team
    → ((i : ℕ) (d : Worked) → i < length team → Picked program first bound claims team worked i d) → AreDealt claims team → AreWorked program first bound claims worked
all_worked program first bound claims team worked same each dealt =
    let both = pairwise program first bound claims team worked same each in record { each = both.0; shares = both.1 ∙ dealt.shares }
