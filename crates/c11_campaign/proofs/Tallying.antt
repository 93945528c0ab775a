-- What was tallied, one run and one worker after the other.
use Rattle.std.proofs.Common.{◌≡◌, ℕ, ◌+◌, ◌<◌, ◌≤◌, List, [], ◌∷◌, ◌++◌, map, length, refl, ap, sym, subst, ◌∙◌, arith}
use Rattle.std.proofs.lemmas.List.{map-append, length-append}
use Rattle.std.proofs.lemmas.List.Elements.{All-nil, All-cons, All-append}
use Rattle.c11_events.specs.declared.entry.Entry.{Entry}
use Rattle.c11_events.specs.declared.verdict.Verdict.{Verdict}
use Rattle.c11_events.specs.Offered.{Offered}
use Rattle.c11_machine.specs.Runs.{Program, OneRun}
use Rattle.c11_claims.specs.Claims.{Counter, beyond}
use Rattle.c11_tally.specs.Tallies.{Ran, Kept, ran_of, StandsFor, runs}
use Rattle.c11_campaign.specs.Summaries.{IsRan}
use Rattle.c11_campaign.specs.Workers.{HasRun, HasWorked, below}
use Rattle.c11_campaign.proofs.Numbers.{below_more, beyond_more}

-- no run
pub no_runs : (program : Program) (first bound : ℕ) (kept : Kept) → StandsFor kept [] → runs kept.tallies ≡ 0 → HasRun program first bound [] kept
no_runs program first bound kept stands none = record { rans = []; stands = stands; each = All-nil (IsRan program bound); seeds = refl; counted = none }

-- one run more
pub one_more : (program : Program) (first bound : ℕ) (numbers : List ℕ) (n : ℕ) (old new : Kept) (verdict : Verdict) (entries : List Entry)
    → HasRun program first bound numbers old → OneRun Offered program (first + n) bound entries verdict
    → ((rans : List Ran) → StandsFor old rans → StandsFor new (rans ++ ran_of (first + n) verdict entries ∷ []))
    → runs new.tallies ≡ runs old.tallies + 1 → HasRun program first bound (numbers ++ n ∷ []) new
one_more program first bound numbers n old new verdict entries h run adds counts =
    let ran = ran_of (first + n) verdict entries in
    let is : IsRan program bound ran = record { entries = entries; run = run; output = refl } in
    record {
      rans = h.rans ++ ran ∷ [];
      stands = adds h.rans h.stands;
      each = All-append (IsRan program bound) h.rans (ran ∷ []) h.each (All-cons (IsRan program bound) ran [] is (All-nil (IsRan program bound)));
      seeds = map-append (λ (r : Ran). r.seed) h.rans (ran ∷ []) ∙ (ap (λ (s : List ℕ). s ++ (first + n) ∷ []) h.seeds ∙ sym (map-append (λ (y : ℕ). first + y) numbers (n ∷ [])));
      counted = omega (arith, counts, h.counted, length-append numbers (n ∷ []));
    }

-- behind the claim that was not below the count
pub ended : (program : Program) (first bound : ℕ) (claims : Counter) (claimed now : List ℕ) (m : ℕ) (kept : Kept) → HasRun program first bound claimed kept
    → beyond claims.count claimed ≡ 0 → length claimed ≤ claims.count → claims.count ≤ m → now ≡ claimed ++ m ∷ [] → HasWorked program first bound claims now kept
ended program first bound claims claimed now m kept h none few above is =
    let low : below claims.count now ≡ claimed = ap (below claims.count) is ∙ below_more claims.count claimed m none above in
    let past : 0 < beyond claims.count now = subst (λ (xs : List ℕ). 0 < beyond claims.count xs) (sym is) (beyond_more claims.count claimed m above) in
    record {
      run = subst (λ (xs : List ℕ). HasRun program first bound xs kept) (sym low) h;
      ended = past;
      few = subst (λ (xs : List ℕ). length xs ≤ claims.count + 1) (sym is) (omega (arith, length-append claimed (m ∷ []), few));
    }

-- what two workers tallied, put together
pub together : (program : Program) (first bound : ℕ) (xs ys : List ℕ) (a b new : Kept) → HasRun program first bound xs a → HasRun program first bound ys b
    → ((us vs : List Ran) → StandsFor a us → StandsFor b vs → StandsFor new (us ++ vs)) → runs new.tallies ≡ runs a.tallies + runs b.tallies
    → HasRun program first bound (xs ++ ys) new
together program first bound xs ys a b new h k joins counts = record {
  rans = h.rans ++ k.rans;
  stands = joins h.rans k.rans h.stands k.stands;
  each = All-append (IsRan program bound) h.rans k.rans h.each k.each;
  seeds = map-append (λ (r : Ran). r.seed) h.rans k.rans ∙ (ap (λ (s : List ℕ). s ++ map (λ (r : Ran). r.seed) k.rans) h.seeds
      ∙ (ap (λ (s : List ℕ). map (λ (y : ℕ). first + y) xs ++ s) k.seeds ∙ sym (map-append (λ (y : ℕ). first + y) xs ys)));
  counted = omega (arith, counts, h.counted, k.counted, length-append xs ys);
}
