-- The heads in turn: the next is the least one left that no other one left reaches.
use Rattle.std.proofs.Common.{◌≡◌, ℕ, zero, suc, ◌<◌, ◌≤◌, List, [], ◌∷◌, length, refl, sym, ap, ◌∙◌, subst, arith, inl, inr}
use native.Mathlib.Decide.{ℕ_discrete, dec_le}
use mathlib.Core.Logic.{dite, ite, if_pos, if_neg}
use Rattle.c11_events.proofs.Decide.{dec_and, dec_or, dec_not, Below, dec_below}
use Rattle.c11_events.proofs.Count.{count, count_less}
use Rattle.c11_events.proofs.Arrange.{In}

dec_in : (x : ℕ) (ps : List ℕ) → Dec (In x ps)
dec_in x [] = no (λ i. i)
dec_in x (p ∷ ps) = dec_or (ℕ_discrete x p) (dec_in x ps)

-- the one below n that has P and the least f
abbrev pub Least : (ℕ → ℕ) → ℕ → (ℕ → Type 0) → Type 0
Least f n P = (k : ℕ) × (k < n) × P k × ((m : ℕ) → m < n → P m → f k ≤ f m)

least_step : (f : ℕ → ℕ) (n : ℕ) (P : ℕ → Type 0) → Dec (P n) → (Below n P → Least f n P) → Dec (Below n P) → Below (suc n) P → Least f (suc n) P
least_step f n P (no none) rest d b = let t = rest (b.0, below n P none b.0 b.1 b.2, b.2) in (t.0, omega (arith, t.1), t.2, λ m lt p. t.3 m (below n P none m lt p) p)
  where
    below : (n : ℕ) (P : ℕ → Type 0) → (P n → ⊥) → (k : ℕ) → k < suc n → P k → k < n
    below n P none k lt p = let differ : k ≡ n → ⊥ = λ same. none (subst P same p) in omega arith
least_step f n P (yes p) rest (no none) b = (n, omega arith, p, λ m lt q. dite (ℕ_discrete m n) (λ (e : m ≡ n). omega (arith, ap f e)) (λ (differ : m ≡ n → ⊥). absurd (none (m, omega arith, q))))
least_step f n P (yes p) rest (yes c) b =
    let t = rest c in
    dite (dec_le (f t.0) (f n))
    (λ (le : f t.0 ≤ f n). (t.0, omega (arith, t.1), t.2, λ m lt q. dite (ℕ_discrete m n) (λ (e : m ≡ n). omega (arith, ap f e)) (λ (differ : m ≡ n → ⊥). t.3 m (omega arith) q)))
    (λ (more : f t.0 ≤ f n → ⊥). (n, omega arith, p, λ m lt q. dite (ℕ_discrete m n) (λ (e : m ≡ n). omega (arith, ap f e)) (λ (differ : m ≡ n → ⊥). omega (arith, t.3 m (omega arith) q))))

pub least_of : (f : ℕ → ℕ) (n : ℕ) (P : ℕ → Type 0) → ((k : ℕ) → Dec (P k)) → Below n P → Least f n P
least_of f zero P d b = absurd (omega (arith, b.1))
least_of f (suc n) P d b = least_step f n P (d n) (least_of f n P d) (dec_below n P d) b

abbrev Left : (ℕ → Type 0) → List ℕ → ℕ → Type 0
Left Head ps h = Head h × (In h ps → ⊥)

pub record Free (Head : ℕ → Type 0) (R : ℕ → ℕ → Type 0) (ps : List ℕ) (h : ℕ) : Type 0 where
  pub left : Left Head ps h
  pub alone : (j : ℕ) → R j h → In j ps

-- what was placed, the last first
pub data Laid (Head : ℕ → Type 0) (R : ℕ → ℕ → Type 0) : List ℕ → Type 0 where
  none : Laid Head R []
  more : {ps : List ℕ} {h : ℕ} → Laid Head R ps → Free Head R ps h → ((k : ℕ) → Free Head R ps k → h ≤ k) → Laid Head R (h ∷ ps)

pub turn_in : List ℕ → ℕ → ℕ
turn_in [] h = 0
turn_in (p ∷ ps) h = ite (ℕ_discrete h p) (length ps) (turn_in ps h)

turn_new : (p h : ℕ) (ps : List ℕ) → h ≡ p → turn_in (p ∷ ps) h ≡ length ps
unfolding turn_in
turn_new p h ps e = if_pos (ℕ_discrete h p) e (length ps) (turn_in ps h)

turn_old : (p h : ℕ) (ps : List ℕ) → (h ≡ p → ⊥) → turn_in (p ∷ ps) h ≡ turn_in ps h
unfolding turn_in
turn_old p h ps differ = if_neg (ℕ_discrete h p) differ (length ps) (turn_in ps h)

-- the rest of a member that is not the first
in_rest : (p h : ℕ) (ps : List ℕ) → (h ≡ p → ⊥) → In h (p ∷ ps) → In h ps
in_rest p h ps differ (inl e) = absurd (differ e)
in_rest p h ps differ (inr i) = i

pub turn_below : (ps : List ℕ) (h : ℕ) → In h ps → turn_in ps h < length ps
turn_below [] h i = absurd i
turn_below (p ∷ ps) h i = dite (ℕ_discrete h p) (λ (e : h ≡ p). omega (arith, turn_new p h ps e))
    (λ (differ : h ≡ p → ⊥). omega (arith, turn_old p h ps differ, turn_below ps h (in_rest p h ps differ i)))

pub turn_apart : (ps : List ℕ) (h k : ℕ) → In h ps → In k ps → turn_in ps h ≡ turn_in ps k → h ≡ k
turn_apart [] h k i j e = absurd i
turn_apart (p ∷ ps) h k i j e = dite (ℕ_discrete h p)
    (λ (first : h ≡ p). dite (ℕ_discrete k p) (λ (second : k ≡ p). first ∙ sym second)
    (λ (differ : k ≡ p → ⊥). absurd (omega (arith, turn_new p h ps first, turn_old p k ps differ, turn_below ps k (in_rest p k ps differ j)))))
    (λ (differ : h ≡ p → ⊥). dite (ℕ_discrete k p) (λ (second : k ≡ p). absurd (omega (arith, turn_new p k ps second, turn_old p h ps differ, turn_below ps h (in_rest p h ps differ i))))
    (λ (differ' : k ≡ p → ⊥). turn_apart ps h k (in_rest p h ps differ i) (in_rest p k ps differ' j) (sym (turn_old p h ps differ) ∙ (e ∙ turn_old p k ps differ'))))

module _ (n : ℕ) (Head : ℕ → Type 0) (R : ℕ → ℕ → Type 0) (dec_head : (h : ℕ) → Dec (Head h)) (dec_r : (j k : ℕ) → Dec (R j k))
    (head_below : (h : ℕ) → Head h → h < n) (from : (j k : ℕ) → R j k → Head j) where
  dec_left : (ps : List ℕ) (h : ℕ) → Dec (Left Head ps h)
  dec_left ps h = dec_and (dec_head h) (dec_not (dec_in h ps))

  -- one that reaches h and is not placed
  abbrev Blocks : List ℕ → ℕ → ℕ → Type 0
  Blocks ps h j = R j h × (In j ps → ⊥)

  dec_blocks : (ps : List ℕ) (h : ℕ) → Dec (Below n (Blocks ps h))
  dec_blocks ps h = dec_below n (Blocks ps h) (λ j. dec_and (dec_r j h) (dec_not (dec_in j ps)))

  free_by : (ps : List ℕ) (h : ℕ) → Left Head ps h → (Below n (Blocks ps h) → ⊥) → Free Head R ps h
  free_by ps h left none_blocks = record { left = left; alone = λ j r. dite (dec_in j ps) (λ (i : In j ps). i) (λ (out : In j ps → ⊥). absurd (none_blocks (j, head_below j (from j h r), (r, out)))) }

  dec_free : (ps : List ℕ) (h : ℕ) → Dec (Free Head R ps h)
  dec_free ps h = free_if (dec_left ps h) (dec_blocks ps h)
    where
      free_if : Dec (Left Head ps h) → Dec (Below n (Blocks ps h)) → Dec (Free Head R ps h)
      free_if (no m) d = no (λ f. m f.left)
      free_if (yes l) (yes b) = no (λ f. b.2.1 (f.alone b.0 b.2.0))
      free_if (yes l) (no m) = yes (free_by ps h l m)

  -- a head that was not free though left is blocked
  blocked_by : (ps : List ℕ) (k : ℕ) → Left Head ps k → (Free Head R ps k → ⊥) → Below n (Blocks ps k)
  blocked_by ps k left not_free = dite (dec_blocks ps k) (λ (b : Below n (Blocks ps k)). b) (λ (m : Below n (Blocks ps k) → ⊥). absurd (not_free (free_by ps k left m)))

  pub turn_links : (ps : List ℕ) → Laid Head R ps → (j k : ℕ) → R j k → In k ps → In j ps × (turn_in ps j < turn_in ps k)
  turn_links _ none j k r i = absurd i
  turn_links _ (more {ps = ps} {h = p} l free least) j k r i =
      let inside : (k ≡ p → ⊥) → In j ps × (turn_in ps j < turn_in ps k) = λ differ. turn_links ps l j k r (in_rest p k ps differ i) in
      dite (ℕ_discrete k p)
      (λ (e : k ≡ p).
      let i_j = free.alone j (subst (λ (z : ℕ). R j z) e r) in
      let differ : j ≡ p → ⊥ = λ same. free.left.1 (subst (λ (z : ℕ). In z ps) same i_j) in
      (inr i_j, omega (arith, turn_old p j ps differ, turn_new p k ps e, turn_below ps j i_j)))
      (λ (differ : k ≡ p → ⊥).
      let t = inside differ in
      let other : j ≡ p → ⊥ = λ same. free.left.1 (subst (λ (z : ℕ). In z ps) same t.0) in
      (inr t.0, omega (arith, turn_old p j ps other, turn_old p k ps differ, t.1)))

  blocked : (ps : List ℕ) → Laid Head R ps → (h k : ℕ) → In h ps → Head k → (In k ps → ⊥) → k < h → (j : ℕ) × (R j k × (In j ps → turn_in ps h ≤ turn_in ps j))
  blocked _ none h k i head out lt = absurd i
  blocked _ (more {ps = ps} {h = p} l free least) h k i head out lt = dite (ℕ_discrete h p)
      (λ (e : h ≡ p).
      let b = blocked_by ps k (head, (λ i_k. out (inr i_k))) (λ f. omega (arith, least k f)) in
      (b.0, (b.2.0, λ i_j. let same : b.0 ≡ p = elim i_j [ inl s ↦ s | inr deep ↦ absurd (b.2.1 deep) ] in omega (arith, turn_new p h ps e, turn_new p b.0 ps same))))
      (λ (differ : h ≡ p → ⊥).
      let i_h = in_rest p h ps differ i in
      let b = blocked ps l h k i_h head (λ i_k. out (inr i_k)) lt in (
        b.0,
        (
          b.1.0,
          λ i_j. dite (ℕ_discrete b.0 p) (λ (e : b.0 ≡ p). omega (arith, turn_new p b.0 ps e, turn_old p h ps differ, turn_below ps h i_h))
              (λ (other : b.0 ≡ p → ⊥). omega (arith, turn_old p h ps differ, turn_old p b.0 ps other, b.1.1 (in_rest p b.0 ps other i_j))),
        ),
      ))

  pub turn_least : (ps : List ℕ) → Laid Head R ps → (h k : ℕ) → In h ps → In k ps → turn_in ps h < turn_in ps k → k < h → (j : ℕ) × (R j k × (turn_in ps h ≤ turn_in ps j))
  turn_least _ none h k i i' turns lt = absurd i
  turn_least _ (more {ps = ps} {h = p} l free least) h k i i' turns lt = dite (ℕ_discrete h p)
      (λ (e : h ≡ p). dite (ℕ_discrete k p) (λ (e' : k ≡ p). absurd (omega arith))
      (λ (differ : k ≡ p → ⊥). absurd (omega (arith, turn_new p h ps e, turn_old p k ps differ, turn_below ps k (in_rest p k ps differ i')))))
      (λ (differ : h ≡ p → ⊥).
      let i_h = in_rest p h ps differ i in
      dite (ℕ_discrete k p)
      (λ (e : k ≡ p).
      let b = blocked ps l h p i_h free.left.0 free.left.1 (omega arith) in
      let i_j = free.alone b.0 b.1.0 in
      let other : b.0 ≡ p → ⊥ = λ same. free.left.1 (subst (λ (z : ℕ). In z ps) same i_j) in
      (b.0, (subst (λ (z : ℕ). R b.0 z) (sym e) b.1.0, omega (arith, turn_old p h ps differ, turn_old p b.0 ps other, b.1.1 i_j))))
      (λ (differ' : k ≡ p → ⊥).
      let i_k = in_rest p k ps differ' i' in
      let b = turn_least ps l h k i_h i_k (omega (arith, turn_old p h ps differ, turn_old p k ps differ')) lt in
      let i_j = (turn_links ps l b.0 k b.1.0 i_k).0 in
      let other : b.0 ≡ p → ⊥ = λ same. free.left.1 (subst (λ (z : ℕ). In z ps) same i_j) in
      (b.0, (b.1.0, omega (arith, turn_old p h ps differ, turn_old p b.0 ps other, b.1.1)))))

  module _ (level : ℕ → ℕ) (level_less : (j k : ℕ) → R j k → level j < level k) where
    -- where some head is left, one of the least level is free
    some_free : (ps : List ℕ) → Below n (Left Head ps) → Below n (Free Head R ps)
    some_free ps b =
        let t = least_of level n (Left Head ps) (dec_left ps) b in
        (t.0, t.1, free_by ps t.0 t.2 (λ s. omega (arith, level_less s.0 t.0 s.2.0, t.3 s.0 s.1 (from s.0 t.0 s.2.0, s.2.1))))

    abbrev Whole : Type 0
    Whole = (qs : List ℕ) × (Laid Head R qs × ((h : ℕ) → Head h → In h qs))

    done : (ps : List ℕ) → Laid Head R ps → (Below n (Left Head ps) → ⊥) → Whole
    done ps l none_left = (ps, (l, λ h head. dite (dec_in h ps) (λ (i : In h ps). i) (λ (out : In h ps → ⊥). absurd (none_left (h, head_below h head, (head, out))))))

    lay : (fuel : ℕ) (ps : List ℕ) → Laid Head R ps → count n (Left Head ps) (dec_left ps) < fuel → Whole
    lay zero ps l le = absurd (omega arith)
    lay (suc fuel) ps l le = dite (dec_below n (Left Head ps) (dec_left ps))
        (λ (b : Below n (Left Head ps)).
        let t = least_of (λ k. k) n (Free Head R ps) (dec_free ps) (some_free ps b) in
        let less = count_less (Left Head (t.0 ∷ ps)) (Left Head ps) (dec_left (t.0 ∷ ps)) (dec_left ps) (λ k left. (left.0, λ i. left.1 (inr i))) n t.0 t.1 (λ left. left.1 (inl refl)) t.2.left in
        lay fuel (t.0 ∷ ps) (more l t.2 (λ k f. t.3 k (head_below k f.left.0) f)) (omega arith))
        (λ (none_left : Below n (Left Head ps) → ⊥). done ps l none_left)

    pub whole : Whole
    whole = lay (suc (count n (Left Head []) (dec_left []))) [] none (omega arith)
