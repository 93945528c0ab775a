-- The text that is found is the one text that the bytes begin with.
use Rattle.std.proofs.Common.{◌≡◌, ◌≤◌, ◌<◌, ℕ, zero, suc, ◌+◌, ◌==◌, true, false, [], ◌∷◌, length, take, slice_index, Option, Some, None, refl, sym, ap, subst, ◌∙◌, arith, append-nil}
use Rattle.std.proofs.lemmas.Grind.{common_steps}
use Rattle.std.proofs.lemmas.List.{length-take-le}
use Rattle.c11_lexer.specs.Pieces.{Text, Quoted, is_plain, escaped}
use Rattle.c11_lexer.specs.Pieces as s
use Rattle.c11_lexer.proofs.CommentEnds.{choose}
use Rattle.c11_lexer.specs.Reading.{quoted_from, quoted, onto, onto_escape, skipping, ahead_of}

-- what bytes that stand for something begin with
pub data Begins (b : ℕ) (u value : Text) : Type 0 where
  closes : b ≡ 34 → u ≡ [] → value ≡ [] → Begins b u value
  plain : (v : Text) → is_plain b ≡ true → Quoted u v → value ≡ b ∷ v → Begins b u value
  escape : (e d : ℕ) (t v : Text) → b ≡ 92 → escaped e ≡ Some d → Quoted t v → u ≡ e ∷ t → value ≡ d ∷ v → Begins b u value

begins : (b : ℕ) (u value : Text) → Quoted (b ∷ u) value → Begins b u value
begins b u value s.Quoted.closes = closes refl refl refl
begins b u value (s.Quoted.plain {value = v} is tail) = plain v is tail refl
begins b u value (s.Quoted.escape {b = e} {d = d} {t = t} {value = v} is tail) = escape e d t v refl is tail refl refl

some_bytes : (t value : Text) → Quoted t value → 0 < length t
some_bytes t value s.Quoted.closes = omega arith
some_bytes t value (s.Quoted.plain is tail) = omega arith
some_bytes t value (s.Quoted.escape is tail) = omega arith

pub data Reads (t : Text) : Option (Text × ℕ) → Type 0 where
  never : ((k : ℕ) (value : Text) → k ≤ length t → Quoted (take k t) value → ⊥) → Reads t None
  reads : {value : Text} {n : ℕ} → n ≤ length t → Quoted (take n t) value
      → ((k : ℕ) (other : Text) → k ≤ length t → Quoted (take k t) other → (k ≡ n) × (other ≡ value)) → Reads t (Some (value, n))

test_is : (d n : ℕ) → (d == n) ≡ true → d ≡ n
test_is d n e = grind (arith, common_steps)

test_not : (d n : ℕ) → (d == n) ≡ false → d ≡ n → ⊥
test_not d n e f = grind (arith, common_steps)

plain_not : (b : ℕ) → is_plain b ≡ true → (b ≡ 34 → ⊥) × (b ≡ 92 → ⊥)
unfolding is_plain
plain_not b e = ((λ f. grind (arith, common_steps)), (λ f. grind (arith, common_steps)))

nothing_at : (t value : Text) (k : ℕ) → k ≤ length t → Quoted (take k t) value → 0 < k
nothing_at t value k room is = let long = length-take-le k t room in let some = some_bytes (take k t) value is in omega (arith, long)

closing_reads : (b : ℕ) (u : Text) → b ≡ 34 → Reads (b ∷ u) (Some ([], 1))
closing_reads b u e = reads (omega arith) (subst (λ (x : ℕ). Quoted (x ∷ []) []) (sym e) s.Quoted.closes) one
  where
    apart : (k : ℕ) (other : Text) → suc k ≤ suc (length u) → Begins b (take k u) other → (suc k ≡ 1) × (other ≡ [])
    apart k other room (closes f none is) = let long = length-take-le k u (omega arith) in (omega (arith, long, ap length none), is)
    apart k other room (plain v is tail f) = absurd ((plain_not b is).0 e)
    apart k other room (escape x d t v f is tail g h) = absurd (omega arith)

    one : (k : ℕ) (other : Text) → k ≤ suc (length u) → Quoted (take k (b ∷ u)) other → (k ≡ 1) × (other ≡ [])
    one zero other room is = let some = nothing_at (b ∷ u) other 0 (omega arith) is in absurd (omega arith)
    one (suc k) other room is = apart k other room (begins b (take k u) other is)

bad_reads : (b : ℕ) (u : Text) → (b ≡ 34 → ⊥) → (b ≡ 92 → ⊥) → is_plain b ≡ false → Reads (b ∷ u) None
bad_reads b u not_quote not_slash not_plain = never none
  where
    apart : (k : ℕ) (other : Text) → Begins b (take k u) other → ⊥
    apart k other (closes f none_left is) = not_quote f
    apart k other (plain v is tail f) = cc
    apart k other (escape x d t v f is tail g h) = not_slash f

    none : (k : ℕ) (other : Text) → k ≤ suc (length u) → Quoted (take k (b ∷ u)) other → ⊥
    none zero other room is = let some = nothing_at (b ∷ u) other 0 (omega arith) is in absurd (omega arith)
    none (suc k) other room is = apart k other (begins b (take k u) other is)

plain_never : (b : ℕ) (u : Text) → (b ≡ 34 → ⊥) → (b ≡ 92 → ⊥) → ((k : ℕ) (value : Text) → k ≤ length u → Quoted (take k u) value → ⊥)
    → (k : ℕ) (other : Text) → k ≤ suc (length u) → Quoted (take k (b ∷ u)) other → ⊥
plain_never b u not_quote not_slash tail_none zero other room is = let some = nothing_at (b ∷ u) other 0 (omega arith) is in absurd (omega arith)
plain_never b u not_quote not_slash tail_none (suc k) other room is = apart (begins b (take k u) other is)
  where
    apart : Begins b (take k u) other → ⊥
    apart (closes f none_left g) = not_quote f
    apart (plain v g tail f) = tail_none k v (omega arith) tail
    apart (escape x d t v f g tail h i) = not_slash f

plain_one : (b : ℕ) (u value : Text) (n : ℕ) → (b ≡ 34 → ⊥) → (b ≡ 92 → ⊥)
    → ((k : ℕ) (other : Text) → k ≤ length u → Quoted (take k u) other → (k ≡ n) × (other ≡ value))
    → (k : ℕ) (other : Text) → k ≤ suc (length u) → Quoted (take k (b ∷ u)) other → (k ≡ suc n) × (other ≡ b ∷ value)
plain_one b u value n not_quote not_slash tail_one zero other room is = let some = nothing_at (b ∷ u) other 0 (omega arith) is in absurd (omega arith)
plain_one b u value n not_quote not_slash tail_one (suc k) other room is = apart (begins b (take k u) other is)
  where
    apart : Begins b (take k u) other → (suc k ≡ suc n) × (other ≡ b ∷ value)
    apart (closes f none_left g) = absurd (not_quote f)
    apart (plain v g tail f) = let same = tail_one k v (omega arith) tail in (omega (arith, same.0), f ∙ ap (λ (x : Text). b ∷ x) same.1)
    apart (escape x d t v f g tail h i) = absurd (not_slash f)

plain_reads : (b : ℕ) (u : Text) (r : Option (Text × ℕ)) → (b ≡ 34 → ⊥) → (b ≡ 92 → ⊥) → is_plain b ≡ true → Reads u r → Reads (b ∷ u) (onto b r)
plain_reads b u None not_quote not_slash is (never none) = never (plain_never b u not_quote not_slash none)
plain_reads b u (Some found) not_quote not_slash is (reads {value = value} {n = n} within first one) =
    reads (omega arith) (s.Quoted.plain is first) (plain_one b u value n not_quote not_slash one)

-- what stands after a `\`
data Behind (u value : Text) : Type 0 where
  after : (e d : ℕ) (t v : Text) → escaped e ≡ Some d → Quoted t v → u ≡ e ∷ t → value ≡ d ∷ v → Behind u value

after_backslash : (b : ℕ) (u value : Text) → b ≡ 92 → Quoted (b ∷ u) value → Behind u value
after_backslash b u value e is = cases (begins b u value is)
  where
    cases : Begins b u value → Behind u value
    cases (closes f none_left g) = absurd (omega arith)
    cases (plain v g tail f) = absurd ((plain_not b g).1 e)
    cases (escape x d t v f g tail h i) = after x d t v g tail h i

slash_alone : (b : ℕ) → b ≡ 92 → Reads (b ∷ []) None
slash_alone b e = never none
  where
    apart : (k : ℕ) (other : Text) → k ≤ 0 → Behind (take k []) other → ⊥
    apart zero other room (after x d t v is tail f g) = cc
    apart (suc k) other room (after x d t v is tail f g) = absurd (omega arith)

    none : (k : ℕ) (other : Text) → k ≤ 1 → Quoted (take k (b ∷ [])) other → ⊥
    none zero other room is = let some = nothing_at (b ∷ []) other 0 (omega arith) is in absurd (omega arith)
    none (suc k) other room is = apart k other (omega arith) (after_backslash b (take k []) other e is)

escape_none : (b e : ℕ) (t : Text) → b ≡ 92 → ((d : ℕ) (k : ℕ) (v : Text) → escaped e ≡ Some d → k ≤ length t → Quoted (take k t) v → ⊥)
    → (k : ℕ) (other : Text) → k ≤ suc (suc (length t)) → Quoted (take k (b ∷ e ∷ t)) other → ⊥
escape_none b e t slash no_ zero other room is = let some = nothing_at (b ∷ e ∷ t) other 0 (omega arith) is in absurd (omega arith)
escape_none b e t slash no_ (suc zero) other room is = apart (after_backslash b [] other slash is)
  where
    apart : Behind [] other → ⊥
    apart (after x d u v g tail f h) = cc
escape_none b e t slash no_ (suc (suc k)) other room is = apart (after_backslash b (e ∷ take k t) other slash is)
  where
    apart : Behind (e ∷ take k t) other → ⊥
    apart (after x d u v g tail f h) = let same : e ≡ x = cc in let rest : u ≡ take k t = cc in
        no_ d k v (ap escaped same ∙ g) (omega arith) (subst (λ (y : Text). Quoted y v) rest tail)

escape_one : (b e d n : ℕ) (t value : Text) → b ≡ 92 → escaped e ≡ Some d
    → ((k : ℕ) (v : Text) → k ≤ length t → Quoted (take k t) v → (k ≡ n) × (v ≡ value))
    → (k : ℕ) (other : Text) → k ≤ suc (suc (length t)) → Quoted (take k (b ∷ e ∷ t)) other → (k ≡ suc (suc n)) × (other ≡ d ∷ value)
escape_one b e d n t value slash stands one zero other room is = let some = nothing_at (b ∷ e ∷ t) other 0 (omega arith) is in absurd (omega arith)
escape_one b e d n t value slash stands one (suc zero) other room is = apart (after_backslash b [] other slash is)
  where
    apart : Behind [] other → (1 ≡ suc (suc n)) × (other ≡ d ∷ value)
    apart (after x c u v g tail f h) = absurd (let no_ : [] ≡ x ∷ u = f in cc)
escape_one b e d n t value slash stands one (suc (suc k)) other room is = apart (after_backslash b (e ∷ take k t) other slash is)
  where
    apart : Behind (e ∷ take k t) other → (suc (suc k) ≡ suc (suc n)) × (other ≡ d ∷ value)
    apart (after x c u v g tail f h) = let same : e ≡ x = cc in let rest : u ≡ take k t = cc in
        let again = one k v (omega arith) (subst (λ (y : Text). Quoted y v) rest tail) in
        let byte : Some c ≡ Some d = sym g ∙ (ap escaped (sym same) ∙ stands) in let byte_is : c ≡ d = cc in
        let tail_is = again.1 in (omega (arith, again.0), cc)

escape_reads : (b e : ℕ) (t : Text) (o : Option ℕ) (r : Option (Text × ℕ)) → b ≡ 92 → escaped e ≡ o → Reads t r → Reads (b ∷ e ∷ t) (skipping (onto_escape o r))
escape_reads b e t None r slash stands tail = never (escape_none b e t slash (λ d k v is room. absurd (let no_ : None ≡ Some d = sym stands ∙ is in cc)))
escape_reads b e t (Some d) None slash stands (never none) = never (escape_none b e t slash (λ c k v is room. none k v room))
escape_reads b e t (Some d) (Some found) slash stands (reads {value = value} {n = n} within first one) =
    reads (omega arith) (subst (λ (x : ℕ). Quoted (x ∷ e ∷ take n t) (d ∷ value)) (sym slash) (s.Quoted.escape stands first)) (escape_one b e d n t value slash stands one)

pub quoted_reads : (t : Text) → Reads t (quoted t)
unfolding quoted_from
quoted_reads [] = never (λ k value room is. let some = nothing_at [] value k room is in absurd (omega arith))
quoted_reads (b ∷ []) = choose (Reads (b ∷ [])) (b == 34) _ _ (λ e. closing_reads b [] (test_is b 34 e))
    (λ e. choose (Reads (b ∷ [])) (b == 92) _ _ (λ f. slash_alone b (test_is b 92 f))
    (λ f. choose (Reads (b ∷ [])) (is_plain b) _ _ (λ g. plain_reads b [] _ (test_not b 34 e) (test_not b 92 f) g (quoted_reads []))
    (λ g. bad_reads b [] (test_not b 34 e) (test_not b 92 f) g)))
quoted_reads (b ∷ d ∷ t) = choose (Reads (b ∷ d ∷ t)) (b == 34) _ _ (λ e. closing_reads b (d ∷ t) (test_is b 34 e))
    (λ e. choose (Reads (b ∷ d ∷ t)) (b == 92) _ _ (λ f. escape_reads b d t (escaped d) _ (test_is b 92 f) refl (quoted_reads t))
    (λ f. choose (Reads (b ∷ d ∷ t)) (is_plain b) _ _ (λ g. plain_reads b (d ∷ t) _ (test_not b 34 e) (test_not b 92 f) g (quoted_reads (d ∷ t)))
    (λ g. bad_reads b (d ∷ t) (test_not b 34 e) (test_not b 92 f) g)))

pub quoted_end : (t : Text) → length t ≡ 0 → quoted t ≡ None
unfolding quoted_from
quoted_end [] e = refl
quoted_end (b ∷ t) e = absurd (omega arith)

pub quoted_closes : (t : Text) → 0 < length t → slice_index t 0 ≡ 34 → quoted t ≡ Some ([], 1)
unfolding quoted_from
quoted_closes [] some e = absurd (omega arith)
quoted_closes (b ∷ t) some e = rw e refl

pub all_read : (value : Text) (n : ℕ) (r whole : Option (Text × ℕ)) → r ≡ Some ([], 1) → ahead_of value n r ≡ whole → Some (value, n + 1) ≡ whole
all_read value n r whole e f = let g : ahead_of value n (Some ([], 1)) ≡ whole = subst (λ (x : Option (Text × ℕ)). ahead_of value n x ≡ whole) e f in
    ap (λ (x : Text). Some (x, n + 1)) (sym (append-nil value)) ∙ g
