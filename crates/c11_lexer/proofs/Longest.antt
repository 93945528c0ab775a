-- The piece that is found is the longest, and the only one.
use Rattle.std.proofs.Common.{◌≡◌, ◌≤◌, ◌<◌, ℕ, zero, suc, ◌+◌, ◌==◌, nat_le, Bool, true, false, [], ◌∷◌, ◌++◌, length, take, slice_index, Option, Some, None, refl, add-one, sym, ap, subst, ◌∙◌, arith, ⊎_elim}
use Rattle.std.proofs.lemmas.Grind.{common_steps}
use Rattle.std.proofs.lemmas.List.{length-take-le, take_all}
use Rattle.std.proofs.lemmas.Bool.{cases_lt}
use Rattle.c11_lexer.specs.declared.piece.Class.{Class}
use Rattle.c11_lexer.specs.declared.piece.Class.TheVariants as c
use Rattle.c11_lexer.specs.declared.piece.Piece.{Piece}
use Rattle.c11_lexer.specs.declared.piece.Piece.TheVariants as p
use Rattle.c11_lexer.specs.Pieces.{Text, Every, class, is_blank, is_word, is_inline, is_mark, is_doubled, is_shift, takes_equals, IsMark, NoClose, Quoted, NoText, IsPiece, Longest, SomeLongest, SamePiece, OneLongest}
use Rattle.c11_lexer.specs.Pieces as s
use Rattle.c11_lexer.specs.Pieces.{run}
use Rattle.c11_lexer.specs.Reading.{close, mark_len, after_slash, commented, quoted, sized, by_class, front}
use Rattle.c11_lexer.proofs.CommentEnds.{choose, Closes, Closing, never, at, closing, cut, not_closed}
use Rattle.c11_lexer.proofs.Quotes.{Reads, quoted_reads}
use Rattle.c11_lexer.proofs.Quotes as q
use Rattle.c11_lexer.proofs.Marks.{is_marking, mark_class, first_is, longest_mark}

-- ---- runs

pub run_within : (test : ℕ → Bool) (t : Text) → run test t ≤ length t
unfolding run
run_within test [] = omega arith
run_within test (b ∷ t) = let tail = run_within test t in choose (λ (n : ℕ). n ≤ suc (length t)) (test b) (suc (run test t)) 0 (λ _. omega arith) (λ _. omega arith)

pub run_is : (test : ℕ → Bool) (t : Text) → Every test (take (run test t) t)
unfolding run
run_is test [] = s.Every.none
run_is test (b ∷ t) = let tail = run_is test t in choose (λ (n : ℕ). Every test (take n (b ∷ t))) (test b) (suc (run test t)) 0 (λ e. s.Every.more e tail) (λ _. s.Every.none)

pub run_longest : (test : ℕ → Bool) (t : Text) (k : ℕ) → k ≤ length t → Every test (take k t) → k ≤ run test t
unfolding run
run_longest test [] k room all = omega arith
run_longest test (b ∷ t) zero room all = omega arith
run_longest test (b ∷ t) (suc k) room (s.Every.more e all) = let tail = run_longest test t k (omega arith) all in rw e (omega arith)

-- ---- what a first byte allows

-- a piece with this first byte, by the byte's class
pub data Starts (b : ℕ) (u : Text) : Piece → Class → Type 0 where
  blank : u ≡ [] → Starts b u p.Blank c.Blank
  run_on : Every is_word u → Starts b u p.Run c.Run
  mark : {k : Class} → is_marking k ≡ true → IsMark (b ∷ u) → Starts b u p.Mark k
  line_comment : (v : Text) → Every is_inline v → u ≡ 47 ∷ v → Starts b u p.LineComment c.Slash
  closed : (body : Text) → NoClose (body ++ 42 ∷ []) → u ≡ 42 ∷ body ++ 42 ∷ 47 ∷ [] → Starts b u p.Comment c.Slash
  unclosed : (body : Text) → NoClose body → u ≡ 42 ∷ body → Starts b u p.OpenComment c.Slash
  text : {value : Text} → Quoted u value → length value ≤ 256 → Starts b u (p.Text value) c.Quote
  no_text : NoText u → Starts b u p.OpenText c.Quote
  stray : u ≡ [] → Starts b u p.Stray c.Other

slash_class : class 47 ≡ c.Slash
unfolding class is_blank is_word
slash_class = refl

quote_class : class 34 ≡ c.Quote
unfolding class is_blank is_word
quote_class = refl

tail_is : (b d : ℕ) (u v : Text) → b ∷ u ≡ d ∷ v → u ≡ v
tail_is b d u v e = cc

first_slash : (b : ℕ) (u v : Text) → b ∷ u ≡ 47 ∷ v → class b ≡ c.Slash
first_slash b u v e = let same : b ≡ 47 = cc in ap class same ∙ slash_class

starts : (b : ℕ) (u : Text) (q : Piece) → IsPiece (b ∷ u) q → Starts b u q (class b)
starts b u q (s.IsPiece.blank e) = subst (Starts b [] p.Blank) (sym e) (blank refl)
starts b u q (s.IsPiece.word_run e all) = subst (Starts b u p.Run) (sym e) (run_on all)
starts b u q (s.IsPiece.mark is) = mark (mark_class b (first_is b u is)) is
starts b u q (s.IsPiece.line_comment {t = t} all) = subst (Starts 47 (47 ∷ t) p.LineComment) (sym slash_class) (line_comment t all refl)
starts b u q (s.IsPiece.comment body free is) = subst (Starts b u p.Comment) (sym (first_slash b u _ is)) (closed body free (tail_is b 47 u _ is))
starts b u q (s.IsPiece.open_comment body free is) = subst (Starts b u p.OpenComment) (sym (first_slash b u _ is)) (unclosed body free (tail_is b 47 u _ is))
starts b u q (s.IsPiece.text {value = value} is short) = subst (Starts 34 u (p.Text value)) (sym quote_class) (text is short)
starts b u q (s.IsPiece.open_text none) = subst (Starts 34 u p.OpenText) (sym quote_class) (no_text none)
starts b u q (s.IsPiece.stray e) = subst (Starts b [] p.Stray) (sym e) (stray refl)

pub in_class : (b : ℕ) (u : Text) (q : Piece) (k : Class) → class b ≡ k → IsPiece (b ∷ u) q → Starts b u q k
in_class b u q k e piece = subst (Starts b u q) e (starts b u q piece)

-- ---- each class

AtFront : ℕ → Text → Piece × ℕ → Type 0
AtFront b t found = Longest (b ∷ t) found.1 found.0

-- no longer front is a piece, where none is by what may stand after the first byte
most : (b : ℕ) (t : Text) (k : Class) (n : ℕ) → class b ≡ k → 0 < n → ((j : ℕ) (q : Piece) → j ≤ length t → Starts b (take j t) q k → suc j ≤ n)
    → (j : ℕ) (q : Piece) → j ≤ suc (length t) → IsPiece (take j (b ∷ t)) q → j ≤ n
most b t k n e some tail zero q room piece = omega arith
most b t k n e some tail (suc j) q room piece = tail j q (omega arith) (in_class b (take j t) q k e piece)

nothing : (t : Text) (j : ℕ) → j ≤ length t → take j t ≡ [] → suc j ≤ 1
nothing t j room e = let long = length-take-le j t room in omega (arith, ap length e)

blank_most : (b : ℕ) (t : Text) (j : ℕ) (q : Piece) → j ≤ length t → Starts b (take j t) q c.Blank → suc j ≤ 1
blank_most b t j q room (blank e) = nothing t j room e
blank_most b t j q room (mark e is) = cc

stray_most : (b : ℕ) (t : Text) (j : ℕ) (q : Piece) → j ≤ length t → Starts b (take j t) q c.Other → suc j ≤ 1
stray_most b t j q room (stray e) = nothing t j room e
stray_most b t j q room (mark e is) = cc

run_most : (b : ℕ) (t : Text) (j : ℕ) (q : Piece) → j ≤ length t → Starts b (take j t) q c.Run → suc j ≤ run is_word t + 1
run_most b t j q room (run_on all) = omega (arith, run_longest is_word t j room all)
run_most b t j q room (mark e is) = cc

blank_front : (b : ℕ) (t : Text) → class b ≡ c.Blank → AtFront b t (p.Blank, 1)
unfolding AtFront
blank_front b t e = record { within = omega arith; some = omega arith; is = s.IsPiece.blank e; longest = most b t c.Blank 1 e (omega arith) (blank_most b t) }

stray_front : (b : ℕ) (t : Text) → class b ≡ c.Other → AtFront b t (p.Stray, 1)
unfolding AtFront
stray_front b t e = record { within = omega arith; some = omega arith; is = s.IsPiece.stray e; longest = most b t c.Other 1 e (omega arith) (stray_most b t) }

run_front : (b : ℕ) (t : Text) → class b ≡ c.Run → AtFront b t (p.Run, run is_word t + 1)
unfolding AtFront
run_front b t e = record {
  within = omega (arith, run_within is_word t);
  some = omega arith;
  is = rw (add-one (run is_word t)) (s.IsPiece.word_run e (run_is is_word t));
  longest = most b t c.Run (run is_word t + 1) e (omega arith) (run_most b t);
}

mark_most : (b : ℕ) (t : Text) (n : ℕ) → ((k : ℕ) → k ≤ length t → IsMark (b ∷ take k t) → suc k ≤ n) → (j : ℕ) (q : Piece) → j ≤ length t → Starts b (take j t) q c.Mark → suc j ≤ n
mark_most b t n all j q room (mark e is) = all j room is

marked : (b : ℕ) → class b ≡ c.Mark → is_mark b ≡ true
unfolding class
marked b e = grind (arith, common_steps)

mark_front : (b : ℕ) (t : Text) → class b ≡ c.Mark → AtFront b t (p.Mark, mark_len b t)
unfolding AtFront
mark_front b t e = let l = longest_mark b t (marked b e) in
    record { within = l.within; some = l.some; is = s.IsPiece.mark l.is; longest = most b t c.Mark (mark_len b t) e l.some (mark_most b t (mark_len b t) l.most) }

-- ---- `/`

slash_byte : (b : ℕ) → class b ≡ c.Slash → b ≡ 47
unfolding class
slash_byte b e = grind (arith, common_steps)

slash_is : is_mark 47 ≡ true
unfolding is_mark
slash_is = refl

slash_equals : takes_equals 47 ≡ true
unfolding takes_equals
slash_equals = refl

mark_after : (d : ℕ) (u : Text) → IsMark (47 ∷ d ∷ u) → (d ≡ 61) × (u ≡ [])
unfolding is_doubled is_shift
mark_after d u (s.IsMark.doubled e) = absurd (let no_ : false ≡ true = e in cc)
mark_after d u (s.IsMark.with_equals e) = (refl, refl)
mark_after d u (s.IsMark.shift_equals e) = absurd (let no_ : false ≡ true = e in cc)

-- what stands after a `/`
data Behind (d : ℕ) (u : Text) : Type 0 where
  equals : d ≡ 61 → u ≡ [] → Behind d u
  line : d ≡ 47 → Every is_inline u → Behind d u
  closes : d ≡ 42 → (body : Text) → NoClose (body ++ 42 ∷ []) → u ≡ body ++ 42 ∷ 47 ∷ [] → Behind d u
  open_ : d ≡ 42 → NoClose u → Behind d u

behind_of : (b d : ℕ) (u : Text) (q : Piece) → b ≡ 47 → Starts b (d ∷ u) q c.Slash → Behind d u
behind_of b d u q slash (mark e is) = let two = mark_after d u (subst (λ (x : ℕ). IsMark (x ∷ d ∷ u)) slash is) in equals two.0 two.1
behind_of b d u q slash (line_comment v all e) = let same : d ≡ 47 = cc in let tail : v ≡ u = cc in line same (subst (Every is_inline) tail all)
behind_of b d u q slash (closed body free e) = let same : d ≡ 42 = cc in let tail : u ≡ body ++ 42 ∷ 47 ∷ [] = cc in closes same body free tail
behind_of b d u q slash (unclosed body free e) = let same : d ≡ 42 = cc in let tail : body ≡ u = cc in open_ same (subst NoClose tail free)

-- in a comment that closes after n bytes no longer piece begins
comment_bound : (t : Text) (n : ℕ) → Closes t n → (d k : ℕ) → k ≤ length t → d ≡ 42 → Behind d (take k t) → k ≤ n
comment_bound t n h d k room star (equals e none) = absurd (omega arith)
comment_bound t n h d k room star (line e all) = absurd (omega arith)
comment_bound t n h d k room star (closes e body free is) =
    let shorter = cut body t k room is in
    let less = h.first shorter.before (omega (arith, shorter.is)) (subst NoClose (sym shorter.front_is) free) in
    omega (arith, shorter.is)
comment_bound t n h d k room star (open_ e free) = let less = h.first k room free in omega arith

comment_most : (b d : ℕ) (t : Text) (n : ℕ) → b ≡ 47 → d ≡ 42 → Closes t n → (j : ℕ) (q : Piece) → j ≤ suc (length t) → Starts b (take j (d ∷ t)) q c.Slash → suc j ≤ n + 2
comment_most b d t n slash star h zero q room start = omega arith
comment_most b d t n slash star h (suc j) q room start = omega (arith, comment_bound t n h d j (omega arith) star (behind_of b d (take j t) q slash start))

opened : (b d : ℕ) (u v : Text) → b ≡ 47 → d ≡ 42 → u ≡ v → b ∷ d ∷ u ≡ 47 ∷ 42 ∷ v
opened b d u v e f g = cc

two_more : (n : ℕ) → n + 2 ≡ suc (suc n)
two_more n = omega arith

comment_front : (b d : ℕ) (t : Text) → class b ≡ c.Slash → d ≡ 42 → (o : Option ℕ) → Closing t o → AtFront b (d ∷ t) (commented o t)
unfolding AtFront
comment_front b d t e star None (never free) = record {
  within = omega arith;
  some = omega arith;
  is = rw (two_more (length t)) (s.IsPiece.open_comment (take (length t) t) (rw (take_all (length t) t (omega arith)) free) (opened b d _ _ (slash_byte b e) star refl));
  longest = λ k q room piece. omega arith;
}
comment_front b d t e star (Some n) (at h) = record {
  within = let w = h.within in omega arith;
  some = omega arith;
  is = rw (two_more n) (s.IsPiece.comment h.body h.free (opened b d _ _ (slash_byte b e) star h.is));
  longest = most b (d ∷ t) c.Slash (n + 2) e (omega arith) (comment_most b d t n (slash_byte b e) star h);
}

line_bound : (d : ℕ) (t : Text) (k : ℕ) → k ≤ length t → d ≡ 47 → Behind d (take k t) → k ≤ run is_inline t
line_bound d t k room slash (equals e none) = absurd (omega arith)
line_bound d t k room slash (line e all) = run_longest is_inline t k room all
line_bound d t k room slash (closes e body free is) = absurd (omega arith)
line_bound d t k room slash (open_ e free) = absurd (omega arith)

line_most : (b d : ℕ) (t : Text) → b ≡ 47 → d ≡ 47 → (j : ℕ) (q : Piece) → j ≤ suc (length t) → Starts b (take j (d ∷ t)) q c.Slash → suc j ≤ run is_inline t + 2
line_most b d t slash other zero q room start = omega arith
line_most b d t slash other (suc j) q room start = omega (arith, line_bound d t j (omega arith) other (behind_of b d (take j t) q slash start))

line_front : (b d : ℕ) (t : Text) → class b ≡ c.Slash → d ≡ 47 → AtFront b (d ∷ t) (p.LineComment, run is_inline t + 2)
unfolding AtFront
line_front b d t e other = record {
  within = omega (arith, run_within is_inline t);
  some = omega arith;
  is = rw (two_more (run is_inline t)) (subst (λ (x : ℕ). IsPiece (x ∷ d ∷ take (run is_inline t) t) p.LineComment) (sym (slash_byte b e))
      (subst (λ (x : ℕ). IsPiece (47 ∷ x ∷ take (run is_inline t) t) p.LineComment) (sym other) (s.IsPiece.line_comment (run_is is_inline t))));
  longest = most b (d ∷ t) c.Slash (run is_inline t + 2) e (omega arith) (line_most b d t (slash_byte b e) other);
}

equals_bound : (d : ℕ) (t : Text) (k : ℕ) → k ≤ length t → d ≡ 61 → Behind d (take k t) → k ≤ 0
equals_bound d t k room other (equals e none) = let long = length-take-le k t room in omega (arith, long, ap length none)
equals_bound d t k room other (line e all) = absurd (omega arith)
equals_bound d t k room other (closes e body free is) = absurd (omega arith)
equals_bound d t k room other (open_ e free) = absurd (omega arith)

equals_most : (b d : ℕ) (t : Text) → b ≡ 47 → d ≡ 61 → (j : ℕ) (q : Piece) → j ≤ suc (length t) → Starts b (take j (d ∷ t)) q c.Slash → suc j ≤ 2
equals_most b d t slash other zero q room start = omega arith
equals_most b d t slash other (suc j) q room start = omega (arith, equals_bound d t j (omega arith) other (behind_of b d (take j t) q slash start))

equals_front : (b d : ℕ) (t : Text) → class b ≡ c.Slash → d ≡ 61 → AtFront b (d ∷ t) (p.Mark, 2)
unfolding AtFront
equals_front b d t e other = record {
  within = omega arith;
  some = omega arith;
  is = s.IsPiece.mark (subst (λ (x : ℕ). IsMark (x ∷ d ∷ [])) (sym (slash_byte b e)) (subst (λ (x : ℕ). IsMark (47 ∷ x ∷ [])) (sym other) (s.IsMark.with_equals slash_equals)));
  longest = most b (d ∷ t) c.Slash 2 e (omega arith) (equals_most b d t (slash_byte b e) other);
}

none_behind : (d : ℕ) (u : Text) → (d ≡ 42 → ⊥) → (d ≡ 47 → ⊥) → (d ≡ 61 → ⊥) → Behind d u → ⊥
none_behind d u not_star not_slash not_equals (equals e none) = not_equals e
none_behind d u not_star not_slash not_equals (line e all) = not_slash e
none_behind d u not_star not_slash not_equals (closes e body free is) = not_star e
none_behind d u not_star not_slash not_equals (open_ e free) = not_star e

over_most : (b d : ℕ) (t : Text) → b ≡ 47 → (d ≡ 42 → ⊥) → (d ≡ 47 → ⊥) → (d ≡ 61 → ⊥) → (j : ℕ) (q : Piece) → j ≤ suc (length t) → Starts b (take j (d ∷ t)) q c.Slash → suc j ≤ 1
over_most b d t slash not_star not_slash not_equals zero q room start = omega arith
over_most b d t slash not_star not_slash not_equals (suc j) q room start = absurd (none_behind d (take j t) not_star not_slash not_equals (behind_of b d (take j t) q slash start))

over_is : (b : ℕ) → b ≡ 47 → IsPiece (b ∷ []) p.Mark
over_is b e = s.IsPiece.mark (subst (λ (x : ℕ). IsMark (x ∷ [])) (sym e) (s.IsMark.single slash_is))

test_is : (d n : ℕ) → (d == n) ≡ true → d ≡ n
test_is d n e = grind (arith, common_steps)

test_not : (d n : ℕ) → (d == n) ≡ false → d ≡ n → ⊥
test_not d n e f = grind (arith, common_steps)

slash_front : (b : ℕ) (t : Text) → class b ≡ c.Slash → AtFront b t (after_slash t)
unfolding AtFront after_slash
slash_front b [] e = record { within = omega arith; some = omega arith; is = over_is b (slash_byte b e); longest = λ k q room piece. omega arith }
slash_front b (d ∷ t) e = choose (AtFront b (d ∷ t)) (d == 42) _ _ (λ f. comment_front b d t e (test_is d 42 f) (close t) (closing t))
    (λ f. choose (AtFront b (d ∷ t)) (d == 47) _ _ (λ g. line_front b d t e (test_is d 47 g))
    (λ g. choose (AtFront b (d ∷ t)) (d == 61) _ _ (λ h. equals_front b d t e (test_is d 61 h))
    (λ h. record {
      within = omega arith;
      some = omega arith;
      is = over_is b (slash_byte b e);
      longest = most b (d ∷ t) c.Slash 1 e (omega arith) (over_most b d t (slash_byte b e) (test_not d 42 f) (test_not d 47 g) (test_not d 61 h));
    })))

-- ---- `"`

quote_byte : (b : ℕ) → class b ≡ c.Quote → b ≡ 34
unfolding class
quote_byte b e = grind (arith, common_steps)

open_front : (b : ℕ) (t : Text) → class b ≡ c.Quote → NoText t → AtFront b t (p.OpenText, length t + 1)
unfolding AtFront
open_front b t e none = record {
  within = omega arith;
  some = omega arith;
  is = rw (add-one (length t), take_all (length t) t (omega arith)) (subst (λ (x : ℕ). IsPiece (x ∷ t) p.OpenText) (sym (quote_byte b e)) (s.IsPiece.open_text none));
  longest = λ k q room piece. omega arith;
}

inner_take : (n j : ℕ) (t : Text) → n ≤ j → take n (take j t) ≡ take n t
inner_take zero zero t less = refl
inner_take zero (suc j) [] less = refl
inner_take zero (suc j) (x ∷ t) less = refl
inner_take (suc n) zero t less = absurd (omega arith)
inner_take (suc n) (suc j) [] less = refl
inner_take (suc n) (suc j) (x ∷ t) less = ap (λ (y : Text). x ∷ y) (inner_take n j t (omega arith))

no_text_before : (t value : Text) (n j : ℕ) → j ≤ length t → Quoted (take n t) value → length value ≤ 256 → NoText (take j t) → n ≤ j → ⊥
no_text_before t value n j room is short none less =
    none n value (let long = length-take-le j t room in omega (arith, long)) (subst (λ (x : Text). Quoted x value) (sym (inner_take n j t less)) is) short

text_most : (b : ℕ) (t value : Text) (n : ℕ) → Quoted (take n t) value → length value ≤ 256
    → ((k : ℕ) (other : Text) → k ≤ length t → Quoted (take k t) other → (k ≡ n) × (other ≡ value))
    → (j : ℕ) (q : Piece) → j ≤ length t → Starts b (take j t) q c.Quote → suc j ≤ n + 1
text_most b t value n is short one j q room (text {value = other} other_is other_short) = omega (arith, (one j other room other_is).0)
text_most b t value n is short one j q room (no_text none) = ⊎_elim (λ (less : j < n). omega arith) (λ (more : n ≤ j). absurd (no_text_before t value n j room is short none more)) (cases_lt j n)
text_most b t value n is short one j q room (mark e is_mark_) = cc

le_is : (m n : ℕ) → nat_le m n ≡ true → m ≤ n
le_is m n e = grind (arith, common_steps)

le_not : (m n : ℕ) → nat_le m n ≡ false → n < m
le_not m n e = grind (arith, common_steps)

text_front : (b : ℕ) (t : Text) → class b ≡ c.Quote → (r : Option (Text × ℕ)) → Reads t r → AtFront b t (sized r t)
unfolding AtFront
text_front b t e None (q.Reads.never none) = open_front b t e (λ k value room is short. none k value room is)
text_front b t e (Some found) (q.Reads.reads {value = value} {n = n} within is one) = choose (AtFront b t) (nat_le (length value) 256) _ _
    (λ f. text_record f)
    (λ f. open_front b t e (λ k other room other_is short. let long = le_not (length value) 256 f in let same = ap length (one k other room other_is).1 in omega arith))
  where
    text_record : nat_le (length value) 256 ≡ true → AtFront b t (p.Text value, n + 1)
    text_record f = record {
      within = omega arith;
      some = omega arith;
      is = rw (add-one n) (subst (λ (x : ℕ). IsPiece (x ∷ take n t) (p.Text value)) (sym (quote_byte b e)) (s.IsPiece.text is (le_is (length value) 256 f)));
      longest = most b t c.Quote (n + 1) e (omega arith) (text_most b t value n is (le_is (length value) 256 f) one);
    }

by_class_front : (b : ℕ) (t : Text) (k : Class) → class b ≡ k → AtFront b t (by_class k b t)
by_class_front b t c.Blank e = blank_front b t e
by_class_front b t c.Run e = run_front b t e
by_class_front b t c.Quote e = text_front b t e (quoted t) (quoted_reads t)
by_class_front b t c.Slash e = slash_front b t e
by_class_front b t c.Mark e = mark_front b t e
by_class_front b t c.Other e = stray_front b t e

pub front_is_longest : (text : Text) → 0 < length text → Longest text (front text).1 (front text).0
unfolding front AtFront
front_is_longest [] some = absurd (omega arith)
front_is_longest (b ∷ t) some = by_class_front b t (class b) refl

pub some_longest : SomeLongest
some_longest t some = ((front t).1, (front t).0, front_is_longest t some)

-- ---- the same bytes are one piece at most

one_text : (u value other : Text) → Quoted u value → Quoted u other → value ≡ other
one_text u value other is other_is = cases (quoted u) (quoted_reads u)
  where
    all : take (length u) u ≡ u
    all = take_all (length u) u (omega arith)

    cases : (r : Option (Text × ℕ)) → Reads u r → value ≡ other
    cases None (q.Reads.never none) = absurd (none (length u) value (omega arith) (subst (λ (x : Text). Quoted x value) (sym all) is))
    cases (Some found) (q.Reads.reads {value = read} {n = n} within front_is one) =
        (one (length u) value (omega arith) (subst (λ (x : Text). Quoted x value) (sym all) is)).1
        ∙ sym (one (length u) other (omega arith) (subst (λ (x : Text). Quoted x other) (sym all) other_is)).1

text_clash : (u value : Text) → Quoted u value → length value ≤ 256 → NoText u → ⊥
text_clash u value is short none = none (length u) value (omega arith) (subst (λ (x : Text). Quoted x value) (sym (take_all (length u) u (omega arith))) is) short

mark_clash : (b d : ℕ) (u v : Text) → (d ≡ 61 → ⊥) → b ≡ 47 → IsMark (b ∷ u) → u ≡ d ∷ v → ⊥
mark_clash b d u v apart slash is e = apart (mark_after d v (subst (λ (x : ℕ). IsMark (x ∷ d ∷ v)) slash (subst (λ (x : Text). IsMark (b ∷ x)) e is))).0

star_equals : ◌≡◌ {A = ℕ} 42 61 → ⊥
star_equals e = omega arith

slash_not_equals : ◌≡◌ {A = ℕ} 47 61 → ⊥
slash_not_equals e = omega arith

line_not_block : (u v w : Text) → u ≡ 47 ∷ v → u ≡ 42 ∷ w → ⊥
line_not_block u v w e f = omega (arith, ap (λ (t : Text). slice_index t 0) (sym e ∙ f))

comment_not_open : (u body other : Text) → u ≡ 42 ∷ body ++ 42 ∷ 47 ∷ [] → NoClose other → u ≡ 42 ∷ other → ⊥
comment_not_open u body other e free f = let same : other ≡ body ++ 42 ∷ 47 ∷ [] = cc in not_closed body (subst NoClose same free)

same : (b : ℕ) (u : Text) (x y : Piece) (k : Class) → class b ≡ k → Starts b u x k → Starts b u y k → x ≡ y
same b u x y k e (blank f) (blank g) = refl
same b u x y k e (blank f) (mark g is) = cc
same b u x y k e (run_on f) (run_on g) = refl
same b u x y k e (run_on f) (mark g is) = cc
same b u x y k e (mark f is) (blank g) = cc
same b u x y k e (mark f is) (run_on g) = cc
same b u x y k e (mark f is) (mark g other) = refl
same b u x y k e (mark f is) (line_comment v all g) = absurd (mark_clash b 47 u v slash_not_equals (slash_byte b e) is g)
same b u x y k e (mark f is) (closed body free g) = absurd (mark_clash b 42 u _ star_equals (slash_byte b e) is g)
same b u x y k e (mark f is) (unclosed body free g) = absurd (mark_clash b 42 u _ star_equals (slash_byte b e) is g)
same b u x y k e (mark f is) (text g short) = cc
same b u x y k e (mark f is) (no_text none) = cc
same b u x y k e (mark f is) (stray g) = cc
same b u x y k e (line_comment v all g) (mark f is) = absurd (mark_clash b 47 u v slash_not_equals (slash_byte b e) is g)
same b u x y k e (line_comment v all g) (line_comment w others h) = refl
same b u x y k e (line_comment v all g) (closed body free h) = absurd (line_not_block u v _ g h)
same b u x y k e (line_comment v all g) (unclosed body free h) = absurd (line_not_block u v body g h)
same b u x y k e (closed body free g) (mark f is) = absurd (mark_clash b 42 u _ star_equals (slash_byte b e) is g)
same b u x y k e (closed body free g) (line_comment v all h) = absurd (line_not_block u v _ h g)
same b u x y k e (closed body free g) (closed other_body other_free h) = refl
same b u x y k e (closed body free g) (unclosed other_body other_free h) = absurd (comment_not_open u body other_body g other_free h)
same b u x y k e (unclosed body free g) (mark f is) = absurd (mark_clash b 42 u _ star_equals (slash_byte b e) is g)
same b u x y k e (unclosed body free g) (line_comment v all h) = absurd (line_not_block u v body h g)
same b u x y k e (unclosed body free g) (closed other_body other_free h) = absurd (comment_not_open u other_body body h free g)
same b u x y k e (unclosed body free g) (unclosed other_body other_free h) = refl
same b u x y k e (text {value = value} is short) (text {value = other} other_is other_short) = ap p.Text (one_text u value other is other_is)
same b u x y k e (text {value = value} is short) (no_text none) = absurd (text_clash u value is short none)
same b u x y k e (text is short) (mark f g) = cc
same b u x y k e (no_text none) (text {value = value} is short) = absurd (text_clash u value is short none)
same b u x y k e (no_text none) (no_text other) = refl
same b u x y k e (no_text none) (mark f g) = cc
same b u x y k e (stray f) (stray g) = refl
same b u x y k e (stray f) (mark g is) = cc

pub one_piece : (b : ℕ) (t : Text) (x y : Piece) → IsPiece (b ∷ t) x → IsPiece (b ∷ t) y → x ≡ y
one_piece b t x y first second = same b t x y (class b) refl (starts b t x first) (starts b t y second)

same_piece : (t : Text) (n : ℕ) (x y : Piece) → 0 < n → n ≤ length t → IsPiece (take n t) x → IsPiece (take n t) y → x ≡ y
same_piece t zero x y some room a b = absurd (omega arith)
same_piece [] (suc n) x y some room a b = absurd (omega arith)
same_piece (d ∷ t) (suc n) x y some room a b = one_piece d (take n t) x y a b

pub same_length : (t : Text) (n k : ℕ) (x y : Piece) → Longest t n x → Longest t k y → n ≡ k
same_length t n k x y a b = let le = a.longest k y b.within b.is in let ge = b.longest n x a.within a.is in omega arith

pub one_longest : OneLongest
one_longest t n k x y a b = let e = same_length t n k x y a b in
    record { length_is = e; piece_is = same_piece t n x y a.some a.within a.is (subst (λ (m : ℕ). IsPiece (take m t) y) (sym e) b.is) }
