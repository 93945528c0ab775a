-- The ways back from a note to earlier ones of its pair.
use Rattle.std.specs.Prelude.{ℕ, ◌≡◌, ◌<◌, ◌≤◌, ◌+◌, ◌*◌, ◌&&◌, Bool, List, Option, Some, MatchOption, length, slice_get, nat_eq, ◌⊎◌}
use Rattle.std.specs.HashMap.{HashMap, get}
use Rattle.c11_latest.specs.declared.latest.Note.{Note}
use Rattle.c11_latest.specs.declared.links.Link.{Link}
use Rattle.c11_latest.specs.Notes.{note}

-- the note at this place is of the cell and the thread
abbrev pub IsOf : List Note → ℕ → ℕ → ℕ → Type 0
IsOf notes cell thread place = (number : ℕ) × (slice_get notes place ≡ Some (note cell thread number))

-- the last place before this end that is of the cell and the thread
abbrev pub IsLastPlace : List Note → ℕ → ℕ → ℕ → Option ℕ → Type 0
IsLastPlace notes cell thread end answer = MatchOption answer ((q : ℕ) → q < end → IsOf notes cell thread q → ⊥)
    (λ p. (p < end) × IsOf notes cell thread p × ((q : ℕ) → p < q → q < end → IsOf notes cell thread q → ⊥))

abbrev pub JumpsBack : List Link → Type 0
JumpsBack links = (i j : ℕ) (l : Link) → slice_get links i ≡ Some l → l.jump ≡ Some j → j < i

abbrev pub IsInside : ℕ → Option ℕ → Type 0
IsInside end place = (p : ℕ) → place ≡ Some p → p < end

-- this place, or two jumps behind it
abbrev pub IsBehind : List Link → ℕ → ℕ → Type 0
IsBehind links place far = (far ≡ place) ⊎ ((l m : Link) × (middle : ℕ) × (slice_get links place ≡ Some l) × (l.jump ≡ Some middle)
    × (slice_get links middle ≡ Some m) × (m.jump ≡ Some far))

-- two jumps lead from this place to the other, each over as many notes of the pair
pub record HasLikeJumps (links : List Link) (place far : ℕ) : Type 0 where
  pub first : Link
  pub second : Link
  pub third : Link
  pub middle : ℕ
  pub is_first : slice_get links place ≡ Some first
  pub jumps : first.jump ≡ Some middle
  pub is_second : slice_get links middle ≡ Some second
  pub jumps_on : second.jump ≡ Some far
  pub is_third : slice_get links far ≡ Some third
  pub like : first.depth + third.depth ≡ 2 * second.depth

pub record IsLinkAfter (links : List Link) (place : Option ℕ) (l : Link) : Type 0 where
  pub before : l.before ≡ place
  pub jump : (far : ℕ) → l.jump ≡ Some far → (p : ℕ) × (place ≡ Some p) × IsBehind links p far

-- by the jump to a larger number, or to the note before
abbrev pub IsStep : List Note → List Link → ℕ → ℕ → Option ℕ → Type 0
IsStep notes links place number next = (l : Link) × (slice_get links place ≡ Some l)
    × ((next ≡ l.before) ⊎ ((far : ℕ) × (n : Note) × (next ≡ Some far) × (l.jump ≡ Some far) × (slice_get notes far ≡ Some n) × (number < n.number)))

-- pairs are the same where both parts are
abbrev pub same_pair : ℕ × ℕ → ℕ × ℕ → Bool
same_pair x y = nat_eq x.0 y.0 && nat_eq x.1 y.1

abbrev pub last_in : {S : Type 0} → HashMap (ℕ × ℕ) ℕ S → ℕ → ℕ → Option ℕ
last_in last cell thread = get same_pair last (cell, thread)

-- the numbers of each pair rise, the links lead back in it, and of each pair the last place is kept
pub record IsLinked (notes : List Note) (links : List Link) (tops : ℕ → ℕ → Option ℕ) : Type 0 where
  pub rises : (cell thread i j x y : ℕ) → slice_get notes i ≡ Some (note cell thread x) → slice_get notes j ≡ Some (note cell thread y) → i < j → x < y
  pub count : length links ≡ length notes
  pub before : (cell thread i : ℕ) (l : Link) → slice_get links i ≡ Some l → IsOf notes cell thread i → IsLastPlace notes cell thread i l.before
  pub jump : (cell thread i j : ℕ) (l : Link) → slice_get links i ≡ Some l → l.jump ≡ Some j → IsOf notes cell thread i → IsOf notes cell thread j
  pub back : JumpsBack links
  pub last : (cell thread : ℕ) → IsLastPlace notes cell thread (length notes) (tops cell thread)

-- there is room for the notes to come
pub record IsSound (room : ℕ) (notes : List Note) (links : List Link) (tops : ℕ → ℕ → Option ℕ) (notes_capacity links_capacity spare : ℕ) : Type 0 where
  pub linked : IsLinked notes links tops
  pub notes_left : room ≤ notes_capacity
  pub links_left : room ≤ links_capacity
  pub spare_left : room ≤ length notes + spare
