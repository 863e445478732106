-- One scheme for every stream that comes in pieces. A head says what a list begins with: the items
-- that a whole thing at its front gives, and what is left behind it; or nothing where the front isn't
-- whole yet.
use Rattle.std.specs.Prelude.{◌≡◌, ℕ, zero, suc, ◌<◌, List, [], ◌++◌, length, Option, Some, None}

abbrev pub Head : Type 0 → Type 0 → Type 0
Head A B = List A → Option (List B × List A)

module _ {A B : Type 0} where
  -- what was given before, and then what was read
  abbrev pub after : List B → List B × List A → List B × List A
  after given read = (given ++ read.0, read.1)

  abbrev pub read_on : List A → (List A → List B × List A) → Option (List B × List A) → List B × List A
  read_on xs next None = ([], xs)
  read_on xs next (Some found) = after found.0 (next found.1)

  -- as `read`, in at most n turns
  abbrev pub read_within : Head A B → ℕ → List A → List B × List A
  read_within head zero xs = ([], xs)
  read_within head (suc n) xs = read_on xs (read_within head n) (head xs)

  -- all that the list's whole things give, and the unfinished rest
  unfoldable pub read : Head A B → List A → List B × List A
  read head xs = read_within head (length xs) xs

  -- a head takes something, and finds the same whatever follows
  pub record IsHead (head : Head A B) : Type 0 where
    pub shrinks : (xs rest : List A) (given : List B) → head xs ≡ Some (given, rest) → length rest < length xs
    pub stable : (xs more rest : List A) (given : List B) → head xs ≡ Some (given, rest) → head (xs ++ more) ≡ Some (given, rest ++ more)

  -- the law of every cutting: to read on from the unfinished rest is to read the whole list
  abbrev pub Resumes : Head A B → Type 0
  Resumes head = (xs more : List A) → read head (xs ++ more) ≡ after (read head xs).0 (read head ((read head xs).1 ++ more))
