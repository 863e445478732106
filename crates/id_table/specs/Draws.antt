-- Which IDs are drawn (RFC 9562, section 5.4; the four draws are this project's own).
use Rattle.std.specs.Prelude.{◌≡◌, ℕ, ◌+◌, ◌<◌, List, [], Option, Some, None, IsSome, slice_index_or}
use Rattle.uuid.specs.Parts.{with_variant, with_version}
use Rattle.uuid.specs.declared.Variant.TheVariants.{RFC4122}
use Rattle.uuid.specs.declared.Version.TheVariants.{Random}
use Rattle.id_table.specs.Maps.{Map}

-- the ID that is made of 16 drawn bytes
abbrev pub id_of_draw : List ℕ → List ℕ
id_of_draw drawn = with_version (with_variant drawn RFC4122) Random

-- the ID of the n-th draw to come
abbrev pub nth_id : (ℕ → List ℕ) → ℕ → List ℕ
nth_id draws n = id_of_draw (draws n)

-- the ID is that of the draw of this number, one of the next four, and those before it were there
abbrev pub IsFirstAbsent : {V : Type 0} → Map V → (ℕ → List ℕ) → List ℕ → Type 0
IsFirstAbsent m draws id = (n : ℕ) × (n < 4) × (id ≡ nth_id draws n) × (m id ≡ None) × ((k : ℕ) → k < n → IsSome (m (nth_id draws k)))

-- the IDs are those of the first draws to come, so many
abbrev pub AreNext : (ℕ → List ℕ) → ℕ → List (List ℕ) → Type 0
AreNext draws count ids = (k : ℕ) → k < count → slice_index_or ids k [] ≡ nth_id draws k

-- so many of the IDs are there
abbrev pub AreThere : {V : Type 0} → Map V → ℕ → List (List ℕ) → Type 0
AreThere m count ids = (k : ℕ) → k < count → IsSome (m (slice_index_or ids k []))

-- so many draws are gone; dice that tell go on to tell
abbrev pub Gone : ℕ → Option (ℕ → List ℕ) → Option (ℕ → List ℕ) → Type 0
Gone count None None = Unit {0}
Gone count None (Some now) = ⊥
Gone count (Some before) None = ⊥
Gone count (Some before) (Some now) = (n : ℕ) → now n ≡ before (n + count)
