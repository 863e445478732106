-- A field of a request's head that says whence it comes (Fetch Metadata Request Headers, section 2.4).
use Rattle.std.specs.Prelude.{◌≡◌, ◌≢◌, ℕ, List, codes, map}
use Rattle.std.specs.Char.{to_ascii_lowercase}

-- a page of another site asks: the field is of that name, in letters of either case, and its value is neither of the two
-- that a browser sends for a page of this site and for an address that a person gave it
abbrev pub IsForeign : List ℕ → List ℕ → Type 0
IsForeign name value = (map to_ascii_lowercase name ≡ codes "sec-fetch-site") × (value ≢ codes "same-origin") × (value ≢ codes "none")
