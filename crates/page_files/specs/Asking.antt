-- By which host a request may ask for the page, and for which file it asks (this project's own).
use Rattle.std.specs.Prelude.{ℕ, List, Bool, ◌||◌, ◌&&◌, ◌==◌, length, take, get_or, if◌then◌else◌, map, codes, bytes_eq}
use Rattle.std.specs.Char.{is_ascii_digit, to_ascii_lowercase}
use Rattle.std.specs.List.{list_all, list_any}

-- a host that is an address: of IPv6 in brackets, or of digits, dots and colons alone, one of IPv4 with its port. No name
-- of a machine is of that form, since the last part of one isn't of digits (RFC 1123, section 2.1)
abbrev pub is_address_sign : ℕ → Bool
is_address_sign sign = is_ascii_digit sign || sign == 0x2E || sign == 0x3A

abbrev pub is_address : List ℕ → Bool
is_address host = get_or host 0 0 == 0x5B || list_all is_address_sign host

-- a host of that name, in letters of either case, with a port or without one (RFC 9110, section 7.2)
abbrev pub is_named : List ℕ → List ℕ → Bool
is_named host name = bytes_eq (map to_ascii_lowercase (take (length name) host)) (map to_ascii_lowercase name) && get_or host (length name) 0x3A == 0x3A

-- a host by which the page may be asked for: a name that was bound anew to this machine is none
abbrev pub is_known : List ℕ → List (List ℕ) → Bool
is_known host names = is_address host || is_named host (codes "localhost") || list_any (is_named host) names

-- the path of the file that is asked for
abbrev pub path_asked : List ℕ → List ℕ
path_asked target = if bytes_eq target (codes "/") then codes "/index.html" else target
