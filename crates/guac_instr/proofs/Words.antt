-- The words that the gateway sends are their own characters.
use Rattle.std.proofs.Common.{◌≡◌, codes, refl}
use Rattle.std.specs.Str.{chars}

pub size_word : chars (codes "size") ≡ codes "size"
unfolding chars
size_word = refl

pub rect_word : chars (codes "rect") ≡ codes "rect"
unfolding chars
rect_word = refl

pub cfill_word : chars (codes "cfill") ≡ codes "cfill"
unfolding chars
cfill_word = refl

pub copy_word : chars (codes "copy") ≡ codes "copy"
unfolding chars
copy_word = refl

pub sync_word : chars (codes "sync") ≡ codes "sync"
unfolding chars
sync_word = refl

pub disconnect_word : chars (codes "disconnect") ≡ codes "disconnect"
unfolding chars
disconnect_word = refl

pub error_word : chars (codes "error") ≡ codes "error"
unfolding chars
error_word = refl

pub ruleset words = (size_word, rect_word, cfill_word, copy_word, sync_word, disconnect_word, error_word)

-- and so are the messages of refusals
pub no_memory_message : chars (codes "no memory") ≡ codes "no memory"
unfolding chars
no_memory_message = refl

pub busy_message : chars (codes "server busy") ≡ codes "server busy"
unfolding chars
busy_message = refl

pub absent_message : chars (codes "resource not found") ≡ codes "resource not found"
unfolding chars
absent_message = refl

pub conflict_message : chars (codes "resource conflict") ≡ codes "resource conflict"
unfolding chars
conflict_message = refl

pub upstream_message : chars (codes "upstream not found") ≡ codes "upstream not found"
unfolding chars
upstream_message = refl

pub closed_message : chars (codes "session closed") ≡ codes "session closed"
unfolding chars
closed_message = refl

pub bad_message : chars (codes "bad request") ≡ codes "bad request"
unfolding chars
bad_message = refl

pub forbidden_message : chars (codes "forbidden") ≡ codes "forbidden"
unfolding chars
forbidden_message = refl

pub many_message : chars (codes "too many") ≡ codes "too many"
unfolding chars
many_message = refl

pub no_message : chars (codes "") ≡ codes ""
unfolding chars
no_message = refl

pub ruleset messages = (no_memory_message, busy_message, absent_message, conflict_message, upstream_message, closed_message, bad_message, forbidden_message, many_message, no_message)
