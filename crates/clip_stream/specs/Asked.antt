-- What an instruction asks of the clipboard, as the reader tells it.
use Rattle.clip_stream.specs.declared.wish.Wish.{Wish}
use Rattle.clip_stream.specs.declared.wish.Wish.TheVariants.{Kept, Opens, Closes, Brings, Ends, Idle}
use Rattle.clip_stream.specs.Clips.{Wish as Meant, Kept as kept, Opens as opens, Closes as closes, Brings as brings, Ends as ends, Idle as idle}

abbrev pub asked : Wish → Meant
asked Kept = kept
asked (Opens stream) = opens stream
asked Closes = closes
asked (Brings stream encoded) = brings stream encoded.now
asked (Ends stream) = ends stream
asked Idle = idle
