-- Worked facts of pasted text, computed from the definitions.
use Rattle.std.proofs.Common.{◌≡◌, [], ◌∷◌, ◌++◌, true, false, refl}
use Rattle.std.specs.Prelude.{Some, None, codes}
use Rattle.std.specs.Fmt.{digits}
use Rattle.std.specs.Str.{chars}
use Rattle.base64.proofs.OnLiterals.{base64_on_literals}
use Rattle.bstr.proofs.Computing.{computing}
use Rattle.gate_model.specs.text.Reading.{read}
use Rattle.clip_stream.specs.Clips.{clip_after, wish_of, Opens, Closes, Brings, Ends, Idle, Kept}
use Rattle.clip_stream.specs.Fronts.{elements_at, value_at}
use Rattle.clip_stream.specs.Pasted.{pasted}
use Rattle.clip_stream.specs.Typed.{keysym_of, releases, strokes_of}

-- `hi`
pasted_text : pasted (codes "9.clipboard,1.1,10.text/plain;4.blob,1.1,4.aGk=;3.end,1.1;") ≡ codes "3.key,5.65507,1.0;3.key,5.65508,1.0;3.key,5.65513,1.0;3.key,5.65514,1.0;3.key,3.104,1.1;3.key,3.104,1.0;3.key,3.105,1.1;3.key,3.105,1.0;"
unfolding computing base64_on_literals chars digits read value_at elements_at
pasted_text = refl

-- what doesn't decode closes the stream
bad_base64 : pasted (codes "9.clipboard,1.1,10.text/plain;4.blob,1.1,4.a?k=;3.end,1.1;") ≡ []
unfolding computing base64_on_literals chars digits read value_at elements_at
bad_base64 = refl

-- another stream's blob and end are taken out; the number of a stream may have zeros before it
other_stream : pasted (codes "9.clipboard,1.1,10.text/plain;4.blob,1.2,4.aGk=;3.end,1.2;4.blob,2.01,4.aQ==;3.end,1.1;") ≡ releases ++ codes "3.key,3.105,1.1;3.key,3.105,1.0;"
unfolding computing base64_on_literals chars digits read value_at elements_at
other_stream = refl

-- an end of no open stream types nothing, and a paste of nothing releases the modifiers
no_stream : pasted (codes "3.end,1.1;9.clipboard,1.1,10.text/plain;3.end,1.1;3.end,1.1;") ≡ releases
unfolding computing base64_on_literals chars digits read value_at elements_at
no_stream = refl

-- another type closes what is open
other_type : pasted (codes "9.clipboard,1.1,10.text/plain;9.clipboard,1.2,9.image/png;4.blob,1.1,4.aGk=;3.end,1.1;") ≡ []
unfolding computing base64_on_literals chars digits read value_at elements_at
other_type = refl

-- other instructions are kept, and so is all from a bad byte on, and what is unfinished
kept_around : pasted (codes "3.nop;3.end,1.1;3.nop;x3.end,1.1;") ≡ codes "3.nop;3.nop;x3.end,1.1;"
unfolding computing base64_on_literals chars digits read value_at elements_at
kept_around = refl

unfinished : pasted (codes "3.end,1.1;3.end,1.1") ≡ codes "3.end,1.1"
unfolding computing base64_on_literals chars digits read value_at elements_at
unfinished = refl

-- what instructions ask
wishes : (wish_of (codes "clipboard" ∷ codes "0123456789" ∷ codes "text/plain" ∷ codes "x" ∷ []) ≡ Opens 123456789)
    × (wish_of (codes "clipboard" ∷ codes "01234567890" ∷ codes "text/plain" ∷ []) ≡ Closes)
    × (wish_of (codes "clipboard" ∷ codes "1" ∷ codes "text/plain;charset=utf-8" ∷ []) ≡ Closes)
    × (wish_of (codes "clipboard" ∷ codes "1" ∷ []) ≡ Closes)
    × (wish_of (codes "blob" ∷ codes "7" ∷ codes "aGk=" ∷ []) ≡ Brings 7 (codes "aGk="))
    × (wish_of (codes "blob" ∷ codes "7x" ∷ codes "aGk=" ∷ []) ≡ Idle)
    × (wish_of (codes "blob" ∷ codes "7" ∷ []) ≡ Idle)
    × (wish_of (codes "end" ∷ codes "7" ∷ []) ≡ Ends 7)
    × (wish_of (codes "end" ∷ []) ≡ Idle)
    × (wish_of (codes "ends" ∷ codes "7" ∷ []) ≡ Kept)
wishes = (refl, refl, refl, refl, refl, refl, refl, refl, refl, refl)

-- bits that are left over, a padding that lacks and a line feed don't decode; an empty blob brings nothing
blobs : (clip_after (Some (1, [])) (Brings 1 (codes "aGl=")) ≡ None)
    × (clip_after (Some (1, [])) (Brings 1 (codes "aGk")) ≡ None)
    × (clip_after (Some (1, [])) (Brings 1 (97 ∷ 71 ∷ 107 ∷ 61 ∷ 10 ∷ [])) ≡ None)
    × (clip_after (Some (1, 104 ∷ [])) (Brings 1 []) ≡ Some (1, 104 ∷ []))
unfolding base64_on_literals
blobs = (refl, refl, refl, refl)

-- the keys of characters, at each edge
keysyms : (keysym_of 0x0A ≡ Some 65293) × (keysym_of 0x0D ≡ Some 65293) × (keysym_of 0x09 ≡ Some 65289) × (keysym_of 0x00 ≡ None)
    × (keysym_of 0x1F ≡ None) × (keysym_of 0x20 ≡ Some 0x20) × (keysym_of 0x7E ≡ Some 0x7E) × (keysym_of 0x7F ≡ None)
    × (keysym_of 0x9F ≡ None) × (keysym_of 0xA0 ≡ Some 0xA0) × (keysym_of 0xFF ≡ Some 0xFF) × (keysym_of 0x100 ≡ Some 0x01000100)
    × (keysym_of 0x10FFFF ≡ Some 0x0110FFFF)
keysyms = (refl, refl, refl, refl, refl, refl, refl, refl, refl, refl, refl, refl, refl)

-- CR LF is one Return, LF CR two, and CR before another character one; the euro sign, and a byte that isn't UTF-8
ends_of_lines : (strokes_of false (13 ∷ 10 ∷ []) ≡ strokes_of false (13 ∷ [])) × (strokes_of false (13 ∷ []) ≡ codes "3.key,5.65293,1.1;3.key,5.65293,1.0;")
    × (strokes_of false (10 ∷ 13 ∷ []) ≡ codes "3.key,5.65293,1.1;3.key,5.65293,1.0;3.key,5.65293,1.1;3.key,5.65293,1.0;")
    × (strokes_of true (65 ∷ 10 ∷ []) ≡ codes "3.key,2.65,1.1;3.key,2.65,1.0;3.key,5.65293,1.1;3.key,5.65293,1.0;")
unfolding computing digits
ends_of_lines = (refl, refl, refl, refl)

wide_characters : (strokes_of false (226 ∷ 130 ∷ 172 ∷ []) ≡ codes "3.key,8.16785580,1.1;3.key,8.16785580,1.0;")
    × (strokes_of false (255 ∷ []) ≡ codes "3.key,8.16842749,1.1;3.key,8.16842749,1.0;")
unfolding computing digits
wide_characters = (refl, refl)
