-- Text of an instruction (the Guacamole manual, "The Guacamole protocol"). An element is a list of
-- code points; the text is bytes.
use Rattle.std.specs.Prelude.{ℕ, List, [], ◌∷◌, ◌++◌, length, decimal, codes, if◌then◌else◌, ◌==◌, flat_map, encode_utf8_all}
use Rattle.std.specs.Fmt.{signed_decimal}
use Rattle.gate_model.specs.declared.instr.Instr.{Instr}
use Rattle.gate_model.specs.declared.instr.Instr.TheVariants.{Size, Rect, Cfill, Copy, Sync, Disconnect, Error}
use Rattle.gate_model.specs.text.Statuses.{no_memory, server_busy, not_found, conflict, upstream_not_found, session_closed, bad_request, forbidden, too_many}

-- the number of code points in shortest decimal, `.`, and the value in UTF-8
abbrev pub element : List ℕ → List ℕ
element value = decimal (length value) ++ 46 ∷ encode_utf8_all value

-- an element that isn't the first
abbrev pub next_element : List ℕ → List ℕ
next_element value = 44 ∷ element value

-- the elements with `,` between them and `;` last
abbrev pub text_of_elements : List (List ℕ) → List ℕ
text_of_elements [] = []
text_of_elements (opcode ∷ others) = element opcode ++ flat_map next_element others ++ 59 ∷ []

-- the text of a refusal, by its status; a status that isn't listed has none (this project's own)
abbrev pub refusal_text : ℕ → List ℕ
refusal_text status =
    if status == no_memory then codes "no memory" else (
    if status == server_busy then codes "server busy" else (
    if status == not_found then codes "resource not found" else (
    if status == conflict then codes "resource conflict" else (
    if status == upstream_not_found then codes "upstream not found" else (
    if status == session_closed then codes "session closed" else (
    if status == bad_request then codes "bad request" else (
    if status == forbidden then codes "forbidden" else (
    if status == too_many then codes "too many" else []))))))))

-- what the gateway sends, in the order of the manual's reference; 14 is the mask "over", and 255 is opaque
abbrev pub elements_of : Instr → List (List ℕ)
elements_of (Size layer width height) = codes "size" ∷ signed_decimal layer ∷ decimal width ∷ decimal height ∷ []
elements_of (Rect layer x y width height) = codes "rect" ∷ signed_decimal layer ∷ decimal x ∷ decimal y ∷ decimal width ∷ decimal height ∷ []
elements_of (Cfill layer red green blue) = codes "cfill" ∷ decimal 14 ∷ signed_decimal layer ∷ decimal red ∷ decimal green ∷ decimal blue ∷ decimal 255 ∷ []
elements_of (Copy from x y width height to to_x to_y) = codes "copy" ∷ signed_decimal from ∷ decimal x ∷ decimal y ∷ decimal width ∷ decimal height ∷ decimal 14 ∷ signed_decimal to ∷ decimal to_x ∷ decimal to_y ∷ []
elements_of (Sync stamp) = codes "sync" ∷ decimal stamp ∷ []
elements_of Disconnect = codes "disconnect" ∷ []
elements_of (Error status) = codes "error" ∷ refusal_text status ∷ decimal status ∷ []

unfoldable pub text : Instr → List ℕ
text instr = text_of_elements (elements_of instr)

-- the text of a list of instructions
abbrev pub texts : List Instr → List ℕ
texts instrs = flat_map text instrs
