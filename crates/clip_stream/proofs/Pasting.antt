-- What stands in the place of the instruction at the front, and then of what is behind it.
use Rattle.std.proofs.Common.{◌≡◌, ℕ, List, [], ◌∷◌, ◌++◌, take, drop, Some, ap, ◌∙◌, append_assoc}
use Rattle.gate_model.specs.text.Reading.{read}
use Rattle.gate_model.proofs.Cutting.{read-whole, read-unfinished}
use Rattle.guac_framing.specs.Answers.{IsWhole}
use Rattle.guac_framing.specs.Found.{HasNoInstruction}
use Rattle.clip_stream.specs.Clips.{Clip, clip_after, put_for, wish_of}
use Rattle.clip_stream.specs.Fronts.{Sent, instruction_at}
use Rattle.clip_stream.specs.Pasted.{pasted_on, put_all}
use Rattle.clip_stream.proofs.Parsed.{front-none, front-whole, is-head}

pub pasted-step : (clip : Clip) (bytes rest : List ℕ) (sent : Sent) → instruction_at bytes ≡ Some (sent ∷ [], rest)
    → pasted_on clip bytes ≡ put_for clip sent.0 (wish_of sent.1) ++ pasted_on (clip_after clip (wish_of sent.1)) rest
pasted-step clip bytes rest sent e =
    let r = read-whole instruction_at is-head bytes rest (sent ∷ []) e in
    ap (λ (p : List Sent × List ℕ). put_all clip p.0 ++ p.1) r
    ∙ append_assoc (put_for clip sent.0 (wish_of sent.1)) (put_all (clip_after clip (wish_of sent.1)) (read instruction_at rest).0) (read instruction_at rest).1

pub pasted-whole : (clip : Clip) (bytes more : List ℕ) (values : List (List ℕ)) (n : ℕ) → IsWhole bytes values n
    → pasted_on clip (bytes ++ more) ≡ put_for clip (take n bytes) (wish_of values) ++ pasted_on (clip_after clip (wish_of values)) (drop n bytes ++ more)
pasted-whole clip bytes more values n w = pasted-step clip (bytes ++ more) (drop n bytes ++ more) (take n bytes, values) (front-whole bytes more values n w)

-- bytes that begin with no instruction stay
pub pasted-none : (clip : Clip) (bytes : List ℕ) → HasNoInstruction bytes → pasted_on clip bytes ≡ bytes
pasted-none clip bytes none = ap (λ (p : List Sent × List ℕ). put_all clip p.0 ++ p.1) (read-unfinished instruction_at is-head bytes (front-none bytes none))
