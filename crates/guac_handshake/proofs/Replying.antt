-- The text of `ready`.
use Rattle.std.proofs.Common.{◌≡◌, ℕ, List, [], ◌∷◌, ◌++◌, codes, refl, ap, sym, ◌∙◌, append-nil}
use Rattle.std.specs.Str.{chars}
use Rattle.gate_model.specs.text.Text.{element}
use Rattle.guac_handshake.specs.Texts.{ready_text}

ready_word : chars (codes "ready") ≡ codes "ready"
unfolding chars
ready_word = refl

pub ready_parts : (a b c id none : List ℕ) → none ≡ [] → a ≡ none ++ element (chars (codes "ready")) → b ≡ a ++ 44 ∷ element (chars id) → c ≡ b ++ 59 ∷ [] → c ≡ ready_text id
ready_parts a b c id none en ea eb ec =
    ec
    ∙ ap (λ (l : List ℕ). l ++ 59 ∷ [])
    (eb
    ∙ ap (λ (l : List ℕ). l ++ 44 ∷ element (chars id)) (ea ∙ ap (λ (l : List ℕ). l ++ element (chars (codes "ready"))) en ∙ ap element ready_word)
    ∙ ap (λ (l : List ℕ). element (codes "ready") ++ 44 ∷ l) (sym (append-nil (element (chars id)))))
