-- Worked facts of what viewers are given: by frames that are kept, or by a picture.
use Rattle.std.proofs.Common.{◌≡◌, ℕ, ◌<◌, suc, zero, List, [], ◌∷◌, ◌++◌, length, false, refl, pos, negsuc, arith}
use Rattle.gate_model.specs.declared.faces.Faces.TheVariants.{Ascii}
use Rattle.gate_model.specs.declared.instr.Instr.{Instr}
use Rattle.gate_model.specs.declared.how.How.TheVariants.{Suffix, Fresh as Picture}
use Rattle.gate_model.specs.declared.instr.Instr.TheVariants.{Size, Sync}
use Rattle.gate_model.specs.declared.sharing.Role.TheVariants.{Control}
use Rattle.gate_model.specs.declared.sharing.Share.TheVariants.{Nobody}
use Rattle.gate_model.specs.declared.entry.Entry.TheVariants.{Start, Feed, Join, Read}
use Rattle.gate_model.specs.declared.read_answer.ReadAnswer.TheVariants.{Frames, Fresh}
use Rattle.gate_model.specs.picture.Layers.{nothing}
use Rattle.gate_model.specs.session.History.{History, frames_after}
use Rattle.gate_model.specs.session.Calls.{Updates, updated_as}
use Rattle.gate_model.specs.session.Cost.{picture_cost}
use Rattle.gate_model.specs.session.Delivered.{delivered, position}
use Rattle.gate_model.specs.session.Kept.{kept_of, Covers}
use Rattle.gate_model.specs.session.Whole.{Restores}

abbrev opened : History
opened = Join 1 Control (Sync 1 ∷ []) ∷ Start 1 1 Nobody [] Ascii 1000 1 (Sync 1 ∷ []) ∷ []

abbrev two_more : History
two_more = Feed (66 ∷ []) 3 (Sync 3 ∷ []) ∷ Feed (65 ∷ []) 2 (Sync 2 ∷ []) ∷ opened

-- the owner lacks two frames: it is given both, and told their number
by_frames : (position two_more 1 ≡ 1) × (updated_as two_more 1 Suffix ≡ Frames 2 3 false) × (delivered (Read 1 Suffix ∷ two_more) 1 ≡ Sync 1 ∷ Sync 2 ∷ Sync 3 ∷ [])
by_frames = (refl, refl, refl)

-- a picture takes the place of all that a viewer lacks
by_picture : (updated_as two_more 1 (Picture (Sync 3 ∷ [])) ≡ Fresh 3 false) × (delivered (Read 1 (Picture (Sync 3 ∷ [])) ∷ two_more) 1 ≡ Sync 1 ∷ Sync 3 ∷ [])
by_picture = (refl, refl)

-- so many frames without text, with the stamps from 1 on
abbrev empty_frames : ℕ → List (ℕ × List Instr)
empty_frames zero = []
empty_frames (suc n) = empty_frames n ++ (suc n, []) ∷ []

-- 256 frames are kept, and with the next the oldest goes
all_stay : kept_of (empty_frames 256) ≡ empty_frames 256
all_stay = refl

oldest_goes : length (kept_of (empty_frames 257)) ≡ 256
oldest_goes = refl

-- who was given the oldest one lacks kept frames alone, and who wasn't given it doesn't
still_kept : frames_after 1 (empty_frames 257) ≡ frames_after 1 (kept_of (empty_frames 257))
still_kept = refl

one_gone : (length (frames_after 0 (empty_frames 257)) ≡ 257) × (length (frames_after 0 (kept_of (empty_frames 257))) ≡ 256)
one_gone = (refl, refl)

-- who lacks kept frames alone is given no picture
no_picture : (h : History) (t : ℕ) (is : List Instr) → Covers h t → Updates h t (Picture is) → ⊥
no_picture h t is covers u = u.0 covers

-- a picture of a screen without its glyph buffer restores nothing
abbrev with_buffer : History
with_buffer = Start 1 1 Nobody [] Ascii 1000 1 (Size (pos 0) 8 16 ∷ Size (negsuc 0) 8 16 ∷ Sync 1 ∷ []) ∷ []

without_buffer : Restores with_buffer (Size (pos 0) 8 16 ∷ Sync 1 ∷ []) → ⊥
without_buffer r = no_width 0 8 (r nothing (λ k. refl) (λ k w h. (refl, refl)) (negsuc 0)).width (omega arith)
  where
    no_width : (drawn wanted : ℕ) → drawn ≡ wanted → drawn < wanted → ⊥
    no_width drawn wanted e lt = omega (arith, e, lt)

-- a picture of 80 by 24 has at most so many instructions
of_80_by_24 : picture_cost record { columns = 80; rows = 24 } ≡ 117763
of_80_by_24 = refl
