-- How `serve` ends, by the words of its options (this project's own).
use Rattle.std.specs.Prelude.{◌≡◌, ◌⊎◌, ℕ, List, None}
use Rattle.serve_options.specs.Given.{options_given}

-- it ends with 2, 6 or 8 alone. Options that are faulty are told by 2, or for want of memory by 6; 2 tells nothing else,
-- and then nothing was done
pub record IsServeStatus (options : List (List ℕ)) (idle : Type 0) (status : ℕ) : Type 0 where
  pub statuses : (status ≡ 2) ⊎ (status ≡ 6) ⊎ (status ≡ 8)
  pub usage : status ≡ 2 → options_given options ≡ None
  pub refused : options_given options ≡ None → (status ≡ 2) ⊎ (status ≡ 6)
  pub nothing : status ≡ 2 → idle
