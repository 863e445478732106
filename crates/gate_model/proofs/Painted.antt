-- The screen of a history keeps its colours, and is of the size in force.
use Rattle.std.proofs.Common.{◌≡◌, ℕ, ◌*◌, List, [], ◌∷◌, ◌++◌, refl, sym, subst, length}
use Rattle.std.specs.Prelude.{IfSome, Option, Some, None}
use Rattle.std.specs.Option.{option_map}
use Rattle.std.proofs.lemmas.List.Elements.{All-replicate}
use Rattle.gate_model.specs.declared.entry.Entry.{Entry}
use Rattle.gate_model.specs.declared.entry.Entry.TheVariants.{Start, Feed, Size, Join, Read, Write, Take, Leave, Close}
use Rattle.gate_model.specs.terminal.Cells.{CellGrid, blank, cell_at, kept_at, place}
use Rattle.gate_model.specs.terminal.Cells as cells
use Rattle.gate_model.specs.terminal.Effects.{effect}
use Rattle.gate_model.specs.terminal.Resizing.{resized, saved_within}
use Rattle.gate_model.specs.terminal.Screens.{Happening, Does, Turns, AreColoured, after_all, happens, shown}
use Rattle.gate_model.specs.terminal.Sizes.{Cut, ScreenSize, size_after}
use Rattle.gate_model.specs.declared.faces.Faces.{Faces}
use Rattle.gate_model.specs.terminal.Terminal.{Saved, Terminal, opening_screen}
use Rattle.gate_model.specs.session.History.{History, at, bytes, columns, faces, rows, cuts, first_size, size_now}
use Rattle.gate_model.specs.session.Steps.{Legal}
use Rattle.gate_model.proofs.Added.{IsNext, next}
use Rattle.gate_model.proofs.CellsKept.{resized_kept}
use Rattle.gate_model.proofs.ScreenLaws.{Coloured, is_plain, mended-keeps, IsPainted, IsPen, coloured-shown, effect-keeps, plain_pen}

resized_painted : (cols rows : ℕ) (t : Terminal) → IsPainted t → IsPainted (resized cols rows t)
resized_painted cols rows t p = record {
  cells = (mended-keeps (cells.resized cols rows t.grid)).painted (resized_kept Coloured is_plain cols rows t.grid p.cells);
  pen = p.pen;
  saved = of_saved t.saved p.saved;
}
  where
    of_saved : (o : Option Saved) → IfSome o (λ s. IsPen s.pen) → IfSome (option_map (saved_within cols rows) o) (λ s. IsPen s.pen)
    of_saved None q = tt
    of_saved (Some s) q = q

after_all_painted : (t : Terminal) (hs : List Happening) → IsPainted t → IsPainted (after_all t hs)
after_all_painted t [] p = p
after_all_painted t (Does c ∷ hs) p = after_all_painted (effect c t) hs ((effect-keeps c t).painted p)
after_all_painted t (Turns s ∷ hs) p = after_all_painted (resized s.columns s.rows t) hs (resized_painted s.columns s.rows t p)

pub opened-painted : (faces : Faces) (c r : ℕ) → IsPainted (opening_screen faces c r)
opened-painted faces c r = record { cells = All-replicate Coloured (r * c) blank is_plain; pen = plain_pen; saved = tt }

pub painted-at : (h : History) → IsPainted (at h)
painted-at h = after_all_painted (opening_screen (faces h) (columns h) (rows h)) (happens (bytes h) (cuts h)) (opened-painted (faces h) (columns h) (rows h))

pub coloured-at : (h : History) → AreColoured (shown (at h)).keys
coloured-at h = coloured-shown (at h) (painted-at h).cells

-- ---- the size in force is that after all changes

size_after-append : (s : ScreenSize) (cs : List Cut) (c : Cut) → size_after s (cs ++ c ∷ []) ≡ c.size
size_after-append s [] c = refl
size_after-append s (d ∷ cs) c = size_after-append d.size cs c

abbrev pub IsInForce : History → Type 0
IsInForce h = size_after (first_size h) (cuts h) ≡ size_now h

next_in_force : (g : History) (e : Entry) → IsNext g e → IsInForce g → IsInForce (e ∷ g)
next_in_force g (Feed bs t frame) n s = s
next_in_force g (Size v c r t frame) n s = size_after-append (first_size g) (cuts g) record { after = length (bytes g); size = record { columns = c; rows = r } }
next_in_force g (Join viewer role first) n s = s
next_in_force g (Read viewer how) n s = s
next_in_force g (Write viewer acts) n s = s
next_in_force g (Take count) n s = s
next_in_force g (Leave viewer) n s = s
next_in_force g (Close cause) n s = s
next_in_force g (Start cols lines mode term faces entries stamp frame) n s = absurd n

pub size-in-force : (h : History) → Legal h → IsInForce h
size-in-force [] l = absurd l
size-in-force (e ∷ []) l = subst (λ (x : Entry). IsInForce (x ∷ [])) (sym l.2.4) refl
size-in-force (e ∷ f ∷ g) l = next_in_force (f ∷ g) e (next e f g l) (size-in-force (f ∷ g) l.0)
