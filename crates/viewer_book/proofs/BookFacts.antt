-- Worked facts of books, computed from the definitions.
use Rattle.std.specs.Prelude.{◌≡◌, [], ◌∷◌, true, false, Some, None, refl}
use Rattle.std.proofs.Common.{arith}
use Rattle.gate_model.specs.declared.mods.Mods.{Mods}
use Rattle.gate_model.specs.declared.sharing.Role.TheVariants.{Control, View, Keep}
use Rattle.viewer_book.specs.declared.viewer.Viewer.{Viewer}
use Rattle.gate_model.specs.session.Rights.{none_held}
use Rattle.gate_model.specs.Limits.{most_live, most_joined}
use Rattle.viewer_book.specs.Book.{BookState, AreRising, IsBook, has_number, viewer_at, is_live, live_count, nobody, newcomer, added, changed, removed, holding, moved_to, acknowledging, ended_at}

sixty_four_live : most_live ≡ 64
sixty_four_live = refl

a_million_joined : most_joined ≡ 1000000
a_million_joined = refl

nothing_is_held : none_held ≡ record { control_left = false; control_right = false; alt_left = false; alt_right = false }
nothing_is_held = refl

a_recorder_joins : newcomer 7 Keep 12 ≡ record { number = 7; role = Keep; position = 12; waiting = []; ended = false; mods = none_held }
a_recorder_joins = refl

-- an owner, who joined at stamp 1, and one who looks on since stamp 6
abbrev owner : Viewer
owner = newcomer 1 Control 1

abbrev onlooker : Viewer
onlooker = newcomer 2 View 6

abbrev two : BookState
two = record { joined = 2; viewers = owner ∷ onlooker ∷ [] }

they_have_joined : added (added nobody Control 1) View 6 ≡ two
they_have_joined = refl

-- ---- what a book tells

own_number : has_number 2 onlooker ≡ true
own_number = refl

number_of_another : has_number 1 onlooker ≡ false
number_of_another = refl

first_is_found : viewer_at two 1 ≡ Some owner
first_is_found = refl

second_is_found : viewer_at two 2 ≡ Some onlooker
second_is_found = refl

third_is_missing : viewer_at two 3 ≡ None
third_is_missing = refl

second_is_live : is_live two 2 ≡ true
second_is_live = refl

nobody_has_number_0 : is_live two 0 ≡ false
nobody_has_number_0 = refl

two_are_live : live_count two ≡ 2
two_are_live = refl

nobody_is_live : live_count nobody ≡ 0
nobody_is_live = refl

-- ---- what a call makes of it

second_moves_on : changed two 2 (moved_to 9) ≡ record { joined = 2; viewers = owner ∷ record { number = 2; role = View; position = 9; waiting = 6 ∷ 9 ∷ []; ended = false; mods = none_held } ∷ [] }
second_moves_on = refl

first_ends : changed two 1 (ended_at 6) ≡ record { joined = 2; viewers = record { number = 1; role = Control; position = 6; waiting = 1 ∷ []; ended = true; mods = none_held } ∷ onlooker ∷ [] }
first_ends = refl

-- a recorder's stamps don't wait
recorder_moves_on : moved_to 9 (newcomer 7 Keep 6) ≡ newcomer 7 Keep 9
recorder_moves_on = refl

-- an acknowledgement takes what is up to its stamp, given or not, and one above the position has no effect
abbrev behind : Viewer
behind = moved_to 9 (moved_to 6 owner)

all_wait : behind.waiting ≡ 1 ∷ 6 ∷ 9 ∷ []
all_wait = refl

none_below : acknowledging 0 behind ≡ behind
none_below = refl

first_two_are_acknowledged : acknowledging 6 behind ≡ record behind { waiting = 9 ∷ [] }
first_two_are_acknowledged = refl

between_stamps : acknowledging 8 behind ≡ record behind { waiting = 9 ∷ [] }
between_stamps = refl

all_are_acknowledged : acknowledging 9 behind ≡ record behind { waiting = [] }
all_are_acknowledged = refl

not_given_yet : acknowledging 10 behind ≡ behind
not_given_yet = refl

abbrev control_held : Mods
control_held = record none_held { control_left = true }

first_holds_control : changed two 1 (holding control_held) ≡ record { joined = 2; viewers = record { number = 1; role = Control; position = 1; waiting = 1 ∷ []; ended = false; mods = control_held } ∷ onlooker ∷ [] }
first_holds_control = refl

no_third_to_change : changed two 3 (moved_to 9) ≡ two
no_third_to_change = refl

first_leaves : removed two 1 ≡ record { joined = 2; viewers = onlooker ∷ [] }
first_leaves = refl

no_third_to_leave : removed two 3 ≡ two
no_third_to_leave = refl

-- the next viewer after the second has left is the third
numbers_go_on : added (removed two 2) View 7 ≡ record { joined = 3; viewers = owner ∷ newcomer 3 View 7 ∷ [] }
numbers_go_on = refl

-- ---- which lists are a book's

two_are_a_book : IsBook two
two_are_a_book = record { few_live = omega arith; few_joined = omega arith; rising = (omega arith, omega arith, (omega arith, omega arith, tt)) }

numbers_dont_fall : AreRising 0 2 (onlooker ∷ owner ∷ []) → ⊥
numbers_dont_fall r = omega (arith, r.2.0)

no_number_stands_twice : AreRising 0 2 (owner ∷ owner ∷ []) → ⊥
no_number_stands_twice r = omega (arith, r.2.0)

no_number_beyond_those_given : AreRising 0 1 (owner ∷ onlooker ∷ []) → ⊥
no_number_beyond_those_given r = omega (arith, r.2.1)

no_number_0 : AreRising 0 2 (newcomer 0 View 6 ∷ []) → ⊥
no_number_0 r = omega (arith, r.0)
