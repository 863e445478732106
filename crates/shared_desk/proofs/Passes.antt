-- What holds of every pass is kept by each step outside a turn.
use Rattle.std.proofs.Common.{◌≡◌, ℕ, length, Bool, true, false, sym, subst}
use Rattle.std.specs.Prelude.{Contains, Option, Some, None, nat_lt, if◌then◌else◌}
use Rattle.gate_model.specs.declared.entry.Entry.{Entry}
use Rattle.gate_model.specs.session.History.{History}
use Rattle.gate_model.specs.Sequences.{IsLater}
use Rattle.turn_lock.specs.declared.view.View.{View}
use Rattle.turn_lock.specs.Views.{knowing, giving, part_of, joined, HasPlaces}
use Rattle.shared_desk.specs.Marks.{mark_of}
use Rattle.shared_desk.specs.Members.{IsPass, IsSound}

pub is_pass_at : (v w : View Entry) → w ≡ v → IsPass v → IsPass w
is_pass_at v w is p = subst (λ (z : View Entry). IsPass z) (sym is) p

pub is_pass-knowing : (n : ℕ) (v : View Entry) → IsPass v → IsPass (knowing n v)
is_pass-knowing n v p = record { places = record { places = p.places.places; owns = p.places.owns }; sound = p.sound }

pub is_pass-giving : (m : Option ℕ) (v : View Entry) → IsPass v → IsPass (giving m v)
is_pass-giving None v p = p
is_pass-giving (Some m) v p = record { places = record { places = p.places.places; owns = p.places.owns }; sound = p.sound }

pub is_pass-part : (m : Option ℕ) (v w : View Entry) → w ≡ part_of m v → HasPlaces mark_of w → IsPass v → IsPass w
is_pass-part m v w is places p = record { places = places; sound = subst (λ (z : View Entry). IsSound z.seen) (sym is) p.sound }

sound_either : (b : Bool) (xs ys : History) → IsSound xs → IsSound ys → IsSound (if b then ys else xs)
sound_either true xs ys x y = y
sound_either false xs ys x y = x

pub is_pass-joined : (v u w : View Entry) → w ≡ joined v u → HasPlaces mark_of w → IsPass v → IsPass u → IsPass w
is_pass-joined v u w is places p q = record { places = places; sound = subst (λ (z : View Entry). IsSound z.seen) (sym is) (sound_either (nat_lt (length v.seen) (length u.seen)) v.seen u.seen p.sound q.sound) }

-- what a join tells of two views, told of their equals
pub begins_at : (a a0 b b0 : View Entry) (n : History) → a ≡ a0 → b ≡ b0 → IsLater a.seen n × IsLater b.seen n → IsLater a0.seen n × IsLater b0.seen n
begins_at a a0 b b0 n is other l = (subst (λ (v : View Entry). IsLater v.seen n) is l.0, subst (λ (v : View Entry). IsLater v.seen n) other l.1)

pub apart_at : (a a0 b b0 : View Entry) → a ≡ a0 → b ≡ b0 → ((p : ℕ) → Contains a.mine p → ¬ (Contains b.mine p)) → (p : ℕ) → Contains a0.mine p → ¬ (Contains b0.mine p)
apart_at a a0 b b0 is other apart p x y = apart p (subst (λ (v : View Entry). Contains v.mine p) (sym is) x) (subst (λ (v : View Entry). Contains v.mine p) (sym other) y)
