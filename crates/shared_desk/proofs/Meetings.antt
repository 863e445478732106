-- Two passes that meet: what they know then, what each keeps, and what a read between two meetings found.
use Rattle.std.proofs.Common.{◌≡◌, ◌⊎◌, inl, inr, ⊎_elim, ℕ, ◌≤◌, List, [], ◌∷◌, ◌++◌, length, Bool, true, false, true≢false, refl, ap, sym, ◌∙◌, subst, append-nil, length-append, arith}
use Rattle.std.specs.Prelude.{Contains, Some, None, max, nat_lt, ◌==◌, ◌||◌, if◌then◌else◌}
use Rattle.std.proofs.lemmas.Bool.{eq-eqb, eqb-true, ne_eqb}
use Rattle.gate_model.specs.declared.entry.Entry.{Entry}
use Rattle.gate_model.specs.declared.entry.Entry.TheVariants.{Start, Feed, Size, Join, Read, Write, Take, Leave, Close}
use Rattle.gate_model.specs.session.Delivered.{closing, delivered, ended, farewell_to, is_some_list}
use Rattle.gate_model.specs.session.History.{History}
use Rattle.gate_model.specs.Sequences.{IsLater}
use Rattle.turn_lock.specs.declared.view.View.{View}
use Rattle.turn_lock.specs.Views.{joined, longer, part_of, shorter, HasPlaces, Owns}
use Rattle.turn_lock.proofs.Elements.{contains_cases, contains_none, later_trans}
use Rattle.shared_desk.specs.Called.{Turned}
use Rattle.shared_desk.specs.Marks.{mark_of, reader_mark, writer_mark}
use Rattle.shared_desk.specs.Meetings.{HasMet, HaveMet, after_meeting, is_written_by, written_by}
use Rattle.shared_desk.specs.Members.{IsPass, IsSound, IsViewers}
use Rattle.shared_desk.specs.Own.{entries_at, is_place, own_entries}
use Rattle.shared_desk.proofs.Alone.{Measures, found, found_viewer, keeps_viewers}
use Rattle.shared_desk.proofs.Derived.{own_turn}

-- ---- lists

none_more : (more xs : List Entry) → length (more ++ xs) ≤ length xs → more ++ xs ≡ xs
none_more [] xs le = refl
none_more (e ∷ more) xs le = absurd (omega (arith, le, length-append more xs))

-- two lists that begin each other are one
later_same : (xs ys : List Entry) → IsLater xs ys → IsLater ys xs → xs ≡ ys
later_same xs ys a b = sym (a.1 ∙ none_more a.0 xs (omega (arith, sym (ap length a.1), ap length b.1, length-append b.0 ys)))

longer_when : (b : Bool) (xs ys : List Entry) → ((if b then ys else xs) ≡ xs) ⊎ ((if b then ys else xs) ≡ ys)
longer_when true xs ys = inr refl
longer_when false xs ys = inl refl

longer_is : (xs ys : List Entry) → (longer xs ys ≡ xs) ⊎ (longer xs ys ≡ ys)
longer_is xs ys = longer_when (nat_lt (length xs) (length ys)) xs ys

-- what begins the longer of it and another is that one
longer_same : (xs ys : List Entry) → IsLater xs ys → IsLater ys (longer xs ys) → longer xs ys ≡ ys
longer_same xs ys a b = elim (longer_is xs ys) [
  | inl is ↦ is ∙ later_same xs ys a (subst (IsLater ys) is b)
  | inr is ↦ is
]

sound_one : (seen xs ys : History) → (seen ≡ xs) ⊎ (seen ≡ ys) → IsSound xs → IsSound ys → IsSound seen
sound_one seen xs ys (inl is) x y = subst (λ (h : History). IsSound h) (sym is) x
sound_one seen xs ys (inr is) x y = subst (λ (h : History). IsSound h) (sym is) y

flip : (seen xs ys : History) → (seen ≡ xs) ⊎ (seen ≡ ys) → (seen ≡ ys) ⊎ (seen ≡ xs)
flip seen xs ys (inl is) = inr is
flip seen xs ys (inr is) = inl is

-- ---- the meeting

module _ (v w : View Entry) (p : IsPass v) (q : IsPass w) where
  abbrev seen_of : History
  seen_of = longer w.seen v.seen

  abbrev known_of : ℕ
  known_of = max v.known w.known

  abbrev joined_first : View Entry
  joined_first = joined w (part_of None v)

  first_is : joined_first ≡ after_meeting seen_of (shorter w.seen v.seen) known_of w
  first_is =
      let same : max w.known v.known ≡ known_of = omega arith in
      ap (λ (mine : List ℕ). record w { seen = seen_of; met = shorter w.seen v.seen; known = max w.known v.known; mine = mine }) (append-nil w.mine)
      ∙ ap (λ (k : ℕ). record w { seen = seen_of; met = shorter w.seen v.seen; known = k }) same

  second_is : IsLater v.seen seen_of → IsLater seen_of (longer v.seen seen_of) → joined v (part_of None joined_first) ≡ after_meeting seen_of (shorter v.seen seen_of) known_of v
  second_is a b =
      let same : max v.known (max w.known v.known) ≡ known_of = omega arith in
      ap (λ (mine : List ℕ). record v { seen = longer v.seen seen_of; met = shorter v.seen seen_of; known = max v.known (max w.known v.known); mine = mine }) (append-nil v.mine)
      ∙ (ap (λ (s : History). record v { seen = s; met = shorter v.seen seen_of; known = max v.known (max w.known v.known) }) (longer_same v.seen seen_of a b)
      ∙ ap (λ (k : ℕ). record v { seen = seen_of; met = shorter v.seen seen_of; known = k }) same)

  pub have_met : (v_split own w_one w_two theirs v_two : View Entry)
      → v_split ≡ v → own ≡ part_of None v → w_one ≡ joined w own → IsLater w.seen w_one.seen × IsLater own.seen w_one.seen
      → w_two ≡ w_one → theirs ≡ part_of None w_one → v_two ≡ joined v_split theirs → IsLater v_split.seen v_two.seen × IsLater theirs.seen v_two.seen
      → HasPlaces mark_of v_two → HasPlaces mark_of w_two → HaveMet v w v_two w_two
  have_met v_split own w_one w_two theirs v_two split_is own_is one_is one_begins two_is theirs_is v_is v_begins v_places w_places =
      let one : w_one ≡ joined_first = one_is ∙ ap (joined w) own_is in
      let one_seen : w_one.seen ≡ seen_of = ap (λ (x : View Entry). x.seen) one in
      let two : v_two ≡ joined v (part_of None joined_first) = v_is ∙ (ap (λ (x : View Entry). joined x theirs) split_is ∙ ap (joined v) (theirs_is ∙ ap (part_of None) one)) in
      let w_later : IsLater w.seen seen_of = subst (IsLater w.seen) one_seen one_begins.0 in
      let v_later : IsLater v.seen seen_of = subst (IsLater v.seen) one_seen (subst (λ (x : View Entry). IsLater x.seen w_one.seen) own_is one_begins.1) in
      let both_later : IsLater seen_of (longer v.seen seen_of) = subst (λ (x : View Entry). IsLater seen_of x.seen) two (subst (λ (l : History). IsLater l v_two.seen) (ap (λ (x : View Entry). x.seen) theirs_is ∙ one_seen) v_begins.1) in
      let which = longer_is w.seen v.seen in
      let sound = sound_one seen_of w.seen v.seen which q.sound p.sound in
      record {
        seen = seen_of;
        longer = flip seen_of w.seen v.seen which;
        one = record { later = v_later; sound = sound; within = p.places.places; met = shorter v.seen seen_of; after = two ∙ second_is v_later both_later; places = v_places };
        other = record { later = w_later; sound = sound; within = q.places.places; met = shorter w.seen v.seen; after = two_is ∙ (one ∙ first_is); places = w_places };
      }

-- ---- a viewer's end, which only its own Reads bring

ended_measure : (viewer : ℕ) → Measures (λ (h : History). ended h viewer) (reader_mark viewer)
ended_measure viewer (Start c r m t k n s f) g apart = ap is_some_list (append-nil (farewell_to g viewer))
ended_measure viewer (Feed b s f) g apart = ap is_some_list (append-nil (farewell_to g viewer))
ended_measure viewer (Size w c r s f) g apart = ap is_some_list (append-nil (farewell_to g viewer))
ended_measure viewer (Join w role first) g apart = ap is_some_list (append-nil (farewell_to g viewer))
ended_measure viewer (Read w how) g apart =
    let other : (w == viewer) ≡ false = ne_eqb w viewer (λ is. apart (ap (λ (n : ℕ). Some (reader_mark n)) is)) in
    ap (λ (b : Bool). is_some_list (farewell_to g viewer ++ (if b then closing g else []))) other ∙ ap is_some_list (append-nil (farewell_to g viewer))
ended_measure viewer (Write w acts) g apart = ap is_some_list (append-nil (farewell_to g viewer))
ended_measure viewer (Take n) g apart = ap is_some_list (append-nil (farewell_to g viewer))
ended_measure viewer (Leave w) g apart = ap is_some_list (append-nil (farewell_to g viewer))
ended_measure viewer (Close c) g apart = ap is_some_list (append-nil (farewell_to g viewer))

-- a turn of its reader finds it as it left it
pub found_ended : (viewer : ℕ) (v w : View Entry) (did : History → List Entry → Type 0) → v.mark ≡ Some (reader_mark viewer) → (t : Turned v w did) → ended t.before viewer ≡ ended v.seen viewer
found_ended viewer v w did mark t = found (λ (h : History). ended h viewer) (reader_mark viewer) (ended_measure viewer) v w did mark t

-- ---- what a pass that has met another keeps

module _ (v : View Entry) (seen : History) (known : ℕ) (now : View Entry) (m : HasMet v seen known now) where
  abbrev still : View Entry
  still = record v { known = 0 }

  abbrev further : View Entry
  further = record v { known = 0; seen = seen }

  quiet_places : HasPlaces mark_of (after_meeting seen m.met known v)
  quiet_places = subst (λ (x : View Entry). HasPlaces mark_of x) m.after m.places

  -- it is as after a turn that added nothing
  pub quiet : Turned still further (λ g added. added ≡ [])
  quiet = record {
    before = seen;
    added = [];
    later = m.later;
    known = omega arith;
    legal_before = m.sound.legal;
    sound = m.sound;
    within = m.within;
    owns = quiet_places.owns;
    did_it = refl;
    after = refl;
    places = record { places = quiet_places.places; owns = quiet_places.owns };
  }

  pub keeps_own : own_entries now ≡ own_entries v
  unfolding quiet
  keeps_own = ap own_entries m.after ∙ own_turn still further _ quiet tt

  pub keeps_viewer : (mark viewer : ℕ) → IsViewers mark viewer v → IsViewers mark viewer now
  keeps_viewer mark viewer i =
      let k = keeps_viewers mark viewer still further _ quiet (record { mark = record { mark = i.mark.mark; not_first = i.mark.not_first }; knows = record { first = i.knows.first; joined = i.knows.joined; begun = i.knows.begun } }) in
      subst (λ (x : View Entry). IsViewers mark viewer x) (sym m.after) (record { mark = record { mark = k.mark.mark; not_first = k.mark.not_first }; knows = record { first = k.knows.first; joined = k.knows.joined; begun = k.knows.begun } })

  pub keeps_delivered : (viewer : ℕ) → IsViewers (reader_mark viewer) viewer v → delivered now.seen viewer ≡ delivered v.seen viewer
  unfolding quiet
  keeps_delivered viewer i =
      ap (λ (x : View Entry). delivered x.seen viewer) m.after
      ∙ found_viewer viewer still further _ (record { mark = record { mark = i.mark.mark; not_first = i.mark.not_first }; knows = record { first = i.knows.first; joined = i.knows.joined; begun = i.knows.begun } }) quiet

  pub keeps_mark : now.mark ≡ v.mark
  keeps_mark = ap (λ (x : View Entry). x.mark) m.after

  pub keeps_ended : (viewer : ℕ) → v.mark ≡ Some (reader_mark viewer) → ended now.seen viewer ≡ ended v.seen viewer
  unfolding quiet
  keeps_ended viewer mark = ap (λ (x : View Entry). ended x.seen viewer) m.after ∙ found_ended viewer still further _ mark quiet

  pub now_seen : now.seen ≡ seen
  now_seen = ap (λ (x : View Entry). x.seen) m.after

  pub now_mine : now.mine ≡ v.mine
  now_mine = ap (λ (x : View Entry). x.mine) m.after

-- ---- the Writes and the Sizes of a viewer

or_left : (b c : Bool) → b ≡ true → (b || c) ≡ true
or_left true c is = refl
or_left false c is = absurd (true≢false (sym is))

or_right : (b c : Bool) → c ≡ true → (b || c) ≡ true
or_right true c is = refl
or_right false c is = is

is_there : (ps : List ℕ) (n : ℕ) → Contains ps n → is_place ps n ≡ true
is_there [] n c = absurd (contains_none n c)
is_there (p ∷ ps) n c = ⊎_elim (λ here. or_left (p == n) (is_place ps n) (eq-eqb p n here)) (λ past. or_right (p == n) (is_place ps n) (is_there ps n past)) (contains_cases p n ps c)

written_mark : (viewer : ℕ) (e : Entry) → is_written_by viewer e ≡ true → mark_of e ≡ Some (writer_mark viewer)
written_mark viewer (Write v acts) is = ap (λ (n : ℕ). Some (writer_mark n)) (eqb-true v viewer is)
written_mark viewer (Size v c r s f) is = ap (λ (n : ℕ). Some (writer_mark n)) (eqb-true v viewer is)
written_mark viewer (Start c r m t k n s f) is = absurd (true≢false (sym is))
written_mark viewer (Feed b s f) is = absurd (true≢false (sym is))
written_mark viewer (Join w role first) is = absurd (true≢false (sym is))
written_mark viewer (Read w how) is = absurd (true≢false (sym is))
written_mark viewer (Take n) is = absurd (true≢false (sym is))
written_mark viewer (Leave w) is = absurd (true≢false (sym is))
written_mark viewer (Close c) is = absurd (true≢false (sym is))

one_written : (viewer : ℕ) (e : Entry) (b c : Bool) (xs es : List Entry) → is_written_by viewer e ≡ b → (b ≡ true → c ≡ true) → xs ≡ written_by viewer es → (if b then e ∷ xs else xs) ≡ written_by viewer (if c then e ∷ es else es)
one_written viewer e true true xs es is there so_far = ap (λ (l : List Entry). e ∷ l) so_far ∙ sym (ap (λ (b : Bool). if b then e ∷ written_by viewer es else written_by viewer es) is)
one_written viewer e true false xs es is there so_far = absurd (true≢false (sym (there refl)))
one_written viewer e false true xs es is there so_far = so_far ∙ sym (ap (λ (b : Bool). if b then e ∷ written_by viewer es else written_by viewer es) is)
one_written viewer e false false xs es is there so_far = so_far

-- those that a pass owns are among its own
module _ (viewer : ℕ) (v : View Entry) (mark : v.mark ≡ Some (writer_mark viewer)) where
  owned_in : (h : History) → Owns mark_of h v → written_by viewer h ≡ written_by viewer (entries_at v.mine h)
  owned_in [] owns = refl
  owned_in (e ∷ g) owns =
      one_written viewer e (is_written_by viewer e) (is_place v.mine (length g)) (written_by viewer g) (entries_at v.mine g) refl
      (λ is. is_there v.mine (length g) (owns (writer_mark viewer) (length g) e mark (inl (refl, refl)) (written_mark viewer e is)))
      (owned_in g (λ m p x own at is. owns m p x own (inr at) is))

pub all_written : (viewer : ℕ) (v : View Entry) (seen : History) (known : ℕ) (now : View Entry) → HasMet v seen known now → v.mark ≡ Some (writer_mark viewer) → written_by viewer now.seen ≡ written_by viewer (own_entries now)
all_written viewer v seen known now m mark = owned_in viewer now (ap (λ (x : View Entry). x.mark) m.after ∙ mark) now.seen m.places.owns

-- ---- between two histories

written_if : (b : Bool) (e : Entry) (xs ys zs : List Entry) → xs ≡ ys ++ zs → (if b then e ∷ xs else xs) ≡ (if b then e ∷ ys else ys) ++ zs
written_if true e xs ys zs is = ap (λ (l : List Entry). e ∷ l) is
written_if false e xs ys zs is = is

pub written_split : (viewer : ℕ) (more g : List Entry) → written_by viewer (more ++ g) ≡ written_by viewer more ++ written_by viewer g
written_split viewer [] g = refl
written_split viewer (e ∷ more) g = written_if (is_written_by viewer e) e (written_by viewer (more ++ g)) (written_by viewer more) (written_by viewer g) (written_split viewer more g)

none_of_them : (viewer : ℕ) (more g : History) → length (written_by viewer (more ++ g)) ≤ length (written_by viewer g) → written_by viewer (more ++ g) ≡ written_by viewer g
none_of_them viewer more g few =
    let split = written_split viewer more g in
    split ∙ none_more (written_by viewer more) (written_by viewer g) (omega (arith, ap length split, few))

-- one that lies between two with the same Writes and Sizes of a viewer has no others
pub between : (viewer : ℕ) (a b c : History) → IsLater a b → IsLater b c → written_by viewer c ≡ written_by viewer a → written_by viewer b ≡ written_by viewer a
between viewer a b c x y same =
    let all : length (written_by viewer b) ≤ length (written_by viewer c) =
    omega (arith, ap (λ (h : History). length (written_by viewer h)) y.1, ap length (written_split viewer y.0 b), length-append (written_by viewer y.0) (written_by viewer b)) in
    ap (written_by viewer) x.1 ∙ none_of_them viewer x.0 a (omega (arith, ap (λ (h : History). length (written_by viewer h)) x.1, all, ap length same))

-- a read between two meetings with the writer's pass: what it found has all that the writer had written, and no later
-- Write or Size of the viewer
pub record ReadBehind (viewer : ℕ) (written before found after : History) : Type 0 where
  pub low : IsLater before found
  pub high : IsLater found after
  pub same : written_by viewer found ≡ written

pub read_behind : (viewer : ℕ) (r w r_met w_met r_read r_end w_end : View Entry) (did : History → List Entry → Type 0) → HaveMet r w r_met w_met → (read : Turned r_met r_read did) → HaveMet r_read w_met r_end w_end
    → own_entries w_met ≡ own_entries w → own_entries w_end ≡ own_entries w_met → written_by viewer w_met.seen ≡ written_by viewer (own_entries w_met) → written_by viewer w_end.seen ≡ written_by viewer (own_entries w_end)
    → ReadBehind viewer (written_by viewer (own_entries w)) w.seen read.before w_end.seen
read_behind viewer r w r_met w_met r_read r_end w_end did first read last own_met own_end all_met all_end =
    let met_seen : w_met.seen ≡ first.seen = now_seen _ _ _ _ first.other in
    let low : IsLater first.seen read.before = subst (λ (h : History). IsLater h read.before) (now_seen _ _ _ _ first.one) read.later in
    let end_is : r_read.seen ≡ read.added ++ read.before = ap (λ (x : View Entry). x.seen) read.after in
    let high : IsLater read.before last.seen = later_trans read.before r_read.seen last.seen (read.added, end_is) last.one.later in
    let end_seen : w_end.seen ≡ last.seen = now_seen _ _ _ _ last.other in
    let at_first : written_by viewer first.seen ≡ written_by viewer (own_entries w) = ap (written_by viewer) (sym met_seen) ∙ (all_met ∙ ap (written_by viewer) own_met) in
    let at_last : written_by viewer last.seen ≡ written_by viewer (own_entries w) = ap (written_by viewer) (sym end_seen) ∙ (all_end ∙ ap (written_by viewer) (own_end ∙ own_met)) in
    record {
      low = later_trans w.seen first.seen read.before first.other.later low;
      high = subst (IsLater read.before) (sym end_seen) high;
      same = between viewer first.seen read.before last.seen low high (at_last ∙ sym at_first) ∙ at_first;
    }
