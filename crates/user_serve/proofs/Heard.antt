-- What an intake hears and writes, step by step.
use Rattle.std.proofs.Common.{◌≡◌, ℕ, ◌+◌, ◌≤◌, ◌⊎◌, inl, inr, ⊎_elim, List, [], ◌∷◌, ◌++◌, Bool, true, false, Option, Some, None, refl, ap, sym, ◌∙◌, subst, take, drop, append_assoc, append-nil, length, length-append, arith}
use Rattle.std.specs.Prelude.{Result, Ok, Err, ◌||◌, if◌then◌else◌}
use Rattle.std.proofs.lemmas.List.{drop-drop, take-append-drop}
use Rattle.gate_model.specs.declared.act.Act.{Act}
use Rattle.gate_model.specs.declared.act.Act.TheVariants.{Key, Mouse, Sync, Size, Nop, Disconnect}
use Rattle.gate_model.specs.declared.entry.Entry.{Entry}
use Rattle.gate_model.specs.declared.entry.Entry.TheVariants.{Close}
use Rattle.gate_model.specs.declared.write_refusal.WriteRefusal.{WriteRefusal}
use Rattle.gate_model.specs.declared.write_refusal.WriteRefusal.TheVariants.{NoViewer as write_no_viewer, Closed as write_closed, Worn as write_worn, NoMemory as write_no_memory}
use Rattle.gate_model.specs.text.ClientMeaning.{act_of}
use Rattle.gate_outside.specs.Edge.{AtEnd, came}
use Rattle.gate_outside.proofs.Moved.{came-came, came-none}
use Rattle.guac_framing.specs.Answers.{IsWhole}
use Rattle.guac_framing.specs.Found.{IsUnfinished, IsBadAt}
use Rattle.guac_framing.specs.declared.next.BadAt.{BadAt}
use Rattle.guac_handshake.specs.Splits.{IsInstruction, Splits}
use Rattle.turn_lock.specs.declared.view.View.{View}
use Rattle.turn_lock.proofs.Elements.{later_refl}
use Rattle.shared_desk.specs.Members.{IsSound, KnowsViewer}
use Rattle.shared_desk.specs.Own.{own_entries}
use Rattle.shared_desk.proofs.Lasting.{closes_seen, full_stays, later_contains, left_seen, some_seen}
use Rattle.viewer_acts.specs.Parts.{Others, Part, Sized, joined, parts_of, size_in, with_first}
use Rattle.viewer_acts.specs.Doing.{GoesOn, IsStoppedByMemory, StopCause as PartCause, WritesParts, WritesSome}
use Rattle.viewer_acts.specs.Leaving.{LeftNow}
use Rattle.viewer_acts.proofs.Cuts.{are_parts, joined_more, joined_of, parts_more}
use Rattle.viewer_acts.proofs.Doings.{done_on, none_done, parts_done, parts_stay, stopped_on}
use Rattle.user_serve.specs.Intakes.{HasHeard, HasRead, HasTaken, HasWritten, HasDoneAll, HearStop, Hears, IntakeCause, IntakeRun, IsRefused, Leaves, MayEnd, MayLose, ReadStop, RefusalCause, StopCause, WantsMemory, Whole, More, Broken, acts_in, acts_of, end_of, ends_in, is_disconnect}
use Rattle.user_serve.specs.declared.ends.IntakeEnd.{IntakeEnd}
use Rattle.user_serve.specs.declared.ends.IntakeEnd.TheVariants.{Disconnected, ReadFault, Bad, Left, Closed, Worn, NoMemory}

-- ---- one write

-- one act is one part
single : (act : Act) → (part : Part) × (parts_of (act ∷ []) ≡ part ∷ [])
single act = by (size_in act) refl
  where
    by : (o : Option (ℕ × ℕ)) → size_in act ≡ o → (part : Part) × (parts_of (act ∷ []) ≡ part ∷ [])
    by None is = (Others (act ∷ []), ap (λ (x : Option (ℕ × ℕ)). with_first x act []) is)
    by (Some size) is = (Sized size, ap (λ (x : Option (ℕ × ℕ)). with_first x act []) is)

-- .. so where it was refused none was done before
none_before : (part lost : Part) (parts left : List Part) → part ∷ [] ≡ parts ++ lost ∷ left → parts ≡ []
none_before part lost [] left e = refl
none_before part lost (x ∷ parts) left e = absurd (omega (arith, ap length e, length-append parts (lost ∷ left)))

refused_none : (viewer : ℕ) (v w : View Entry) (act : Act) (r : WriteRefusal) → (s : WritesSome viewer v w (act ∷ []) r) → own_entries w ≡ own_entries v
refused_none viewer v w act r s =
    let k = single act in
    let none : s.parts ≡ [] = none_before k.0 s.lost s.parts s.left (sym k.1 ∙ s.split) in
    let wrote : WritesParts viewer v w [] = subst (λ (ps : List Part). WritesParts viewer v w ps) none s.wrote in
    wrote.own ∙ ap (λ (es : List Entry). es ++ own_entries v) wrote.done.did.0

refusal_cause : (viewer : ℕ) (w : View Entry) (r : WriteRefusal) → IsSound w.seen → KnowsViewer viewer w → PartCause r viewer w.seen → RefusalCause (end_of r) viewer w.seen
refusal_cause viewer w write_no_viewer sound k c = record { gone = c; left = left_seen viewer k.first w.seen sound.legal k.joined c }
refusal_cause viewer w (write_closed x) sound k c = closes_seen w.seen x c
refusal_cause viewer w (write_worn n) sound k c = (c, sound.legal)
refusal_cause viewer w write_no_memory sound k c = c

refused : (viewer : ℕ) (act : Act) (v w : View Entry) (r : WriteRefusal) → IsSound w.seen → KnowsViewer viewer w → WritesSome viewer v w (act ∷ []) r → IsRefused viewer v w (end_of r)
refused viewer act v w r sound k s = record { goes_on = s.wrote.done.goes_on; own = refused_none viewer v w act r s; cause = refusal_cause viewer w r sound k s.cause }

pub refused_as : (viewer other : ℕ) (act : Act) (v w : View Entry) (r : WriteRefusal) (end : IntakeEnd) → other ≡ viewer → end ≡ end_of r → IsSound w.seen → KnowsViewer other w → WritesSome viewer v w (act ∷ []) r → IsRefused viewer v w end
refused_as viewer other act v w r end same is sound k s = subst (λ (x : IntakeEnd). IsRefused viewer v w x) (sym is) (refused viewer act v w r sound (subst (λ (n : ℕ). KnowsViewer n w) same k) s)

-- ---- the act of one instruction

-- an act that isn't an end
pub record IsOther (viewer : ℕ) (o : Option Act) : Type 0 where
  pub act : Act
  pub is : o ≡ Some act
  pub acts : acts_in o ≡ act ∷ []
  pub no_end : is_disconnect o ≡ false
  pub taken : (u w : View Entry) (r : Result (Unit {0}) IntakeEnd) → HasTaken viewer o u w r → HasWritten viewer act u w r

other : (viewer : ℕ) (act : Act) → acts_in (Some act) ≡ act ∷ [] → is_disconnect (Some act) ≡ false → ((u w : View Entry) (r : Result (Unit {0}) IntakeEnd) → HasTaken viewer (Some act) u w r → HasWritten viewer act u w r) → IsOther viewer (Some act)
other viewer act acts no_end taken = record { act = act; is = refl; acts = acts; no_end = no_end; taken = taken }

kind : (viewer : ℕ) (o : Option Act) → (o ≡ None) ⊎ ((o ≡ Some Disconnect) ⊎ IsOther viewer o)
kind viewer None = inl refl
kind viewer (Some Disconnect) = inr (inl refl)
kind viewer (Some (Key k p)) = inr (inr (other viewer (Key k p) refl refl (λ u w r t. t)))
kind viewer (Some (Mouse x y m)) = inr (inr (other viewer (Mouse x y m) refl refl (λ u w r t. t)))
kind viewer (Some (Sync s)) = inr (inr (other viewer (Sync s) refl refl (λ u w r t. t)))
kind viewer (Some (Size a b)) = inr (inr (other viewer (Size a b) refl refl (λ u w r t. t)))
kind viewer (Some Nop) = inr (inr (other viewer Nop refl refl (λ u w r t. t)))

pub taken_other : (viewer : ℕ) (act : Act) (u w : View Entry) (r : Result (Unit {0}) IntakeEnd) → is_disconnect (Some act) ≡ false → HasWritten viewer act u w r → HasTaken viewer (Some act) u w r
taken_other viewer Disconnect u w r apart t = absurd (let z : true ≡ false = apart in cc)
taken_other viewer (Key k p) u w r apart t = t
taken_other viewer (Mouse x y m) u w r apart t = t
taken_other viewer (Sync s) u w r apart t = t
taken_other viewer (Size a b) u w r apart t = t
taken_other viewer Nop u w r apart t = t

pub taken_end : (viewer : ℕ) (act : Act) (u : View Entry) → is_disconnect (Some act) ≡ true → HasTaken viewer (Some act) u u (Err Disconnected)
taken_end viewer Disconnect u is = (refl, refl)
taken_end viewer (Key k p) u is = absurd (let z : false ≡ true = is in cc)
taken_end viewer (Mouse x y m) u is = absurd (let z : false ≡ true = is in cc)
taken_end viewer (Sync s) u is = absurd (let z : false ≡ true = is in cc)
taken_end viewer (Size a b) u is = absurd (let z : false ≡ true = is in cc)
taken_end viewer Nop u is = absurd (let z : false ≡ true = is in cc)

-- the same of the option that holds the act
pub option_other : (viewer : ℕ) (o : Option Act) (act : Act) (u w : View Entry) (r : Result (Unit {0}) IntakeEnd) → o ≡ Some act → is_disconnect (Some act) ≡ false → HasWritten viewer act u w r → HasTaken viewer o u w r
option_other viewer o act u w r is apart t = subst (λ (x : Option Act). HasTaken viewer x u w r) (sym is) (taken_other viewer act u w r apart t)

pub option_end : (viewer : ℕ) (o : Option Act) (act : Act) (u : View Entry) → o ≡ Some act → is_disconnect (Some act) ≡ true → HasTaken viewer o u u (Err Disconnected)
option_end viewer o act u is end = subst (λ (x : Option Act). HasTaken viewer x u u (Err Disconnected)) (sym is) (taken_end viewer act u end)

-- ---- one reading

-- bytes that came behind those that are unread
pub read_some : (old new : Option (List ℕ)) (before after bytes : List ℕ) (d : Unit {0}) → old ≡ came bytes new → after ≡ before ++ bytes → HasRead old new before after (Ok d)
read_some old new before after bytes d is then_ = (bytes, is, then_)

-- none, at the end
pub read_none : (old new : Option (List ℕ)) (before after piece : List ℕ) (n : ℕ) → n ≡ 0 → AtEnd old → old ≡ came (take n piece) new → after ≡ before ++ take n piece → HasRead old new before after (Err Disconnected)
read_none old new before after piece n zero end is then_ =
    let same : old ≡ new = is ∙ (ap (λ (k : ℕ). came (take k piece) new) zero ∙ came-none new) in
    (same, then_ ∙ (ap (λ (k : ℕ). before ++ take k piece) zero ∙ append-nil before), subst AtEnd same end)

-- ---- one step

module _ (viewer : ℕ) (v w : View Entry) (old new : Option (List ℕ)) (rest slice : List ℕ) (at : ℕ) (r : Result (Unit {0}) IntakeEnd) (is : slice ≡ drop at rest) where
  pub step_whole : (values : List (List ℕ)) (n : ℕ) (act : Option Act) → IsWhole slice values n → act ≡ act_of values → HasTaken viewer act v w r → HasHeard viewer v w old old (drop at rest) (drop (at + n) rest) r
  step_whole values n act whole asks t = Whole refl record {
    own = take n slice;
    values = values;
    is_instruction = (whole.elements, whole.spelled, whole.texts);
    split = sym is ∙ (sym (take-append-drop n slice) ∙ ap (λ (bs : List ℕ). take n slice ++ bs) (ap (drop n) is ∙ drop-drop n at rest));
    taken = subst (λ (o : Option Act). HasTaken viewer o v w r) asks t;
  }

  pub step_more : (after : List ℕ) (at1 : ℕ) → at1 ≡ 0 → IsUnfinished slice → HasRead old new (drop at rest) after r → HasHeard viewer v v old new (drop at rest) (drop at1 after) r
  step_more after at1 zero unfinished read =
      subst (λ (k : ℕ). HasHeard viewer v v old new (drop at rest) (drop k after) r) (sym zero) (More record { same = refl; unfinished = subst IsUnfinished is unfinished; read = read })

pub step_bad : (viewer : ℕ) (v : View Entry) (old : Option (List ℕ)) (rest slice : List ℕ) (at : ℕ) (k : BadAt) → slice ≡ drop at rest → IsBadAt slice k → HasHeard viewer v v old old (drop at rest) (drop at rest) (Err (Bad k))
step_bad viewer v old rest slice at k is bad = Broken refl record { same = (refl, refl); at = k; bad = subst (λ (bs : List ℕ). IsBadAt bs k) is bad; is = refl }

-- ---- instructions, one after the other

splits_more : (text : List ℕ) (heard : List (List (List ℕ))) (rest own after : List ℕ) (values : List (List ℕ)) → Splits text heard rest → IsInstruction own values → rest ≡ own ++ after → Splits text (heard ++ values ∷ []) after
splits_more text [] rest own after values s is split = (own, after, is, s ∙ split, refl)
splits_more text (x ∷ heard) rest own after values s is split = (s.0, s.1, s.2, s.3, splits_more s.1 heard rest own after values s.4 is split)

splits_longer : (text : List ℕ) (heard : List (List (List ℕ))) (rest more : List ℕ) → Splits text heard rest → Splits (text ++ more) heard (rest ++ more)
splits_longer text [] rest more s = ap (λ (bs : List ℕ). bs ++ more) s
splits_longer text (x ∷ heard) rest more s = (s.0, s.1 ++ more, s.2, ap (λ (bs : List ℕ). bs ++ more) s.3 ∙ append_assoc s.0 s.1 more, splits_longer s.1 heard rest more s.4)

acts_more : (heard : List (List (List ℕ))) (values : List (List ℕ)) → acts_of (heard ++ values ∷ []) ≡ acts_of heard ++ acts_in (act_of values)
acts_more [] values = append-nil (acts_in (act_of values))
acts_more (x ∷ heard) values = ap (λ (ys : List Act). acts_in (act_of x) ++ ys) (acts_more heard values) ∙ sym (append_assoc (acts_in (act_of x)) (acts_of heard) (acts_in (act_of values)))

or_last : (b : Bool) → (b || false) ≡ b
or_last true = refl
or_last false = refl

or_more : (a b c d : Bool) → (a || b) ≡ false → (b ≡ false → c ≡ d) → (a || c) ≡ d
or_more true b c d o then_ = absurd (let z : true ≡ false = o in cc)
or_more false b c d o then_ = then_ o

ends_more : (heard : List (List (List ℕ))) (values : List (List ℕ)) → ends_in heard ≡ false → ends_in (heard ++ values ∷ []) ≡ is_disconnect (act_of values)
ends_more [] values none = or_last (is_disconnect (act_of values))
ends_more (x ∷ heard) values none = or_more (is_disconnect (act_of x)) (ends_in heard) (ends_in (heard ++ values ∷ [])) (is_disconnect (act_of values)) none (λ n. ends_more heard values n)

-- ---- so far

pub heard_none : (viewer : ℕ) (v : View Entry) (bytes : List ℕ) → HasDoneAll viewer v v bytes bytes
heard_none viewer v bytes = record { heard = []; splits = refl; no_end = refl; parts = []; are_parts = tt; wrote = none_done viewer v; acts = refl }

-- bytes came
all_longer : (viewer : ℕ) (v u w : View Entry) (bytes rest more : List ℕ) → w ≡ u → HasDoneAll viewer v u bytes rest → HasDoneAll viewer v w (bytes ++ more) (rest ++ more)
all_longer viewer v u w bytes rest more is s = subst (λ (z : View Entry). HasDoneAll viewer v z (bytes ++ more) (rest ++ more)) (sym is) record {
  heard = s.heard;
  splits = splits_longer bytes s.heard rest more s.splits;
  no_end = s.no_end;
  parts = s.parts;
  are_parts = s.are_parts;
  wrote = s.wrote;
  acts = s.acts;
}

-- an instruction was taken up
module _ (viewer : ℕ) (v u w : View Entry) (bytes rest after : List ℕ) (s : HasDoneAll viewer v u bytes rest) (own : List ℕ) (values : List (List ℕ)) (is : IsInstruction own values) (split : rest ≡ own ++ after) where
  all_silent : act_of values ≡ None → w ≡ u → HasDoneAll viewer v w bytes after
  all_silent none same = subst (λ (z : View Entry). HasDoneAll viewer v z bytes after) (sym same) record {
    heard = s.heard ++ values ∷ [];
    splits = splits_more bytes s.heard rest own after values s.splits is split;
    no_end = ends_more s.heard values s.no_end ∙ ap is_disconnect none;
    parts = s.parts;
    are_parts = s.are_parts;
    wrote = s.wrote;
    acts = acts_more s.heard values ∙ (ap (λ (o : Option Act). acts_of s.heard ++ acts_in o) none ∙ (append-nil (acts_of s.heard) ∙ s.acts));
  }

  all_written : (k : IsOther viewer (act_of values)) → WritesParts viewer u w (parts_of (k.act ∷ [])) → HasDoneAll viewer v w bytes after
  all_written k done = let more = parts_of (k.act ∷ []) in record {
    heard = s.heard ++ values ∷ [];
    splits = splits_more bytes s.heard rest own after values s.splits is split;
    no_end = ends_more s.heard values s.no_end ∙ k.no_end;
    parts = s.parts ++ more;
    are_parts = parts_more s.parts more s.are_parts (are_parts (k.act ∷ []));
    wrote = parts_done viewer v u w s.parts more s.wrote done;
    acts = acts_more s.heard values ∙ (ap (λ (x : List Act). acts_of s.heard ++ x) k.acts ∙ (ap (λ (x : List Act). x ++ k.act ∷ []) s.acts ∙ sym (joined_more s.parts more ∙ ap (λ (x : List Act). joined s.parts ++ x) (joined_of (k.act ∷ [])))));
  }

  hears_last : Hears bytes after (s.heard ++ values ∷ [])
  hears_last = record { splits = splits_more bytes s.heard rest own after values s.splits is split; before = s.heard; last = inr (values, refl); open_before = s.no_end }

  stop_end : (left : Option (List ℕ)) → act_of values ≡ Some Disconnect → w ≡ u → HearStop viewer v w bytes after left Disconnected
  stop_end left end same = subst (λ (z : View Entry). HearStop viewer v z bytes after left Disconnected) (sym same) record {
    heard = s.heard ++ values ∷ [];
    hears = hears_last;
    parts = s.parts;
    are_parts = s.are_parts;
    wrote = s.wrote;
    lost = [];
    acts = acts_more s.heard values ∙ (ap (λ (o : Option Act). acts_of s.heard ++ acts_in o) end ∙ ap (λ (x : List Act). x ++ []) s.acts);
    loses = refl;
    cause = inl (ends_more s.heard values s.no_end ∙ ap is_disconnect end);
  }

  one_lost : (act : Act) (end : IntakeEnd) → RefusalCause end viewer w.seen → MayLose end (act ∷ [])
  one_lost act Left c = omega arith
  one_lost act (Closed x) c = omega arith
  one_lost act Worn c = omega arith
  one_lost act NoMemory c = omega arith
  one_lost act Disconnected c = absurd c
  one_lost act ReadFault c = absurd c
  one_lost act (Bad at) c = absurd c

  stops_for : (left : Option (List ℕ)) (act : Act) (end : IntakeEnd) → RefusalCause end viewer w.seen → StopCause end viewer (s.heard ++ values ∷ []) (act ∷ []) after left w.seen
  stops_for left act Left c = c
  stops_for left act (Closed x) c = c
  stops_for left act Worn c = c
  stops_for left act NoMemory c = inr (refl, c)
  stops_for left act Disconnected c = absurd c
  stops_for left act ReadFault c = absurd c
  stops_for left act (Bad at) c = absurd c

  stop_refused : (left : Option (List ℕ)) (end : IntakeEnd) (k : IsOther viewer (act_of values)) → IsRefused viewer u w end → HearStop viewer v w bytes after left end
  stop_refused left end k r = record {
    heard = s.heard ++ values ∷ [];
    hears = hears_last;
    parts = s.parts;
    are_parts = s.are_parts;
    wrote = parts_stay viewer v u w s.parts s.wrote r.goes_on r.own;
    lost = k.act ∷ [];
    acts = acts_more s.heard values ∙ (ap (λ (x : List Act). acts_of s.heard ++ x) k.acts ∙ ap (λ (x : List Act). x ++ k.act ∷ []) s.acts);
    loses = one_lost k.act end r.cause;
    cause = stops_for left k.act end r.cause;
  }

  -- by what the instruction asks for
  pub took_on : (d : Unit {0}) → HasTaken viewer (act_of values) u w (Ok d) → HasDoneAll viewer v w bytes after
  took_on d t = ⊎_elim (λ none. let k = subst (λ (o : Option Act). HasTaken viewer o u w (Ok d)) none t in all_silent none k.0)
      (λ some. ⊎_elim (λ end. let k = subst (λ (o : Option Act). HasTaken viewer o u w (Ok d)) end t in absurd (let z : Ok d ≡ Err Disconnected = k.1 in cc)) (λ k. all_written k (k.taken u w (Ok d) t)) some) (kind viewer (act_of values))

  pub took_last : (left : Option (List ℕ)) (end : IntakeEnd) → HasTaken viewer (act_of values) u w (Err end) → HearStop viewer v w bytes after left end
  took_last left end t = ⊎_elim (λ none. let k = subst (λ (o : Option Act). HasTaken viewer o u w (Err end)) none t in absurd (let z : Err end ≡ Ok tt = k.1 in cc))
      (λ some. ⊎_elim (λ ends. let k = subst (λ (o : Option Act). HasTaken viewer o u w (Err end)) ends t in
      let is_end : Disconnected ≡ end = (let z : Err end ≡ Err Disconnected = k.1 in cc) in subst (λ (x : IntakeEnd). HearStop viewer v w bytes after left x) is_end (stop_end left ends k.0)) (λ k. stop_refused left end k (k.taken u w (Err end) t)) some) (kind viewer (act_of values))

-- nothing more came
stop_plain : (viewer : ℕ) (v u w : View Entry) (bytes rest after : List ℕ) (left : Option (List ℕ)) (end : IntakeEnd) → HasDoneAll viewer v u bytes rest → w ≡ u → after ≡ rest → MayLose end [] → ((heard : List (List (List ℕ))) → StopCause end viewer heard [] rest left u.seen) → HearStop viewer v w bytes after left end
stop_plain viewer v u w bytes rest after left end s same is loses why =
    subst (λ (z : View Entry). HearStop viewer v z bytes after left end) (sym same) (subst (λ (bs : List ℕ). HearStop viewer v u bytes bs left end) (sym is) record {
      heard = s.heard;
      hears = record { splits = s.splits; before = s.heard; last = inl refl; open_before = s.no_end };
      parts = s.parts;
      are_parts = s.are_parts;
      wrote = s.wrote;
      lost = [];
      acts = s.acts ∙ sym (append-nil (joined s.parts));
      loses = loses;
      cause = why s.heard;
    })

-- ---- with what was read

-- so far, of the bytes that were there first and those that were read
pub record SoFar (viewer : ℕ) (v u : View Entry) (start now : Option (List ℕ)) (first rest : List ℕ) : Type 0 where
  pub read : List ℕ
  pub came_is : start ≡ came read now
  pub all : HasDoneAll viewer v u (first ++ read) rest

pub far_none : (viewer : ℕ) (v : View Entry) (start : Option (List ℕ)) (first : List ℕ) → SoFar viewer v v start start first first
far_none viewer v start first = record { read = []; came_is = sym (came-none start); all = subst (λ (bs : List ℕ). HasDoneAll viewer v v bs first) (sym (append-nil first)) (heard_none viewer v first) }

module _ (viewer : ℕ) (v u w : View Entry) (start old new : Option (List ℕ)) (first rest after : List ℕ) (s : SoFar viewer v u start old first rest) where
  far_on : (d : Unit {0}) → HasHeard viewer u w old new rest after (Ok d) → SoFar viewer v w start new first after
  far_on d (Whole same k) = record { read = s.read; came_is = s.came_is ∙ ap (came s.read) same; all = took_on viewer v u w (first ++ s.read) rest after s.all k.own k.values k.is_instruction k.split d k.taken }
  far_on d (More k) = record {
    read = s.read ++ k.read.0;
    came_is = s.came_is ∙ (ap (came s.read) k.read.1 ∙ came-came s.read k.read.0 new);
    all = subst (λ (bs : List ℕ). HasDoneAll viewer v w bs after) (append_assoc first s.read k.read.0) (subst (λ (bs : List ℕ). HasDoneAll viewer v w ((first ++ s.read) ++ k.read.0) bs) (sym k.read.2) (all_longer viewer v u w (first ++ s.read) rest k.read.0 k.same s.all));
  }
  far_on d (Broken same k) = absurd (let z : Ok d ≡ Err (Bad k.at) = k.is in cc)

  read_stop : (end : IntakeEnd) → w ≡ u → IsUnfinished rest → (old ≡ new) × (after ≡ rest) × ReadStop end new → HearStop viewer v w (first ++ s.read) after new end
  read_stop Disconnected same unfinished k = stop_plain viewer v u w (first ++ s.read) rest after new Disconnected s.all same k.1 refl (λ heard. inr (unfinished, k.2))
  read_stop ReadFault same unfinished k = stop_plain viewer v u w (first ++ s.read) rest after new ReadFault s.all same k.1 refl (λ heard. unfinished)
  read_stop NoMemory same unfinished k = stop_plain viewer v u w (first ++ s.read) rest after new NoMemory s.all same k.1 (omega arith) (λ heard. inl (refl, unfinished))
  read_stop (Bad at) same unfinished k = absurd k.2
  read_stop Left same unfinished k = absurd k.2
  read_stop (Closed c) same unfinished k = absurd k.2
  read_stop Worn same unfinished k = absurd k.2

  far_end : (end : IntakeEnd) → HasHeard viewer u w old new rest after (Err end) → (read : List ℕ) × (start ≡ came read new) × HearStop viewer v w (first ++ read) after new end
  far_end end (Whole same k) = (s.read, s.came_is ∙ ap (came s.read) same, took_last viewer v u w (first ++ s.read) rest after s.all k.own k.values k.is_instruction k.split new end k.taken)
  far_end end (More k) = (s.read, s.came_is ∙ ap (came s.read) k.read.0, read_stop end k.same k.unfinished k.read)
  far_end end (Broken same k) =
      let is : Bad k.at ≡ end = (let z : Err end ≡ Err (Bad k.at) = k.is in cc) in (
        s.read,
        s.came_is ∙ ap (came s.read) same,
        subst (λ (x : IntakeEnd). HearStop viewer v w (first ++ s.read) after new x) is (stop_plain viewer v u w (first ++ s.read) rest after new (Bad k.at) s.all k.same.0 k.same.1 refl (λ heard. k.bad)),
      )

  -- the viewer is the one at the beginning
  pub far_next : (n : ℕ) → n ≡ viewer → (d : Unit {0}) → HasHeard n u w old new rest after (Ok d) → SoFar viewer v w start new first after
  far_next n same d h = far_on d (subst (λ (k : ℕ). HasHeard k u w old new rest after (Ok d)) same h)

  pub far_last : (n : ℕ) → n ≡ viewer → (end : IntakeEnd) (final : List ℕ) → final ≡ after → HasHeard n u w old new rest after (Err end) → (read : List ℕ) × (start ≡ came read new) × HearStop viewer v w (first ++ read) final new end
  far_last n same end final is h =
      let k = far_end end (subst (λ (m : ℕ). HasHeard m u w old new rest after (Err end)) same h) in
      (k.0, k.1, subst (λ (bs : List ℕ). HearStop viewer v w (first ++ k.0) bs new end) (sym is) k.2)

-- ---- the end

wants_on : (viewer : ℕ) (v u w : View Entry) (bytes rest : List ℕ) (left : Option (List ℕ)) (h : HearStop viewer v u bytes rest left NoMemory) → GoesOn u w → WantsMemory h.lost rest (IsStoppedByMemory viewer w.mine (h.wrote.gained ++ own_entries v) v.seen w.seen)
wants_on viewer v u w bytes rest left h g =
    let stopped : PartCause write_no_memory viewer u.seen → IsStoppedByMemory viewer u.mine (h.wrote.gained ++ own_entries v) v.seen u.seen = λ alone. record { found = u.seen; later = h.wrote.done.goes_on.later; earlier = later_refl u.seen; own_there = h.wrote.own; alone = alone } in
    ⊎_elim (λ read. inl read) (λ call. inr (call.0, stopped_on viewer u w (h.wrote.gained ++ own_entries v) v.seen v.seen g (later_refl v.seen) (stopped call.1))) h.cause

ran_left : (viewer : ℕ) (v u w : View Entry) (bytes rest : List ℕ) (left : Option (List ℕ)) (end : IntakeEnd) (h : HearStop viewer v u bytes rest left end) (k : LeftNow viewer u w) → MayEnd end viewer k.leaves → IntakeCause end h.heard h.lost rest left w.seen (IsStoppedByMemory viewer w.mine (h.wrote.gained ++ own_entries v) v.seen w.seen) → IntakeRun viewer v w bytes rest left end
ran_left viewer v u w bytes rest left end h k last why = record {
  heard = h.heard;
  hears = h.hears;
  parts = h.parts;
  are_parts = h.are_parts;
  gained = h.wrote.gained;
  done = done_on viewer v u w h.parts h.wrote.gained h.wrote.done k.goes_on;
  leaves = k.leaves;
  last = last;
  own = k.own ∙ ap (λ (es : List Entry). k.leaves ++ es) h.wrote.own;
  lost = h.lost;
  acts = h.acts;
  loses = h.loses;
  cause = why;
  gone = k.gone;
}

ran_by : (viewer : ℕ) (v u w : View Entry) (bytes rest : List ℕ) (left : Option (List ℕ)) (end : IntakeEnd) → HearStop viewer v u bytes rest left end → Leaves end viewer u w → IntakeRun viewer v w bytes rest left end
ran_by viewer v u w bytes rest left Left h same = subst (λ (z : View Entry). IntakeRun viewer v z bytes rest left Left) (sym same) record {
  heard = h.heard;
  hears = h.hears;
  parts = h.parts;
  are_parts = h.are_parts;
  gained = h.wrote.gained;
  done = h.wrote.done;
  leaves = [];
  last = refl;
  own = h.wrote.own;
  lost = h.lost;
  acts = h.acts;
  loses = h.loses;
  cause = tt;
  gone = h.cause;
}
ran_by viewer v u w bytes rest left Disconnected h k = ran_left viewer v u w bytes rest left Disconnected h k k.few h.cause
ran_by viewer v u w bytes rest left ReadFault h k = ran_left viewer v u w bytes rest left ReadFault h k k.few h.cause
ran_by viewer v u w bytes rest left (Bad at) h k = ran_left viewer v u w bytes rest left (Bad at) h k k.few h.cause
ran_by viewer v u w bytes rest left (Closed c) h k = ran_left viewer v u w bytes rest left (Closed c) h k k.few (later_contains u.seen w.seen (Close c) k.goes_on.later h.cause)
ran_by viewer v u w bytes rest left Worn h k = ran_left viewer v u w bytes rest left Worn h k k.few (full_stays u.seen w.seen k.goes_on.later (some_seen u.seen h.cause.1) k.legal h.cause.0)
ran_by viewer v u w bytes rest left NoMemory h k = ran_left viewer v u w bytes rest left NoMemory h k k.few (wants_on viewer v u w bytes rest left h k.goes_on)

pub intake_ran : (viewer n : ℕ) (v u w : View Entry) (bytes rest : List ℕ) (left : Option (List ℕ)) (end : IntakeEnd) → n ≡ viewer → HearStop viewer v u bytes rest left end → Leaves end n u w → IntakeRun viewer v w bytes rest left end
intake_ran viewer n v u w bytes rest left end same h k = ran_by viewer v u w bytes rest left end h (subst (λ (m : ℕ). Leaves end m u w) same k)
