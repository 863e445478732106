-- A client's stream: the log of its keys grows act by act, it is read in one way, or it has one first bad byte.
use Rattle.std.proofs.Common.{◌≡◌, ℕ, ◌+◌, ◌-◌, ◌<◌, ◌≤◌, List, [], ◌∷◌, ◌++◌, length, drop, take, refl, ap, sym, ◌∙◌, subst, length-append, length-drop, arith, inl, inr, append_assoc, append-nil}
use Rattle.std.specs.Prelude.{Option, ◌⊎◌, map, min}
use Rattle.std.proofs.lemmas.Bool.{cases_lt}
use Rattle.std.proofs.Math.Seq.{take-append_seam}
use Rattle.std.proofs.lemmas.List.{append_cancel_left, drop_all, take-append-drop}
use Rattle.gate_model.specs.declared.act.Act.{Act}
use Rattle.gate_model.specs.declared.mods.Mods.{Mods}
use Rattle.gate_model.specs.text.ClientMeaning.{act_of}
use Rattle.gate_model.specs.text.Spelling.{Spells}
use Rattle.gate_model.proofs.MeaningLaws.{act_in_utf8}
use Rattle.gate_model.proofs.Spelt.{prefix_free}
use Rattle.guac_framing.specs.Answers.{IsWhole}
use Rattle.guac_framing.specs.Found.{HasNoInstruction, IsBadPlace, IsUnfinished}
use Rattle.guac_framing.specs.Splits.{Splits}
use Rattle.guac_framing.proofs.Streams.{left_at, spelled_some, splits_on, within}
use Rattle.record_play.specs.Captured.{IsBadBehind, IsBadStream, IsCaptured, IsLogged, Byte, Long}
use Rattle.record_play.specs.KeyLog.{act_text, log, log_from, mods_behind}
use Rattle.gate_model.specs.session.Rights.{none_held}
use Rattle.record_play.specs.Recorded.{most_recorded}
use Rattle.record_play.proofs.Unique.{bad_not_limit, one_bad}

-- ---- the log

-- the modifiers behind acts
abbrev pub mods_through : Mods → List (Option Act) → Mods
mods_through mods [] = mods
mods_through mods (act ∷ acts) = mods_through (mods_behind mods act) acts

mods_more : (mods : Mods) (acts : List (Option Act)) (act : Option Act) → mods_through mods (acts ++ act ∷ []) ≡ mods_behind (mods_through mods acts) act
mods_more mods [] act = refl
mods_more mods (a ∷ acts) act = mods_more (mods_behind mods a) acts act

log_more : (mods : Mods) (acts : List (Option Act)) (act : Option Act) → log_from mods (acts ++ act ∷ []) ≡ log_from mods acts ++ act_text (mods_through mods acts) act
log_more mods [] act = append-nil (act_text mods act)
log_more mods (a ∷ acts) act = ap (λ (l : List ℕ). act_text mods a ++ l) (log_more (mods_behind mods a) acts act) ∙ sym (append_assoc (act_text mods a) (log_from (mods_behind mods a) acts) (act_text (mods_through (mods_behind mods a) acts) act))

map_more : (es : List (List (List ℕ))) (e : List (List ℕ)) → map act_of (es ++ e ∷ []) ≡ map act_of es ++ act_of e ∷ []
map_more [] e = refl
map_more (f ∷ es) e = ap (λ (l : List (Option Act)). act_of f ∷ l) (map_more es e)

-- the bytes before a place are instructions whose log is told
pub record HasLogged (bytes : List ℕ) (at : ℕ) (text : List ℕ) (mods : Mods) : Type 0 where
  pub within : at ≤ length bytes
  pub instructions : List (List (List ℕ))
  pub splits : Splits bytes instructions (drop at bytes)
  pub told : text ≡ log (map act_of instructions)
  pub held : mods ≡ mods_through none_held (map act_of instructions)

pub none_logged : (bytes text : List ℕ) (mods : Mods) → text ≡ [] → mods ≡ none_held → HasLogged bytes 0 text mods
none_logged bytes text mods none held = record { within = omega arith; instructions = []; splits = refl; told = none; held = held }

module _ (bytes : List ℕ) (at : ℕ) (text : List ℕ) (mods : Mods) (read : HasLogged bytes at text mods) where
  -- one act more
  pub log_one : (values : List (List ℕ)) (size : ℕ) → IsWhole (take (length bytes - at) (drop at bytes)) values size → (new : List ℕ) (now : Mods) → new ≡ text ++ act_text mods (act_of values) → now ≡ mods_behind mods (act_of values) → HasLogged bytes (at + size) new now
  log_one values size whole new now told held =
      let e = whole.elements in
      let is : act_of values ≡ act_of e = ap act_of whole.texts ∙ act_in_utf8 e in
      let acts = map act_of read.instructions in
      record {
        within = within bytes at values size whole read.within;
        instructions = read.instructions ++ e ∷ [];
        splits = splits_on bytes at values size whole read.instructions read.splits;
        told = told ∙ (ap (λ (l : List ℕ). l ++ act_text mods (act_of values)) read.told ∙ (ap (λ (m : Mods). log acts ++ act_text m (act_of values)) read.held ∙ (ap (λ (a : Option Act). log acts ++ act_text (mods_through none_held acts) a) is
            ∙ (sym (log_more none_held acts (act_of e)) ∙ ap log (sym (map_more read.instructions e))))));
        held = held ∙ (ap (λ (m : Mods). mods_behind m (act_of values)) read.held ∙ (ap (mods_behind (mods_through none_held acts)) is ∙ (sym (mods_more none_held acts (act_of e)) ∙ ap (mods_through none_held) (sym (map_more read.instructions e)))));
      }

  -- a bad byte, which may be past the limit
  pub bad_in_log : (own place : ℕ) → IsBadPlace (take (length bytes - at) (drop at bytes)) own → place ≡ min (at + own) most_recorded → IsBadStream bytes place
  bad_in_log own place bad is =
      let bad_left : IsBadPlace (drop at bytes) own = subst (λ (l : List ℕ). IsBadPlace l own) (left_at bytes at) bad in
      record {
        instructions = read.instructions;
        at = at;
        within = read.within;
        splits = read.splits;
        bad = elim (cases_lt (at + own) most_recorded) [
          | inl low ↦ Byte own bad_left (omega (arith, is, low)) (omega (arith, is, low))
          | inr high ↦ Long (omega (arith, high, bad_left.within, length-drop at bytes, read.within)) (omega (arith, is, high)) (inr (inr (own, bad_left, high)))
        ];
      }

  -- the end, within the limit
  pub logged_all : length bytes ≤ most_recorded → (at ≡ length bytes) ⊎ IsUnfinished (take (length bytes - at) (drop at bytes)) → IsLogged bytes [] text
  logged_all few why = (
    read.instructions,
    record {
      few = few;
      at = at;
      splits = read.splits;
      unfinished = elim why [
        | inl all ↦ inl (ap (λ (n : ℕ). drop n bytes) all ∙ drop_all (length bytes) bytes (omega arith))
        | inr more ↦ inr (subst IsUnfinished (left_at bytes at) more)
      ];
    },
    read.told,
  )

  -- the end, past the limit
  pub long_log : most_recorded < length bytes → (most_recorded ≤ at) ⊎ IsUnfinished (take (length bytes - at) (drop at bytes)) → IsBadStream bytes most_recorded
  long_log long why = record {
    instructions = read.instructions;
    at = at;
    within = read.within;
    splits = read.splits;
    bad = Long long refl (elim why [ inl high ↦ inl high | inr more ↦ inr (inl (subst IsUnfinished (left_at bytes at) more)) ]);
  }

-- ---- one reading

-- of two ways to read the text the one has the first instructions of the other
record Longer (longer shorter : List (List (List ℕ))) (x y : List ℕ) : Type 0 where
  more : List (List (List ℕ))
  is : longer ≡ shorter ++ more
  rest : Splits y more x

longer_by : (e : List (List ℕ)) (d : List (List ℕ)) (longer shorter : List (List (List ℕ))) (x y : List ℕ) → d ≡ e → Longer longer shorter x y → Longer (d ∷ longer) (e ∷ shorter) x y
longer_by e d longer shorter x y same l = record { more = l.more; is = ap (λ (i : List (List ℕ)). i ∷ longer) same ∙ ap (λ (is : List (List (List ℕ))). e ∷ is) l.is; rest = l.rest }

agree : (a b : List (List (List ℕ))) (text x y : List ℕ) → Splits text a x → Splits text b y → Longer a b x y ⊎ Longer b a y x
agree a [] text x y s t = inl (record { more = a; is = refl; rest = subst (λ (l : List ℕ). Splits l a x) t s })
agree [] (e ∷ b) text x y s t = inr (record { more = e ∷ b; is = refl; rest = subst (λ (l : List ℕ). Splits l (e ∷ b) y) s t })
agree (d ∷ a) (e ∷ b) text x y s t =
    let same = prefix_free s.0 t.0 s.1 t.1 d e s.2 t.2 (sym s.3 ∙ t.3) in
    let after : s.1 ≡ t.1 = append_cancel_left s.0 s.1 t.1 (sym s.3 ∙ (t.3 ∙ ap (λ (l : List ℕ). l ++ t.1) (sym same.0))) in
    elim (agree a b t.1 x y (subst (λ (l : List ℕ). Splits l a x) after s.4) t.4) [
      | inl l ↦ inl (longer_by e d a b x y same.1 l)
      | inr l ↦ inr (longer_by d e b a y x (sym same.1) l)
    ]

-- no instruction stands where none is, or where one isn't finished, or where a byte is bad
no_front : (y own after : List ℕ) (e : List (List ℕ)) → HasNoInstruction y → Spells own e → y ≡ own ++ after → ⊥
no_front y own after e none s is = none (length own) e (subst (λ (l : List ℕ). Spells l e) (sym (ap (take (length own)) is ∙ take-append_seam own after)) s)

bad_none : (y : List ℕ) (place : ℕ) → IsBadPlace y place → HasNoInstruction y
bad_none y place bad = subst HasNoInstruction (take-append-drop (place + 1) y) (bad.through (drop (place + 1) y))

end_none : (y own after : List ℕ) (e : List (List ℕ)) → (y ≡ []) ⊎ IsUnfinished y → Spells own e → y ≡ own ++ after → ⊥
end_none y own after e (inl none) s is = omega (arith, spelled_some own e s.spelled, ap length is, length-append own after, ap length none)
end_none y own after e (inr more) s is = no_front y own after e more.none s is

-- a stream goes no further than its end
ends_there : (more : List (List (List ℕ))) (x y : List ℕ) → (y ≡ []) ⊎ IsUnfinished y → Splits y more x → (more ≡ []) × (y ≡ x)
ends_there [] x y ends s = (refl, s)
ends_there (e ∷ more) x y ends s = absurd (end_none y s.0 s.1 e ends s.2 s.3)

-- nor past a bad byte
stops_there : (more : List (List (List ℕ))) (x y : List ℕ) (place : ℕ) → IsBadPlace y place → Splits y more x → y ≡ x
stops_there [] x y place bad s = s
stops_there (e ∷ more) x y place bad s = absurd (no_front y s.0 s.1 e (bad_none y place bad) s.2 s.3)

pub captured_once : (bytes : List ℕ) (one other : List (List (List ℕ))) → IsCaptured bytes one → IsCaptured bytes other → one ≡ other
captured_once bytes one other r s = elim (agree one other bytes (drop r.at bytes) (drop s.at bytes) r.splits s.splits) [
  | inl l ↦ l.is ∙ (ap (λ (m : List (List (List ℕ))). other ++ m) (ends_there l.more (drop r.at bytes) (drop s.at bytes) s.unfinished l.rest).0 ∙ append-nil other)
  | inr l ↦ sym (l.is ∙ (ap (λ (m : List (List (List ℕ))). one ++ m) (ends_there l.more (drop s.at bytes) (drop r.at bytes) r.unfinished l.rest).0 ∙ append-nil one))
]

-- a bad byte isn't where a stream ends
not_bad_there : (y : List ℕ) (place : ℕ) → (y ≡ []) ⊎ IsUnfinished y → IsBadPlace y place → ⊥
not_bad_there y place (inl none) bad = omega (arith, bad.within, ap length none)
not_bad_there y place (inr more) bad =
    let c = more.completion in
    let all : take (place + 1) y ++ (drop (place + 1) y ++ c.0) ≡ y ++ c.0 = sym (append_assoc (take (place + 1) y) (drop (place + 1) y) c.0) ∙ ap (λ (l : List ℕ). l ++ c.0) (take-append-drop (place + 1) y) in
    no_front (y ++ c.0) (y ++ c.0) [] c.1 (subst HasNoInstruction all (bad.through (drop (place + 1) y ++ c.0))) c.2 (sym (append-nil (y ++ c.0)))

not_both : (bytes : List ℕ) (at end place : ℕ) → length bytes ≤ most_recorded → (drop end bytes ≡ []) ⊎ IsUnfinished (drop end bytes) → drop at bytes ≡ drop end bytes → IsBadBehind bytes at place → ⊥
not_both bytes at end place few ends same (Byte own bad is low) = not_bad_there (drop end bytes) own ends (subst (λ (l : List ℕ). IsBadPlace l own) same bad)
not_both bytes at end place few ends same (Long long is how) = omega (arith, long, few)

bad_end_same : (bytes : List ℕ) (at end place : ℕ) (more : List (List (List ℕ))) → length bytes ≤ most_recorded → IsBadBehind bytes at place → Splits (drop at bytes) more (drop end bytes) → drop at bytes ≡ drop end bytes
bad_end_same bytes at end place more few (Byte own bad is low) s = stops_there more (drop end bytes) (drop at bytes) own bad s
bad_end_same bytes at end place more few (Long long is how) s = absurd (omega (arith, long, few))

pub captured_or_bad : (bytes : List ℕ) (instructions : List (List (List ℕ))) (place : ℕ) → IsCaptured bytes instructions → IsBadStream bytes place → ⊥
captured_or_bad bytes instructions place r b = elim (agree b.instructions instructions bytes (drop b.at bytes) (drop r.at bytes) b.splits r.splits) [
  | inl l ↦ not_both bytes b.at r.at place r.few r.unfinished (sym (ends_there l.more (drop b.at bytes) (drop r.at bytes) r.unfinished l.rest).1) b.bad
  | inr l ↦ not_both bytes b.at r.at place r.few r.unfinished (bad_end_same bytes b.at r.at place l.more r.few b.bad l.rest) b.bad
]

-- behind the same instructions stands one first bad byte
bad_same : (bytes : List ℕ) (at p q : ℕ) → IsBadBehind bytes at p → IsBadBehind bytes at q → p ≡ q
bad_same bytes at p q (Byte own bad is low) (Byte other worse same_place few) = let same = one_bad (drop at bytes) own other bad worse in omega (arith, is, same_place, same)
bad_same bytes at p q (Byte own bad is low) (Long long same_place how) = absurd (bad_not_limit bytes at own bad (omega (arith, is, low)) how)
bad_same bytes at p q (Long long is how) (Byte other worse same_place few) = absurd (bad_not_limit bytes at other worse (omega (arith, same_place, few)) how)
bad_same bytes at p q (Long long is how) (Long more same_place why) = omega (arith, is, same_place)

-- where another reading goes on, the limit is what is told
bad_ahead : (bytes : List ℕ) (at q : ℕ) (own after : List ℕ) (e : List (List ℕ)) → Spells own e → drop at bytes ≡ own ++ after → IsBadBehind bytes at q → (q ≡ most_recorded) × (most_recorded ≤ at)
bad_ahead bytes at q own after e s is (Byte place bad same_place low) = absurd (no_front (drop at bytes) own after e (bad_none (drop at bytes) place bad) s is)
bad_ahead bytes at q own after e s is (Long long same_place (inl high)) = (same_place, high)
bad_ahead bytes at q own after e s is (Long long same_place (inr (inl more))) = absurd (end_none (drop at bytes) own after e (inr more) s is)
bad_ahead bytes at q own after e s is (Long long same_place (inr (inr bad))) = absurd (no_front (drop at bytes) own after e (bad_none (drop at bytes) bad.0 bad.1) s is)

bad_past : (bytes : List ℕ) (at p : ℕ) → IsBadBehind bytes at p → most_recorded ≤ at → p ≡ most_recorded
bad_past bytes at p (Byte own bad is low) high = absurd (omega (arith, is, low, high))
bad_past bytes at p (Long long is how) high = is

shorter : (more : List (List (List ℕ))) (x y : List ℕ) → Splits y more x → length x ≤ length y
shorter [] x y s = omega (arith, ap length s)
shorter (e ∷ more) x y s = let rest = shorter more x s.1 s.4 in omega (arith, rest, ap length s.3, length-append s.0 s.1)

bad_from : (bytes : List ℕ) (at end p q : ℕ) (more : List (List (List ℕ))) → at ≤ length bytes → end ≤ length bytes → Splits (drop end bytes) more (drop at bytes) → IsBadBehind bytes at p → IsBadBehind bytes end q → p ≡ q
bad_from bytes at end p q [] low high s f g =
    let same : at ≡ end = omega (arith, ap length s, length-drop at bytes, length-drop end bytes, low, high) in
    bad_same bytes end p q (subst (λ (n : ℕ). IsBadBehind bytes n p) same f) g
bad_from bytes at end p q (e ∷ more) low high s f g =
    let limit = bad_ahead bytes end q s.0 s.1 e s.2 s.3 g in
    let further = shorter (e ∷ more) (drop at bytes) (drop end bytes) s in
    bad_past bytes at p f (omega (arith, limit.1, further, length-drop at bytes, length-drop end bytes, low, high)) ∙ sym limit.0

pub bad_is_one : (bytes : List ℕ) (p q : ℕ) → IsBadStream bytes p → IsBadStream bytes q → p ≡ q
bad_is_one bytes p q b c = elim (agree b.instructions c.instructions bytes (drop b.at bytes) (drop c.at bytes) b.splits c.splits) [
  | inl l ↦ bad_from bytes b.at c.at p q l.more b.within c.within l.rest b.bad c.bad
  | inr l ↦ sym (bad_from bytes c.at b.at q p l.more c.within b.within l.rest c.bad b.bad)
]
