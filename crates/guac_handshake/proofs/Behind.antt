-- The instructions behind `select`, one after the other.
use Rattle.std.proofs.Common.{◌≡◌, ℕ, ◌+◌, ◌≤◌, List, [], ◌∷◌, ◌++◌, length, take, Option, Some, None, Ok, Err, Bool, true, false, refl, ap, sym, ◌∙◌, subst, append_assoc, append-nil, length-append, arith, drop}
use Rattle.std.proofs.lemmas.Bool.Decides.{nat_tests}
use Rattle.std.proofs.Math.Seq.{take-append_seam, take-length}
use Rattle.std.specs.List.{prefix_len}
use Rattle.std.specs.Prelude.{Result, find, fold, not, nat_lt}
use Rattle.gate_model.specs.text.HelloMeaning.{Greeting, Selects, HasSize, Connects, SaysOther, greeting_of}
use Rattle.gate_outside.specs.Edge.{came}
use Rattle.gate_outside.proofs.Moved.{came-came, came-none}
use Rattle.guac_handshake.specs.declared.request.Selected.{Selected}
use Rattle.guac_handshake.specs.declared.request.Request.{Request}
use Rattle.guac_handshake.specs.declared.expected.Expected.{Expected}
use Rattle.guac_handshake.specs.declared.expected.Said.{Said}
use Rattle.guac_handshake.specs.declared.expected.Said.TheVariants as said
use Rattle.guac_handshake.specs.declared.stop.Stop.{Stop}
use Rattle.guac_handshake.specs.declared.stop.Stop.TheVariants.{Refused, Ended, ReadFault, WriteFault, NoMemory}
use Rattle.guac_handshake.specs.Asks.{ReadsNoFurther, Wish, Unfinished, Wants, Refuses, asks_behind, before_connect, begin_wish, beginning, connects_as, connects_in, is_connect, join_wish, joining, last_size, size_after}
use Rattle.guac_handshake.specs.declared.ask.Ask.{Ask}
use Rattle.gate_model.specs.declared.sharing.Asked.{Asked}
use Rattle.guac_handshake.specs.declared.request.Selected.TheVariants.{Telnet, Known}
use Rattle.guac_handshake.specs.Heard.{HasHeard, StopsAt, said_behind, said_of, wish_said}
use Rattle.guac_handshake.specs.Greetings.{Answers, HasConnected, OutOfForm, Broken}
use Rattle.guac_handshake.specs.Splits.{IsInstruction, Splits}
use Rattle.gate_model.specs.text.Statuses.{bad_request}

-- bytes behind the rest
pub splits_append : (es : List (List (List ℕ))) (text rest more : List ℕ) → Splits text es rest → Splits (text ++ more) es (rest ++ more)
splits_append [] text rest more s = ap (λ (l : List ℕ). l ++ more) s
splits_append (e ∷ es) text rest more s = (s.0, s.1 ++ more, s.2, ap (λ (l : List ℕ). l ++ more) s.3 ∙ append_assoc s.0 s.1 more, splits_append es s.1 rest more s.4)

-- one instruction more
pub splits_more : (es : List (List (List ℕ))) (text rest own after : List ℕ) (e : List (List ℕ)) → Splits text es rest → IsInstruction own e → rest ≡ own ++ after → Splits text (es ++ e ∷ []) after
splits_more [] text rest own after e is spells split = (own, after, spells, is ∙ split, refl)
splits_more (f ∷ es) text rest own after e s spells split = (s.0, s.1, s.2, s.3, splits_more es s.1 rest own after e s.4 spells split)

-- none of the instructions is `connect`
abbrev pub NoneConnects : List (List (List ℕ)) → Type 0
NoneConnects [] = Unit {0}
NoneConnects (e ∷ es) = (is_connect e ≡ false) × NoneConnects es

pub none_more : (es : List (List (List ℕ))) (e : List (List ℕ)) → NoneConnects es → is_connect e ≡ false → NoneConnects (es ++ e ∷ [])
none_more [] e none is = (is, tt)
none_more (f ∷ es) e none is = (none.0, none_more es e none.1 is)

waits : List (List ℕ) → Bool
waits values = not (is_connect values)

prefix_all : (es : List (List (List ℕ))) → NoneConnects es → prefix_len waits es ≡ length es
unfolding waits
prefix_all [] none = refl
prefix_all (e ∷ es) none = rw none.0 (let rest = prefix_all es none.1 in omega (arith, rest))

prefix_last : (es : List (List (List ℕ))) (e : List (List ℕ)) → NoneConnects es → is_connect e ≡ true → prefix_len waits (es ++ e ∷ []) ≡ length es
unfolding waits
prefix_last [] e none is = rw is refl
prefix_last (f ∷ es) e none is = rw none.0 (let rest = prefix_last es e none.1 is in omega (arith, rest))

pub before_all : (es : List (List (List ℕ))) → NoneConnects es → before_connect es ≡ es
unfolding waits
before_all es none = ap (λ (n : ℕ). take n es) (prefix_all es none) ∙ take-length es

pub find_none : (es : List (List (List ℕ))) → NoneConnects es → find is_connect es ≡ None
find_none [] none = refl
find_none (e ∷ es) none = rw none.0 (find_none es none.1)

pub before_last : (es : List (List (List ℕ))) (e : List (List ℕ)) → NoneConnects es → is_connect e ≡ true → before_connect (es ++ e ∷ []) ≡ es
unfolding waits
before_last es e none is = ap (λ (n : ℕ). take n (es ++ e ∷ [])) (prefix_last es e none is) ∙ take-append_seam es (e ∷ [])

pub find_last : (es : List (List (List ℕ))) (e : List (List ℕ)) → NoneConnects es → is_connect e ≡ true → find is_connect (es ++ e ∷ []) ≡ Some e
find_last [] e none is = rw is refl
find_last (f ∷ es) e none is = rw none.0 (find_last es e none.1 is)

under : (n : ℕ) → n ≤ 64 → nat_lt 64 n ≡ false
under n few = grind (arith, nat_tests)

over : (n : ℕ) → n ≡ 65 → nat_lt 64 n ≡ true
over n many = grind (arith, nat_tests)

fold_more : {A B : Type 0} (f : B → A → B) (a : B) (xs : List A) (y : A) → fold f a (xs ++ y ∷ []) ≡ f (fold f a xs) y
fold_more f a [] y = refl
fold_more f a (x ∷ xs) y = fold_more f (f a x) xs y

pub last_size_more : (es : List (List (List ℕ))) (e : List (List ℕ)) → last_size (es ++ e ∷ []) ≡ size_after (last_size es) (greeting_of e)
last_size_more es e = fold_more (λ kept values. size_after kept (greeting_of values)) None es e

module _ (chosen : Selected) where
  pub asks_open : (es : List (List (List ℕ))) → NoneConnects es → length es ≤ 64 → asks_behind chosen es ≡ Unfinished
  asks_open es none few = rw (before_all es none, find_none es none, under (length es) few) refl

  pub asks_many : (es : List (List (List ℕ))) → NoneConnects es → length es ≡ 65 → asks_behind chosen es ≡ Refuses bad_request
  asks_many es none many = rw (before_all es none, over (length es) many) refl

  pub asks_connect : (es : List (List (List ℕ))) (e : List (List ℕ)) → NoneConnects es → is_connect e ≡ true → length es ≤ 64 → asks_behind chosen (es ++ e ∷ []) ≡ connects_as chosen e (last_size es)
  asks_connect es e none is few = rw (before_last es e none is, find_last es e none is, under (length es) few) refl

-- ---- no front of the instructions settles what is asked

pub not_none : (front more : List (List (List ℕ))) (values : List (List ℕ)) → [] ≡ front ++ values ∷ more → ⊥
not_none [] more values e = cc
not_none (f ∷ front) more values e = cc

none_front : (front rest : List (List (List ℕ))) → NoneConnects (front ++ rest) → NoneConnects front
none_front [] rest none = tt
none_front (e ∷ front) rest none = (none.0, none_front front rest none.1)

-- a front that doesn't have the last one is a front of those before it
front_within : (es front more : List (List (List ℕ))) (e values : List (List ℕ)) → es ++ e ∷ [] ≡ front ++ values ∷ more → (rest : List (List (List ℕ))) × (es ≡ front ++ rest)
front_within es [] more e values is = (es, refl)
front_within [] (f ∷ front) more e values is = absurd (not_none front more values (let same : [] ≡ front ++ values ∷ more = cc in same))
front_within (x ∷ es) (f ∷ front) more e values is =
    let first : x ≡ f = cc in
    let others : es ++ e ∷ [] ≡ front ++ values ∷ more = cc in
    let k = front_within es front more e values others in
    (k.0, ap (λ (y : List (List ℕ)). y ∷ es) first ∙ ap (λ (ys : List (List (List ℕ))). f ∷ ys) k.1)

module _ (chosen : Selected) where
  open_front : (es front rest : List (List (List ℕ))) → NoneConnects es → es ≡ front ++ rest → length front ≤ 64 → asks_behind chosen front ≡ Unfinished
  open_front es front rest none is few = asks_open chosen front (none_front front rest (subst NoneConnects is none)) few

  pub no_further_open : (es : List (List (List ℕ))) → NoneConnects es → length es ≤ 65 → ReadsNoFurther (asks_behind chosen) es
  no_further_open es none few = λ front more values is. open_front es front (values ∷ more) none is (omega (arith, few, ap length is, length-append front (values ∷ more)))

  pub no_further_last : (es : List (List (List ℕ))) (e : List (List ℕ)) → NoneConnects es → length es ≤ 64 → ReadsNoFurther (asks_behind chosen) (es ++ e ∷ [])
  no_further_last es e none few = λ front more values is.
      let k = front_within es front more e values is in
      open_front es front k.0 none k.1 (omega (arith, few, ap length k.1, length-append front k.0))

-- what a wish is said as
wish_asks : (w : Wish) (request : Request) → said.Ask request ≡ wish_said w → w ≡ Wants request
wish_asks Unfinished request e = cc
wish_asks (Wants r) request e = cc
wish_asks (Refuses s) request e = cc

wish_no_size : (w : Wish) (found : ℕ × ℕ) → said.Size found ≡ wish_said w → ⊥
wish_no_size Unfinished found e = cc
wish_no_size (Wants r) found e = cc
wish_no_size (Refuses s) found e = cc

wish_no_other : (w : Wish) → said.Other ≡ wish_said w → ⊥
wish_no_other Unfinished e = cc
wish_no_other (Wants r) e = cc
wish_no_other (Refuses s) e = cc

wish_no_select : (w : Wish) (name : List ℕ) → said.Select name ≡ wish_said w → ⊥
wish_no_select Unfinished name e = cc
wish_no_select (Wants r) name e = cc
wish_no_select (Refuses s) name e = cc

bad_begin : (ask : Option Ask) → said.Bad ≡ wish_said (begin_wish ask) → begin_wish ask ≡ Refuses bad_request
bad_begin None e = refl
bad_begin (Some ask) e = cc

bad_join : (id : List ℕ) (asked : Option Asked) → said.Bad ≡ wish_said (join_wish id asked) → join_wish id asked ≡ Refuses bad_request
bad_join id None e = refl
bad_join id (Some asked) e = cc

bad_connect : (chosen : Selected) (values : List (List ℕ)) (size : Option (ℕ × ℕ)) → said.Bad ≡ wish_said (connects_as chosen values size) → connects_as chosen values size ≡ Refuses bad_request
bad_connect Telnet values size e = bad_begin (beginning (drop 1 values) size) e
bad_connect (Known id) values size e = bad_join id (joining (drop 1 values)) e

module _ (chosen : Selected) (values : List (List ℕ)) (size : Option (ℕ × ℕ)) where
  pub said_asks : (g : Greeting) (request : Request) → said.Ask request ≡ said_behind g chosen values size → (connects_in g ≡ true) × (connects_as chosen values size ≡ Wants request)
  said_asks (Selects name) request e = cc
  said_asks (HasSize w h) request e = cc
  said_asks Connects request e = (refl, wish_asks (connects_as chosen values size) request e)
  said_asks SaysOther request e = cc

  pub said_bad : (g : Greeting) → said.Bad ≡ said_behind g chosen values size → (connects_in g ≡ true) × (connects_as chosen values size ≡ Refuses bad_request)
  said_bad (Selects name) e = cc
  said_bad (HasSize w h) e = cc
  said_bad Connects e = (refl, bad_connect chosen values size e)
  said_bad SaysOther e = cc

  pub said_sizes : (g : Greeting) (found : ℕ × ℕ) → said.Size found ≡ said_behind g chosen values size → (connects_in g ≡ false) × (Some found ≡ size_after size g)
  said_sizes (Selects name) found e = cc
  said_sizes (HasSize w h) found e = let same : found ≡ (w, h) = cc in (refl, ap Some same)
  said_sizes Connects found e = absurd (wish_no_size (connects_as chosen values size) found e)
  said_sizes SaysOther found e = cc

  pub said_others : (g : Greeting) → said.Other ≡ said_behind g chosen values size → (connects_in g ≡ false) × (size ≡ size_after size g)
  said_others (Selects name) e = (refl, refl)
  said_others (HasSize w h) e = cc
  said_others Connects e = absurd (wish_no_other (connects_as chosen values size) e)
  said_others SaysOther e = (refl, refl)

  pub said_no_select : (g : Greeting) (name : List ℕ) → said.Select name ≡ said_behind g chosen values size → ⊥
  said_no_select (Selects n) name e = cc
  said_no_select (HasSize w h) name e = cc
  said_no_select Connects name e = wish_no_select (connects_as chosen values size) name e
  said_no_select SaysOther name e = cc

-- so many instructions were read behind `select`, none of them `connect`
pub record HasReadBehind (first left : Option (List ℕ)) (unread rest : List ℕ) (size : Option (ℕ × ℕ)) (count : ℕ) : Type 0 where
  pub bytes : List ℕ
  pub others : List (List (List ℕ))
  pub came_is : first ≡ came bytes left
  pub split : Splits (unread ++ bytes) others rest
  pub none : NoneConnects others
  pub count_is : length others ≡ count
  pub size_is : size ≡ last_size others

pub read_none : (first : Option (List ℕ)) (unread : List ℕ) → HasReadBehind first first unread unread None 0
read_none first unread = record { bytes = []; others = []; came_is = sym (came-none first); split = append-nil unread; none = tt; count_is = refl; size_is = refl }

module _ (first left now : Option (List ℕ)) (unread before rest : List ℕ) (size : Option (ℕ × ℕ)) (count : ℕ) (so_far : HasReadBehind first left unread before size count) (expected : Expected) (s : Said) (heard : HasHeard expected left now before rest (Ok s)) where
  pub values_of : List (List ℕ)
  values_of = heard.heard.1

  bytes_of : List ℕ
  bytes_of = so_far.bytes ++ heard.bytes

  came_on : first ≡ came bytes_of now
  unfolding bytes_of
  came_on = so_far.came_is ∙ ap (came so_far.bytes) heard.came_is ∙ came-came so_far.bytes heard.bytes now

  split_on : Splits (unread ++ bytes_of) (so_far.others ++ values_of ∷ []) rest
  unfolding bytes_of values_of
  split_on = subst (λ (l : List ℕ). Splits l (so_far.others ++ heard.heard.1 ∷ []) rest) (append_assoc unread so_far.bytes heard.bytes)
      (splits_more so_far.others (unread ++ so_far.bytes ++ heard.bytes) (before ++ heard.bytes) heard.heard.0 rest heard.heard.1 (splits_append so_far.others (unread ++ so_far.bytes) before heard.bytes so_far.split) heard.heard.2 heard.heard.3)

  pub said_is : s ≡ said_of expected values_of
  unfolding values_of
  said_is = heard.heard.4

  -- it isn't `connect`
  pub read_more : (found : Option (ℕ × ℕ)) → is_connect values_of ≡ false → found ≡ size_after size (greeting_of values_of) → HasReadBehind first now unread rest found (count + 1)
  read_more found other is = record {
    bytes = bytes_of;
    others = so_far.others ++ values_of ∷ [];
    came_is = came_on;
    split = split_on;
    none = none_more so_far.others values_of so_far.none other;
    count_is = length-append so_far.others (values_of ∷ []) ∙ ap (λ (n : ℕ). n + 1) so_far.count_is;
    size_is = is ∙ ap (λ (k : Option (ℕ × ℕ)). size_after k (greeting_of values_of)) so_far.size_is ∙ sym (last_size_more so_far.others values_of);
  }

  -- it is
  pub connected : (chosen : Selected) (result : Result Request Stop) → is_connect values_of ≡ true → count ≤ 64 → Answers (connects_as chosen values_of size) rest now result → HasConnected chosen first now unread rest result
  connected chosen result is few answers = record {
    bytes = bytes_of;
    instructions = so_far.others ++ values_of ∷ [];
    came_is = came_on;
    split = split_on;
    no_further = no_further_last chosen so_far.others values_of so_far.none (subst (λ (n : ℕ). n ≤ 64) (sym so_far.count_is) few);
    answers = subst (λ (w : Wish). Answers w rest now result)
        (ap (connects_as chosen values_of) so_far.size_is ∙ sym (asks_connect chosen so_far.others values_of so_far.none is (subst (λ (n : ℕ). n ≤ 64) (sym so_far.count_is) few)))
        answers;
  }

-- too many instructions came
pub connected_many : (chosen : Selected) (first left : Option (List ℕ)) (unread rest : List ℕ) (size : Option (ℕ × ℕ)) (count : ℕ) → HasReadBehind first left unread rest size count → count ≡ 65 → HasConnected chosen first left unread rest (Err (Refused bad_request))
connected_many chosen first left unread rest size count so_far many = record {
  bytes = so_far.bytes;
  instructions = so_far.others;
  came_is = so_far.came_is;
  split = so_far.split;
  no_further = no_further_open chosen so_far.others so_far.none (omega (arith, so_far.count_is, many));
  answers = OutOfForm (asks_many chosen so_far.others so_far.none (so_far.count_is ∙ many));
}

-- none came
pub stop_answers : (wish : Wish) (rest : List ℕ) (left : Option (List ℕ)) (stop : Stop) → wish ≡ Unfinished → StopsAt stop rest left → Answers wish rest left (Err stop)
stop_answers wish rest left (Refused status) is at = Broken is at.0 at.1
stop_answers wish rest left Ended is at = (is, at.0, at.1)
stop_answers wish rest left ReadFault is at = is
stop_answers wish rest left WriteFault is at = absurd at
stop_answers wish rest left NoMemory is at = is

pub connected_stop : (chosen : Selected) (first left now : Option (List ℕ)) (unread before rest : List ℕ) (size : Option (ℕ × ℕ)) (count : ℕ) (expected : Expected) (stop : Stop) (result : Result Request Stop) → HasReadBehind first left unread before size count → count ≤ 64 → HasHeard expected left now before rest (Err stop) → result ≡ Err stop → HasConnected chosen first now unread rest result
connected_stop chosen first left now unread before rest size count expected stop result so_far few heard e = record {
  bytes = so_far.bytes ++ heard.bytes;
  instructions = so_far.others;
  came_is = so_far.came_is ∙ ap (came so_far.bytes) heard.came_is ∙ came-came so_far.bytes heard.bytes now;
  split = subst (λ (l : List ℕ). Splits l so_far.others rest) (append_assoc unread so_far.bytes heard.bytes)
      (subst (λ (l : List ℕ). Splits (unread ++ so_far.bytes ++ heard.bytes) so_far.others l) (sym heard.heard.0) (splits_append so_far.others (unread ++ so_far.bytes) before heard.bytes so_far.split));
  no_further = no_further_open chosen so_far.others so_far.none (omega (arith, so_far.count_is, few));
  answers = subst (λ (r : Result Request Stop). Answers (asks_behind chosen so_far.others) rest now r) (sym e)
      (stop_answers _ rest now stop (asks_open chosen so_far.others so_far.none (subst (λ (n : ℕ). n ≤ 64) (sym so_far.count_is) few)) heard.heard.1);
}
