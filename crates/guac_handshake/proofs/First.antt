-- The first instruction.
use Rattle.std.proofs.Common.{◌≡◌, ℕ, List, [], ◌∷◌, ◌++◌, length, Option, Some, None, Ok, Err, Bool, false, refl, ap, sym, ◌∙◌, subst, append_assoc, append-nil, arith}
use Rattle.std.specs.Prelude.{Result, IfSome, is_some}
use Rattle.std.proofs.Math.Seq.{take-length}
use Rattle.gate_model.specs.text.HelloMeaning.{Greeting, Selects, HasSize, Connects, SaysOther, greeting_of}
use Rattle.gate_outside.specs.Edge.{GainedFront, came, gained}
use Rattle.gate_outside.proofs.Moved.{came-came, came-none, gained-none}
use Rattle.guac_handshake.specs.declared.request.Selected.{Selected}
use Rattle.guac_handshake.specs.declared.request.Request.{Request}
use Rattle.guac_handshake.specs.declared.expected.Expected.TheVariants as expected
use Rattle.guac_handshake.specs.declared.expected.Said.TheVariants as said
use Rattle.guac_handshake.specs.declared.stop.Stop.{Stop}
use Rattle.guac_handshake.specs.declared.stop.Stop.TheVariants.{Refused, Ended, ReadFault, WriteFault, NoMemory}
use Rattle.guac_handshake.specs.Asks.{ReadsNoFurther, Wish, Unfinished, Refuses, asks, asks_behind, asks_first, asks_selected, selected, selected_by, selection_of}
use Rattle.guac_handshake.specs.Doors.{Sessions, at_name}
use Rattle.guac_handshake.specs.Heard.{HasHeard, said_first}
use Rattle.guac_handshake.specs.Greetings.{Answers, Chose, HasAsked, HasConnected, HasSelected, IsFound, IsLook, OutOfForm, WroteArgs, found_as, name_looked_at}
use Rattle.guac_handshake.specs.Splits.{Splits}
use Rattle.gate_model.specs.text.Statuses.{bad_request}
use Rattle.guac_handshake.specs.Texts.{args_for, args_text}
use Rattle.guac_handshake.proofs.Behind.{asks_open, not_none, stop_answers}

-- nothing was looked at
look_none : (id_of : List ℕ → Option (List ℕ)) (sessions : Option Sessions) (known : Bool) (o : Option (List ℕ)) → o ≡ None → IfSome sessions (λ m. IfSome o (λ name. known ≡ is_some (at_name (id_of name) m)))
look_none id_of None known o e = tt
look_none id_of (Some m) known o e = subst (λ (x : Option (List ℕ)). IfSome x (λ name. known ≡ is_some (at_name (id_of name) m))) (sym e) tt

-- no more than one was read
no_further_none : (known : Bool) → ReadsNoFurther (asks known) []
no_further_none known = λ front more values is. absurd (not_none front more values is)

no_further_one : (known : Bool) (first : List (List ℕ)) → ReadsNoFurther (asks known) (first ∷ [])
no_further_one known first = λ front more values is. by front more values is
  where
    by : (front more : List (List (List ℕ))) (values : List (List ℕ)) → first ∷ [] ≡ front ++ values ∷ more → asks known front ≡ Unfinished
    by [] more values is = refl
    by (f ∷ front) more values is = absurd (not_none front more values (let same : [] ≡ front ++ values ∷ more = cc in same))

-- an instruction out of form selects nothing
bad_asks : (known : Bool) (g : Greeting) → said.Bad ≡ said_first g → (asks_first known g [] ≡ Refuses bad_request) × (selection_of known g ≡ None) × (name_looked_at g ≡ None)
bad_asks known (Selects name) e = cc
bad_asks known (HasSize w h) e = (refl, refl, refl)
bad_asks known Connects e = (refl, refl, refl)
bad_asks known SaysOther e = (refl, refl, refl)

selects : (g : Greeting) (name : List ℕ) → said.Select name ≡ said_first g → g ≡ Selects name
selects (Selects n) name e = let same : n ≡ name = cc in ap (λ (x : List ℕ). Selects x) same
selects (HasSize w h) name e = cc
selects Connects name e = cc
selects SaysOther name e = cc

module _ (id_of : List ℕ → Option (List ℕ)) (sessions : Option Sessions) (a b : Option (List ℕ)) (unread rest : List ℕ) where
  pub select_stop : (stop : Stop) (result : Result Selected Stop) → HasHeard expected.Select a b unread rest (Err stop) → result ≡ Err stop → HasSelected id_of sessions a b unread rest result
  select_stop stop result h e = record {
    bytes = h.bytes;
    instructions = [];
    known = false;
    came_is = h.came_is;
    split = sym h.heard.0;
    no_further = no_further_none false;
    looked = look_none id_of sessions false None refl;
    chose = subst (λ (r : Result Selected Stop). Chose false [] rest b r) (sym e) (refl, stop_answers Unfinished rest b stop refl h.heard.1);
  }

  pub select_bad : HasHeard expected.Select a b unread rest (Ok said.Bad) → HasSelected id_of sessions a b unread rest (Err (Refused bad_request))
  select_bad h =
      let f = bad_asks false (greeting_of h.heard.1) h.heard.4 in
      record {
        bytes = h.bytes;
        instructions = h.heard.1 ∷ [];
        known = false;
        came_is = h.came_is;
        split = (h.heard.0, rest, h.heard.2, h.heard.3, refl);
        no_further = no_further_one false h.heard.1;
        looked = look_none id_of sessions false (name_looked_at (greeting_of h.heard.1)) f.2;
        chose = (f.1, OutOfForm f.0);
      }

  chose_found : (known : Bool) (values : List (List ℕ)) (name : List ℕ) (o : Option Selected) (result : Result Selected Stop) → greeting_of values ≡ Selects name → o ≡ selected_by known name → result ≡ found_as o → Chose known (values ∷ []) rest b result
  chose_found known values name None result is o e =
      subst (λ (r : Result Selected Stop). Chose known (values ∷ []) rest b r) (sym e)
      (ap (selection_of known) is ∙ sym o, OutOfForm (ap (λ (g : Greeting). asks_first known g []) is ∙ ap (λ (s : Option Selected). asks_selected s []) (sym o)))
  chose_found known values name (Some chosen) result is o e =
      subst (λ (r : Result Selected Stop). Chose known (values ∷ []) rest b r) (sym e)
      (values, refl, ap (selection_of known) is ∙ sym o)

  pub select_found : (name : List ℕ) (result : Result Selected Stop) → HasHeard expected.Select a b unread rest (Ok (said.Select name)) → IsFound id_of sessions name result → HasSelected id_of sessions a b unread rest result
  select_found name result h found =
      let is = selects (greeting_of h.heard.1) name h.heard.4 in
      record {
        bytes = h.bytes;
        instructions = h.heard.1 ∷ [];
        known = found.known;
        came_is = h.came_is;
        split = (h.heard.0, rest, h.heard.2, h.heard.3, refl);
        no_further = no_further_one found.known h.heard.1;
        looked = subst (λ (g : Greeting). IfSome sessions (λ m. IfSome (name_looked_at g) (λ n. found.known ≡ is_some (at_name (id_of n) m)))) (sym is) found.looked;
        chose = chose_found found.known h.heard.1 name (selected_by found.known name) result is refl found.found;
      }

-- whatever came after it, the instructions ask what those behind do
asks_chosen : (known : Bool) (g : Greeting) (chosen : Selected) (others : List (List (List ℕ))) → selection_of known g ≡ Some chosen → asks_first known g others ≡ asks_behind chosen others
asks_chosen known (Selects name) chosen others e = ap (λ (s : Option Selected). asks_selected s others) e
asks_chosen known (HasSize w h) chosen others e = cc
asks_chosen known Connects chosen others e = cc
asks_chosen known SaysOther chosen others e = cc

no_further_on : (known : Bool) (first : List (List ℕ)) (others : List (List (List ℕ))) (chosen : Selected) → selection_of known (greeting_of first) ≡ Some chosen → ReadsNoFurther (asks_behind chosen) others → ReadsNoFurther (asks known) (first ∷ others)
no_further_on known first others chosen only further = λ front more values is. by front more values is
  where
    by : (front more : List (List (List ℕ))) (values : List (List ℕ)) → first ∷ others ≡ front ++ values ∷ more → asks known front ≡ Unfinished
    by [] more values is = refl
    by (f ∷ front) more values is =
        let same : f ≡ first = cc in
        let behind : others ≡ front ++ values ∷ more = cc in
        ap (λ (x : List (List ℕ)). asks_first known (greeting_of x) front) same ∙ (asks_chosen known (greeting_of first) chosen front only ∙ further front more values behind)

splits_join : (es fs : List (List (List ℕ))) (text mid more rest : List ℕ) → Splits text es mid → Splits (mid ++ more) fs rest → Splits (text ++ more) (es ++ fs) rest
splits_join [] fs text mid more rest s t = subst (λ (l : List ℕ). Splits (l ++ more) fs rest) (sym s) t
splits_join (e ∷ es) fs text mid more rest s t = (s.0, s.1 ++ more, s.2, ap (λ (l : List ℕ). l ++ more) s.3 ∙ append_assoc s.0 s.1 more, splits_join es fs s.1 mid more rest s.4 t)

-- the whole parameters were written
pub wrote_all : (args : List ℕ) (before now : Option (List ℕ)) (result : Result Request Stop) → now ≡ gained before args → WroteArgs args before now result
wrote_all args before now (Ok request) e = e
wrote_all args before now (Err (Refused status)) e = e
wrote_all args before now (Err Ended) e = e
wrote_all args before now (Err ReadFault) e = e
wrote_all args before now (Err WriteFault) e = (length args, omega arith, e ∙ ap (gained before) (sym (take-length args)))
wrote_all args before now (Err NoMemory) e = (length args, omega arith, e ∙ ap (gained before) (sym (take-length args)))

module _ (id_of : List ℕ → Option (List ℕ)) (sessions : Option Sessions) (a b : Option (List ℕ)) (w v : Option (List ℕ)) (unread rest : List ℕ) where
  -- nothing was read
  pub asked_none : (result : Result Request Stop) → result ≡ Err NoMemory → HasAsked id_of sessions a a w w unread unread result
  asked_none result e = subst (λ (r : Result Request Stop). HasAsked id_of sessions a a w w unread unread r) (sym e) (record {
    bytes = [];
    instructions = [];
    known = false;
    came_is = sym (came-none a);
    split = append-nil unread;
    no_further = no_further_none false;
    looked = look_none id_of sessions false None refl;
    answers = refl;
    wrote = wrote_all [] w w (Err NoMemory) (sym (gained-none w));
  })

  -- nothing known was selected
  pub asked_early : (stop : Stop) (result : Result Request Stop) → HasSelected id_of sessions a b unread rest (Err stop) → result ≡ Err stop → HasAsked id_of sessions a b w w unread rest result
  asked_early stop result s e = subst (λ (r : Result Request Stop). HasAsked id_of sessions a b w w unread rest r) (sym e) (record {
    bytes = s.bytes;
    instructions = s.instructions;
    known = s.known;
    came_is = s.came_is;
    split = s.split;
    no_further = s.no_further;
    looked = s.looked;
    answers = s.chose.1;
    wrote = wrote_all (args_for (selected s.known s.instructions)) w w (Err stop) (sym (ap (λ (o : Option Selected). gained w (args_for o)) s.chose.0 ∙ gained-none w));
  })

  -- the parameters couldn't be written
  pub asked_unwritten : (chosen : Selected) (result : Result Request Stop) → HasSelected id_of sessions a b unread rest (Ok chosen) → GainedFront w v (args_text chosen) → result ≡ Err WriteFault → HasAsked id_of sessions a b w v unread rest result
  asked_unwritten chosen result s front e =
      let f = s.chose in
      let is : selected s.known s.instructions ≡ Some chosen = ap (selected s.known) f.1 ∙ sym (ap (selected s.known) f.1) ∙ f.2 in
      subst (λ (r : Result Request Stop). HasAsked id_of sessions a b w v unread rest r) (sym e) (record {
        bytes = s.bytes;
        instructions = s.instructions;
        known = s.known;
        came_is = s.came_is;
        split = s.split;
        no_further = s.no_further;
        looked = s.looked;
        answers = ap (asks s.known) f.1 ∙ asks_chosen s.known (greeting_of f.0) chosen [] (sym (ap (selected s.known) f.1) ∙ f.2) ∙ asks_open chosen [] tt (omega arith);
        wrote = subst (λ (o : Option Selected). GainedFront w v (args_for o)) (sym is) front;
      })

-- what came behind the parameters
pub asked_on : (id_of : List ℕ → Option (List ℕ)) (sessions : Option Sessions) (a b c w v : Option (List ℕ)) (unread mid rest : List ℕ) (chosen : Selected) (result : Result Request Stop) → HasSelected id_of sessions a b unread mid (Ok chosen) → v ≡ gained w (args_text chosen) → HasConnected chosen b c mid rest result → HasAsked id_of sessions a c w v unread rest result
asked_on id_of sessions a b c w v unread mid rest chosen result s written h =
    let f = s.chose in
    let only : selection_of s.known (greeting_of f.0) ≡ Some chosen = sym (ap (selected s.known) f.1) ∙ f.2 in
    record {
      bytes = s.bytes ++ h.bytes;
      instructions = f.0 ∷ h.instructions;
      known = s.known;
      came_is = s.came_is ∙ ap (came s.bytes) h.came_is ∙ came-came s.bytes h.bytes c;
      split = subst (λ (l : List ℕ). Splits l (f.0 ∷ h.instructions) rest) (append_assoc unread s.bytes h.bytes)
          (splits_join (f.0 ∷ []) h.instructions (unread ++ s.bytes) mid h.bytes rest (subst (λ (l : List (List (List ℕ))). Splits (unread ++ s.bytes) l mid) f.1 s.split) h.split);
      no_further = no_further_on s.known f.0 h.instructions chosen only h.no_further;
      looked = subst (λ (l : List (List (List ℕ))). IsLook id_of sessions s.known l) f.1 s.looked;
      answers = subst (λ (x : Wish). Answers x rest c result) (sym (asks_chosen s.known (greeting_of f.0) chosen h.instructions only)) h.answers;
      wrote = wrote_all (args_for (selection_of s.known (greeting_of f.0))) w v result (written ∙ sym (ap (λ (o : Option Selected). gained w (args_for o)) only));
    }
