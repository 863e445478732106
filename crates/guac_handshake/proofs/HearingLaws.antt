-- One instruction, read as it comes.
use Rattle.std.proofs.Common.{◌≡◌, ℕ, ◌≤◌, List, [], ◌++◌, length, take, drop, Option, Ok, Err, refl, ap, sym, ◌∙◌, subst, append_assoc, append-nil, length-append, arith}
use Rattle.std.specs.Prelude.{Result}
use Rattle.std.proofs.lemmas.List.{take-append-drop}
use Rattle.gate_outside.specs.Edge.{came}
use Rattle.gate_outside.proofs.Moved.{came-came, came-none}
use Rattle.guac_framing.specs.Answers.{IsWhole}
use Rattle.guac_framing.specs.Found.{IsUnfinished}
use Rattle.guac_handshake.specs.Heard.{HasHeard, HeardBy, StopsAt, said_of}
use Rattle.guac_handshake.specs.declared.stop.Stop.TheVariants.{Refused, Ended, ReadFault, WriteFault, NoMemory}
use Rattle.guac_handshake.specs.Moved.{IsReadStop, Moved}
use Rattle.guac_handshake.specs.Splits.{IsInstruction}
use Rattle.guac_handshake.specs.declared.expected.Expected.{Expected}
use Rattle.guac_handshake.specs.declared.expected.Said.{Said}
use Rattle.guac_handshake.specs.declared.stop.Stop.{Stop}

-- fewer bytes than an instruction may have are unfinished
pub few_unfinished : (bytes : List ℕ) → IsUnfinished bytes → length bytes ≤ 8192
few_unfinished bytes is = let size = is.completion.2.size in omega (arith, size, length-append bytes is.completion.0)

-- one reading after another
pub moved_more : (a b c : Option (List ℕ)) (x y z : List ℕ) → Moved a b x y → Moved b c y z → Moved a c x z
moved_more a b c x y z m n = (m.0 ++ n.0, m.1 ∙ ap (came m.0) n.1 ∙ came-came m.0 n.0 c, n.2 ∙ ap (λ (l : List ℕ). l ++ n.0) m.2 ∙ append_assoc x m.0 n.0)

pub moved_none : (a : Option (List ℕ)) (x : List ℕ) → Moved a a x x
moved_none a x = ([], sym (came-none a), sym (append-nil x))

-- the instruction at the front of what is unread
pub is_front : (bytes : List ℕ) (values : List (List ℕ)) (n : ℕ) → IsWhole bytes values n → IsInstruction (take n bytes) values
is_front bytes values n whole = (whole.elements, whole.spelled, whole.texts)

module _ (expected : Expected) (a b : Option (List ℕ)) (unread now : List ℕ) (moved : Moved a b unread now) where
  -- an instruction was heard
  pub heard_whole : (values : List (List ℕ)) (n : ℕ) (said : Said) (rest : List ℕ) → IsWhole now values n → said ≡ said_of expected values → rest ≡ drop n now → HasHeard expected a b unread rest (Ok said)
  heard_whole values n said rest whole is left = record {
    bytes = moved.0;
    came_is = moved.1;
    heard = (take n now, values, is_front now values n whole, sym moved.2 ∙ sym (take-append-drop n now) ∙ ap (λ (l : List ℕ). take n now ++ l) (sym left), is);
  }

  -- none was
  pub heard_stop : (stop : Stop) → HeardBy expected now now b (Err stop) → HasHeard expected a b unread now (Err stop)
  heard_stop stop is = record {
    bytes = moved.0;
    came_is = moved.1;
    heard = (moved.2, is.1);
  }

-- a failed reading leaves what was unfinished
pub stops_at_read : (stop : Stop) (before rest : List ℕ) (left : Option (List ℕ)) → IsReadStop stop → IsUnfinished before → rest ≡ before → StopsAt stop rest left
stops_at_read (Refused status) before rest left is unfinished e = absurd is
stops_at_read Ended before rest left is unfinished e = absurd is
stops_at_read ReadFault before rest left is unfinished e = subst IsUnfinished (sym e) unfinished
stops_at_read WriteFault before rest left is unfinished e = absurd is
stops_at_read NoMemory before rest left is unfinished e = tt

-- no instruction was heard, since a reading failed
pub heard_fault : (expected : Expected) (a b c : Option (List ℕ)) (unread before rest slice : List ℕ) (stop : Stop) (result : Result Said Stop) → Moved a b unread before → Moved b c before rest → slice ≡ before → rest ≡ before → IsUnfinished slice → IsReadStop stop → result ≡ Err stop → HasHeard expected a c unread rest result
heard_fault expected a b c unread before rest slice stop result m n same stopped unfinished is e =
    let P : Result Said Stop → Type 0 = λ r. HasHeard expected a c unread rest r in
    subst P (sym e)
    (heard_stop expected a c unread rest (moved_more a b c unread before rest m n) stop
    (refl, stops_at_read stop before rest c is (subst IsUnfinished same unfinished) stopped))
