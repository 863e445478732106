-- A head that is taken stays so while its body comes, and until then no request is whole.
use Rattle.std.proofs.Common.{◌≡◌, ℕ, ◌+◌, ◌-◌, ◌<◌, ◌≤◌, List, ◌++◌, length, take, drop, map, ap, sym, subst, ◌∙◌, Result, Err, IfErr, arith, length-append, length-drop}
use Rattle.std.proofs.lemmas.List.{drop-append-le, take-append-le}
use Rattle.httparse.specs.Grammar.{RequestHead, ReadsRequest}
use Rattle.httparse.specs.Spans.{IsWithin, name_and_value, span_bytes}
use Rattle.httparse.specs.declared.spans.Span.{Span}
use Rattle.httparse.proofs.GrammarLemmas.{ReadsRequest-append, request_unique}
use Rattle.http_front.specs.Requests.{Begins, IsTaken, IsUnfinished, announced}
use Rattle.http_front.specs.Fields.{refusal_of}
use Rattle.http_front.specs.Requests.{HasStopped}
use Rattle.http_front.specs.Moved.{IsBodyStop}
use Rattle.http_front.specs.declared.head.Head.{Head}
use Rattle.http_front.specs.declared.stop.Stop.{Stop}
use Rattle.http_front.specs.declared.stop.Stop.TheVariants.{Refused, Ended, ReadFault, NoMemory}

-- a span of the front is the same, whatever follows
span_more : (bytes more : List ℕ) (n : ℕ) (s : Span) → n ≤ length bytes → IsWithin n s → span_bytes (bytes ++ more) s ≡ span_bytes bytes s
span_more bytes more n s le within =
    ap (take (s.end - s.start)) (drop-append-le s.start bytes more (omega (arith, within.0, within.1)))
    ∙ take-append-le (s.end - s.start) (drop s.start bytes) more (omega (arith, within.0, within.1, length-drop s.start bytes))

pub taken_more : (bytes more : List ℕ) (place : Head) → IsTaken bytes place → IsTaken (bytes ++ more) place
taken_more bytes more place is = record {
  head = is.head;
  begins = record {
    reads = subst (λ rest. ReadsRequest (bytes ++ more) is.head rest) (sym (drop-append-le place.body bytes more is.within)) (ReadsRequest-append bytes is.head (drop place.body bytes) more is.begins.reads);
    few = is.begins.few;
  };
  ends = is.ends;
  within = omega (arith, is.within, length-append bytes more);
  taken = is.taken;
  method = span_more bytes more place.body place.method is.within is.method_fits ∙ is.method;
  method_fits = is.method_fits;
  target = span_more bytes more place.body place.target is.within is.target_fits ∙ is.target;
  target_fits = is.target_fits;
  size = is.size;
}

-- what is said of a head that begins the bytes is said of the one that is taken
pub unfinished : (bytes : List ℕ) (place : Head) → IsTaken bytes place → length bytes < place.body + place.size → IsUnfinished bytes
unfinished bytes place is short head rest begins =
    let same = request_unique bytes is.head head (drop place.body bytes) rest is.begins.reads begins.reads in (
      ap (λ (h : RequestHead). refusal_of (map name_and_value h.fields)) (sym same.0) ∙ is.taken,
      omega (arith, short, is.within, is.size, ap announced same.0, ap length same.1, length-drop place.body bytes),
    )

-- reading that stopped while the body came
pub stopped_short : (bytes more all : List ℕ) (place : Head) (stop : Stop) → IsTaken bytes place → all ≡ bytes ++ more → length all < place.body + place.size → IsBodyStop stop → HasStopped all stop
stopped_short bytes more all place (Refused status) is same short kind = absurd kind
stopped_short bytes more all place Ended is same short kind = unfinished all place (subst (λ b. IsTaken b place) (sym same) (taken_more bytes more place is)) short
stopped_short bytes more all place ReadFault is same short kind = unfinished all place (subst (λ b. IsTaken b place) (sym same) (taken_more bytes more place is)) short
stopped_short bytes more all place NoMemory is same short kind = tt

-- .. as it is handed on
pub handed_on : {A B : Type 0} (bytes more all : List ℕ) (place : Head) (r : Result A Stop) (s : Result B Stop) (stop : Stop) → IsTaken bytes place → all ≡ bytes ++ more → length all < place.body + place.size → r ≡ Err stop → IfErr r IsBodyStop → s ≡ Err stop → IfErr s (HasStopped all)
handed_on bytes more all place r s stop is same short was kind on =
    subst (λ q. IfErr q (HasStopped all)) (sym on) (stopped_short bytes more all place stop is same short (subst (λ q. IfErr q IsBodyStop) was kind))
