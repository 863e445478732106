-- What rounds draw, and who is there after them.
use Rattle.std.proofs.Common.{◌≡◌, ℕ, zero, suc, ◌+◌, ◌*◌, ◌/◌, ◌%◌, ◌<◌, ◌≤◌, ◌^◌, List, [], ◌∷◌, ◌++◌, drop, length, Bool, true, false, refl, ap, sym, ◌∙◌, subst, arith, length-append, add-one}
use Rattle.std.specs.Prelude.{◌==◌, nat_lt, if◌then◌else◌, decimal, All, flat_map}
use Rattle.std.proofs.lemmas.Bool.{lt-ltb, ltb-true}
use Rattle.std.proofs.lemmas.Fmt.{length-decimal-le_succ}
use Rattle.std.proofs.lemmas.List.Elements.{All-nil, All-cons}
use Rattle.script_grammar.specs.declared.line.Line.{Line}
use Rattle.script_grammar.specs.declared.line.Line.TheVariants.{At, Server, Press, Read, Take, Acknowledge}
use Rattle.script_load.specs.Words.{Words, drawn}
use Rattle.script_load.specs.declared.rounds.Rounds.{Rounds}
use Rattle.script_load.specs.Draws.{IsDrawn, stand_of}
use Rattle.script_load.specs.Rounds.{IsRoundLine, Stand, after, after_word, came, coming, deeds, feed_size, first_leaves, read_and_acknowledge, round_lines, stand_after, text_of, texts_of, turn}

-- ---- who is there

in_by : (s : Stand) (b : Bool) → b ≡ true → (if b then record s { others = s.others ++ (s.joined + 1) ∷ []; joined = s.joined + 1 } else record s { others = drop 1 s.others }) ≡ record s { others = s.others ++ (s.joined + 1) ∷ []; joined = s.joined + 1 }
in_by s b e = rw e refl

out_by : (s : Stand) (b : Bool) → b ≡ false → (if b then record s { others = s.others ++ (s.joined + 1) ∷ []; joined = s.joined + 1 } else record s { others = drop 1 s.others }) ≡ record s { others = drop 1 s.others }
out_by s b e = rw e refl

not_less : (a b : ℕ) → b ≤ a → nat_lt a b ≡ false
not_less a b le = by (nat_lt a b) refl
  where
    by : (x : Bool) → nat_lt a b ≡ x → x ≡ false
    by true e = absurd (omega (arith, ltb-true a b e, le))
    by false e = refl

-- a viewer joined
pub came_in : (s : Stand) → length s.others < 7 → came s ≡ record s { others = s.others ++ (s.joined + 1) ∷ []; joined = s.joined + 1 }
came_in s few = in_by s (nat_lt (length s.others) 7) (lt-ltb (length s.others) 7 few)

-- the first one left
pub came_out : (s : Stand) → 7 ≤ length s.others → came s ≡ record s { others = drop 1 s.others }
came_out s many = out_by s (nat_lt (length s.others) 7) (not_less (length s.others) 7 many)

-- ---- how much was drawn

-- of so many rounds
pub record IsFew (s : Stand) (rounds : ℕ) : Type 0 where
  pub drawn : s.drawn ≤ 201 * rounds
  pub joined : s.joined ≤ rounds + 1

few_size : (w : ℕ) → feed_size w ≤ 200
few_size w = grind arith

came_few : (s : Stand) (rounds : ℕ) → IsFew s rounds → IsFew (came s) (rounds + 1)
came_few s rounds f = by (nat_lt (length s.others) 7)
  where
    by : (b : Bool) → IsFew (if b then record s { others = s.others ++ (s.joined + 1) ∷ []; joined = s.joined + 1 } else record s { others = drop 1 s.others }) (rounds + 1)
    by true = record { drawn = omega (arith, f.drawn); joined = omega (arith, f.joined) }
    by false = record { drawn = omega (arith, f.drawn); joined = omega (arith, f.joined) }

-- one word more was drawn
one_drawn : (s : Stand) (n rounds : ℕ) → n ≤ 201 → IsFew s rounds → IsFew (record s { drawn = s.drawn + n }) (rounds + 1)
one_drawn s n rounds few f = record { drawn = omega (arith, f.drawn, few); joined = omega (arith, f.joined) }

after_few : (word : Words) (s : Stand) (rounds : ℕ) → IsFew s rounds → IsFew (after word s) (rounds + 1)
after_few word s rounds f = by (word s.drawn)
  where
    next : Stand
    next = record s { drawn = s.drawn + 1 }

    came_more : (b : Bool) → IsFew (if b then record next { others = next.others ++ (next.joined + 1) ∷ []; joined = next.joined + 1 } else record next { others = drop 1 next.others }) (rounds + 1)
    came_more true = record { drawn = omega (arith, f.drawn); joined = omega (arith, f.joined) }
    came_more false = record { drawn = omega (arith, f.drawn); joined = omega (arith, f.joined) }

    second : (b : Bool) → IsFew (if b then came next else next) (rounds + 1)
    second true = came_more (nat_lt (length next.others) 7)
    second false = record { drawn = omega (arith, f.drawn); joined = omega (arith, f.joined) }

    first : (w : ℕ) (b c : Bool) → IsFew (if b then record next { drawn = next.drawn + feed_size w } else (if c then came next else next)) (rounds + 1)
    first w true c = record { drawn = omega (arith, f.drawn, few_size w); joined = omega (arith, f.joined) }
    first w false c = second c

    by : (w : ℕ) → IsFew (after_word w next) (rounds + 1)
    by w = first w (nat_lt (w % 8) 5) (w % 8 == 5)

pub stands_few : (word : Words) (rounds : ℕ) → IsFew (stand_after word rounds) rounds
stands_few word zero = record { drawn = omega arith; joined = omega arith }
stands_few word (suc rounds) = subst (IsFew (stand_after word (suc rounds))) (add-one rounds) (after_few word (stand_after word rounds) rounds (stands_few word rounds))

-- ---- a round more

pub after_feed : (word : Words) (s : Stand) (w : ℕ) → w ≡ word s.drawn → w % 8 < 5 → after word s ≡ record s { drawn = s.drawn + 1 + feed_size w }
after_feed word s w is less = ap (λ (x : ℕ). after_word x record s { drawn = s.drawn + 1 }) (sym is) ∙ by (nat_lt (w % 8) 5) (lt-ltb (w % 8) 5 less)
  where
    by : (b : Bool) → b ≡ true → (if b then record s { drawn = s.drawn + 1 + feed_size w } else (if w % 8 == 5 then came record s { drawn = s.drawn + 1 } else record s { drawn = s.drawn + 1 })) ≡ record s { drawn = s.drawn + 1 + feed_size w }
    by b e = rw e refl

pub after_coming : (word : Words) (s : Stand) (w : ℕ) → w ≡ word s.drawn → w % 8 ≡ 5 → after word s ≡ came record s { drawn = s.drawn + 1 }
after_coming word s w is five = ap (λ (x : ℕ). after_word x record s { drawn = s.drawn + 1 }) (sym is) ∙ by (w % 8) five
  where
    by : (r : ℕ) → r ≡ 5 → (if nat_lt r 5 then record s { drawn = s.drawn + 1 + feed_size w } else (if r == 5 then came record s { drawn = s.drawn + 1 } else record s { drawn = s.drawn + 1 })) ≡ came record s { drawn = s.drawn + 1 }
    by r e = rw e refl

pub after_other : (word : Words) (s : Stand) (w : ℕ) → w ≡ word s.drawn → 6 ≤ w % 8 → after word s ≡ record s { drawn = s.drawn + 1 }
after_other word s w is more = ap (λ (x : ℕ). after_word x record s { drawn = s.drawn + 1 }) (sym is) ∙ by (nat_lt (w % 8) 5) (w % 8 == 5) (not_less (w % 8) 5 (omega (arith, more))) (not_five (w % 8) more)
  where
    not_five : (r : ℕ) → 6 ≤ r → (r == 5) ≡ false
    not_five r le = grind arith

    by : (b c : Bool) → b ≡ false → c ≡ false → (if b then record s { drawn = s.drawn + 1 + feed_size w } else (if c then came record s { drawn = s.drawn + 1 } else record s { drawn = s.drawn + 1 })) ≡ record s { drawn = s.drawn + 1 }
    by b c e f = rw (e, f) refl

-- rounds stand where the next one leaves them
pub drawn_next : (r n : Rounds) → IsDrawn r → n.seed ≡ r.seed → n.round ≡ r.round + 1 → n.draws.seed ≡ r.draws.seed → (s : Stand) → after (drawn r.seed) (stand_of r) ≡ s → n.draws.place ≡ s.drawn → n.others.items ≡ s.others → n.joined ≡ s.joined → IsDrawn n
drawn_next r n old seed round draws s is place others joined = record {
  seed = draws ∙ (old.seed ∙ sym seed);
  place = place ∙ ap (λ (s : Stand). s.drawn) (sym stands);
  others = others ∙ ap (λ (s : Stand). s.others) (sym stands);
  joined = joined ∙ ap (λ (s : Stand). s.joined) (sym stands);
}
  where
    stands : stand_of n ≡ s
    stands = ap (λ (k : ℕ). stand_after (drawn k) n.round) seed ∙ (ap (stand_after (drawn r.seed)) (round ∙ add-one r.round) ∙ is)

-- .. where a viewer came or went
pub came_next : (r n : Rounds) (s : Stand) (w : ℕ) → IsDrawn r → w ≡ drawn r.seed s.drawn → s ≡ stand_of r → w % 8 ≡ 5 → n.seed ≡ r.seed → n.round ≡ r.round + 1 → n.draws.seed ≡ r.draws.seed → n.draws.place ≡ r.draws.place + 1
    → n.others.items ≡ (came record { drawn = 0; others = r.others.items; joined = r.joined }).others → n.joined ≡ (came record { drawn = 0; others = r.others.items; joined = r.joined }).joined → IsDrawn n
came_next r n s w old is at five seed round draws place others joined =
    let t : Stand = came record s { drawn = s.drawn + 1 } in
    drawn_next r n old seed round draws t (ap (after (drawn r.seed)) (sym at) ∙ after_coming (drawn r.seed) s w is five)
    (place ∙ (ap (λ (k : ℕ). k + 1) (old.place ∙ ap (λ (s : Stand). s.drawn) (sym at)) ∙ sym (still (nat_lt (length s.others) 7))))
    (others ∙ (ap (λ (l : List ℕ). (came record { drawn = 0; others = l; joined = r.joined }).others) (old.others ∙ ap (λ (s : Stand). s.others) (sym at)) ∙ (ap (λ (k : ℕ). (came record { drawn = 0; others = s.others; joined = k }).others) (old.joined ∙ ap (λ (s : Stand). s.joined) (sym at)) ∙ same_others (nat_lt (length s.others) 7))))
    (joined ∙ (ap (λ (l : List ℕ). (came record { drawn = 0; others = l; joined = r.joined }).joined) (old.others ∙ ap (λ (s : Stand). s.others) (sym at)) ∙ (ap (λ (k : ℕ). (came record { drawn = 0; others = s.others; joined = k }).joined) (old.joined ∙ ap (λ (s : Stand). s.joined) (sym at)) ∙ same_joined (nat_lt (length s.others) 7))))
  where
    more : ℕ → Stand
    more k = record { drawn = k; others = s.others ++ (s.joined + 1) ∷ []; joined = s.joined + 1 }

    fewer : ℕ → Stand
    fewer k = record { drawn = k; others = drop 1 s.others; joined = s.joined }

    still : (b : Bool) → (if b then more (s.drawn + 1) else fewer (s.drawn + 1)).drawn ≡ s.drawn + 1
    still true = refl
    still false = refl

    same_others : (b : Bool) → (if b then more 0 else fewer 0).others ≡ (if b then more (s.drawn + 1) else fewer (s.drawn + 1)).others
    same_others true = refl
    same_others false = refl

    same_joined : (b : Bool) → (if b then more 0 else fewer 0).joined ≡ (if b then more (s.drawn + 1) else fewer (s.drawn + 1)).joined
    same_joined true = refl
    same_joined false = refl

-- ---- what a round's lines hold

short : (row column : ℕ) → row ≤ 24 → column ≤ 80 → length (27 ∷ 91 ∷ decimal row ++ 59 ∷ decimal column ++ 72 ∷ []) ≤ 110
short row column few few' =
    let r = length-decimal-le_succ row (omega (arith, few)) in
    let c = length-decimal-le_succ column (omega (arith, few')) in
    omega (arith, length-append ((27 ∷ 91 ∷ decimal row) ++ (59 ∷ decimal column)) (72 ∷ []), length-append (27 ∷ 91 ∷ decimal row) (59 ∷ decimal column), r, c, few, few')

text_few : (w : ℕ) → (1 ≤ length (text_of w)) × (length (text_of w) ≤ 110)
text_few w = by (w % 16 == 0) (w % 16 == 1) (w % 16 == 2)
  where
    place : List ℕ
    place = 27 ∷ 91 ∷ decimal (1 + w / 16 % 24) ++ 59 ∷ decimal (1 + w / 1024 % 80) ++ 72 ∷ []

    row : 1 + w / 16 % 24 ≤ 24
    row = grind arith

    column : 1 + w / 1024 % 80 ≤ 80
    column = grind arith

    short_place : length place ≤ 110
    short_place = short (1 + w / 16 % 24) (1 + w / 1024 % 80) row column

    by : (b c d : Bool) → (1 ≤ length (if b then 13 ∷ 10 ∷ [] else (if c then 27 ∷ 91 ∷ 51 ∷ (48 + w / 16 % 8) ∷ 109 ∷ [] else (if d then place else (32 + w / 16 % 95) ∷ []))))
        × (length (if b then 13 ∷ 10 ∷ [] else (if c then 27 ∷ 91 ∷ 51 ∷ (48 + w / 16 % 8) ∷ 109 ∷ [] else (if d then place else (32 + w / 16 % 95) ∷ []))) ≤ 110)
    by true c d = (omega arith, omega arith)
    by false true d = (omega arith, omega arith)
    by false false true = (omega arith, short_place)
    by false false false = (omega arith, omega arith)

texts_few : (word : Words) (place n : ℕ) → (n ≤ length (texts_of word place n)) × (length (texts_of word place n) ≤ 110 * n)
texts_few word place zero = (omega arith, omega arith)
texts_few word place (suc n) =
    let before = texts_few word place n in
    let own = text_few (word (place + n)) in
    let both = length-append (texts_of word place n) (text_of (word (place + n))) in
    (omega (arith, both, before.0, own.0), omega (arith, both, before.1, own.1))

turns : (others : List ℕ) → All IsRoundLine (flat_map read_and_acknowledge others)
turns [] = All-nil IsRoundLine
turns (v ∷ others) =
    let rest : List Line = flat_map read_and_acknowledge others in
    All-cons IsRoundLine (Read v) (Acknowledge v ∷ rest) tt (All-cons IsRoundLine (Acknowledge v) rest tt (turns others))

pub turn_plain : (others : List ℕ) → All IsRoundLine (turn others)
turn_plain others = turns (1 ∷ others)

one_line : (line : Line) → IsRoundLine line → All IsRoundLine (line ∷ [])
one_line line is = All-cons IsRoundLine line [] is (All-nil IsRoundLine)

leaves_plain : (others : List ℕ) → IsRoundLine (first_leaves others)
leaves_plain [] = tt
leaves_plain (v ∷ others) = tt

coming_plain : (others : List ℕ) → IsRoundLine (coming others)
coming_plain others = by (nat_lt (length others) 7)
  where
    by : (b : Bool) → IsRoundLine (if b then coming [] else first_leaves others)
    by true = tt
    by false = leaves_plain others

deeds_plain : (word : Words) (w place : ℕ) (others : List ℕ) → All IsRoundLine (deeds word w place others)
deeds_plain word w place others = by (nat_lt (w % 8) 5) (w % 8 == 5) (w % 8 == 6)
  where
    fed : IsRoundLine (Server (texts_of word place (feed_size w)))
    fed = let few = texts_few word place (feed_size w) in (omega (arith, few.0), omega (arith, few.1, few_size w))

    by : (b c d : Bool) → All IsRoundLine (if b then Server (texts_of word place (feed_size w)) ∷ [] else (if c then coming others ∷ [] else (if d then Press 1 (97 + w / 8 % 26) ∷ Take 256 ∷ [] else turn others)))
    by true c d = one_line (Server (texts_of word place (feed_size w))) fed
    by false true d = one_line (coming others) (coming_plain others)
    by false false true = All-cons IsRoundLine (Press 1 (97 + w / 8 % 26)) (Take 256 ∷ []) tt (one_line (Take 256) tt)
    by false false false = turn_plain others

-- a round's lines are lines of a round
pub round_plain : (word : Words) (round : ℕ) (s : Stand) → All IsRoundLine (round_lines word round s)
round_plain word round s = All-cons IsRoundLine (At round) (deeds word (word s.drawn) (s.drawn + 1) s.others) tt (deeds_plain word (word s.drawn) (s.drawn + 1) s.others)
