use Rattle.std.proofs.Common.{◌≡◌, ◌<◌, ◌≤◌, ◌+◌, ◌%◌, ℕ, ap, refl, sym, ◌∙◌, arith}
use Rattle.script_load.specs.declared.rounds.Rounds.{Rounds}
use Rattle.script_load.specs.Words.{Draws, drawn}
use Rattle.script_load.specs.Rounds.{Stand, feed_size}
use Rattle.script_load.specs.Draws.{IsDrawn, stand_of}
use Rattle.script_load.proofs.RoundLaws.{after_feed, after_other, came_next, drawn_next, stands_few}
use Rattle.script_load.proofs.rounds.Rounds.next_round.Goals.{in-5+in_ok-arrival-in-5+in_ok-push-in-5, in-6+in_ok-push_press-in-6, in-0-to-4+in_ok-feed-in-0-to-4+in_ok-push-in-0-to-4, in_default+in_ok-push_turn-in_default}
use Rattle.script_load.proofs.rounds.Rounds.next_round.Goals as goal

pub next-word-requires : goal.next-word-requires
next-word-requires c = let f = stands_few (drawn c.args.self.now.seed) c.args.self.now.round in record { few = omega (arith, f.drawn, c.requires.few, c.requires.drawn.place) }

pub arrival-requires : goal.arrival-requires
arrival-requires c = let f = stands_few (drawn c.args.self.now.seed) c.args.self.now.round in record { few = omega (arith, f.joined, c.requires.few, c.requires.drawn.joined) }

few_more : (w : ℕ) → feed_size w ≤ 200
few_more w = grind arith

pub feed-requires : goal.feed-requires
feed-requires c = let f = stands_few (drawn c.args.self.now.seed) c.args.self.now.round in record { few = omega (arith, f.drawn, c.requires.few, c.requires.drawn.place, c.next-word.ensures.place, few_more c.next-word.result) }

pub returns-clause-drawn : goal.returns-clause-drawn
returns-clause-drawn c =
    let r = c.args.self.now in
    let s : Stand = stand_of r in
    let w = c.next-word.result in
    let is : w ≡ drawn r.seed s.drawn = c.next-word.ensures.word ∙ (ap (λ (k : ℕ). drawn k r.draws.place) c.requires.drawn.seed ∙ ap (drawn r.seed) c.requires.drawn.place) in
    elim c.match-word-rem8.branch [
      | in-5+in_ok-arrival-in-5+in_ok-push-in-5 b ↦
          came_next r c.match-word-rem8.self s w c.requires.drawn is refl b.in-5.is
          (ap (λ (n : Rounds). n.seed) b.self-is ∙ b.in_ok-arrival-in-5.ensures.seed)
          (ap (λ (n : Rounds). n.round) b.self-is ∙ b.in_ok-arrival-in-5.ensures.round)
          (ap (λ (n : Rounds). n.draws.seed) b.self-is ∙ (ap (λ (d : Draws). d.seed) b.in_ok-arrival-in-5.ensures.draws ∙ c.next-word.ensures.seed))
          (ap (λ (n : Rounds). n.draws.place) b.self-is ∙ (ap (λ (d : Draws). d.place) b.in_ok-arrival-in-5.ensures.draws ∙ c.next-word.ensures.place))
          (ap (λ (n : Rounds). n.others.items) b.self-is ∙ b.in_ok-arrival-in-5.ensures.others)
          (ap (λ (n : Rounds). n.joined) b.self-is ∙ b.in_ok-arrival-in-5.ensures.joined)
      | in-6+in_ok-push_press-in-6 b ↦
          drawn_next r c.match-word-rem8.self c.requires.drawn (ap (λ (n : Rounds). n.seed) b.self-is) (ap (λ (n : Rounds). n.round) b.self-is) (ap (λ (n : Rounds). n.draws.seed) b.self-is ∙ c.next-word.ensures.seed) (record s { drawn = s.drawn + 1 })
          (after_other (drawn r.seed) s w is (omega (arith, b.in-6)))
          (ap (λ (n : Rounds). n.draws.place) b.self-is ∙ (c.next-word.ensures.place ∙ ap (λ (k : ℕ). k + 1) c.requires.drawn.place)) (ap (λ (n : Rounds). n.others.items) b.self-is ∙ c.requires.drawn.others) (ap (λ (n : Rounds). n.joined) b.self-is ∙ c.requires.drawn.joined)
      | in-0-to-4+in_ok-feed-in-0-to-4+in_ok-push-in-0-to-4 b ↦
          drawn_next r c.match-word-rem8.self c.requires.drawn (ap (λ (n : Rounds). n.seed) b.self-is) (ap (λ (n : Rounds). n.round) b.self-is) (ap (λ (n : Rounds). n.draws.seed) b.self-is ∙ (b.in_ok-feed-in-0-to-4.ensures.seed ∙ c.next-word.ensures.seed)) (record s { drawn = s.drawn + 1 + feed_size w })
          (after_feed (drawn r.seed) s w is (omega (arith, b.in-0-to-4)))
          (ap (λ (n : Rounds). n.draws.place) b.self-is ∙ (b.in_ok-feed-in-0-to-4.ensures.place ∙ (ap (λ (k : ℕ). k + feed_size w) (c.next-word.ensures.place ∙ ap (λ (k : ℕ). k + 1) c.requires.drawn.place)))) (ap (λ (n : Rounds). n.others.items) b.self-is ∙ c.requires.drawn.others) (ap (λ (n : Rounds). n.joined) b.self-is ∙ c.requires.drawn.joined)
      | in_default+in_ok-push_turn-in_default b ↦
          drawn_next r c.match-word-rem8.self c.requires.drawn (ap (λ (n : Rounds). n.seed) b.self-is) (ap (λ (n : Rounds). n.round) b.self-is) (ap (λ (n : Rounds). n.draws.seed) b.self-is ∙ c.next-word.ensures.seed) (record s { drawn = s.drawn + 1 })
          (after_other (drawn r.seed) s w is (omega (arith, b.in_default)))
          (ap (λ (n : Rounds). n.draws.place) b.self-is ∙ (c.next-word.ensures.place ∙ ap (λ (k : ℕ). k + 1) c.requires.drawn.place)) (ap (λ (n : Rounds). n.others.items) b.self-is ∙ c.requires.drawn.others) (ap (λ (n : Rounds). n.joined) b.self-is ∙ c.requires.drawn.joined)
    ]
