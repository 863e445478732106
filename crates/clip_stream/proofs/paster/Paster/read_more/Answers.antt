use Rattle.std.proofs.Common.{◌≡◌, ◌<◌, refl, ℕ, List, inr, [], ◌++◌, length, length-append, ap, sym, ◌∙◌, arith}
use Rattle.std.proofs.lemmas.Bool.{false≢true}
use Rattle.gate_outside.specs.Edge.{came}
use Rattle.clip_stream.specs.Sources.{unread_of}
use Rattle.clip_stream.proofs.Steps.{counted_all, done_short, ends-raw, idle_kept, none_more, reads}
use Rattle.clip_stream.proofs.paster.Paster.read_more.Goals as goal

pub read-requires : goal.read-requires
read-requires g c = done_short c.args.self.now.is_raw c.args.self.now.held c.requires.done

pub returns-then-not-more-clause-went : goal.returns-then-not-more-clause-went
returns-then-not-more-clause-went g c =
    let s = c.args.self.now in
    let left = g.S.Source.left c.read.new.source in
    let m = c.read.ensures.moved in
    let end = c.in_ok-more.ensures.end c.if-not-more.true in
    let none : m.0 ≡ [] = none_more s.held m.0 (sym m.2 ∙ end.0) in
    record {
      read = [];
      came_is = m.1 ∙ ap (λ x. came x left) none;
      so = λ more nothing.
          ap (λ x. s.clip.waiting ++ unread_of s.is_raw s.kept s.clip.clip s.held x) (counted_all s.is_ended more c.requires.begun ∙ nothing refl)
          ∙ ap (λ t. s.clip.waiting ++ t) (ends-raw s.is_raw s.clip.clip s.kept s.held c.requires.done (idle_kept s.clip.waiting s.held s.kept s.is_raw c.requires.idle))
          ∙ ap (λ h. s.clip.waiting ++ (h ++ [])) (sym end.0);
      stays = λ e. absurd (false≢true (sym c.requires.begun ∙ e));
      ends = λ e. inr end.1;
    }

pub returns-else-not-more-clause-came : goal.returns-else-not-more-clause-came
returns-else-not-more-clause-came g c e =
    let s = c.args.self.now in
    let m = c.read.ensures.moved in
    let longer : length s.held < length c.read.new.self = c.in_ok-more.ensures.more c.if-not-more.false in
    let at : List ℕ → List ℕ → List ℕ = λ held x. s.clip.waiting ++ unread_of s.is_raw s.kept s.clip.clip held x in (
      record {
        read = m.0;
        came_is = m.1;
        so = λ more nothing.
            ap (at s.held) (counted_all s.is_ended (m.0 ++ more) c.requires.begun)
            ∙ ap (λ t. s.clip.waiting ++ t) (reads s.is_raw s.clip.clip s.kept s.held c.read.new.self m.0 more (idle_kept s.clip.waiting s.held s.kept s.is_raw c.requires.idle) m.2)
            ∙ ap (at c.read.new.self) (sym (counted_all s.is_ended more c.requires.begun));
        stays = λ e. absurd (false≢true (sym c.requires.begun ∙ e));
        ends = λ e. absurd (false≢true (sym c.requires.begun ∙ e));
      },
      omega (arith, longer, ap length m.2, length-append s.held m.0),
    )
