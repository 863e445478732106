use Rattle.std.proofs.Common.{◌≡◌, ℕ, ◌+◌, ◌-◌, ◌∷◌, [], ◌++◌, ◌∙◌, min, take, length, ap, sym, subst, arith}
use Rattle.std.specs.Prelude.{Some}
use Rattle.std.specs.List.{position_or_len}
use Rattle.script_grammar.specs.Pieces.{first_piece, is_line_feed}
use Rattle.script_grammar.proofs.PieceLaws.{part-whole, part-unfinished}
use Rattle.script_grammar.proofs.pieces.next_part.Goals as goal

pub returns-then-count-bytes-clause-whole : goal.returns-then-count-bytes-clause-whole
returns-then-count-bytes-clause-whole c = λ whole.
    let is : c.min-count.result ≡ min (c.args.most - length c.args.piece.now) (position_or_len is_line_feed c.args.bytes.now + 1) = c.min-count.ensures ∙ ap (λ (n : ℕ). min (c.args.most - length c.args.piece.now) (n + 1)) c.line_length.ensures.length in
    subst (λ (n : ℕ). first_piece c.args.most (c.args.piece.now ++ take n c.args.bytes.now) ≡ Some ((c.args.piece.now ++ take n c.args.bytes.now) ∷ [], [])) (sym is) (part-whole c.args.most c.args.piece.now c.args.bytes.now c.requires.begun (omega (arith, c.if-count-bytes.true, c.min-count.ensures, c.line_length.ensures.length)))

pub returns-else-count-bytes-clause-unfinished : goal.returns-else-count-bytes-clause-unfinished
returns-else-count-bytes-clause-unfinished c = λ open_. part-unfinished c.args.most c.args.piece.now c.args.bytes.now c.requires.begun (omega (arith, c.if-count-bytes.false, c.min-count.ensures, c.line_length.ensures.length))
