use Rattle.std.proofs.Common.{◌≡◌, ◌∙◌, inl, sym, subst}
use Rattle.script_grammar.specs.declared.form.Form.{Form}
use Rattle.script_grammar.specs.declared.form.Form.TheVariants.{Text, Load, Clip, Play}
use Rattle.gate_script.specs.Outcomes.{Outcome, Ran}
use Rattle.gate_script.proofs.ClipLaws.{clip_is_used, clip_ran}
use Rattle.gate_script.proofs.LoadEndings.{load_is_used, load_ran, load_reads_none, same_form, text_is_used, text_ran, used}
use Rattle.gate_script.proofs.PlayEndings.{play_is_used, play_ran}
use Rattle.gate_script.proofs.commands.command.Goals as goal

-- the lines of an input

pub returns-in-Some-Text-clause-usage : goal.returns-in-Some-Text-clause-usage
returns-in-Some-Text-clause-usage g c = used _ c.in-Some-Text.field-0 c.text.result (sym c.in-Some-Text.ensures.exact) (λ e. text_is_used c.text.result c.text.ensures.only e)

pub returns-in-Some-Text-clause-nothing : goal.returns-in-Some-Text-clause-nothing
returns-in-Some-Text-clause-nothing g c = λ e. text_is_used c.text.result c.text.ensures.only e

pub returns-in-Some-Text-clause-outcome : goal.returns-in-Some-Text-clause-outcome
returns-in-Some-Text-clause-outcome g c = λ form is.
    let same : Text c.in-Some-Text.form ≡ form = sym c.in-Some-Text.field-0-is ∙ same_form c.in-Some-Text.field-0 form (c.in-Some-Text.ensures.exact ∙ is) in
    let before = g.S.Source.left c.args.source.now in
    let left = g.S.Source.left c.text.new.source in
    subst (λ (x : Form). Ran before left (g.A.Sink.written c.args.answers.now) (g.A.Sink.written c.text.new.answers) (g.F.Sink.written c.args.frames.now) (g.F.Sink.written c.text.new.frames) (Outcome c.text.result x left)) same
    (text_ran c.in-Some-Text.form c.text.result before left (g.A.Sink.written c.args.answers.now) (g.A.Sink.written c.text.new.answers) (g.F.Sink.written c.args.frames.now) (g.F.Sink.written c.text.new.frames) c.text.ensures.outcome)

-- the lines of a load

pub returns-in-Some-Load-clause-usage : goal.returns-in-Some-Load-clause-usage
returns-in-Some-Load-clause-usage g c = used _ c.in-Some-Load.field-0 c.load.result (sym c.in-Some-Load.ensures.exact) (λ e. load_is_used c.load.result c.load.ensures.only e)

pub returns-in-Some-Load-clause-nothing : goal.returns-in-Some-Load-clause-nothing
returns-in-Some-Load-clause-nothing g c = λ e. load_is_used c.load.result c.load.ensures.only e

pub returns-in-Some-Load-clause-outcome : goal.returns-in-Some-Load-clause-outcome
returns-in-Some-Load-clause-outcome g c = λ form is.
    let same : Load c.in-Some-Load.seed c.in-Some-Load.rounds ≡ form = sym c.in-Some-Load.field-0-is ∙ same_form c.in-Some-Load.field-0 form (c.in-Some-Load.ensures.exact ∙ is) in
    let left = g.S.Source.left c.args.source.now in
    subst (λ (x : Form). Ran left left (g.A.Sink.written c.args.answers.now) (g.A.Sink.written c.load.new.answers) (g.F.Sink.written c.args.frames.now) (g.F.Sink.written c.load.new.frames) (Outcome c.load.result x left)) same
    (load_ran c.in-Some-Load.seed c.in-Some-Load.rounds c.load.result left (g.A.Sink.written c.args.answers.now) (g.A.Sink.written c.load.new.answers) (g.F.Sink.written c.args.frames.now) (g.F.Sink.written c.load.new.frames) c.load.ensures.outcome)

pub returns-in-Some-Load-clause-read_fault : goal.returns-in-Some-Load-clause-read_fault
returns-in-Some-Load-clause-read_fault g c = λ e. load_reads_none c.load.result c.load.ensures.only e

-- a recording

pub returns-in-Some-Play-clause-usage : goal.returns-in-Some-Play-clause-usage
returns-in-Some-Play-clause-usage g c = used _ c.in-Some-Play.field-0 c.play.result (sym c.in-Some-Play.ensures.exact) (λ e. play_is_used c.play.result c.play.ensures.only e)

pub returns-in-Some-Play-clause-nothing : goal.returns-in-Some-Play-clause-nothing
returns-in-Some-Play-clause-nothing g c = λ e. play_is_used c.play.result c.play.ensures.only e

pub returns-in-Some-Play-clause-outcome : goal.returns-in-Some-Play-clause-outcome
returns-in-Some-Play-clause-outcome g c = λ form is.
    let same : Play c.in-Some-Play.told ≡ form = sym c.in-Some-Play.field-0-is ∙ same_form c.in-Some-Play.field-0 form (c.in-Some-Play.ensures.exact ∙ is) in
    let before = g.S.Source.left c.args.source.now in
    let left = g.S.Source.left c.play.new.source in
    let framed = g.F.Sink.written c.args.frames.now in
    subst (λ (x : Form). Ran before left (g.A.Sink.written c.args.answers.now) (g.A.Sink.written c.play.new.answers) framed framed (Outcome c.play.result x left)) same
    (play_ran c.in-Some-Play.told c.play.result before left (g.A.Sink.written c.args.answers.now) (g.A.Sink.written c.play.new.answers) framed c.play.ensures.outcome)

pub returns-in-Some-Play-clause-write_fault : goal.returns-in-Some-Play-clause-write_fault
returns-in-Some-Play-clause-write_fault g c = λ e. inl (c.play.ensures.write_fault e)

-- a client's stream

pub returns-in-Some-Clip-clause-usage : goal.returns-in-Some-Clip-clause-usage
returns-in-Some-Clip-clause-usage g c = used _ c.in-Some-Clip.field-0 c.clip.result (sym c.in-Some-Clip.ensures.exact) (λ e. clip_is_used c.clip.result c.clip.ensures.only e)

pub returns-in-Some-Clip-clause-nothing : goal.returns-in-Some-Clip-clause-nothing
returns-in-Some-Clip-clause-nothing g c = λ e. clip_is_used c.clip.result c.clip.ensures.only e

pub returns-in-Some-Clip-clause-outcome : goal.returns-in-Some-Clip-clause-outcome
returns-in-Some-Clip-clause-outcome g c = λ form is.
    let same : Clip ≡ form = sym c.in-Some-Clip.field-0-is ∙ same_form c.in-Some-Clip.field-0 form (c.in-Some-Clip.ensures.exact ∙ is) in
    let before = g.S.Source.left c.args.source.now in
    let left = g.S.Source.left c.clip.new.source in
    let framed = g.F.Sink.written c.args.frames.now in
    subst (λ (x : Form). Ran before left (g.A.Sink.written c.args.answers.now) (g.A.Sink.written c.clip.new.answers) framed framed (Outcome c.clip.result x left)) same
    (clip_ran c.clip.result before left (g.A.Sink.written c.args.answers.now) (g.A.Sink.written c.clip.new.answers) framed c.clip.ensures.outcome)

pub returns-in-Some-Clip-clause-write_fault : goal.returns-in-Some-Clip-clause-write_fault
returns-in-Some-Clip-clause-write_fault g c = λ e. inl (c.clip.ensures.write_fault e)
