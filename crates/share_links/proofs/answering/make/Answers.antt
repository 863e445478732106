use Rattle.std.proofs.Common.{ℕ, List, subst}
use Rattle.share_links.specs.Links.{Makes, links_of}
use Rattle.share_links.proofs.Making.{has_some}
use Rattle.share_links.proofs.answering.make.Goals as goal

pub returns-in-Ok-make-clause-made : goal.returns-in-Ok-make-clause-made
returns-in-Ok-make-clause-made g c =
    let wanted = c.in-Ok-read_form.wanted in (
      wanted,
      c.in-Ok-make.link,
      record { form = c.in-Ok-read_form.ensures.form; known = has_some g.D.Door.id_of _ _ wanted.id c.known.result c.as_str.ensures c.if-not-known.false c.known.ensures.known },
      subst (λ (id : List ℕ). Makes c.in-Ok-make.link id wanted.control wanted.uses (links_of c.args.links.now) (links_of c.make.new.self)) c.as_str-2.ensures c.in-Ok-make.ensures.made,
      c.in-Ok-make.ensures.first,
      c.name_in.ensures,
    )
