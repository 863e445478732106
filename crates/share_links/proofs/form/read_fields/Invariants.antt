use Rattle.std.proofs.Common.{◌≡◌, fold, All}
use Rattle.std.specs.Vec.Iter.{into_iter_items}
use Rattle.form_urlencoded.specs.Form.{parse}
use Rattle.guac_handshake.specs.Forms.{IsText}
use Rattle.share_links.specs.Forms.{fields_of, with_pair}
use Rattle.share_links.proofs.form.read_fields.Given as goal

abbrev pub invariant-loop-name : goal.invariant-loop-name
invariant-loop-name l =
    (goal.iterator-loop-name).can_next l.name-iterator
    × (goal.iterator-loop-name).is_finite l.name-iterator
    × All IsText (parse l.body)
    × (fold with_pair l.fields (into_iter_items l.name-iterator) ≡ fields_of (parse l.body))
