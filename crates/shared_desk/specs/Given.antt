-- A pass of any kind that is given back (this project's own).
use Rattle.shared_desk.specs.declared.any_pass.AnyPass.{AnyPass}
use Rattle.shared_desk.specs.declared.any_pass.AnyPass.TheVariants.{Link, Sender, Reader, Writer}
use Rattle.shared_desk.specs.Members.{PassState}

abbrev pub state_of : AnyPass → PassState
state_of (Link pass) = pass
state_of (Sender pass) = pass
state_of (Reader pass) = record { session = pass.session; view = pass.view }
state_of (Writer pass) = record { session = pass.session; view = pass.view }
