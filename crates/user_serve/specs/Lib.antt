-- In reading order: what an intake did, what an outlet did, how a greeting reads and writes, what a viewer's
-- connection did, what of it a viewer sees.
pub mod Intakes
pub mod Outlets
pub mod Greets
pub mod Users
pub mod Laws
