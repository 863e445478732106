-- In reading order: what a head's fields say of the body, the requests that bytes make, what came of a source, the
-- text of a response, the refusals.
pub mod Fields
pub mod Requests
pub mod Moved
pub mod Responses
pub mod Refusals
