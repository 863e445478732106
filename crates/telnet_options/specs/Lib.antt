-- What the contracts read of the options.
pub mod Options
