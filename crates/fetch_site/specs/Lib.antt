-- Which fields of a head say that another site's page asks.
pub mod Fields
