-- Telnet: tokens and the answers to options.
pub mod TelnetTokens
pub mod OptionAnswers
pub mod TelnetLaws
