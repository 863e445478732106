-- In reading order: what lines do and tell, how a run ends, what viewers see, what a session's calls do,
-- what the sinks hold, where a run stands, where a load stands, what the
-- words `play` tell and how they end, how the words `clip` end, what the lines and the frames fix, some answers worked
-- out.
pub mod Told
pub mod Plays
pub mod Outcomes
pub mod Seeing
pub mod Calls
pub mod Sinks
pub mod Running
pub mod Loading
pub mod PlayTold
pub mod PlayOutcomes
pub mod Clipping
pub mod Laws
pub mod Worked
