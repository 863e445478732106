-- In reading order: what an intake hears and writes, what an outlet shows, how a greeting reads and writes, how
-- both make one connection.
mod Heard
mod Shown
mod Greeted
mod Served
mod Sends
