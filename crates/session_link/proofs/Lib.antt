-- In reading order: a close, what a pump gains, what a sender gains.
mod Closed
mod Pumped
mod Sent
