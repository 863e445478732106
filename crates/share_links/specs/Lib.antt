-- In reading order: links and what each call does to them, a list of calls, what a door does under a link's name; what a request for links asks, the form of a link, how a request is answered.
pub mod Links
pub mod Histories
pub mod Doors
pub mod Routes
pub mod Forms
pub mod Requests
