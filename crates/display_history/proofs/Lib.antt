mod Rising
mod Ends
mod Stands
mod Texts
mod Places
