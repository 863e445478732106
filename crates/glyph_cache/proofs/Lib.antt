mod Keys
mod Numbers
mod Entries
mod Tied
