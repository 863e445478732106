-- In reading order: the parts of a text round its last colon, what a parse of the words says of the options that they
-- give.
mod Colons
mod Joined
mod Parsed
