-- In reading order.
mod Cells
mod Made
mod Allowed
mod Ends
mod Walking
