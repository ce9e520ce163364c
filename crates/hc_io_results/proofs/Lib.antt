-- Results, as a map has them.
mod Resulting
