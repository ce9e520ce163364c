-- Proofs. What follows for a cache that is closed and goes on.
mod Running
mod Scheduling
mod Marking
mod Ticketing
mod Serving
mod Worked
