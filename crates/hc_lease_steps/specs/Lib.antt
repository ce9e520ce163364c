-- What each call of the machine tells its stamps, and what a ticket promises of any calls.
pub mod Calls
pub mod Deleting
pub mod Storing
pub mod Runs
pub mod Serving
