mod Rows
mod Closing
mod Shutting
