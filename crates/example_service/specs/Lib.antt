-- What the service's contracts say.
pub mod Metering
pub mod Sharing
