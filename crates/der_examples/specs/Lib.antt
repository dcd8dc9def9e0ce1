pub mod ExtensionRequests
pub mod ResponseStatuses
