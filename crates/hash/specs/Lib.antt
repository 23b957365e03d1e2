pub mod Bytes
pub mod Words
pub mod Constants
pub mod Compression
pub mod Digest
pub mod Hmac
pub mod Taken
