pub mod Conn
pub mod NextMessage
pub mod EncodedParts
pub mod EncodedMessage
pub mod Received
