pub mod ByteStringStorage
pub mod RequestEncoding
pub mod Response
