pub mod Convert
pub mod Reading
