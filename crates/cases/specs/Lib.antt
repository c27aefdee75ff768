pub mod Table
pub mod Second
pub mod Reserved
