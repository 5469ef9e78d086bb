pub mod Raw
pub mod Laid
