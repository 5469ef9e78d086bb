pub mod Limbs
pub mod Order
pub mod Rule
