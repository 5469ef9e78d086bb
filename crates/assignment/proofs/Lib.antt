pub mod PlaceLaws
pub mod Laws
pub mod BeginLaws
pub mod Arrays
pub mod Refine
pub mod RefineBegin
pub mod Meet
