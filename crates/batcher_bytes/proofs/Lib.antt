pub mod Words
pub mod Padding
pub mod Passing
pub mod Front
pub mod Items
