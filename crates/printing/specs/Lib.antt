pub mod Place
pub mod Put
pub mod Text
