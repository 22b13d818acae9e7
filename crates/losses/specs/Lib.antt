pub mod Books
pub mod Directions
pub mod Fillings
pub mod Views
pub mod Table
pub mod Rising
