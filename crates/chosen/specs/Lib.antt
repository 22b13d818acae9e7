pub mod Books
pub mod Rules
pub mod Lawfuls
