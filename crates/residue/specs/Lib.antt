pub mod Credits
pub mod Laws
pub mod Small
pub mod Views
