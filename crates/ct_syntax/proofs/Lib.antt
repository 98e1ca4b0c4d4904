mod Examples
pub mod Views
pub mod UnitViews
