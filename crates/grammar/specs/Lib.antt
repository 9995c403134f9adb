pub mod Items
pub mod Grammar
pub mod Law
