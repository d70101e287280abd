pub mod InnerRows
pub mod InnerLists
