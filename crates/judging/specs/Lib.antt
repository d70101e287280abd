pub mod InnerDoubles
