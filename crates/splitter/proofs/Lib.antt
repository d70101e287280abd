pub mod Newlines
pub mod Keeping
pub mod Cuts
pub mod Carrying
pub mod Answering
