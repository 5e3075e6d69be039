pub mod Inside
pub mod Running
