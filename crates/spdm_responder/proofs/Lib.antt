pub mod Claims
pub mod Numbers
pub mod OtherLengths
pub mod Replies
pub mod ShownLaws
pub mod Stored
