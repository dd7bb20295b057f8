pub mod Texts
pub mod Words
pub mod Values
pub mod Grammar
pub mod Answers
pub mod Printed
pub mod Proper
