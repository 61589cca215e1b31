pub mod Numbers
pub mod Registers
pub mod Record
pub mod Builders
pub mod Answer
pub mod State
pub mod ByNumber
