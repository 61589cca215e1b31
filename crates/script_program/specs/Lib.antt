pub mod Program
pub mod WorkedExample
pub mod ProgramSentences
