pub mod ProgramLaws
pub mod WorkedExample
pub mod ProgramSentences
