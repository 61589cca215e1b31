pub mod Records
pub mod ScriptSentences
