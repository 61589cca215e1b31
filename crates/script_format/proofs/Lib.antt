pub mod ScriptSentences
pub mod PutLaws
