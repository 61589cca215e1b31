pub mod ScriptLaws
pub mod AcceptedLaws
