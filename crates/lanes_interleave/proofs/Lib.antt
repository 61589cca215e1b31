pub mod PutLaws
pub mod RoundLaws
pub mod InterleaveLaws
pub mod BlockLaws
