pub mod Launch
pub mod ConStore
