pub mod SameUpdate
