pub mod NeverWait
