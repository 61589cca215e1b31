pub mod SignTurn
