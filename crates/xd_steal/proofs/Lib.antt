pub mod Rota
pub mod Rules
