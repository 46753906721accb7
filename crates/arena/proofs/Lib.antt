pub mod Determined
pub mod ArenaLaws
