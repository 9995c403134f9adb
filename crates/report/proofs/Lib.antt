mod Hexes
pub mod EntryTexts
