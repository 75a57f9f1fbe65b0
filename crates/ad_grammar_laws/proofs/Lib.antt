pub mod Words
pub mod WordsOfTexts
