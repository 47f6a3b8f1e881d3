pub mod HomeLemmas
pub mod LetterLemmas
pub mod LineParts
pub mod RangeLists
pub mod SheetLemmas
mod WorkedAnswers
