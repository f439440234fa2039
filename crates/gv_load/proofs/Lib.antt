mod Examples
pub mod Closing
pub mod DirLemmas
pub mod EclassLemmas
pub mod GivenNames
pub mod GivenReading
pub mod Going
pub mod JudgeLemmas
pub mod LoadLemmas
pub mod OwnLinesLaw
pub mod PfLemmas
pub mod PfVersions
pub mod ProfileLemmas
pub mod StackLemmas
