pub mod Ids
pub mod Lists
pub mod Keys
pub mod Rows
pub mod Counting
pub mod Acts
pub mod RowsLaw
pub mod CompleteLaw
pub mod Induction
pub mod ReadsLaw
pub mod StampsLaw
pub mod PagesLaw
pub mod HistoriesLaw
pub mod KeptLaw
pub mod IncludedLaw
pub mod AlignedLaw
pub mod MovesLaw
pub mod SteadyLaw
pub mod EntriesLaw
pub mod LateLaw
pub mod MeaningLaw
mod Example
mod Numbers
pub mod OnceLaw
pub mod StampedLaw
pub mod EndsLaw
