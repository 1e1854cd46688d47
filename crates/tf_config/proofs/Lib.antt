pub mod CatalogueLaws
pub mod EmptyLists
pub mod ClearLaws
pub mod LeastLaws
pub mod FormLaws
pub mod ReadLaws
pub mod TypedQueries
pub mod FormClean
pub mod LadderLaws
pub mod SourceLaws
pub mod TypeLaws
pub mod FieldLaws
pub mod GrowthLaws
mod Examples
mod ReadingExamples
