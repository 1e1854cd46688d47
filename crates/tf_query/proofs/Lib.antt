pub mod UnknownLaws
pub mod PartLaws
pub mod NestingLaws
pub mod FieldLaws
pub mod TypeLaws
mod Examples
