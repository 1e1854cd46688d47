pub mod NewestLaws
