pub mod CompareLaws
pub mod TreeLaws
pub mod KeyLaws
