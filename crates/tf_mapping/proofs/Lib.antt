pub mod CutLaws
pub mod FaultLaws
pub mod FoundLaws
pub mod PathLaws
pub mod ScalarLaws
pub mod ValueLaws
pub mod LeafLaws
pub mod LeastLaws
pub mod GatheringLaws
pub mod MappingLaws
pub mod DocumentLaws
pub mod StampLaws
pub mod FitLaws
pub mod PairLaws
pub mod WrittenLaws
mod Examples
