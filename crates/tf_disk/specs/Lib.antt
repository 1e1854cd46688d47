pub mod Disk
pub mod InMemory
pub mod MemoryLaws
pub mod RealFile
