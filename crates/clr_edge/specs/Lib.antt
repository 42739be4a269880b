pub mod Faults
pub mod FaultTexts
pub mod MemShelf
pub mod MemSink
pub mod Shelf
pub mod Sink
pub mod Taking
