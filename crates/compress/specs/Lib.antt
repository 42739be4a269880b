pub mod Compression
pub mod Lowering
pub mod Walk
pub mod Progress
pub mod Cases
pub mod Banks
