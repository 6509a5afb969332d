pub mod Parts
pub mod Marks
pub mod TxHolds
pub mod RxHolds
pub mod Lent
pub mod Buffers
