pub mod LowBytes
