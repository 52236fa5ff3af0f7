pub mod Draw
pub mod Sparse
