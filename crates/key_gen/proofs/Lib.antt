pub mod DrawSteps
pub mod RowSteps
pub mod KeySteps
