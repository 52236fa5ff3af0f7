pub mod Columns
pub mod PlainSteps
pub mod MaskSteps
pub mod OpenSteps
pub mod DecryptSteps
pub mod EncryptSteps
