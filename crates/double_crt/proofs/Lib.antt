pub mod LineSteps
pub mod ListSteps
pub mod UnitSteps
pub mod ValueSteps
pub mod BasisSteps
pub mod TableSteps
pub mod HeldSteps
pub mod Operations
