mod PackedSteps
mod RunSteps
