pub mod StrikeSteps
