pub mod BoxSteps
pub mod ColumnSteps
pub mod CountSteps
pub mod DeltaSteps
pub mod KeySteps
pub mod Most
pub mod OriginSteps
