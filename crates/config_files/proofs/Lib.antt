pub mod ConfigSteps
mod Instances
