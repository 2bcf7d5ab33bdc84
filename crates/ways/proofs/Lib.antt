pub mod Graph
pub mod Metric
pub mod Reaches
pub mod Simple
