mod NativeWindows
mod PlainStanding
mod Answering
mod Handlers
mod SheetValues
pub mod OneSheet
pub mod Due
pub mod Outcomes
pub mod Clauses
mod Taking
pub mod Headlines
pub mod ModulesShown
pub mod SweepsShown
mod ImageWords
mod Given
mod PipelineValues
mod Lawfully
mod PipelinesShown
mod InterruptedShown
mod BenchValues
mod Summaries
mod BenchesShown
mod AuditValues
mod AuditsShown
mod NearStages
mod BarrelValues
mod TightPlans
mod BarrelsShown
