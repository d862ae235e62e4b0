pub mod HartRuns
