pub mod Service
pub mod Units
pub mod WorkedUnits
