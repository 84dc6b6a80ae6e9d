pub mod CivilDates
pub mod LengthSteps
pub mod SmallDecimals
