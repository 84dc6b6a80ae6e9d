pub mod Fitting
pub mod Bodies
pub mod Taken
pub mod Transcripts
