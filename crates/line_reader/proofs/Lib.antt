pub mod Windows
pub mod HandedOut
pub mod LongLines
pub mod ConfigLines
pub mod ConfigSteps
pub mod ToldFiles
