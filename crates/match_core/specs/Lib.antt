pub mod Aside
pub mod BothSides
pub mod Rooms
pub mod SidesView
pub mod Sweeping
