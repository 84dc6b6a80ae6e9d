mod Days
mod Departing
mod Putting
mod Refusals
mod Sameness
mod Uniqueness
