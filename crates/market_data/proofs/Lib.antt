pub mod EntrySteps
pub mod FeedingSteps
pub mod LineSteps
pub mod InputSteps
pub mod RunSteps
