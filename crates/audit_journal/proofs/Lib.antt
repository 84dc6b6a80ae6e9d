mod Listed
mod ReadSteps
