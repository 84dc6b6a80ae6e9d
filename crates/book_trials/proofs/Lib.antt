-- Lemmas on sides that tests fill.
mod Later
