mod Sorting
mod Order
mod Adding
mod Numbered
