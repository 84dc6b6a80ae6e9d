mod Lists
mod Lining
