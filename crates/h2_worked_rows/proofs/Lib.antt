mod Lists
mod Maps
mod Roots
