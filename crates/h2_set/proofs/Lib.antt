mod Holding
mod Least
mod Filtered
mod Slots
mod Fronts
