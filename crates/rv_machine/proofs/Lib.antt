mod Fronts
mod Drained
