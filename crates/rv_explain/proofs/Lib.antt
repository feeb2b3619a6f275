mod MainNode
mod Fitting
