mod Copies
mod Splits
