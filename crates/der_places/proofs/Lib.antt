mod Headers
mod Sizes
