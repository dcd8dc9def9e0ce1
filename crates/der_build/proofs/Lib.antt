mod Built
mod Parts
