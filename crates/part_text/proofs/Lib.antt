mod Parts
mod Words
