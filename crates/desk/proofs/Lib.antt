mod Chains
mod Pieces
mod Reading
mod Encodings
