mod Successor
mod Elements
