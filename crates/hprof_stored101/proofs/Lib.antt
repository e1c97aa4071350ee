mod Pieces
mod Counted
mod Rows
mod Dumped101
mod Agreed
