-- in reading order: one processor, then the board, then an example, what each condition is for, and what the words mean
pub mod Pieces
pub mod Run
pub mod Streams
pub mod Processor
pub mod Plan
pub mod Board
pub mod Example
pub mod Needed
pub mod Words
