mod Counting
mod Reading
