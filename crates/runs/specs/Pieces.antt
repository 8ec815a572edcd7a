-- What one processor has to serve: streams of pieces. Assumes nothing.
use Rattle.std.specs.Prelude.{ℕ, List, slice_index_or}

-- What one row asks for, turn after turn. The piece of turn k may be served from its start on,
-- and should have had as many ticks as it needs below its due tick.
pub record Stream : Type 0 where
  pub turns : ℕ
  pub start : ℕ → ℕ
  pub due : ℕ → ℕ
  pub need : ℕ → ℕ

-- a row that asks for nothing
abbrev pub silent : Stream
silent = record { turns = 0; start = λ k. 0; due = λ k. 0; need = λ k. 0 }

-- A processor's work has a stream for each of its rows, numbered from 0. Piece i k is turn k of row i,
-- for every k below the turns of that row.
abbrev pub row : List Stream → ℕ → Stream
row work i = slice_index_or work i silent
