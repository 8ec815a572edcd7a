-- The scale in which shares and densities are counted. Assumes nothing.
use Rattle.std.specs.Prelude.{ℕ}

-- the parts of a whole processor
abbrev pub scale : ℕ
scale = 1048576
