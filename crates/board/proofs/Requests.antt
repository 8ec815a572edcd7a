-- When nothing is wrong with a request. Assumes nothing.
use Rattle.std.proofs.Common.{◌≡◌, ℕ, ◌≤◌, true, false, List, None, refl, le-ltb}
use Rattle.model.specs.declared.row.Row.{Row}
use Rattle.model.specs.Limits.{timing_fault}
use Rattle.board.specs.Keys.{stands}
use Rattle.board.specs.Request.{has_room, request_fault}

pub no_fault :
    (key c d t : ℕ) (plan : List (List Row)) → 1 ≤ key → key ≤ 65535 → timing_fault c d t ≡ None →
    stands key plan ≡ false → has_room plan ≡ true → request_fault key c d t plan ≡ None
no_fault key c d t plan low high timing fresh room =
    rw (le-ltb key 1 low, le-ltb 65535 key high, timing, fresh, room) refl
