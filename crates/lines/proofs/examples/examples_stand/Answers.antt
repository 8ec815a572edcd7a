use Rattle.std.proofs.Common.{refl}
use Rattle.std.specs.Fmt.{digits}
use Rattle.lines.specs.Examples.{RepliesShown}
use Rattle.lines.proofs.examples.examples_stand.Goals as goal

replies : RepliesShown
unfolding digits
replies = record { row = λ r key kind budget deadline. rw (key, kind, budget, deadline); gone = refl; board = refl; refused = refl }

pub returns : goal.returns
returns c = (
  record { plain = refl; tab = refl; none = refl },
  record { zeros = refl; largest = refl; past = refl; far_past = refl; sign = refl; point = refl },
  record { admit = refl; leave = refl; nothing = refl; word = refl; capital = refl; count = refl; number = refl },
  record { board = refl; judge = refl; missing = refl; rule = refl; shift = refl; other = refl; number = refl },
  record { eighty = refl; longer = refl; first = refl; blank_line = refl; long_line = refl },
  replies,
)
