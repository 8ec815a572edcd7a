-- What lists in place hold. Assumes nothing.
use Rattle.std.specs.Prelude.{List, map, take}
use Rattle.processor.specs.Few.{held}
use Rattle.store.specs.declared.lists.Lists.{Lists}

-- the elements of each list
abbrev pub all_held : {X : Type 0} → Lists X → List (List X)
all_held l = map held (take l.count l.lists)
