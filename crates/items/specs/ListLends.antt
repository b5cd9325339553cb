-- What a list ends as, where its elements are lent as a slice.
use Rattle.std.specs.Prelude.{List, length}
use Rattle.std.specs.List.{refill}
use Rattle.std.specs.Borrow.{Lends, Fml, RattleType, MutBor, Array}
use Rattle.items.specs.contracts.list.Items.{the_row}

module _ (T : RattleType) (list : MutBor (List T.Denot)) where
  -- once the borrow r ends, the elements are those that r shows last, and as many as before
  abbrev pub lends_elements : MutBor (List T.Denot) → Fml
  lends_elements r = Lends (the_row T) (Array T 0) list r (refill (length list.now) list.now)
