use Rattle.std.proofs.Common.{◌≡◌, ◌⊎◌, sym, subst, inl, inr, get_or}
use Rattle.std.specs.Prelude.{Contains}
use Rattle.std.proofs.lemmas.List.Elements.{All-contains}
use Rattle.circuits.specs.declared.port.Pair.{Pair}
use Rattle.ban_book.proofs.OrderLemmas.{assigned_apart}
use Rattle.ban_book.proofs.cover.add_assigned.Goals as goal

pub add-requires-clause-apart : goal.add-requires-clause-apart
add-requires-clause-apart c =
    λ k d below. assigned_apart c.args.assigned.now (get_or c.args.needed.now.items k d) c.args.pair c.requires.apart (c.requires.part.among k d below) c.requires.assigned

pub returns-clause-adds : goal.returns-clause-adds
returns-clause-adds c = record {
  part = record {
    among = λ k d below. by_case _ (c.in_ok-add.ensures.only k d below);
    ordered = c.in_ok-add.ensures.ordered;
  };
  stays = c.in_ok-add.ensures.stays;
}
  where
    by_case : (x : Pair) → Contains c.args.needed.now.items x ⊎ (x ≡ c.args.pair) → Contains c.args.assigned.now x
    by_case x (inl old) = All-contains (Contains c.args.assigned.now) c.args.needed.now.items x c.requires.part.among old
    by_case x (inr same) = subst (Contains c.args.assigned.now) (sym same) c.requires.assigned
