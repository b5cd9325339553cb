-- Loans that stay the same, call after call.
use Rattle.std.proofs.Common.{refl, ◌∙◌}
use Rattle.fact_bans.specs.Asking.{AreSame, Loans}

pub same_then : {old mid new : Loans} → AreSame old mid → AreSame mid new → AreSame old new
same_then one other = record {
  oracle = other.oracle ∙ one.oracle;
  broken = other.broken ∙ one.broken;
  ledger = other.ledger ∙ one.ledger;
}

pub same_none : {lent : Loans} → AreSame lent lent
same_none = record { oracle = refl; broken = refl; ledger = refl }
