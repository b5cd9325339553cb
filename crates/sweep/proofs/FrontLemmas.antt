-- Which entries of a ledger stay where a query is opened: those of the first n, among them each with charged lines.
-- (It stands in fact_tests too, where it is private: both copies go down to ask_core with the definition of work.)
use Rattle.std.proofs.Common.{◌≡◌, ℕ, ◌-◌, ◌≤◌, cond, List, length, take, inl, inr, sym, ap, ◌∙◌, arith}
use Rattle.std.proofs.lemmas.Bool.Decides.{eqb_tells}
use Rattle.std.proofs.lemmas.List.{take_all}
use Rattle.query_core.specs.declared.ledger.Asked.{Asked}
use Rattle.query_core.specs.Ledgers.{charged_front, last_asked}

-- The first entries of a ledger.
pub record IsFront (asked front : List Asked) : Type 0 where
  pub count : ℕ
  pub within : count ≤ length asked
  pub is : front ≡ take count asked

pub front_is : (asked : List Asked) → IsFront asked (charged_front asked)
front_is asked =
    let e = last_asked asked in
    elim (eqb_tells (length e.lines) e.lemmas) [
      | inl (found, same) ↦ record {
        count = length asked - 1;
        within = omega arith;
        is = ap (λ t. cond t (take (length asked - 1) asked) asked) found;
      }
      | inr (found, apart) ↦ record {
        count = length asked;
        within = omega arith;
        is = ap (λ t. cond t (take (length asked - 1) asked) asked) found ∙ sym (take_all (length asked) asked (omega arith));
      }
    ]
