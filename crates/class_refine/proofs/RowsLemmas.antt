-- The rows of all outputs, and what they say.
use Rattle.std.proofs.Common.{◌≡◌, ℕ, ◌+◌, ◌<◌, List, [], ◌∷◌, ◌++◌, length, map, get_or, refl, sym, subst, ◌∙◌, arith}
use Rattle.std.proofs.lemmas.List.{length_push}
use Rattle.circuits.proofs.EachLemmas.{each_push}
use Rattle.net_core.specs.Sides.{Graphs, graph_of}
use Rattle.net_core.specs.declared.graphs.Side.{Side}
use Rattle.net_core.specs.declared.graphs.Side.TheVariants.{First, Second}
use Rattle.circuits.specs.declared.port.Pair.{Pair}
use Rattle.circuits.specs.declared.port.PortKind.TheVariants.{Output}
use Rattle.query_core.specs.Ledgers.{Ledgered}
use Rattle.account_core.specs.Facts.{AreFacts}
use Rattle.account_core.specs.Given.{Decided, decided_by}
use Rattle.account_core.specs.Ports.{ports_in, IsKnown}
use Rattle.oracle_core.specs.Oracles.{Grows, Known, Suits}
use Rattle.ban_book.specs.declared.input_claims.InputClaims.{InputClaims}
use Rattle.ban_book.specs.Rows.{AreRows, IsRow}
use Rattle.ban_book.proofs.RowLemmas.{inputs_decided}
use Rattle.fact_bans.specs.Serving.{HasServed}
use Rattle.fact_bans.proofs.FactLemmas.{row_grows}
use Rattle.fact_bans.proofs.ServeLemmas.{served_same, served_then}
use Rattle.class_refine.specs.declared.grounds.Grounds.{Grounds}
use Rattle.class_refine.specs.declared.rows.Rows.{Rows}
use Rattle.class_refine.specs.Rows.{AreAllRows, AreGrounds, AreRowsOf, IsWholeRow, decided}
use Rattle.class_refine.specs.Stable.{AreDecidedOn, AreOutputsDecided}

-- rows stay rows as facts come
pub rows_grow : (graphs : Graphs) (old new : Known) (side : Side) (count : ℕ) (rows : List (List InputClaims)) → Grows old new → AreRowsOf graphs (map decided_by old.facts) side count rows → AreRowsOf graphs (map decided_by new.facts) side count rows
rows_grow graphs old new side count rows grows are = record {
  many = are.many;
  each = λ k d below. let row = are.each k d below in record { is = row_grows old new side k (get_or rows k d) grows row.is; whole = row.whole };
}

-- The calls so far were answered, and the outputs before the next one have their rows.
pub record IsListing (graphs : Graphs) (old now : Known) (before after : Ledgered) (side : Side) (count : ℕ) (rows : List (List InputClaims)) : Type 0 where
  pub served : HasServed old now before after
  pub rows_are : AreRowsOf graphs (map decided_by now.facts) side count rows

pub listing_start : (graphs : Graphs) (known : Known) (ledger : Ledgered) (side : Side) (rows : List (List InputClaims)) → AreFacts known.graphs known.facts → Suits known ledger → rows ≡ [] → IsListing graphs known known ledger ledger side 0 rows
listing_start graphs known ledger side rows lawful suits none = record {
  served = served_same known ledger lawful suits;
  rows_are = subst (λ l. AreRowsOf graphs (map decided_by known.facts) side 0 l) (sym none) (record { many = refl; each = λ k d below. absurd (omega (arith, below)) });
}

pub listing_more : (graphs : Graphs) (old mid new : Known) (a b c : Ledgered) (side : Side) (count : ℕ) (rows after : List (List InputClaims)) (row : List InputClaims) → IsListing graphs old mid a b side count rows → HasServed mid new b c → IsWholeRow graphs (map decided_by new.facts) side count row → after ≡ rows ++ row ∷ [] → IsListing graphs old new a c side (count + 1) after
listing_more graphs old mid new a b c side count rows after row listing served here more =
    let before = rows_grow graphs mid new side count rows served.grows listing.rows_are in
    record {
      served = served_then old mid new a b c listing.served served;
      rows_are = subst (λ l. AreRowsOf graphs (map decided_by new.facts) side (count + 1) l) (sym more) (record {
        many = length_push rows row ∙ omega (arith, before.many);
        each = each_push (IsWholeRow graphs (map decided_by new.facts) side) rows row before.each (subst (λ k. IsWholeRow graphs (map decided_by new.facts) side k row) (sym before.many) here);
      });
    }

-- the rows of an output's pair
module _ (g : Grounds) (output : Pair) (are : AreGrounds g) (known : IsKnown g.graphs.now output) (kind : output.kind ≡ Output) where
  pub first_there : output.from < length g.rows.now.first
  first_there = omega (arith, subst (λ k. output.from < ports_in g.graphs.now.first k) kind known.from, are.rows_are.first.many)

  pub second_there : output.to < length g.rows.now.second
  second_there = omega (arith, subst (λ k. output.to < ports_in g.graphs.now.second k) kind known.to, are.rows_are.second.many)

  pub first_whole : length (get_or g.rows.now.first output.from []) ≡ g.graphs.now.first.inputs
  first_whole = (are.rows_are.first.each output.from [] first_there).whole

  pub second_whole : length (get_or g.rows.now.second output.to []) ≡ g.graphs.now.second.inputs
  second_whole = (are.rows_are.second.each output.to [] second_there).whole

  -- which were looked up
  pub rows_at : (first second : List InputClaims) → first ≡ get_or g.rows.now.first output.from [] → second ≡ get_or g.rows.now.second output.to [] → AreRows (decided g) output first second
  rows_at first second first_is second_is = record {
    first = subst (IsRow (decided g) First output.from) (sym first_is) (are.rows_are.first.each output.from [] first_there).is;
    second = subst (IsRow (decided g) Second output.to) (sym second_is) (are.rows_are.second.each output.to [] second_there).is;
  }

-- the claims of one input of all outputs are decided
rows_decided : (graphs : Graphs) (facts : List Decided) (side : Side) (rows : List (List InputClaims)) → AreRowsOf graphs facts side (length (graph_of graphs side).outputs) rows → AreDecidedOn graphs facts side
rows_decided graphs facts side rows are = λ output below.
    let row = are.each output [] (omega (arith, below, are.many)) in
    inputs_decided facts (graph_of graphs side).inputs side output (get_or rows output []) row.whole row.is

pub all_decided : (graphs : Graphs) (facts : List Decided) (rows : Rows) → AreAllRows graphs facts rows → AreOutputsDecided graphs facts
all_decided graphs facts rows are = record { first = rows_decided graphs facts First rows.first are.first; second = rows_decided graphs facts Second rows.second are.second }
