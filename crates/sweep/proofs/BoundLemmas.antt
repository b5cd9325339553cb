-- How many lines comparisons can learn: their queries have numbers, and each has as many lines at most as there are
-- clauses.
use Rattle.std.proofs.Common.{◌≡◌, ℕ, ◌+◌, ◌*◌, ◌^◌, ◌<◌, ◌≤◌, not, Bool, List, [], ◌∷◌, length, take, All, slice_index_or, refl, sym, ap, subst, ◌∙◌, arith}
use Rattle.std.proofs.Math.Nat.{mul_assoc, mul_comm}
use Rattle.circuits.specs.Literals.{differ}
use Rattle.circuits.specs.Netlists.{Net, signals_of}
use Rattle.cnf_core.specs.Derivations.{clauses_of, no_line}
use Rattle.net_core.specs.declared.graphs.Side.TheVariants.{First}
use Rattle.claim_core.specs.declared.query.Query.{Query}
use Rattle.claim_core.specs.Feeds.{straight}
use Rattle.claim_core.specs.Formulas.{formula_of}
use Rattle.query_core.specs.declared.ledger.Asked.{Asked}
use Rattle.query_core.specs.Ledgers.{Ledgered, charged_in, lines_in}
use Rattle.oracle_core.specs.Work.{IsWorkOn}
use Rattle.learn_solver.proofs.BoundLemmas.{AreUnlike as AreLinesApart, few_lines, line_at, unlike_at}
use Rattle.learn_solver.proofs.SolverLemmas.{line_known, line_says}
use Rattle.work_bound.proofs.ClaimNumbers.{bit_digit, bit_small, same_bit}
use Rattle.work_bound.proofs.EntryLemmas.{IsCounted, lines_counted}
use Rattle.work_bound.proofs.Radices.{AreDigits, number, number_below, product, same_digits, square}
use Rattle.net_core.specs.Sides.{Graphs}
use Rattle.sweep.specs.declared.comparing.SignalPair.{SignalPair}
use Rattle.sweep.specs.Comparing.{IsPair, IsPairQuery, IsSpentWork, pair_query}
use Rattle.sweep.specs.Exposed.{both}
use Rattle.sweep.specs.Swept.{lines_enough}

-- as many lines as there are clauses over the query's variables
-- (It stands in work_bound too, where it is private.)
lines_of_entry : (graphs : Graphs) (entry : Asked) → IsWorkOn graphs entry → charged_in entry ≤ 3 ^ (formula_of graphs entry.query).variables
lines_of_entry graphs entry is =
    let f = formula_of graphs entry.query in
    let apart : AreLinesApart f.variables entry.lemmas entry.lines = record {
      known = λ k late within. line_known f (clauses_of (take k entry.lines)) (line_at entry.lines k) (is.learned k no_line within late).derived;
      once = λ k late within. (line_says f (clauses_of (take k entry.lines)) (line_at entry.lines k) (is.learned k no_line within late).derived).once;
      unlike = λ j k early order within. unlike_at entry.lines (line_at entry.lines k).clause k j order within (is.learned k no_line within (omega (arith, early, order))).beside_lines;
    } in
    omega (arith, few_lines f.variables entry.lemmas entry.lines apart)

-- the variables of a comparison's formula
variables_of : (net : Net) (query : Query) → IsPairQuery net query → (formula_of (both net) query).variables ≡ net.inputs + 2 * length net.gates + 1
variables_of net query is = ap (λ (q : Query). (formula_of (both net) q).variables) is.query_is ∙ omega arith

abbrev radices : ℕ → List ℕ
radices n = n ∷ n ∷ 2 ∷ 2 ∷ []

abbrev digits : SignalPair → Bool → List ℕ
digits pair value = pair.one ∷ pair.other ∷ bit_digit pair.opposite ∷ bit_digit value ∷ []

-- the number of a comparison
record HasPairNumber (net : Net) (query : Query) (k : ℕ) : Type 0 where
  pub pair : SignalPair
  pub value : Bool
  pub is : IsPair net pair
  pub query_is : query ≡ pair_query net.inputs pair value
  pub number_is : k ≡ number (radices (signals_of net)) (digits pair value)

are_digits : (net : Net) (pair : SignalPair) (value : Bool) → IsPair net pair → AreDigits (radices (signals_of net)) (digits pair value)
are_digits net pair value is =
    (omega (arith, is.order, is.there), (is.there, (bit_small pair.opposite, (bit_small value, tt))))

pairs_counted : (n : ℕ) → product (radices n) ≡ 4 * n ^ 2
pairs_counted n =
    let four : 2 * (2 * 1) ≡ 4 = omega arith in
    ap (λ x. n * (n * x)) four ∙ (sym (mul_assoc n n 4) ∙ (mul_comm (n * n) 4 ∙ ap (λ x. 4 * x) (sym (square n))))

-- a query by what its digits say
abbrev query_by : ℕ → ℕ → ℕ → Bool → Bool → Query
query_by n one other opposite value = record {
  left = record { side = First; output = one; feed = straight n };
  left_value = value;
  right = record { side = First; output = other; feed = straight n };
  right_value = differ (not value) opposite;
}

same_pair : (net : Net) (one other : Query) (k : ℕ) → HasPairNumber net one k → HasPairNumber net other k → one ≡ other
same_pair net one other k is also =
    let ds = same_digits (radices (signals_of net)) (digits is.pair is.value) (digits also.pair also.value) (are_digits net is.pair is.value is.is) (are_digits net also.pair also.value also.is) (sym is.number_is ∙ also.number_is) in
    let at : (i : ℕ) → slice_index_or (digits is.pair is.value) i 0 ≡ slice_index_or (digits also.pair also.value) i 0 = λ i. ap (λ xs. slice_index_or xs i 0) ds in
    let signs = same_bit is.pair.opposite also.pair.opposite (at 2) in
    let values = same_bit is.value also.value (at 3) in
    is.query_is
    ∙ ap (λ x. query_by net.inputs x is.pair.other is.pair.opposite is.value) (at 0)
    ∙ ap (λ x. query_by net.inputs also.pair.one x is.pair.opposite is.value) (at 1)
    ∙ ap (λ (x : Bool). query_by net.inputs also.pair.one also.pair.other x is.value) signs
    ∙ ap (λ (x : Bool). query_by net.inputs also.pair.one also.pair.other also.pair.opposite x) values
    ∙ sym also.query_is

counted : (net : Net) (query : Query) → IsPairQuery net query → IsCounted (HasPairNumber net) (4 * signals_of net ^ 2) query
counted net query is = record {
  number = number (radices (signals_of net)) (digits is.pair is.value);
  below = subst (λ most. number (radices (signals_of net)) (digits is.pair is.value) < most) (pairs_counted (signals_of net)) (number_below (radices (signals_of net)) (digits is.pair is.value) (are_digits net is.pair is.value is.is));
  is = record { pair = is.pair; value = is.value; is = is.is; query_is = is.query_is; number_is = refl };
}

-- a budget that was spent wasn't enough
pub spent_below : (net : Net) (budget : ℕ) (ledger : Ledgered) → IsSpentWork net budget ledger → budget < lines_enough net
spent_below net budget ledger is =
    let count = 4 * signals_of net ^ 2 in
    let most = 3 ^ (net.inputs + 2 * length net.gates + 1) in
    let all : All (λ (e : Asked). IsCounted (HasPairNumber net) count e.query) ledger.asked = λ k d below. counted net (slice_index_or ledger.asked k d).query (is.queries k d below) in
    let few : All (λ (e : Asked). charged_in e ≤ most) ledger.asked = λ k d below.
    let e = slice_index_or ledger.asked k d in
    subst (λ n. charged_in e ≤ 3 ^ n) (variables_of net e.query (is.queries k d below)) (lines_of_entry (both net) e (is.work.entries k d below)) in
    let lines : lines_in ledger ≤ count * most = lines_counted (HasPairNumber net) count most (same_pair net) ledger.asked all few is.work.once in
    omega (arith, lines, is.made)
