-- What the queries of a pair say of its signals.
use Rattle.std.proofs.Common.{◌≡◌, ◌≢◌, ℕ, ◌+◌, ◌<◌, not, Bool, true, false, cond, List, length, Option, Some, None, Result, Ok, Err, slice_index_or, inr, refl, sym, ap, subst, ◌∙◌, arith}
use Rattle.std.specs.Result.{IfErr, IsErrAnd}
use Rattle.std.proofs.lemmas.Bool.{false≢true}
use Rattle.std.proofs.lemmas.List.{get_or-map}
use Rattle.std.proofs.lemmas.List.FromFn.{get_or-map-range_with_len, length-map-range_with_len}
use Rattle.circuits.specs.declared.netlist.Lit.{Lit}
use Rattle.circuits.specs.Literals.{bit, differ, false_literal, inverse, literal_bit, plain_literal}
use Rattle.circuits.specs.Netlists.{Net, function_of, signals_of, valuation_of}
use Rattle.circuits.proofs.Expansions.{differ_false, differ_true, literal_bit-inverse, literal_bit-plain}
use Rattle.cnf_core.specs.declared.stop.Stop.{Stop}
use Rattle.net_core.specs.Graph.{IsGraph}
use Rattle.net_core.specs.Sides.{Graphs}
use Rattle.net_core.specs.declared.graphs.Side.TheVariants.{First}
use Rattle.claim_core.specs.declared.query.Cone.{Cone}
use Rattle.claim_core.specs.declared.query.Query.{Query}
use Rattle.claim_core.specs.Feeds.{straight}
use Rattle.claim_core.specs.Queries.{IsCone, IsQuery, IsUnmet, cone_bit}
use Rattle.claim_core.proofs.MatchLemmas.{straight_bits, straight_count, straight_wired}
use Rattle.claim_core.proofs.RefutedLemmas.{unmet}
use Rattle.query_core.specs.Ledgers.{Ledgered}
use Rattle.ask_core.specs.declared.question.Answer.{Answer}
use Rattle.ask_core.specs.declared.question.Answer.TheVariants.{Vector, Refuted}
use Rattle.ask_core.specs.Answers.{Asks, IsAnswer, IsAskedIn, IsStoppedAfter, IsVector}
use Rattle.ask_core.proofs.AskLemmas.{stopped_weaker}
use Rattle.sweep.specs.Asking.{Decides, IsHalted}
use Rattle.sweep.proofs.AskingLemmas.{asked_of, decides_err}
use Rattle.sweep.specs.declared.comparing.Comparison.{Comparison}
use Rattle.sweep.specs.declared.comparing.Comparison.TheVariants.{Differs}
use Rattle.sweep.specs.declared.comparing.SignalPair.{SignalPair}
use Rattle.sweep.specs.Comparing.{Compares, HasCompared, IsComparison, IsDifference, IsFound, IsPair, IsStopped, comparison_by, literal_of, pair_query, vector_in}
use Rattle.sweep.proofs.WorkLemmas.{budget_decided, half_compared, half_of, half_stopped, whole_compared, whole_stopped}
use Rattle.sweep.specs.Exposed.{IsExposed, both}
use Rattle.sweep.specs.Signals.{Computes}

-- the cone of a signal
abbrev signal_cone : ℕ → ℕ → Cone
signal_cone n s = record { side = First; output = s; feed = straight n }

outputs_count : (net : Net) → IsExposed net → length net.outputs ≡ signals_of net
outputs_count net is = ap length is ∙ length-map-range_with_len plain_literal 0 (signals_of net)

is_cone : (net : Net) (s : ℕ) → IsExposed net → s < signals_of net → IsCone (both net) net.inputs (signal_cone net.inputs s)
is_cone net s is there = record {
  inputs = refl;
  output = omega (arith, there, outputs_count net is);
  feed = straight_count net.inputs;
  wires = straight_wired net.inputs;
}

pub pair_query_fits : (net : Net) (pair : SignalPair) (value : Bool) → IsExposed net → IsPair net pair → IsQuery (both net) (pair_query net.inputs pair value)
pair_query_fits net pair value exposed is = record {
  left = is_cone net pair.one exposed (omega (arith, is.order, is.there));
  right = is_cone net pair.other exposed is.there;
}

-- the bit of its cone is the signal's
cone_is : (net : Net) (s : ℕ) (x : List Bool) → IsExposed net → s < signals_of net → length x ≡ net.inputs → cone_bit (both net) x (signal_cone net.inputs s) ≡ bit (valuation_of net x) s
cone_is net s x exposed there long =
    let v = valuation_of net x in
    let at : slice_index_or net.outputs s false_literal ≡ plain_literal s =
    ap (λ (ls : List Lit). slice_index_or ls s false_literal) exposed ∙ get_or-map-range_with_len plain_literal 0 (signals_of net) s s false_literal there (omega arith) in
    ap (λ y. bit (function_of net y) s) (straight_bits x net.inputs long)
    ∙ (get_or-map (literal_bit v) net.outputs s false_literal false (omega (arith, there, outputs_count net exposed))
    ∙ (ap (literal_bit v) at ∙ literal_bit-plain v s))

pub literal_of_bit : (v : List Bool) (pair : SignalPair) → literal_bit v (literal_of pair) ≡ differ (bit v pair.one) pair.opposite
literal_of_bit v pair = by_sign pair.opposite
  where
    by_sign : (b : Bool) → literal_bit v (cond b (inverse (plain_literal pair.one)) (plain_literal pair.one)) ≡ differ (bit v pair.one) b
    by_sign true = literal_bit-inverse v (plain_literal pair.one) ∙ (ap not (literal_bit-plain v pair.one) ∙ sym (differ_true (bit v pair.one)))
    by_sign false = literal_bit-plain v pair.one ∙ sym (differ_false (bit v pair.one))

-- bits that differ neither where the first is true nor where it is false
no_difference : (one other opposite : Bool) → (one ≡ true → other ≡ differ (not true) opposite → ⊥) → (one ≡ false → other ≡ differ (not false) opposite → ⊥) → other ≡ differ one opposite
no_difference true true true first second = absurd (first refl refl)
no_difference true true false first second = refl
no_difference true false true first second = refl
no_difference true false false first second = absurd (first refl refl)
no_difference false true true first second = refl
no_difference false true false first second = absurd (second refl refl)
no_difference false false true first second = absurd (second refl refl)
no_difference false false false first second = refl

is_difference : (one other opposite value : Bool) → one ≡ value → other ≡ differ (not value) opposite → other ≢ differ one opposite
is_difference one other opposite value is unlike same =
    never value opposite (sym unlike ∙ (same ∙ ap (λ b. differ b opposite) is))
  where
    never : (value opposite : Bool) → differ (not value) opposite ≡ differ value opposite → ⊥
    never true true same = false≢true (sym same)
    never true false same = false≢true same
    never false true same = false≢true same
    never false false same = false≢true (sym same)

-- a vector that meets either query is a difference
pub difference_of : (net : Net) (pair : SignalPair) (value : Bool) (x : List Bool) → IsExposed net → IsPair net pair → IsVector (both net) (pair_query net.inputs pair value) x → IsDifference net pair x
difference_of net pair value x exposed is vector =
    let v = valuation_of net x in
    let one = sym (cone_is net pair.one x exposed (omega (arith, is.order, is.there)) vector.bits) ∙ vector.meets.left in
    let other = sym (cone_is net pair.other x exposed is.there vector.bits) ∙ vector.meets.right in
    record {
      inputs = vector.bits;
      unlike = is_difference (bit v pair.one) (bit v pair.other) pair.opposite value one other;
    }

-- where neither is met, the second signal computes the literal
pub computes_of : (net : Net) (pair : SignalPair) → IsExposed net → IsPair net pair → IsUnmet (both net) (pair_query net.inputs pair true) → IsUnmet (both net) (pair_query net.inputs pair false) → Computes net pair.other (literal_of pair)
computes_of net pair exposed is when_true when_false x long =
    let v = valuation_of net x in
    let one = cone_is net pair.one x exposed (omega (arith, is.order, is.there)) long in
    let other = cone_is net pair.other x exposed is.there long in
    no_difference (bit v pair.one) (bit v pair.other) pair.opposite
    (λ first second. when_true x long (record { left = one ∙ first; right = other ∙ second }))
    (λ first second. when_false x long (record { left = one ∙ first; right = other ∙ second }))
    ∙ sym (literal_of_bit v pair)

-- The query that is asked is that of the pair.
pub asks_here : (net : Net) (pair : SignalPair) (value : Bool) (n : ℕ) (graphs : Graphs) (query : Query) (before after : Ledgered) (r : Result Answer Stop) → graphs ≡ both net → n ≡ net.inputs → query ≡ pair_query n pair value → Asks IsAskedIn graphs query before after r → Asks IsAskedIn (both net) (pair_query net.inputs pair value) before after r
asks_here net pair value n graphs query before after r graphs_is inputs query_is asks =
    subst (λ q. Asks IsAskedIn (both net) q before after r) (query_is ∙ ap (λ k. pair_query k pair value) inputs) (subst (λ g. Asks IsAskedIn g query before after r) graphs_is asks)

pub fits_here : (net : Net) (pair : SignalPair) (value : Bool) (n : ℕ) (graphs : Graphs) (query : Query) → IsExposed net → IsPair net pair → graphs ≡ both net → n ≡ net.inputs → query ≡ pair_query n pair value → IsQuery graphs query
fits_here net pair value n graphs query exposed is graphs_is inputs query_is =
    subst (λ g. IsQuery g query) (sym graphs_is) (subst (IsQuery (both net)) (sym (query_is ∙ ap (λ k. pair_query k pair value) inputs)) (pair_query_fits net pair value exposed is))

-- what an answer says of the pair
found_of : (net : Net) (pair : SignalPair) (value : Bool) (answer : Answer) → IsGraph net → IsExposed net → IsPair net pair → IsAnswer (both net) (pair_query net.inputs pair value) answer → IsFound net pair value (vector_in answer)
found_of net pair value (Vector vector) graph exposed is told = told
found_of net pair value (Refuted log) graph exposed is told =
    unmet (both net) (pair_query net.inputs pair value) graph graph (record {
      fits = pair_query_fits net pair value exposed is;
      lines = log.lines;
      refuted = told;
    })

-- so the query is decided
pub found_decides : (net : Net) (pair : SignalPair) (value : Bool) (before after : Ledgered) (answer : Answer) → IsGraph net → IsExposed net → IsPair net pair → Asks IsAskedIn (both net) (pair_query net.inputs pair value) before after (Ok answer) → Decides {X = Option (List Bool)} (IsFound net pair value) (both net) (pair_query net.inputs pair value) before after (Ok (vector_in answer))
found_decides net pair value before after answer graph exposed is asks = record {
  answer = found_of net pair value answer graph exposed is asks.answer;
  decided = inr (asked_of (both net) (pair_query net.inputs pair value) before after (pair_query_fits net pair value exposed is) asks.asked);
  unspent = asks.not_spent;
  stop = tt;
}

pub halted_here : (net : Net) (pair : SignalPair) (value : Bool) (n : ℕ) (graphs : Graphs) (query : Query) (before after : Ledgered) (r : Result (Option (List Bool)) Stop) (stop : Stop) → IsErrAnd r (λ e. e ≡ stop) → IsExposed net → IsPair net pair → graphs ≡ both net → n ≡ net.inputs → query ≡ pair_query n pair value → IsStoppedAfter (IsAskedIn graphs query before after) before after stop → Decides (IsFound net pair value) (both net) (pair_query net.inputs pair value) before after r
halted_here net pair value n graphs query before after r stop is_err exposed is graphs_is inputs query_is stopped =
    let q = pair_query net.inputs pair value in
    decides_err (both net) q before after r stop is_err (stopped_weaker before after stop (λ asked. asked_of (both net) q before after (pair_query_fits net pair value exposed is) (subst (λ p. IsAskedIn (both net) p before after) (query_is ∙ ap (λ k. pair_query k pair value) inputs) (subst (λ g. IsAskedIn g query before after) graphs_is asked))) stopped)

-- two queries that were decided compare the pair
pub compares_first : (net : Net) (pair : SignalPair) (before after : Ledgered) (vector : List Bool) → IsExposed net → IsPair net pair → HasCompared net pair.other (pair.one + 1) before → Decides {X = Option (List Bool)} (IsFound net pair true) (both net) (pair_query net.inputs pair true) before after (Ok (Some vector)) → Compares net pair before after (Ok (Differs vector))
compares_first net pair before after vector exposed is compared decides =
    let half = half_of net pair before after is compared decides.decided in
    record {
      answer = difference_of net pair true vector exposed is decides.answer;
      compared = half_compared net pair before.budget after half decides.unspent;
      budget = half.budget_is;
      stopped = tt;
    }

comparison_of : (net : Net) (pair : SignalPair) (found : Option (List Bool)) → IsExposed net → IsPair net pair → IsUnmet (both net) (pair_query net.inputs pair true) → IsFound net pair false found → IsComparison net pair (comparison_by found)
comparison_of net pair (Some vector) exposed is first second = difference_of net pair false vector exposed is second
comparison_of net pair None exposed is first second = computes_of net pair exposed is first second

pub compares_second : (net : Net) (pair : SignalPair) (before half after : Ledgered) (found : Option (List Bool)) → IsExposed net → IsPair net pair → HasCompared net pair.other (pair.one + 1) before → Decides {X = Option (List Bool)} (IsFound net pair true) (both net) (pair_query net.inputs pair true) before half (Ok None) → Decides {X = Option (List Bool)} (IsFound net pair false) (both net) (pair_query net.inputs pair false) half after (Ok found) → Compares net pair before after (Ok (comparison_by found))
compares_second net pair before half after found exposed is compared first second =
    let has = half_of net pair before half is compared first.decided in
    record {
      answer = comparison_of net pair found exposed is first.answer second.answer;
      compared = whole_compared net pair before.budget half after is has second.decided second.unspent;
      budget = budget_decided (both net) (pair_query net.inputs pair false) half after second.decided ∙ has.budget_is;
      stopped = tt;
    }

pub compares_stopped : (net : Net) (pair : SignalPair) (before after : Ledgered) (r : Result Comparison Stop) (stop : Stop) → IsErrAnd r (λ e. e ≡ stop) → IsStopped net before.budget after stop → Compares net pair before after r
compares_stopped net pair before after (Ok comparison) stop is stopped = absurd is
compares_stopped net pair before after (Err other) stop is stopped = record {
  answer = tt;
  compared = tt;
  budget = tt;
  stopped = subst (IsStopped net before.budget after) (sym is) stopped;
}

pub first_stopped : (net : Net) (pair : SignalPair) (before after : Ledgered) (found : Result (Option (List Bool)) Stop) (r : Result Comparison Stop) (stop : Stop) → found ≡ Err stop → IsErrAnd r (λ e. e ≡ stop) → IsPair net pair → HasCompared net pair.other (pair.one + 1) before → Decides (IsFound net pair true) (both net) (pair_query net.inputs pair true) before after found → Compares net pair before after r
first_stopped net pair before after found r stop was is_err is compared decides =
    let q = pair_query net.inputs pair true in
    compares_stopped net pair before after r stop is_err (half_stopped net pair before after stop is compared (subst (λ x. IfErr x (IsHalted (both net) q before after)) was decides.stop))

pub second_stopped : (net : Net) (pair : SignalPair) (before half after : Ledgered) (first second : Result (Option (List Bool)) Stop) (r : Result Comparison Stop) (stop : Stop) → first ≡ Ok None → second ≡ Err stop → IsErrAnd r (λ e. e ≡ stop) → IsPair net pair → HasCompared net pair.other (pair.one + 1) before → Decides (IsFound net pair true) (both net) (pair_query net.inputs pair true) before half first → Decides (IsFound net pair false) (both net) (pair_query net.inputs pair false) half after second → Compares net pair before after r
second_stopped net pair before half after first second r stop was_first was_second is_err is compared decides also =
    let q = pair_query net.inputs pair false in
    let here = subst (Decides (IsFound net pair true) (both net) (pair_query net.inputs pair true) before half) was_first decides in
    compares_stopped net pair before after r stop is_err (whole_stopped net pair before.budget half after stop is (half_of net pair before half is compared here.decided) (subst (λ x. IfErr x (IsHalted (both net) q half after)) was_second also.stop))
