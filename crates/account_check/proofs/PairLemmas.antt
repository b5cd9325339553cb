-- How many logs a match asks for.
use Rattle.std.proofs.Common.{◌≡◌, ℕ, zero, suc, ◌+◌, ◌<◌, ◌≤◌, false, List, length, map, take, drop, refl, sym, ap, ◌∙◌, arith}
use Rattle.std.specs.Prelude.{count_by}
use Rattle.std.proofs.lemmas.List.{get_or-take, get_or-drop, length-take, length-map}
use Rattle.std.proofs.lemmas.List.Sums.{count_by_more_no, count_by_more_yes}
use Rattle.std.proofs.Common.{length-drop}
use Rattle.std.proofs.Math.Seq.{take-length}
use Rattle.circuits.specs.declared.port.Pair.{Pair}
use Rattle.circuits.specs.declared.port.PortKind.TheVariants.{Input}
use Rattle.circuits.specs.Netlists.{Net}
use Rattle.account_file.specs.Order.{is_output, is_output_kind}
use Rattle.account_check.specs.Conclusions.{entry_of, matching_of, AreInOrder}

none : Pair
none = record { kind = Input; from = 0; to = 0; flip = false }

-- the first pairs are of inputs
before : (net : Net) (pairs : List Pair) (i : ℕ) → AreInOrder net pairs → i ≤ net.inputs → count_by is_output (take i pairs) ≡ 0
before net pairs zero order few = refl
before net pairs (suc i) order few =
    let here : i < length pairs = omega (arith, order.count) in
    let there : i < length (take net.inputs pairs) = omega (arith, length-take net.inputs pairs, order.count) in
    let kind = ap (λ (p : Pair). p.kind) (sym (get_or-take net.inputs pairs i none (omega arith))) ∙ (order.inputs i none there).0 in
    let next : suc i ≡ i + 1 = omega arith in
    ap (λ n. count_by is_output (take n pairs)) next ∙ (count_by_more_no is_output pairs i none here (ap is_output_kind kind) ∙ before net pairs i order (omega arith))

-- and the others of outputs
after : (net : Net) (pairs : List Pair) (j : ℕ) → AreInOrder net pairs → net.inputs + j ≤ length pairs → count_by is_output (take (net.inputs + j) pairs) ≡ j
after net pairs zero order few =
    let start : net.inputs + zero ≡ net.inputs = omega arith in
    ap (λ n. count_by is_output (take n pairs)) start ∙ before net pairs net.inputs order (omega arith)
after net pairs (suc j) order few =
    let here : net.inputs + j < length pairs = omega (arith, few) in
    let there : j < length (drop net.inputs pairs) = omega (arith, length-drop net.inputs pairs, few) in
    let kind = ap (λ (p : Pair). p.kind) (sym (get_or-drop net.inputs pairs j none)) ∙ (order.outputs j none there).0 in
    let next : net.inputs + suc j ≡ net.inputs + j + 1 = omega arith in
    let more : count_by is_output (take (net.inputs + j) pairs) + 1 ≡ suc j = omega (arith, after net pairs j order (omega (arith, few))) in
    ap (λ n. count_by is_output (take n pairs)) next ∙ (count_by_more_yes is_output pairs (net.inputs + j) none here (ap is_output_kind kind) ∙ more)

-- there are as many pairs of outputs as the matching has outputs
pub outputs_counted : (net : Net) (pairs : List Pair) → AreInOrder net pairs → length (matching_of net.inputs pairs).outputs ≡ count_by is_output pairs
outputs_counted net pairs order =
    let m = length net.outputs in
    let left : length (map entry_of (drop net.inputs pairs)) ≡ m = omega (arith, length-map (drop net.inputs pairs) entry_of, length-drop net.inputs pairs, order.count) in
    let whole : net.inputs + m ≡ length pairs = sym order.count in
    let all : take (net.inputs + m) pairs ≡ pairs = ap (λ n. take n pairs) whole ∙ take-length pairs in
    left ∙ (sym (after net pairs m order (omega (arith, whole))) ∙ ap (count_by is_output) all)
