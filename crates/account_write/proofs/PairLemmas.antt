-- The pairs of a matching that has ports: all are known, they are whole, and they say the matching.
use Rattle.std.proofs.Common.{◌≡◌, ℕ, zero, suc, ◌+◌, ◌<◌, Bool, List, [], ◌∷◌, ◌++◌, length, map, take, drop, All, slice_index_or, refl, sym, ap, subst, ◌∙◌, arith, length-append}
use Rattle.std.proofs.Math.Seq.{take-append_seam, drop-append_seam}
use Rattle.std.proofs.lemmas.List.Elements.{All-append}
use Rattle.circuits.specs.declared.port.Pair.{Pair}
use Rattle.circuits.specs.declared.port.PortKind.{PortKind}
use Rattle.circuits.specs.declared.port.PortKind.TheVariants.{Input, Output}
use Rattle.circuits.specs.Bijections.{IsSignedBijection}
use Rattle.circuits.specs.Matches.{HavePorts}
use Rattle.net_core.specs.Sides.{Graphs}
use Rattle.net_core.specs.declared.matching.Matching.{Matching}
use Rattle.account_core.specs.Covers.{way}
use Rattle.account_core.specs.Ports.{ports_in, IsKnown}
use Rattle.account_check.specs.Conclusions.{entry_of, matching_of, AreInOrder, AreOfKind, AreWhole}
use Rattle.account_write.specs.Records.{pairs_from, pairs_of_matching}

pub pairs_length : (kind : PortKind) (first : ℕ) (goes : List (ℕ × Bool)) → length (pairs_from kind first goes) ≡ length goes
pairs_length kind first [] = refl
pairs_length kind first (one ∷ others) = ap suc (pairs_length kind (first + 1) others)

pair_from : (kind : PortKind) (first k place : ℕ) (goes : List (ℕ × Bool)) (d : Pair) (e : ℕ × Bool) → k < length goes → first + k ≡ place → slice_index_or (pairs_from kind first goes) k d ≡ way kind place (slice_index_or goes k e).0 (slice_index_or goes k e).1
pair_from kind first k place [] d e below at = absurd (omega (arith, below))
pair_from kind first zero place (one ∷ others) d e below at =
    let same : first ≡ place = omega (arith, at) in ap (λ n. way kind n one.0 one.1) same
pair_from kind first (suc k) place (one ∷ others) d e below at =
    pair_from kind (first + 1) k place others d e (omega (arith, below)) (omega (arith, at))

pair_at : (kind : PortKind) (k : ℕ) (goes : List (ℕ × Bool)) (d : Pair) (e : ℕ × Bool) → k < length goes → slice_index_or (pairs_from kind 0 goes) k d ≡ way kind k (slice_index_or goes k e).0 (slice_index_or goes k e).1
pair_at kind k goes d e below = pair_from kind 0 k k goes d e below (omega arith)

entries_back : (kind : PortKind) (first : ℕ) (goes : List (ℕ × Bool)) → map entry_of (pairs_from kind first goes) ≡ goes
entries_back kind first [] = refl
entries_back kind first (one ∷ others) = ap (λ l. one ∷ l) (entries_back kind (first + 1) others)

of_kind : (kind : PortKind) (goes : List (ℕ × Bool)) → AreOfKind kind (pairs_from kind 0 goes)
of_kind kind goes k d below =
    let at = pair_at kind k goes d (d.to, d.flip) (omega (arith, below, pairs_length kind 0 goes)) in
    (ap (λ (p : Pair). p.kind) at, ap (λ (p : Pair). p.from) at)

known : (graphs : Graphs) (kind : PortKind) (goes : List (ℕ × Bool)) → length goes ≡ ports_in graphs.first kind → All (λ e. e.0 < ports_in graphs.second kind) goes → All (IsKnown graphs) (pairs_from kind 0 goes)
known graphs kind goes count within k d below =
    let there : k < length goes = omega (arith, below, pairs_length kind 0 goes) in
    let at = pair_at kind k goes d (d.to, d.flip) there in
    subst (IsKnown graphs) (sym at) (record {
      from = subst (λ n. k < n) count there;
      to = within k (d.to, d.flip) there;
    })

module _ (graphs : Graphs) (matching : Matching) (ports : HavePorts graphs.first graphs.second matching.inputs matching.outputs) where
  abbrev ins : List Pair
  ins = pairs_from Input 0 matching.inputs

  abbrev outs : List Pair
  outs = pairs_from Output 0 matching.outputs

  count : length ins ≡ graphs.first.inputs
  count = pairs_length Input 0 matching.inputs ∙ ports.inputs.entries

  first_part : take graphs.first.inputs (ins ++ outs) ≡ ins
  first_part = ap (λ n. take n (ins ++ outs)) (sym count) ∙ take-append_seam ins outs

  second_part : drop graphs.first.inputs (ins ++ outs) ≡ outs
  second_part = ap (λ n. drop n (ins ++ outs)) (sym count) ∙ drop-append_seam ins outs

  pub matching_back : matching_of graphs.first.inputs (pairs_of_matching matching) ≡ matching
  matching_back =
      ap (λ l. record { inputs = map entry_of l; outputs = map entry_of (drop graphs.first.inputs (ins ++ outs)) }) first_part
      ∙ (ap (λ l. record { inputs = map entry_of ins; outputs = map entry_of l }) second_part
      ∙ (ap (λ l. record { inputs = l; outputs = map entry_of outs }) (entries_back Input 0 matching.inputs)
      ∙ ap (λ l. record { inputs = matching.inputs; outputs = l }) (entries_back Output 0 matching.outputs)))

  pub pairs_in_order : AreInOrder graphs.first (pairs_of_matching matching)
  pairs_in_order = record {
    count = omega (arith, length-append ins outs, count, pairs_length Output 0 matching.outputs, ports.outputs.entries);
    inputs = subst (AreOfKind Input) (sym first_part) (of_kind Input matching.inputs);
    outputs = subst (AreOfKind Output) (sym second_part) (of_kind Output matching.outputs);
  }

  pub pairs_whole : AreWhole graphs (pairs_of_matching matching)
  pairs_whole = record {
    order = pairs_in_order;
    inputs = subst (λ (m : Matching). IsSignedBijection graphs.first.inputs m.inputs) (sym matching_back) ports.inputs;
    outputs = subst (λ (m : Matching). IsSignedBijection (length graphs.first.outputs) m.outputs) (sym matching_back) ports.outputs;
  }

  pub pairs_known : All (IsKnown graphs) (pairs_of_matching matching)
  pairs_known = All-append (IsKnown graphs) ins outs
      (known graphs Input matching.inputs ports.inputs.entries (subst (λ n. All (λ e. e.0 < n) matching.inputs) (sym ports.same_inputs) ports.inputs.in_range))
      (known graphs Output matching.outputs ports.outputs.entries (subst (λ n. All (λ e. e.0 < n) matching.outputs) (sym ports.same_outputs) ports.outputs.in_range))
