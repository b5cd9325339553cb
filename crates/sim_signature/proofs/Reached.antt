-- A gate that a change reaches gets another block, and any other keeps its own.
use Rattle.std.proofs.Common.{ℕ, ◌<◌, ◌≡◌, ◌≢◌, ◌||◌, Bool, true, false, cond, List, [], length, get_or, set, sym, ap, ◌∙◌, inl, inr}
use Rattle.std.proofs.lemmas.Bool.{or_parts}
use Rattle.std.proofs.lemmas.List.{get_or-set_same, get_or-set_other}
use Rattle.circuits.specs.declared.netlist.Gate.{Gate}
use Rattle.circuits.specs.Literals.{bit, signal_of}
use Rattle.sim_signature.specs.Blocks.{IsRunOrKept, bit_of_gate, block_after, block_bit}

pub kept-others : (before after : List (List ℕ)) (marks : List Bool) (place s : ℕ) → s ≢ place → block_after before after (set marks place false) s ≡ block_after before after marks s
kept-others before after marks place s apart =
    ap (λ mark. cond mark (get_or after s []) (get_or before s [])) (get_or-set_other marks place s false false apart)

pub run-others : (before after : List (List ℕ)) (marks : List Bool) (place s : ℕ) (block : List ℕ) → s ≢ place → block_after before (set after place block) (set marks place true) s ≡ block_after before after marks s
run-others before after marks place s block apart =
    ap (λ mark. cond mark (get_or (set after place block) s []) (get_or before s [])) (get_or-set_other marks place s true false apart)
    ∙ ap (λ found. cond (bit marks s) found (get_or before s [])) (get_or-set_other after place s block [] apart)

unmarked : (before after : List (List ℕ)) (marks : List Bool) (s : ℕ) → bit marks s ≡ false → block_after before after marks s ≡ get_or before s []
unmarked before after marks s is = ap (λ mark. cond mark (get_or after s []) (get_or before s [])) is

pub kept-place : (gate : Gate) (place : ℕ) (before after : List (List ℕ)) (marks : List Bool) (reached : Bool) → place < length marks → reached ≡ bit marks (signal_of gate.a) || bit marks (signal_of gate.b) → reached ≡ false → IsRunOrKept gate place before after after marks (set marks place false)
kept-place gate place before after marks reached there is not_reached =
    let both = or_parts (bit marks (signal_of gate.a)) (bit marks (signal_of gate.b)) (sym is ∙ not_reached) in
    inr (unmarked before after (set marks place false) place (get_or-set_same marks place false false there), unmarked before after marks (signal_of gate.a) both.0, unmarked before after marks (signal_of gate.b) both.1)

pub run-place : (gate : Gate) (place : ℕ) (before after : List (List ℕ)) (marks : List Bool) (block : List ℕ) → place < length marks → place < length after
    → ((w v : ℕ) → w < 8 → v < 64 → block_bit w v block ≡ bit_of_gate (λ s. block_bit w v (block_after before after marks s)) gate)
    → IsRunOrKept gate place before after (set after place block) marks (set marks place true)
run-place gate place before after marks block there room bits =
    let is = ap (λ mark. cond mark (get_or (set after place block) place []) (get_or before place [])) (get_or-set_same marks place true false there) ∙ get_or-set_same after place block [] room in
    inl (λ w v h k. ap (block_bit w v) is ∙ bits w v h k)
