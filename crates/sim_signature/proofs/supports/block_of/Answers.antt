use Rattle.std.proofs.Common.{◌≡◌, ◌∙◌, ◌+◌, ◌<◌, ◌==◌, ap, ℕ, List, ◌++◌, [], ◌∷◌, map, slice_index_or}
use Rattle.std.proofs.lemmas.Result.{IfOk-weaker}
use Rattle.std.specs.List.{range_with_len}
use Rattle.circuits.specs.declared.netlist.Gate.{Gate}
use Rattle.circuits.specs.declared.netlist.Lit.{Lit}
use Rattle.circuits.specs.Literals.{signal_of}
use Rattle.claim_core.specs.Formulas.{reaching}
use Rattle.word_sim.specs.Columns.{lane}
use Rattle.sim_signature.specs.Supports.{IsBlock}
use Rattle.sim_signature.proofs.SupportLemmas.{block_is}
use Rattle.sim_signature.proofs.supports.block_of.Goals as goal

pub returns : goal.returns
returns c =
    let net = c.args.graph.now in
    let first = c.args.first in
    let start = c.push.new.self.items in
    let inputs = c.push_inputs.new.words.items in
    let words = c.push_gates.new.words.items in
    let row : List Lit → List ℕ → List ℕ = λ (ls : List Lit) (ws : List ℕ). map (λ (l : Lit). slice_index_or ws (signal_of l) 0) ls in
    let start_is = c.in_ok-push.ensures.items ∙ ap (λ (ws : List ℕ). ws ++ 0 ∷ []) c.new-words.ensures.items in
    let lanes : (v : ℕ) → v < 64 → lane v inputs ≡ lane v start ++ map (λ k. k == first + v) (range_with_len 0 net.inputs) = λ v below. c.in_ok-push_inputs.ensures.lanes v below ∙ ap (λ (n : ℕ). lane v start ++ map (λ k. k == first + v) (range_with_len 0 n)) c.inputs.ensures.value in
    let reached : (v : ℕ) → lane v words ≡ reaching (lane v inputs) net.gates = λ v. c.in_ok-push_gates.ensures.lanes v ∙ ap (λ (gs : List Gate). reaching (lane v inputs) gs) c.gates.ensures.value in
    let told = ap (λ (ls : List Lit). row ls c.deref.result.now) c.outputs.ensures.value ∙ ap (row net.outputs) c.deref.ensures.value in
    IfOk-weaker c.words_of.result (λ (list : List ℕ). list ≡ row c.outputs.result.now c.deref.result.now) (IsBlock net first) (λ list is. block_is net first start inputs words list start_is lanes reached (is ∙ told)) c.words_of.ensures
