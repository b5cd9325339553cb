-- Evaluation by bits is what the netlist's definition says, a map that keeps the operations keeps what a netlist gives, and what
-- operators on blocks give is given lane by lane.
use Rattle.std.proofs.Common.{ℕ, ◌-◌, ◌<◌, ◌^◌, ◌≡◌, ◌∙◌, Bool, List, [], ◌∷◌, ◌++◌, cond, get_or, length, map, replicate, bit_xor, arith, refl, sym, ap}
use Rattle.std.specs.Simd.Lanes.{zip2}
use Rattle.std.proofs.Math.ListN.{get_or-map}
use Rattle.std.proofs.lemmas.List.{map_push}
use Rattle.std.proofs.lemmas.List.FromFn.{fill_by_all, get_or-map-range_with_len}
use Rattle.std.proofs.lemmas.Simd.{get_or-replicate, get_or-zip2, length-replicate, length-zip2}
use Rattle.circuits.specs.declared.netlist.Gate.{Gate}
use Rattle.circuits.specs.declared.netlist.Lit.{Lit}
use Rattle.circuits.specs.Literals.{is_negated, signal_of}
use Rattle.circuits.specs.Netlists.{Net, gate_bit, with_gates}
use Rattle.net_core.specs.Values.{KeepsOperations, Operations, bits, blocks, each_lane, gate_value, literal_value, output_values, signed_word, with_values}

pub with_bits : (v : List Bool) (gates : List Gate) → with_values bits v gates ≡ with_gates v gates
with_bits v [] = refl
with_bits v (gate ∷ gates) = with_bits (v ++ gate_bit v gate ∷ []) gates

-- where a map of values keeps the operations, it keeps what literals, gates and outputs have
module _ {V W : Type 0} (on : Operations V) (to : Operations W) (f : V → W) (keeps : KeepsOperations on to f) where
  pub literal_kept : (values : List V) (literal : Lit) → f (literal_value on values literal) ≡ literal_value to (map f values) literal
  literal_kept values literal =
      let s = signal_of literal in
      let negated = is_negated literal in
      keeps.signed (get_or values s on.absent) negated
      ∙ ap (λ value. to.signed value negated) (sym (get_or-map f values s on.absent) ∙ ap (get_or (map f values) s) keeps.absent)

  gate_kept : (values : List V) (gate : Gate) → f (gate_value on values gate) ≡ gate_value to (map f values) gate
  gate_kept values gate =
      let one = literal_value on values gate.a in
      let other = literal_value on values gate.b in
      keeps.and one other
      ∙ (ap (λ value. to.and value (f other)) (literal_kept values gate.a) ∙ ap (to.and (literal_value to (map f values) gate.a)) (literal_kept values gate.b))

  pub gates_kept : (values : List V) (gates : List Gate) → map f (with_values on values gates) ≡ with_values to (map f values) gates
  gates_kept values [] = refl
  gates_kept values (gate ∷ gates) =
      let value = gate_value on values gate in
      gates_kept (values ++ value ∷ []) gates
      ∙ ap (λ list. with_values to list gates) (map_push f values value ∙ ap (λ w. map f values ++ w ∷ []) (gate_kept values gate))

  pub literals_kept : (values : List V) (literals : List Lit) → map f (map (literal_value on values) literals) ≡ map (literal_value to (map f values)) literals
  literals_kept values [] = refl
  literals_kept values (literal ∷ literals) =
      ap (λ w. w ∷ map f (map (literal_value on values) literals)) (literal_kept values literal) ∙ ap (λ list. literal_value to (map f values) literal ∷ list) (literals_kept values literals)

  pub outputs_kept : (net : Net) (values : List V) → map f (output_values on net values) ≡ output_values to net (map f values)
  outputs_kept net values =
      literals_kept (with_values on values net.gates) net.outputs ∙ ap (λ list. map (literal_value to list) net.outputs) (gates_kept values net.gates)

-- what an operator gives of blocks of n words
pub zipped : (n : ℕ) (f : ℕ → ℕ → ℕ) (one other : List ℕ) → length one ≡ n → length other ≡ n → zip2 f one other ≡ each_lane n f one other
zipped n f one other h k =
    fill_by_all (λ l. f (get_or one l 0) (get_or other l 0)) (zip2 f one other) n 0 (length-zip2 f one other (h ∙ sym k) ∙ h) (λ l less. get_or-zip2 f one other l 0 0 0 (omega (arith, h, less)) (omega (arith, k, less)))

pub masked : (n : ℕ) (block : List ℕ) (negated : Bool) (mask : ℕ) → length block ≡ n → mask ≡ cond negated (2 ^ 64 - 1) 0 → zip2 bit_xor block (replicate n mask) ≡ (blocks n).signed block negated
masked n block negated mask h is =
    let all = length-replicate n mask in
    fill_by_all (λ l. signed_word (get_or block l 0) negated) (zip2 bit_xor block (replicate n mask)) n 0 (length-zip2 bit_xor block (replicate n mask) (h ∙ sym all) ∙ h) (λ l less. get_or-zip2 bit_xor block (replicate n mask) l 0 0 0 (omega (arith, h, less)) (omega (arith, all, less)) ∙ ap (bit_xor (get_or block l 0)) (get_or-replicate n l mask 0 less ∙ is))

-- a lane of what is given lane by lane
pub lane_of_each : (n : ℕ) (f : ℕ → ℕ → ℕ) (one other : List ℕ) (l : ℕ) → l < n → get_or (each_lane n f one other) l 0 ≡ f (get_or one l 0) (get_or other l 0)
lane_of_each n f one other l less = get_or-map-range_with_len (λ l. f (get_or one l 0) (get_or other l 0)) 0 n l l 0 less (omega arith)

pub lane_of_signed : (n : ℕ) (block : List ℕ) (negated : Bool) (l : ℕ) → l < n → get_or ((blocks n).signed block negated) l 0 ≡ signed_word (get_or block l 0) negated
lane_of_signed n block negated l less = get_or-map-range_with_len (λ l. signed_word (get_or block l 0) negated) 0 n l l 0 less (omega arith)
