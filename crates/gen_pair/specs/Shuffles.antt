-- Where the ports go: a permutation by the shuffle of Fisher and Yates (as Durstenfeld gave it, CACM 1964), and a sign
-- for each port.
use Rattle.std.specs.Prelude.{ℕ, zero, suc, ◌+◌, ◌-◌, Bool, List, [], ◌∷◌, ◌++◌, slice_index, swap}
use Rattle.std.specs.List.{range_with_len}
use Rattle.rand_pcg.specs.Lcg.{Lcg}
use Rattle.gen_pair.specs.Drawing.{drawn, drawn_bit}

-- each place, from the last on, is exchanged with one that is drawn from those up to it
unfoldable pub shuffled : ℕ → List ℕ → Lcg → List ℕ × Lcg
shuffled zero places random = (places, random)
shuffled (suc last) places random =
    let other = drawn (last + 2) random in
    shuffled last (swap places (last + 1) other.0) other.1

-- the first n places, each with a sign that is drawn
unfoldable pub signed_places : List ℕ → ℕ → Lcg → List (ℕ × Bool) × Lcg
signed_places places zero random = ([], random)
signed_places places (suc n) random =
    let before = signed_places places n random in
    let sign = drawn_bit before.1 in
    (before.0 ++ (slice_index places n, sign.0) ∷ [], sign.1)

-- a place and a sign for each of n ports: the places first, then the signs
unfoldable pub hidden_ports : ℕ → Lcg → List (ℕ × Bool) × Lcg
hidden_ports n random =
    let places = shuffled (n - 1) (range_with_len 0 n) random in
    signed_places places.0 n places.1

-- the matching of 64 inputs and 32 outputs: the inputs first, then the outputs
unfoldable pub hidden_matching : Lcg → (List (ℕ × Bool) × List (ℕ × Bool)) × Lcg
hidden_matching random =
    let inputs = hidden_ports 64 random in
    let outputs = hidden_ports 32 inputs.1 in
    ((inputs.0, outputs.0), outputs.1)
