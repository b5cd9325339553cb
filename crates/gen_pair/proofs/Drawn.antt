-- One step more of what is drawn, and what it gives.
use Rattle.std.proofs.Common.{◌≡◌, ℕ, zero, suc, ◌+◌, ◌-◌, ◌%◌, ◌<◌, Bool, List, [], ◌∷◌, ◌++◌, length, IsPermutation, map, nat_lt, slice_index, slice_set, swap, if◌then◌else◌, refl, sym, ap, subst, ◌∙◌, arith}
use Rattle.std.specs.List.{range_with_len}
use Rattle.std.proofs.lemmas.List.Sorted.{length_permutation}
use Rattle.std.proofs.lemmas.List.FromFn.{length-range_with_len}
use Rattle.circuits.specs.declared.netlist.Lit.{Lit}
use Rattle.circuits.specs.declared.netlist.Gate.{Gate}
use Rattle.circuits.specs.Literals.{inverse}
use Rattle.circuits.specs.Netlists.{Net}
use Rattle.rand_pcg.specs.Lcg.{Lcg}
use Rattle.gen_pair.specs.Drawing.{drawn, drawn_bit, generator_of}
use Rattle.port_moves.specs.Moved.{signed, moved_gate, AreMovedOutputs}
use Rattle.gen_pair.specs.Shuffles.{shuffled, signed_places, hidden_ports, hidden_matching}
use Rattle.gen_pair.specs.Pairs.{ArePairOf}
use Rattle.gen_pair.specs.Mixing.{Mixing, mixing, Making, with_and, with_multiplexer, mixed_once, mixed, joining, joined, making, with_output, made, window_of}
use Rattle.circuits.specs.Expansion.{stand_in}

shuffled_suc : (k : ℕ) (places : List ℕ) (random : Lcg) → shuffled (suc k) places random ≡ shuffled k (swap places (k + 1) (drawn (k + 2) random).0) (drawn (k + 2) random).1
unfolding shuffled
shuffled_suc k places random = refl

pub shuffled_more : (left : ℕ) (places : List ℕ) (random : Lcg) → 1 < left → shuffled (left - 1) places random ≡ shuffled (left - 1 - 1) (swap places (left - 1) (drawn left random).0) (drawn left random).1
shuffled_more left places random some =
    let k = left - 2 in
    let next : left - 1 ≡ suc k = omega arith in
    let bound : k + 2 ≡ left = omega arith in
    let last : k + 1 ≡ left - 1 = omega arith in
    let rest : k ≡ left - 1 - 1 = omega arith in
    ap (λ n. shuffled n places random) next
    ∙ shuffled_suc k places random
    ∙ ap (λ b. shuffled k (swap places (k + 1) (drawn b random).0) (drawn b random).1) bound
    ∙ ap (λ i. shuffled k (swap places i (drawn left random).0) (drawn left random).1) last
    ∙ ap (λ n. shuffled n (swap places (left - 1) (drawn left random).0) (drawn left random).1) rest

pub shuffled_done : (left : ℕ) (places : List ℕ) (random : Lcg) → left < 2 → shuffled (left - 1) places random ≡ (places, random)
unfolding shuffled
shuffled_done left places random none =
    let done : left - 1 ≡ zero = omega arith in
    ap (λ n. shuffled n places random) done

pub signed_none : (places : List ℕ) (random : Lcg) → signed_places places 0 random ≡ ([], random)
unfolding signed_places
signed_none places random = refl

pub signed_more : (places : List ℕ) (n : ℕ) (ports : List (ℕ × Bool)) (start random left : Lcg) (sign : Bool) → (ports, random) ≡ signed_places places n start → (sign, left) ≡ drawn_bit random → (ports ++ (slice_index places n, sign) ∷ [], left) ≡ signed_places places (n + 1) start
unfolding signed_places
signed_more places n ports start random left sign before bit =
    let on : n + 1 ≡ suc n = omega arith in
    ap (λ (p : Bool × Lcg). (ports ++ (slice_index places n, p.0) ∷ [], p.1)) bit
    ∙ ap (λ (b : List (ℕ × Bool) × Lcg). (b.0 ++ (slice_index places n, (drawn_bit b.1).0) ∷ [], (drawn_bit b.1).1)) before
    ∙ sym (ap (λ k. signed_places places k start) on)

pub multiplexed : (select low high : Lit) (g0 g1 g2 g3 : List Gate) (l1 l2 l3 : Lit) → (g1, l1) ≡ with_and select low g0 → (g2, l2) ≡ with_and (inverse select) high g1 → (g3, l3) ≡ with_and (inverse l1) (inverse l2) g2 → (g3, inverse l3) ≡ with_multiplexer select low high g0
unfolding with_multiplexer
multiplexed select low high g0 g1 g2 g3 l1 l2 l3 chosen rest neither =
    let first = with_and select low g0 in
    let second : (g2, l2) ≡ with_and (inverse select) high first.0 = rest ∙ ap (λ (p : List Gate × Lit). with_and (inverse select) high p.0) chosen in
    let third = neither
    ∙ ap (λ (p : List Gate × Lit). with_and (inverse p.1) (inverse l2) g2) chosen
    ∙ ap (λ (p : List Gate × Lit). with_and (inverse first.1) (inverse p.1) p.0) second in
    ap (λ (p : List Gate × Lit). (p.0, inverse p.1)) third

-- one draw after the other
pub record Draws (window : List Lit) (gates : List Gate) (random : Lcg) : Type 0 where
  pub place : ℕ
  pub second : ℕ
  pub third : ℕ
  pub sign : Bool
  pub after_place : Lcg
  pub after_second : Lcg
  pub after_third : Lcg
  pub left : Lcg
  pub place_is : (place, after_place) ≡ drawn (length window) random
  pub second_is : (second, after_second) ≡ drawn (length window - 1) after_place
  pub third_is : (third, after_third) ≡ drawn (length window - 1) after_second
  pub sign_is : (sign, left) ≡ drawn_bit after_third

abbrev once_by : List Lit → List Gate → ℕ → ℕ → ℕ → Bool → Lcg → Mixing
once_by window gates place second third sign left =
    let width = length window in
    let select = (place + 1 + second) % width in
    let other = (select + 1 + third) % width in
    let made = with_multiplexer (stand_in window select) (stand_in window place) (signed sign (stand_in window other)) gates in
    mixing (slice_set window place made.1) made.0 left

pub mixed_by : (window : List Lit) (gates : List Gate) (random : Lcg) (d : Draws window gates random) → once_by window gates d.place d.second d.third d.sign d.left ≡ mixed_once (mixing window gates random)
unfolding mixed_once
mixed_by window gates random d =
    let width = length window in
    let one = drawn width random in
    let two : (d.second, d.after_second) ≡ drawn (width - 1) one.1 = d.second_is ∙ ap (λ (p : ℕ × Lcg). drawn (width - 1) p.1) d.place_is in
    let after_two = drawn (width - 1) one.1 in
    let three : (d.third, d.after_third) ≡ drawn (width - 1) after_two.1 = d.third_is ∙ ap (λ (p : ℕ × Lcg). drawn (width - 1) p.1) two in
    let after_three = drawn (width - 1) after_two.1 in
    let four : (d.sign, d.left) ≡ drawn_bit after_three.1 = d.sign_is ∙ ap (λ (p : ℕ × Lcg). drawn_bit p.1) three in
    ap (λ (p : ℕ × Lcg). once_by window gates p.0 d.second d.third d.sign d.left) d.place_is
    ∙ ap (λ (p : ℕ × Lcg). once_by window gates one.0 p.0 d.third d.sign d.left) two
    ∙ ap (λ (p : ℕ × Lcg). once_by window gates one.0 after_two.0 p.0 d.sign d.left) three
    ∙ ap (λ (p : Bool × Lcg). once_by window gates one.0 after_two.0 after_three.0 p.0 p.1) four

pub mixed_none : (s : Mixing) → mixed 0 s ≡ s
unfolding mixed
mixed_none s = refl

pub mixed_more : (n : ℕ) (start : Mixing) (s t : Mixing) → s ≡ mixed n start → t ≡ mixed_once s → t ≡ mixed (n + 1) start
unfolding mixed
mixed_more n start s t before step =
    let on : n + 1 ≡ suc n = omega arith in
    step ∙ ap mixed_once before ∙ sym (ap (λ k. mixed k start) on)

pub joined_none : (window : List Lit) (gates : List Gate) (random : Lcg) → joined window 0 gates random ≡ joining (stand_in window 0) gates random
unfolding joined
joined_none window gates random = refl

pub joined_more : (window : List Lit) (t : ℕ) (g0 g1 g2 : List Gate) (start random left : Lcg) (literal next : Lit) (sign : Bool) → 0 < t → joining literal g1 random ≡ joined window (t - 1) g0 start → (sign, left) ≡ drawn_bit random → (g2, next) ≡ with_and literal (signed sign (stand_in window t)) g1 → joining next g2 left ≡ joined window t g0 start
unfolding joined
joined_more window t g0 g1 g2 start random left literal next sign some before bit made =
    let n = t - 1 in
    let on : t ≡ suc n = omega arith in
    let here : t ≡ n + 1 = omega arith in
    let b = joined window n g0 start in
    let bit_is : (sign, left) ≡ drawn_bit b.random = bit ∙ ap (λ r. drawn_bit r) (ap (λ j. j.random) before) in
    let made_is : (g2, next) ≡ with_and b.literal (signed (drawn_bit b.random).0 (stand_in window (n + 1))) b.gates =
    made
    ∙ ap (λ l. with_and l (signed sign (stand_in window t)) g1) (ap (λ j. j.literal) before)
    ∙ ap (λ g. with_and b.literal (signed sign (stand_in window t)) g) (ap (λ j. j.gates) before)
    ∙ ap (λ (p : Bool × Lcg). with_and b.literal (signed p.0 (stand_in window t)) b.gates) bit_is
    ∙ ap (λ k. with_and b.literal (signed (drawn_bit b.random).0 (stand_in window k)) b.gates) here in
    ap (λ (p : List Gate × Lit). joining p.1 p.0 left) made_is
    ∙ ap (λ (p : Bool × Lcg). joining (with_and b.literal (signed (drawn_bit b.random).0 (stand_in window (n + 1))) b.gates).1 (with_and b.literal (signed (drawn_bit b.random).0 (stand_in window (n + 1))) b.gates).0 p.1) bit_is
    ∙ sym (ap (λ k. joined window k g0 start) on)

pub made_none : (random : Lcg) → made 0 random ≡ making [] [] random
unfolding made
made_none random = refl

pub made_more : (n : ℕ) (start : Lcg) (s t : Making) → s ≡ made n start → t ≡ with_output n s → t ≡ made (n + 1) start
unfolding made
made_more n start s t before step =
    let on : n + 1 ≡ suc n = omega arith in
    step ∙ ap (with_output n) before ∙ sym (ap (λ k. made k start) on)

pub output_made : (k width count : ℕ) (window mixed_window : List Lit) (g0 g1 g2 : List Gate) (outputs : List Lit) (r0 r1 r2 r3 r4 : Lcg) (literal : Lit) (sign : Bool) → (width, r1) ≡ drawn 7 r0 → window ≡ window_of k (6 + width) → mixing mixed_window g1 r2 ≡ mixed 20 (mixing window g0 r1) → count ≡ (if nat_lt k 16 then 3 else 2) → joining literal g2 r3 ≡ joined mixed_window count g1 r2 → (sign, r4) ≡ drawn_bit r3 → making g2 (outputs ++ signed sign literal ∷ []) r4 ≡ with_output k (making g0 outputs r0)
unfolding with_output
output_made k width count window mixed_window g0 g1 g2 outputs r0 r1 r2 r3 r4 literal sign width_is window_is mix_is count_is join_is sign_is =
    let w = drawn 7 r0 in
    let m = mixed 20 (mixing (window_of k (6 + w.0)) g0 w.1) in
    let n = if nat_lt k 16 then 3 else 2 in
    let j = joined m.window n m.gates m.random in
    let mix : mixing mixed_window g1 r2 ≡ m =
    mix_is
    ∙ ap (λ v. mixed 20 (mixing v g0 r1)) window_is
    ∙ ap (λ (p : ℕ × Lcg). mixed 20 (mixing (window_of k (6 + p.0)) g0 p.1)) width_is in
    let join : joining literal g2 r3 ≡ j =
    join_is
    ∙ ap (λ c. joined mixed_window c g1 r2) count_is
    ∙ ap (λ (s : Mixing). joined s.window n s.gates s.random) mix in
    let bit : (sign, r4) ≡ drawn_bit j.random = sign_is ∙ ap (λ r. drawn_bit r) (ap (λ i. i.random) join) in
    ap (λ (p : Bool × Lcg). making g2 (outputs ++ signed p.0 literal ∷ []) p.1) bit
    ∙ ap (λ l. making g2 (outputs ++ signed (drawn_bit j.random).0 l ∷ []) (drawn_bit j.random).1) (ap (λ i. i.literal) join)
    ∙ ap (λ g. making g (outputs ++ signed (drawn_bit j.random).0 j.literal ∷ []) (drawn_bit j.random).1) (ap (λ i. i.gates) join)

pub hidden_drawn : (n : ℕ) (start places now : List ℕ) (ports : List (ℕ × Bool)) (r0 r1 r2 : Lcg) → start ≡ range_with_len 0 n → IsPermutation start places → (places, r1) ≡ shuffled (length start - 1) start r0 → now ≡ places → (ports, r2) ≡ signed_places now (length now) r1 → (ports, r2) ≡ hidden_ports n r0
unfolding hidden_ports
hidden_drawn n start places now ports r0 r1 r2 start_is permutation shuffle same signs =
    let count : length start ≡ n = ap length start_is ∙ length-range_with_len 0 n in
    let long : length places ≡ n = omega (arith, length_permutation start places permutation, count) in
    let drawn_places : (places, r1) ≡ shuffled (n - 1) (range_with_len 0 n) r0 =
    shuffle
    ∙ ap (λ k. shuffled (k - 1) start r0) count
    ∙ ap (λ l. shuffled (n - 1) l r0) start_is in
    signs
    ∙ ap (λ l. signed_places l (length l) r1) same
    ∙ ap (λ k. signed_places places k r1) long
    ∙ ap (λ (p : List ℕ × Lcg). signed_places p.0 n p.1) drawn_places

pub are_pair : (number : ℕ) (random r1 r2 : Lcg) (first named_first second named_second : Net) (p q : List (ℕ × Bool)) → random ≡ generator_of number → making first.gates first.outputs r1 ≡ made 32 random → ((p, q), r2) ≡ hidden_matching r1 → second.gates ≡ map (moved_gate p) first.gates → AreMovedOutputs p q first.outputs second.outputs → named_first ≡ first → named_second ≡ second → ArePairOf number named_first named_second p q
are_pair number random r1 r2 first named_first second named_second p q random_is made_is matching gates outputs first_is second_is =
    let whole = made_is ∙ ap (made 32) random_is in
    record {
      first_gates = ap (λ n. n.gates) first_is ∙ ap (λ m. m.gates) whole;
      first_outputs = ap (λ n. n.outputs) first_is ∙ ap (λ m. m.outputs) whole;
      matching = ap (λ t. t.0) (matching ∙ ap (λ m. hidden_matching m.random) whole);
      second_gates = ap (λ n. n.gates) second_is ∙ gates ∙ ap (λ n. map (moved_gate p) n.gates) (sym first_is);
      second_outputs = subst (λ (n : Net). AreMovedOutputs p q n.outputs named_second.outputs) (sym first_is) (subst (λ (n : Net). AreMovedOutputs p q first.outputs n.outputs) (sym second_is) outputs);
    }
