-- Shuffled numbers with signs are a signed bijection.
use Rattle.std.proofs.Common.{◌≡◌, ◌≢◌, ℕ, ◌+◌, ◌<◌, Bool, eqb, List, [], ◌∷◌, ◌++◌, length, map, take, drop, All, AllPairs, IsPermutation, sym, ap, subst, ◌∙◌, arith}
use Rattle.std.specs.List.{range_with_len}
use Rattle.std.proofs.lemmas.List.{length-map, get_or-map, drop_all, take_at}
use Rattle.std.proofs.lemmas.List.Sorted.{length_permutation, All-permutation}
use Rattle.std.proofs.lemmas.Cmp.{nat_eq_equiv}
use Rattle.std.proofs.lemmas.List.FromFn.{get_or-range_with_len, length-range_with_len}
use Rattle.std.proofs.lemmas.Bool.Decides.{Decides-eqb}
use Rattle.std.proofs.lemmas.Map.Made.{AllPairs-from_IsDistinct, IsDistinct-from_AllPairs}
use Rattle.std.proofs.lemmas.Map.Keys.{IsDistinct-IsPermutation}
use Rattle.circuits.specs.Bijections.{IsSignedBijection}

range_distinct : (n : ℕ) → AllPairs (λ one other. one ≢ other) (range_with_len 0 n)
range_distinct n i j d before there same =
    let few : j < n = omega (arith, there, length-range_with_len 0 n) in
    omega (arith, before, same, get_or-range_with_len 0 n i d (omega (arith, before, few)), get_or-range_with_len 0 n j d few)

pub shuffled_ports : (n : ℕ) (places : List ℕ) (ports : List (ℕ × Bool)) → IsPermutation (range_with_len 0 n) places → map (λ port. port.0) ports ≡ places → IsSignedBijection n ports
shuffled_ports n places ports shuffled same =
    let first : ℕ × Bool → ℕ = λ port. port.0 in
    let below : All (λ place. place < n) (range_with_len 0 n) =
    λ k d h. omega (arith, h, length-range_with_len 0 n, get_or-range_with_len 0 n k d (omega (arith, h, length-range_with_len 0 n))) in
    let count : length ports ≡ n = omega (arith, length-map ports first, ap length same, length_permutation (range_with_len 0 n) places shuffled, length-range_with_len 0 n) in
    let all : All (λ place. place < n) (map first ports) = subst (All (λ place. place < n)) (sym same) (All-permutation (λ place. place < n) (range_with_len 0 n) places shuffled below) in
    let apart : AllPairs (λ one other. one ≢ other) (map first ports) = subst (AllPairs (λ one other. one ≢ other)) (sym same)
    (AllPairs-from_IsDistinct Decides-eqb places (IsDistinct-IsPermutation eqb (λ x y. nat_eq_equiv.symm x y) (range_with_len 0 n) places shuffled (IsDistinct-from_AllPairs Decides-eqb (range_with_len 0 n) (range_distinct n)))) in
    record {
      entries = count;
      in_range = λ k d h. subst (λ place. place < n) (get_or-map first ports k d d.0 h) (all k d.0 (omega (arith, h, length-map ports first)));
      distinct = λ i j d before h alike.
          apart i j d.0 before (omega (arith, h, length-map ports first))
          (get_or-map first ports i d d.0 (omega (arith, before, h)) ∙ alike ∙ sym (get_or-map first ports j d d.0 h));
    }

pub hidden_bijection : (n : ℕ) (start places now : List ℕ) (ports : List (ℕ × Bool)) → start ≡ range_with_len 0 n → IsPermutation start places → now ≡ places → map (λ port. port.0) ports ≡ now → IsSignedBijection n ports
hidden_bijection n start places now ports start_is permutation same firsts =
    shuffled_ports n places ports (subst (λ s. IsPermutation s places) start_is permutation) (firsts ∙ same)

-- a whole list written over one as long leaves nothing of it
pub written : (new old : List ℕ) (n : ℕ) → length new ≡ length old → n ≡ length old → take n (new ++ drop (length new) old) ≡ new
written new old n same long =
    ap (λ rest. take n (new ++ rest)) (drop_all (length new) old (omega (arith, same)))
    ∙ take_at new [] n (omega (arith, same, long))
