-- Parts of a list, one after the other.
use Rattle.std.proofs.Common.{◌≡◌, ℕ, zero, suc, ◌+◌, ◌-◌, ◌<◌, ◌≤◌, List, [], ◌∷◌, ◌++◌, length, take, drop, slice_index_or, Vec, vec_len, vec_capacity, refl, ◌∙◌, ap, arith}
use Rattle.std.proofs.lemmas.List.{take-append-le, drop-append-le, length-drop}
use Rattle.std.proofs.Math.Seq.{take-length, drop-append_seam}
use Rattle.std.specs.declared.alloc.Global.{Global}
use Rattle.cnf_core.specs.declared.literal.SatLit.{SatLit}
use Rattle.cnf_core.specs.Stores.{pieces, start_at, AreEnds}

-- the first n of more elements were added, and no memory was taken
pub record IsAppended (old new : Vec SatLit Global) (more : List SatLit) (count : ℕ) : Type 0 where
  pub items : new.items ≡ old.items ++ take count more
  pub len : vec_len new ≡ vec_len old + count
  pub capacity : vec_capacity new ≡ vec_capacity old

-- the ends ascend, and none is after the last
pub starts_within : (start last : ℕ) (ends : List ℕ) → AreEnds start ends last → start ≤ last
starts_within start last [] are = omega (arith, are)
starts_within start last (end ∷ ends) are = omega (arith, are.0, starts_within end last ends are.1)

pub ends_ascend : (start last : ℕ) (ends : List ℕ) (k : ℕ) → AreEnds start ends last → k < length ends → (start_at start ends k ≤ slice_index_or ends k 0) × (slice_index_or ends k 0 ≤ last)
ends_ascend start last [] k are below = absurd (omega (arith, below))
ends_ascend start last (end ∷ ends) zero are below = (are.0, starts_within end last ends are.1)
ends_ascend start last (end ∷ ends) (suc zero) are below = ends_ascend end last ends zero are.1 (omega (arith, below))
ends_ascend start last (end ∷ ends) (suc (suc k)) are below = ends_ascend end last ends (suc k) are.1 (omega (arith, below))

-- piece k is what stands between where it starts and where it ends
pub piece_at : {X : Type 0} (start : ℕ) (ends : List ℕ) (xs : List X) (k : ℕ) → k < length ends → take (slice_index_or ends k 0 - start_at start ends k) (drop (start_at start ends k) xs) ≡ slice_index_or (pieces start ends xs) k []
piece_at start [] xs k below = absurd (omega (arith, below))
piece_at start (end ∷ ends) xs zero below = refl
piece_at start (end ∷ ends) xs (suc zero) below = piece_at end ends xs zero (omega (arith, below))
piece_at start (end ∷ ends) xs (suc (suc k)) below = piece_at end ends xs (suc k) (omega (arith, below))

pub pieces_count : {X : Type 0} (start : ℕ) (ends : List ℕ) (xs : List X) → length (pieces start ends xs) ≡ length ends
pieces_count start [] xs = refl
pieces_count start (end ∷ ends) xs = ap suc (pieces_count end ends xs)

-- one piece more
pub ends_more : (start last more : ℕ) (ends : List ℕ) → AreEnds start ends last → AreEnds start (ends ++ (last + more) ∷ []) (last + more)
ends_more start last more [] are = (omega (arith, are), refl)
ends_more start last more (end ∷ ends) are = (are.0, ends_more end last more ends are.1)

-- what stands after a place is not in a part before it
part_stays : {X : Type 0} (start end : ℕ) (xs more : List X) → start ≤ end → end ≤ length xs → take (end - start) (drop start (xs ++ more)) ≡ take (end - start) (drop start xs)
part_stays start end xs more ascend within =
    ap (take (end - start)) (drop-append-le start xs more (omega (arith, ascend, within)))
    ∙ take-append-le (end - start) (drop start xs) more (let e = length-drop start xs in omega (arith, e, ascend, within))

pub pieces_more : {X : Type 0} (start : ℕ) (ends : List ℕ) (xs more : List X) → AreEnds start ends (length xs) → pieces start (ends ++ (length xs + length more) ∷ []) (xs ++ more) ≡ pieces start ends xs ++ more ∷ []
pieces_more start [] xs more are =
    let count : length xs + length more - start ≡ length more = omega (arith, are) in
    let after : drop start (xs ++ more) ≡ more = ap (λ k. drop k (xs ++ more)) are ∙ drop-append_seam xs more in
    ap (λ part. part ∷ []) (ap (λ k. take k (drop start (xs ++ more))) count ∙ (ap (take (length more)) after ∙ take-length more))
pieces_more start (end ∷ ends) xs more are =
    let first = part_stays start end xs more are.0 (starts_within end (length xs) ends are.1) in
    let rest = pieces_more end ends xs more are.1 in
    ap (λ part. part ∷ pieces end (ends ++ (length xs + length more) ∷ []) (xs ++ more)) first ∙ ap (λ parts. take (end - start) (drop start xs) ∷ parts) rest
