-- The signals of the variables: the place of each among those that are defined.
use Rattle.std.proofs.Common.{◌≡◌, ◌≢◌, ℕ, ◌+◌, ◌<◌, ◌⊎◌, List, [], ◌∷◌, ◌++◌, length, length-append, get_or, set, get_or-set_same, get_or-set_other, AllPairs, Contains, inl, inr, sym, ap, subst, ◌∙◌, arith}
use Rattle.std.proofs.lemmas.Bool.Decides.{eqb_tells}
use Rattle.std.proofs.lemmas.List.{length-set, get_or_append_left, get_or_default}
use Rattle.std.proofs.lemmas.List.Elements.{Contains-append_left, Contains-push}
use Rattle.std.proofs.Math.Seq.{get_or-append_seam}
use Rattle.aiger_reader.specs.Reading.{IsNumbering}

-- a place is a variable's, or the last one
pub place_cases : (k n : ℕ) → k < n + 1 → (k < n) ⊎ (k ≡ n)
place_cases k n h =
    elim (eqb_tells k n) [ inl (t, e) ↦ inr e | inr (f, ne) ↦ inl (omega arith) ]

-- one variable more
pub signals_more : (greatest : ℕ) (variables signals : List ℕ) (v : ℕ) → v < length signals → get_or signals v 0 ≡ 0 → IsNumbering greatest variables signals → IsNumbering greatest (variables ++ v ∷ []) (set signals v (length variables + 1))
signals_more greatest variables signals v within free numbering =
    record {
      entries = omega (arith, numbering.entries, length-set signals v (length variables + 1));
      places = λ k below. elim (place_cases k (length variables) (omega (arith, length-append variables (v ∷ [])))) [
        | inl first ↦
            let place = numbering.places k first in
            let other : get_or variables k 0 ≢ v = λ same. omega (arith, place, ap (λ w. get_or signals w 0) same) in
            ap (λ w. get_or (set signals v (length variables + 1)) w 0) (get_or_append_left variables (v ∷ []) 0 k first) ∙ (get_or-set_other signals v (get_or variables k 0) (length variables + 1) 0 other ∙ place)
        | inr last ↦
            let here : get_or (variables ++ v ∷ []) k 0 ≡ v = ap (λ n. get_or (variables ++ v ∷ []) n 0) last ∙ get_or-append_seam variables v [] 0 in
            let same = ap (λ w. get_or (set signals v (length variables + 1)) w 0) here ∙ get_or-set_same signals v (length variables + 1) 0 within in
            omega (arith, same, last)
      ];
      others = λ w some. elim (eqb_tells w v) [
        | inl (t, same) ↦ subst (Contains (variables ++ v ∷ [])) (sym same) (Contains-push variables v)
        | inr (f, ne) ↦
            Contains-append_left variables (v ∷ []) w (numbering.others w (omega (arith, get_or-set_other signals v w (length variables + 1) 0 ne)))
      ];
    }

-- a variable with a place is there, and one without is not
pub known : (greatest : ℕ) (variables signals : List ℕ) (v : ℕ) → IsNumbering greatest variables signals → get_or signals v 0 ≡ 0 → Contains variables v → ⊥
known greatest variables signals v numbering free there =
    let here = ap (λ w. get_or signals w 0) (get_or_default variables there.0 0 v there.1 ∙ there.2) in
    omega (arith, numbering.places there.0 there.1, free, here)

pub distinct : (greatest : ℕ) (variables signals : List ℕ) → IsNumbering greatest variables signals → AllPairs (λ one other. one ≢ other) variables
distinct greatest variables signals numbering i j d before below same =
    let one = get_or_default variables i 0 d (omega arith) in
    let other = get_or_default variables j 0 d below in
    let here = ap (λ w. get_or signals w 0) (one ∙ (same ∙ sym other)) in
    omega (arith, numbering.places i (omega arith), numbering.places j below, here)
