-- That each list of entries of at most seven ports has its number.
use Rattle.std.proofs.Common.{subst, append_assoc, ◌++◌, ◌-◌, ℕ, suc, ◌+◌, ◌*◌, ◌/◌, ◌%◌, ◌^◌, ◌<◌, ◌≤◌, ◌≡◌, Bool, eqb, All, List, [], ◌∷◌, length, refl, sym, ap, ap₂, ◌∙◌, arith, pow-add, one-mul, shl_exact}
use Rattle.circuits.specs.Bijections.{IsSignedBijection, entries_of}
use Rattle.circuits.specs.Matches.{IsMatchOfFunctions, IsPartOfMatch, HaveNpnpEqualFunctions}
use Rattle.circuits.specs.Netlists.{Net}
use Rattle.circuits.proofs.Codes.{digit_of, digit_of-below, eqb-digit_of}

-- the number that codes a list of entries
abbrev pub entries_code : List (ℕ × Bool) → ℕ
entries_code [] = 0
entries_code (entry ∷ p) = 2 * entry.0 + digit_of entry.1 + 16 * entries_code p

pub sixteenfold : (k : ℕ) → 2 ^ (4 * suc k) ≡ 16 * 2 ^ (4 * k)
sixteenfold k =
    let e : 4 * suc k ≡ 4 + 4 * k = omega arith in
    ap (λ n. 2 ^ n) e ∙ pow-add 2 4 (4 * k)

pub entries_code-below : (p : List (ℕ × Bool)) → All (λ (entry : ℕ × Bool). entry.0 < 8) p → entries_code p < 2 ^ (4 * length p)
entries_code-below [] places = omega arith
entries_code-below (entry ∷ p) places =
    omega (arith, entries_code-below p (λ k d h. places (suc k) d (omega arith)), places 0 entry (omega arith), digit_of-below entry.1, sixteenfold (length p))

pub low_entry : (place n : ℕ) (sign : Bool) → place < 8 → (2 * place + digit_of sign + 16 * n) % 16 / 2 ≡ place
low_entry place n sign h = omega (arith, digit_of-below sign)

pub low_sign : (place n : ℕ) (sign : Bool) → (2 * place + digit_of sign + 16 * n) % 2 ≡ digit_of sign
low_sign place n sign = omega (arith, digit_of-below sign)

pub later_entries : (place n : ℕ) (sign : Bool) → place < 8 → (2 * place + digit_of sign + 16 * n) / 16 ≡ n
later_entries place n sign h = omega (arith, digit_of-below sign)

pub entries_of-entries_code : (p : List (ℕ × Bool)) → All (λ (entry : ℕ × Bool). entry.0 < 8) p → entries_of (length p) (entries_code p) ≡ p
entries_of-entries_code [] places = refl
entries_of-entries_code (entry ∷ p) places =
    let small = places 0 entry (omega arith) in
    let here : ((entries_code (entry ∷ p) % 16 / 2, eqb (entries_code (entry ∷ p) % 2) 1)) ≡ entry = ap₂ (λ (a : ℕ) (b : Bool). (a, b)) (low_entry entry.0 (entries_code p) entry.1 small) (ap (λ n. eqb n 1) (low_sign entry.0 (entries_code p) entry.1) ∙ eqb-digit_of entry.1) in
    ap₂ (λ (e : ℕ × Bool) (es : List (ℕ × Bool)). e ∷ es) here (ap (λ n. entries_of (length p) n) (later_entries entry.0 (entries_code p) entry.1 small) ∙ entries_of-entries_code p (λ k d h. places (suc k) d (omega arith)))

-- a signed bijection of at most seven ports is one of the numbered lists
pub entries_of-onto : (n : ℕ) (p : List (ℕ × Bool)) → n ≤ 7 → IsSignedBijection n p → (code : ℕ) × (code < 2 ^ (4 * n)) × (p ≡ entries_of n code)
entries_of-onto n p few bijection =
    let small : All (λ (entry : ℕ × Bool). entry.0 < 8) p = λ k d h. omega (arith, bijection.in_range k d h) in
    let e = bijection.entries in
    (entries_code p, subst (λ m. entries_code p < 2 ^ (4 * m)) e (entries_code-below p small), sym (entries_of-entries_code p small) ∙ ap (λ m. entries_of m (entries_code p)) e)

-- the code's count of lists
pub count_of_lists : (n bound : ℕ) → n ≤ 7 → 1 * 2 ^ (4 * n) % 4294967296 ≤ bound → 2 ^ (4 * n) ≤ bound
count_of_lists n bound few h =
    omega (arith, shl_exact {a = 1} 1 (4 * n) 32 (omega arith) (omega arith), one-mul (2 ^ (4 * n)))

-- no list of entries is left where no numbered one is part of a match
pub no_part : (first second : Net) (p : List (ℕ × Bool)) (bound : ℕ) → length first.outputs ≤ 7 → 2 ^ (4 * length first.outputs) ≤ bound → ((c : ℕ) → c < bound → IsMatchOfFunctions first second p (entries_of (length first.outputs) c) → ⊥) → IsPartOfMatch first second p → ⊥
no_part first second p bound few enough none part =
    let at = entries_of-onto (length first.outputs) part.0 few part.1.outputs in
    none at.0 (omega (arith, at.1)) (subst (λ q. IsMatchOfFunctions first second p q) at.2 part.1)

pub no_match : (first second : Net) (n bound : ℕ) → n ≡ first.inputs → n ≤ 7 → 2 ^ (4 * n) ≤ bound → ((c : ℕ) → c < bound → IsPartOfMatch first second (entries_of n c) → ⊥) → HaveNpnpEqualFunctions first second → ⊥
no_match first second n bound same few enough none equal =
    let at = entries_of-onto n equal.0 few (subst (λ m. IsSignedBijection m equal.0) (sym same) equal.2.inputs) in
    none at.0 (omega (arith, at.1)) (subst (λ p. IsPartOfMatch first second p) at.2 (equal.1, equal.2))

-- one more entry written
pub entries_of-more : (done more whole : List (ℕ × Bool)) (n i rest : ℕ) → i < n → more ≡ done ++ (rest % 16 / 2, eqb (rest % 2) 1) ∷ [] → done ++ entries_of (n - i) rest ≡ whole → more ++ entries_of (n - (i + 1)) (rest / 16) ≡ whole
entries_of-more done more whole n i rest h pushed so_far =
    let left : n - i ≡ suc (n - (i + 1)) = omega arith in
    let tail = entries_of (n - (i + 1)) (rest / 16) in
    ap (λ es. es ++ tail) pushed ∙ (append_assoc done ((rest % 16 / 2, eqb (rest % 2) 1) ∷ []) tail ∙ (ap (λ m. done ++ entries_of m rest) (sym left) ∙ so_far))
