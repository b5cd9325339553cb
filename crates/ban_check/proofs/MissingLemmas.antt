-- Which pairs of an earlier ban aren't among those of the ban that is checked, pair by pair.
use Rattle.std.proofs.Common.{◌≡◌, ◌↔◌, ℕ, zero, suc, ◌+◌, ◌<◌, ◌==◌, cond, Some, Bool, true, false, List, ◌∷◌, length, get_or, Any, Contains, slice_index_or, refl, sym, subst, ap, ◌∙◌, arith}
use Rattle.std.proofs.lemmas.Bool.Decides.{Decides-eqb}
use Rattle.account_core.specs.Given.{ban_at}
use Rattle.circuits.specs.declared.port.Pair.{Pair}
use Rattle.ban_check.specs.PairIndices.{AreKept, AreMissing, Beside, IsAllMissing, kept_of}
use Rattle.ban_check.specs.declared.missing.Missing.{Missing}
use Rattle.ban_check.proofs.BoolLemmas.{all_more}

-- a pair that is among them changes nothing; one that isn't is missing
pub next_held : (held : List Pair) (pair : Pair) (now : Missing) → Any (λ one. one ≡ pair) held → (more : Pair) → (IsAllMissing now more ↔ (IsAllMissing now more × Contains (more ∷ held) pair))
next_held held pair now any more =
    let there : Contains (more ∷ held) pair = (suc any.0, omega (arith, any.2), subst (λ p. slice_index_or held any.0 p ≡ p) any.4 any.3) in
    ((λ all. (all, there)), (λ both. both.0))

pub next_missing : (held : List Pair) (pair : Pair) (now next : Missing) → (Any (λ one. one ≡ pair) held → ⊥) → ((more : Pair) → (IsAllMissing next more ↔ (IsAllMissing now more × (pair ≡ more)))) → (more : Pair) → (IsAllMissing next more ↔ (IsAllMissing now more × Contains (more ∷ held) pair))
next_missing held pair now next absent told more = (
  (λ all. let both = (told more).0 all in (both.0, (0, omega arith, sym both.1))),
  (λ both. (told more).1 (both.0, only both.1)),
)
  where
    only : Contains (more ∷ held) pair → pair ≡ more
    only (zero, below, is) = sym is
    only (suc k, below, is) = absurd (absent (k, pair, omega (arith, below), is, refl))

-- one pair more of the ban
pub missing_more : (held ban : List Pair) (k : ℕ) (e : Pair) (now next : Missing) → k < length ban → ((more : Pair) → (IsAllMissing now more ↔ ((j : ℕ) (d : Pair) → j < k → Contains (more ∷ held) (slice_index_or ban j d)))) → ((more : Pair) → (IsAllMissing next more ↔ (IsAllMissing now more × Contains (more ∷ held) (get_or ban k e)))) → (more : Pair) → (IsAllMissing next more ↔ ((j : ℕ) (d : Pair) → j < k + 1 → Contains (more ∷ held) (slice_index_or ban j d)))
missing_more held ban k e now next within so_far step more = (
  (λ all. let both = (step more).0 all in all_more (Contains (more ∷ held)) ban k e within ((so_far more).0 both.0) both.1),
  (λ each. (step more).1 ((so_far more).1 (λ j d less. each j d (omega (arith, less))), each k e (omega arith))),
)

-- the last one
pub missing_all : (held ban : List Pair) (k : ℕ) (now : Missing) → length ban ≡ k → ((more : Pair) → (IsAllMissing now more ↔ ((j : ℕ) (d : Pair) → j < k → Contains (more ∷ held) (slice_index_or ban j d)))) → AreMissing held ban now
missing_all held ban k now size told more = (
  (λ all j d below. (told more).0 all j d (omega (arith, below, size))),
  (λ each. (told more).1 (λ j d less. each j d (omega (arith, less, size)))),
)

-- what is missing of one ban more is kept
pub kept_more : (beside : Beside) (ban : ℕ) (missing : Missing) (before after : List (ℕ × Missing)) → ((other : ℕ) → kept_of after other ≡ cond (ban == other) (Some missing) (kept_of before other)) → AreMissing beside.pairs (ban_at beside.given ban) missing → AreKept beside before → AreKept beside after
kept_more beside ban missing before after puts new old other told is = by_test (ban == other) refl
  where
    by_test : (b : Bool) → (ban == other) ≡ b → AreMissing beside.pairs (ban_at beside.given other) told
    by_test true same =
        let bans : ban ≡ other = (Decides-eqb ban other).0 same in
        let values : Some missing ≡ Some told = sym (puts other ∙ ap (λ b. cond b (Some missing) (kept_of before other)) same) ∙ is in
        let told_is : missing ≡ told = cc in
        subst (λ m. AreMissing beside.pairs (ban_at beside.given other) m) told_is (subst (λ n. AreMissing beside.pairs (ban_at beside.given n) missing) bans new)
    by_test false differ = old other told (sym (puts other ∙ ap (λ b. cond b (Some missing) (kept_of before other)) differ) ∙ is)
