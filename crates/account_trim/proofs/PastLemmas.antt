-- Bans that were given, and of which some were dropped.
use Rattle.std.proofs.Common.{◌≡◌, ◌≢◌, ◌⊎◌, ℕ, zero, suc, Bool, true, false, List, [], ◌∷◌, ◌++◌, length, All, Option, None, Some, slice_index_or, slice_set, inl, inr, refl, sym, ap, ◌∙◌, arith}
use Rattle.std.specs.Prelude.{option_to_list}
use Rattle.std.specs.List.{flat_map}
use Rattle.std.proofs.lemmas.Bool.{cases_eq, cases_lt, false≢true}
use Rattle.std.proofs.lemmas.List.{get_or-append_right, get_or-set_other, get_or_append_left, length-append, length-set}
use Rattle.std.proofs.lemmas.List.Elements.{All-cons, All-head, All-nil, All-tail}
use Rattle.circuits.specs.declared.port.Pair.{Pair}
use Rattle.net_core.specs.Sides.{Graphs}
use Rattle.account_core.specs.declared.step.Ban.{Ban}
use Rattle.account_core.specs.declared.step.Step.{Step}
use Rattle.account_core.specs.declared.step.Step.TheVariants.{Vector, Mismatch, Tally, Cover}
use Rattle.account_core.specs.Given.{Given}
use Rattle.ban_check.specs.More.{clashing_pairs}
use Rattle.account_check.specs.Bans.{BanTests}
use Rattle.account_check.specs.Drops.{AreNamesKept, Dropped, IsReferenceUnmarked, IsUnmarked, marked, nothing_dropped, without_ban}
use Rattle.account_check.proofs.TestLemmas.{through}
use Rattle.refusal_core.specs.Names.{bans_named}

-- What was dropped, and the pairs with which bans were given, also of those that were dropped.
pub record Past : Type 0 where
  pub dropped : Dropped
  pub bans : List (List Pair)

-- Bans that weren't dropped are as they were given.
pub record Stays (past : Past) (bans : List (List Pair)) : Type 0 where
  pub many : length past.bans ≡ length bans
  pub same : (n : ℕ) → IsUnmarked past.dropped.bans n → slice_index_or bans n [] ≡ slice_index_or past.bans n []

abbrev pub with_more : Past → List Pair → Past
with_more past pairs = record { dropped = past.dropped; bans = past.bans ++ pairs ∷ [] }

abbrev pub without : Past → ℕ → Past
without past ban = record { dropped = without_ban past.dropped ban; bans = past.bans }

-- one more was given
pub stays_more : (past : Past) (bans : List (List Pair)) (pairs : List Pair) → Stays past bans → Stays (with_more past pairs) (bans ++ pairs ∷ [])
stays_more past bans pairs stay = record {
  many = omega (arith, stay.many, length-append past.bans (pairs ∷ []), length-append bans (pairs ∷ []));
  same = λ n unmarked. elim (cases_lt n (length bans)) [
    | inl before ↦
        get_or_append_left bans (pairs ∷ []) [] n before
        ∙ (stay.same n unmarked
        ∙ sym (get_or_append_left past.bans (pairs ∷ []) [] n (omega (arith, before, stay.many))))
    | inr after ↦
        get_or-append_right bans (pairs ∷ []) (length bans) n [] refl after
        ∙ sym (get_or-append_right past.bans (pairs ∷ []) (length bans) n [] stay.many after)
  ];
}

-- the marks where one number more is marked
marked_here : (marks : List Bool) (n : ℕ) → slice_index_or (marked marks n) n false ≡ true
marked_here [] zero = refl
marked_here [] (suc n) = marked_here [] n
marked_here (mark ∷ marks) zero = refl
marked_here (mark ∷ marks) (suc n) = marked_here marks n

marked_elsewhere : (marks : List Bool) (n m : ℕ) → m ≢ n → slice_index_or (marked marks n) m false ≡ slice_index_or marks m false
marked_elsewhere [] zero zero other = absurd (other refl)
marked_elsewhere [] zero (suc m) other = refl
marked_elsewhere [] (suc n) zero other = refl
marked_elsewhere [] (suc n) (suc m) other = marked_elsewhere [] n m (λ e. other (ap suc e))
marked_elsewhere (mark ∷ marks) zero zero other = absurd (other refl)
marked_elsewhere (mark ∷ marks) zero (suc m) other = refl
marked_elsewhere (mark ∷ marks) (suc n) zero other = refl
marked_elsewhere (mark ∷ marks) (suc n) (suc m) other = marked_elsewhere marks n m (λ e. other (ap suc e))

-- one was dropped
pub stays_without : (past : Past) (bans : List (List Pair)) (ban : ℕ) → Stays past bans → Stays (without past ban) (slice_set bans ban clashing_pairs)
stays_without past bans ban stay = record {
  many = stay.many ∙ sym (length-set bans ban clashing_pairs);
  same = λ n unmarked. by n unmarked (cases_eq n ban);
}
  where
    by : (n : ℕ) → IsUnmarked (marked past.dropped.bans ban) n → (n ≡ ban) ⊎ (n ≡ ban → ⊥) → slice_index_or (slice_set bans ban clashing_pairs) n [] ≡ slice_index_or past.bans n []
    by n unmarked (inl e) = absurd (false≢true (sym unmarked ∙ (ap (λ i. slice_index_or (marked past.dropped.bans ban) i false) e ∙ marked_here past.dropped.bans ban)))
    by n unmarked (inr other) = get_or-set_other bans ban n clashing_pairs [] other ∙ stay.same n (sym (marked_elsewhere past.dropped.bans ban n other) ∙ unmarked)

-- what a step names, where nothing was dropped
reference_unmarked : (reference : Option ℕ) → IsReferenceUnmarked [] reference
reference_unmarked None = tt
reference_unmarked (Some ban) = refl

pub none_dropped : (step : Step) → AreNamesKept nothing_dropped step
none_dropped (Vector output values) = tt
none_dropped (Mismatch fails holds) = (refl, refl)
none_dropped (Tally kind have lack) = (λ k d below. refl, λ k d below. refl)
none_dropped (Cover kind from to refs) = λ k d below. reference_unmarked (slice_index_or refs k d)

-- the bans that a step names weren't dropped
references_unmarked : (marks : List Bool) (refs : List (Option ℕ)) → All (IsReferenceUnmarked marks) refs → All (IsUnmarked marks) (flat_map option_to_list refs)
references_unmarked marks [] each = All-nil (IsUnmarked marks)
references_unmarked marks (None ∷ refs) each = references_unmarked marks refs (All-tail (IsReferenceUnmarked marks) None refs each)
references_unmarked marks (Some ban ∷ refs) each =
    All-cons (IsUnmarked marks) ban (flat_map option_to_list refs) (All-head (IsReferenceUnmarked marks) (Some ban) refs each)
    (references_unmarked marks refs (All-tail (IsReferenceUnmarked marks) (Some ban) refs each))

pub bans_unmarked : (dropped : Dropped) (step : Step) → AreNamesKept dropped step → All (IsUnmarked dropped.bans) (bans_named step)
bans_unmarked dropped (Vector output values) kept = All-nil (IsUnmarked dropped.bans)
bans_unmarked dropped (Mismatch fails holds) kept = All-nil (IsUnmarked dropped.bans)
bans_unmarked dropped (Tally kind have lack) kept = All-nil (IsUnmarked dropped.bans)
bans_unmarked dropped (Cover kind from to refs) kept = references_unmarked dropped.bans refs kept

-- what a ban names that passes the tests
pub names_kept : (graphs : Graphs) (given : Given) (dropped : Dropped) (ban : Ban) → BanTests graphs given dropped ban None → AreNamesKept dropped ban.step
names_kept graphs given dropped ban tests =
    let known = through tests in
    let ordered = through known.1 in
    let names = through ordered.1 in
    names.0.1
