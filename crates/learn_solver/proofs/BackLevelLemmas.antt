-- The level to go back to is that of the last marked literal of a lower level than the present one.
use Rattle.std.proofs.Common.{◌≡◌, ℕ, ◌+◌, ◌<◌, ◌≤◌, Bool, true, false, List, length, nat_lt, inl, inr, sym, ◌∙◌, ap, arith}
use Rattle.std.proofs.lemmas.Bool.{and_from, and_parts, both_ways, cases_eq, lt-ltb, ltb-true}
use Rattle.std.proofs.lemmas.Bool.Decides.{leb_tells}
use Rattle.trail_core.specs.Trails.{IsTrail, Trailing, entry_at}
use Rattle.learn_solver.specs.Analyses.{IsBackLevel, is_lower, is_marked}
use Rattle.learn_solver.proofs.PlaceLemmas.{ascend}

-- none of the literals from a place on is marked and of a lower level
pub record IsPassed (trail : Trailing) (marked : List Bool) (below place : ℕ) : Type 0 where
  pub within : place ≤ below
  pub none : (k : ℕ)
      → place ≤ k
      → k < below
      → is_marked marked (entry_at trail.entries k) ≡ true
      → (entry_at trail.entries k).level < trail.level
      → ⊥

pub passed_start : (t : Trailing) (marked : List Bool) (below : ℕ) → IsPassed t marked below below
passed_start t marked below = record { within = omega arith; none = λ k late early. absurd (omega (arith, late, early)) }

pub passed_more : (t : Trailing) (marked : List Bool) (below last place : ℕ) → last ≡ place + 1 → IsPassed t marked below last → is_lower t marked place ≡ false → IsPassed t marked below place
passed_more t marked below last place next is fails = record {
  within = omega (arith, is.within, next);
  none = λ k late early yes_marked lower. elim (cases_eq k place) [
    | inl here ↦ both_ways (is_lower t marked place) fails (ap (is_lower t marked) (sym here) ∙ and_from _ _ yes_marked (lt-ltb (entry_at t.entries k).level t.level lower))
    | inr other ↦ is.none k (omega (arith, late, other, next)) early yes_marked lower
  ];
}

pub passed_found : (t : Trailing) → IsTrail t → (marked : List Bool) (below last place level : ℕ) → below ≤ length t.entries → last ≡ place + 1 → IsPassed t marked below last → is_lower t marked place ≡ true → level ≡ (entry_at t.entries place).level → IsBackLevel t marked below level
passed_found t trail marked below last place level within next is found level_is =
    let parts : (is_marked marked (entry_at t.entries place) ≡ true) × (nat_lt (entry_at t.entries place).level t.level ≡ true) = and_parts _ _ found in
    let lower : level < t.level = omega (arith, level_is, ltb-true (entry_at t.entries place).level t.level parts.1) in
    record {
      most = λ k early yes_marked less. elim (leb_tells (place + 1) k) [
        | inl (told, late) ↦ absurd (is.none k (omega (arith, late, next)) early yes_marked less)
        | inr (told, before) ↦ omega (arith, ascend t trail k place (omega (arith, before)) (omega (arith, is.within, within, next)), level_is)
      ];
      reached = λ some. record { at = place; early = omega (arith, is.within, next); marked_there = parts.0; level_there = sym level_is; below = lower };
    }

pub passed_all : (t : Trailing) (marked : List Bool) (below place : ℕ) → place ≡ 0 → IsPassed t marked below place → IsBackLevel t marked below 0
passed_all t marked below place first is = record {
  most = λ k early yes_marked lower. absurd (is.none k (omega (arith, first)) early yes_marked lower);
  reached = λ some. absurd (omega (arith, some));
}
