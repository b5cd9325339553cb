-- How a clause can be attached on a trail.
use Rattle.std.proofs.Common.{◌≡◌, ℕ, true, false, List, [], ◌∷◌, ◌++◌, length, All, Option, None, Some, IfSome, IfNone, inl, inr, refl, sym, ◌∙◌, ap, subst, arith}
use Rattle.std.specs.List.{list_all}
use Rattle.std.proofs.lemmas.Bool.{both_ways, cases_eq}
use Rattle.std.proofs.lemmas.List.{get_or_append_left, get_or_at, length-append}
use Rattle.std.proofs.lemmas.List.Elements.{All-contains}
use Rattle.std.proofs.lemmas.List.Recursion.{and_from_places}
use Rattle.std.proofs.lemmas.Map.Views.{Contains-from_any}
use Rattle.cnf_core.specs.declared.literal.SatLit.{SatLit}
use Rattle.cnf_core.specs.declared.effect.Effect.TheVariants.{Conflict as AllFalse}
use Rattle.cnf_core.specs.Clauses.{opposite, variable_of}
use Rattle.cnf_core.specs.Derivations.{effect_of, is_false, is_true}
use Rattle.trail_core.specs.declared.assigned.Assigned.{Assigned}
use Rattle.trail_core.specs.Trails.{IsTrail, Trailing, entry_at, literals, nothing}
use Rattle.trail_core.proofs.TrailLemmas.{not_true, same_place, true_at}
use Rattle.watch_lists.specs.Attachments.{ArePair, IsElsewhere, IsOtherOfLevel, IsGuarded, IsMade, IsNotFalseOf, IsReached, IsSettled}
use Rattle.watch_lists.specs.WatchStates.{IsOtherNotFalse, IsFalseOrOther}
use Rattle.watch_lists.specs.Watched.{IsTrueBy, IsRooted}
use Rattle.watch_lists.proofs.EffectLemmas.{IsMaker, all_but, conflict_from, makes_from, same_literal}
use Rattle.watch_lists.proofs.FitLemmas.{consistent, true_by_here, true_not_false}

-- a literal that isn't false is guarded by any other
not_false_guarded : (es : List Assigned) (l other : SatLit) → is_false (literals es) l ≡ false → IsGuarded es l other
not_false_guarded es l other free j within at = absurd (both_ways (is_false (literals es) l) free (true_at es j (opposite l) within at))

pub pair_not_false : (t : Trailing) (clause : List SatLit) (first second : SatLit) → IsNotFalseOf (literals t.entries) clause first → IsOtherNotFalse (literals t.entries) clause first second → ArePair t.entries clause first second
pair_not_false t clause first second open_one other_one = record {
  first_there = open_one.there;
  second_there = other_one.there;
  differ = λ e. other_one.differs (sym e);
  first_guarded = not_false_guarded t.entries first second open_one.not_false;
  second_guarded = not_false_guarded t.entries second first other_one.not_false;
}

-- the literal that was made true is true
pub made_true : (old new : Trailing) (l : SatLit) (id : ℕ) → IsMade old new l id → is_true (literals new.entries) l ≡ true
made_true old new l id (inl (same, holds)) = ap (λ (t : Trailing). is_true (literals t.entries) l) same ∙ holds
made_true old new l id (inr (free, is)) =
    let e : Assigned = record { literal = l; level = old.level; reason = Some id } in
    let entries : new.entries ≡ old.entries ++ e ∷ [] = ap (λ (t : Trailing). t.entries) is in
    true_at new.entries (length old.entries) l (omega (arith, ap length entries, length-append old.entries (e ∷ []))) (ap (λ es. (entry_at es (length old.entries)).literal.0) entries ∙ ap (λ (x : Assigned). x.literal.0) (get_or_at old.entries e [] nothing (length old.entries) refl))

pub made_settled : (old new : Trailing) (clause : List SatLit) (l : SatLit) (id : ℕ) → is_true clause l ≡ true → All (IsFalseOrOther (literals old.entries) l) clause → is_false (literals old.entries) l ≡ false → IsMade old new l id → IsSettled old new clause id
made_settled old new clause l id there others free (inl (same, holds)) = inl same
made_settled old new clause l id there others free (inr (unassigned, is)) =
    let maker : IsMaker (literals old.entries) clause l = record {
      others = all_but (literals old.entries) clause l others;
      not_true = not_true (literals old.entries) l unassigned.unassigned;
      not_false = free;
      there = there;
    } in
    inr (l, makes_from (literals old.entries) clause l maker, is)

-- what was false at the present level still is
reached_after : (old new : Trailing) (clause : List SatLit) (l : SatLit) (id : ℕ) → IsReached old clause → IsMade old new l id → IsReached new clause
reached_after old new clause l id reached (inl (same, holds)) = subst (λ t. IsReached t clause) (sym same) reached
reached_after old new clause l id reached (inr (free, is)) = λ above.
    let e : Assigned = record { literal = l; level = old.level; reason = Some id } in
    let entries : new.entries ≡ old.entries ++ e ∷ [] = ap (λ (t : Trailing). t.entries) is in
    let level : new.level ≡ old.level = ap (λ (t : Trailing). t.level) is in
    let before = reached (omega (arith, above, level)) in
    let same : entry_at new.entries before.place ≡ entry_at old.entries before.place = ap (λ es. entry_at es before.place) entries ∙ get_or_append_left old.entries (e ∷ []) nothing before.place before.within in
    record {
      place = before.place;
      within = omega (arith, before.within, ap length entries, length-append old.entries (e ∷ []));
      level = ap (λ (x : Assigned). x.level) same ∙ (before.level ∙ sym level);
      there = ap (λ (x : Assigned). is_true clause (opposite x.literal)) same ∙ before.there;
    }

-- a true literal, and one that was assigned at the present level
pub pair_of_level : (t : Trailing) → IsTrail t → (clause : List SatLit) (first second : SatLit) → is_true clause first ≡ true → is_true (literals t.entries) first ≡ true → IsOtherOfLevel t clause first second → ArePair t.entries clause first second
pair_of_level t trail clause first second there holds other_one = record {
  first_there = there;
  second_there = other_one.there;
  differ = λ e. other_one.differs (sym e);
  first_guarded = not_false_guarded t.entries first second (true_not_false t trail first holds);
  second_guarded = λ j within at.
      let p = other_one.top.place in
      let same : variable_of (entry_at t.entries j).literal ≡ variable_of (entry_at t.entries p).literal = omega (arith, at, other_one.top.is_place.there) in
      let here = same_place t trail j p within other_one.top.is_place.within same in
      subst (λ n. IsTrueBy t.entries first n) (sym (ap (λ k. (entry_at t.entries k).level) here ∙ other_one.top.level)) (true_by_here t trail first holds);
}

-- the true literal of a clause that was assigned where no other one was is true at level 0
pub rooted_unit : (old t : Trailing) (id : ℕ) → IsTrail t → (clause : List SatLit) (first : SatLit) → IsReached old clause → IsMade old t first id → is_true clause first ≡ true → All (IsElsewhere t first) clause → IsRooted t.entries clause
rooted_unit old t id trail clause first reached_old made there elsewhere =
    let holds = made_true old t first id made in
    let reached = reached_after old t clause first id reached_old made in
    let true_by = true_by_here t trail first holds in
    let lowest : t.level ≡ 0 = elim (cases_eq t.level 0) [
      | inl none ↦ none
      | inr some ↦
          let top = reached (omega (arith, some)) in
          let e = entry_at t.entries top.place in
          let m = opposite e.literal in
          absurd (elim (cases_eq m.0 first.0) [
            | inl same ↦ consistent t trail first holds (true_at t.entries top.place (opposite first) top.within (omega (arith, same)))
            | inr differs ↦ All-contains (IsElsewhere t first) clause m elsewhere (Contains-from_any same_literal m clause top.there) differs top.place (record { within = top.within; there = omega arith }) top.level
          ])
    ] in
    record {
      at = true_by.at;
      within = true_by.within;
      there = ap (is_true clause) (ap (λ n. record { 0 = n }) true_by.is) ∙ there;
      lowest = omega (arith, true_by.low, lowest);
    }

-- a clause all of whose literals are false
pub none_not_false : (made clause : List SatLit) → All (λ y. is_false made y ≡ true) clause → effect_of made clause ≡ AllFalse
none_not_false made clause all = conflict_from made clause (and_from_places (list_all (is_false made)) (is_false made) refl (λ _ _. refl) clause (record { 0 = 0 }) (λ k within. all k (record { 0 = 0 }) within))

-- whether another one is found, or none
pub found_of_level : (old new : Trailing) (clause : List SatLit) (first : SatLit) (id : ℕ) (found : Option SatLit) → IsTrail new → is_true clause first ≡ true → IsMade old new first id → IfSome found (IsOtherOfLevel new clause first) → IfSome found (ArePair new.entries clause first)
found_of_level old new clause first id None trail there made other_one = tt
found_of_level old new clause first id (Some second) trail there made other_one = pair_of_level new trail clause first second there (made_true old new first id made) other_one

pub none_of_level : (old new : Trailing) (clause : List SatLit) (first : SatLit) (id : ℕ) (found : Option SatLit) → IsTrail new → IsReached old clause → is_true clause first ≡ true → IsMade old new first id → IfNone found (All (IsElsewhere new first) clause) → IfNone found (IsRooted new.entries clause)
none_of_level old new clause first id None trail reached there made elsewhere = rooted_unit old new id trail clause first reached made there elsewhere
none_of_level old new clause first id (Some second) trail reached there made elsewhere = tt
