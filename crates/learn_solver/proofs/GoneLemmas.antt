-- A search goes back with a learned line.
use Rattle.std.proofs.Common.{◌≡◌, ℕ, ◌*◌, ◌<◌, true, List, [], ◌∷◌, ◌++◌, length, inl, inr, refl, sym, ◌∙◌, ap, subst, arith}
use Rattle.std.specs.List.{list_all}
use Rattle.std.proofs.lemmas.Bool.{cases_eq, cases_lt}
use Rattle.std.proofs.lemmas.List.{get_or_append_left, get_or_at, length-append}
use Rattle.std.proofs.lemmas.List.Elements.{All-contains}
use Rattle.std.proofs.lemmas.List.Recursion.{and_at}
use Rattle.std.proofs.lemmas.Map.Views.{Contains-from_any}
use Rattle.cnf_core.specs.declared.literal.SatLit.{SatLit}
use Rattle.cnf_core.specs.Clauses.{clause_at, opposite, variable_of}
use Rattle.cnf_core.specs.declared.effect.Effect.TheVariants.{Conflict}
use Rattle.cnf_core.specs.Derivations.{effect_of, is_false, is_true}
use Rattle.trail_core.specs.declared.assigned.Assigned.{Assigned}
use Rattle.trail_core.specs.Trails.{IsBack, IsTrail, Trailing, entry_at, literals}
use Rattle.trail_core.proofs.BackLemmas.{front_at, front_within, kept_at, low_at}
use Rattle.trail_core.proofs.TrailLemmas.{place_of_true, same_place}
use Rattle.watch_lists.specs.Attachments.{IsReached}
use Rattle.watch_lists.specs.Propagations.{AreImplied, IsGrown, IsJustified, IsSound, before}
use Rattle.watch_lists.specs.Watched.{Fits, IsCovered, IsPresent, IsRewatched, IsRooted, Watching, unattached_watch, with_clause}
use Rattle.watch_lists.proofs.AttachLemmas.{attached_longer}
use Rattle.watch_lists.proofs.EffectLemmas.{conflict_says, same_literal}
use Rattle.watch_lists.proofs.GrowLemmas.{before_take, grown_at, sound_rewatched}
use Rattle.watch_lists.proofs.KeepLemmas.{fits_back}
use Rattle.learn_solver.specs.Analyses.{IsAsserting}
use Rattle.learn_solver.specs.Starts.{IsFitting}

-- all is walked, since what isn't is of the level that is left
pub back_walked : (old back : Trailing) (level : ℕ) → IsBack old back level → IsPresent old → level < old.level → back.walked ≡ length back.entries
back_walked old back level is present lower = elim (cases_lt old.walked (length back.entries)) [
  | inr all ↦ omega (arith, all, is.walked)
  | inl some ↦
      let there = front_within old back level is old.walked some in
      absurd (omega (arith, low_at old back level is old.walked some, ap (λ (e : Assigned). e.level) (front_at old back level is old.walked some), present.present old.walked (omega arith) there, lower))
]

pub back_present : (old back : Trailing) (level : ℕ) → IsBack old back level → IsPresent old → level < old.level → IsPresent back
back_present old back level is present lower = record {
  present = λ k late within. absurd (omega (arith, late, within, back_walked old back level is present lower));
}

-- a literal that is true at level 0 stays so
pub back_rooted : (old back : Trailing) (level : ℕ) (clause : List SatLit) → IsBack old back level → IsRooted old.entries clause → IsRooted back.entries clause
back_rooted old back level clause is rooted =
    let still = kept_at old back level is rooted.at rooted.within (omega (arith, rooted.lowest)) in
    record {
      at = still.0;
      within = still.1;
      there = ap (λ (e : Assigned). is_true clause e.literal) still.2 ∙ rooted.there;
      lowest = ap (λ (e : Assigned). e.level) still.2 ∙ rooted.lowest;
    }

-- what became false at the level to go back to is still there
pub back_reached : (old back : Trailing) (level : ℕ) (clause : List SatLit) → IsBack old back level → IsAsserting old clause level → IsReached back clause
back_reached old back level clause is asserting above =
    let before = asserting.reached (omega (arith, above, is.level_is)) in
    let still = kept_at old back level is before.place before.within (omega (arith, before.level_there)) in
    record {
      place = still.0;
      within = still.1;
      level = ap (λ (e : Assigned). e.level) still.2 ∙ (before.level_there ∙ sym is.level_is);
      there = ap (λ (e : Assigned). is_true clause (opposite e.literal)) still.2 ∙ before.there;
    }

-- ---- what is covered stays so

pub rooted_grown : (old new : Trailing) (clause : List SatLit) → IsGrown old new → IsRooted old.entries clause → IsRooted new.entries clause
rooted_grown old new clause grown rooted =
    let same = grown_at old new grown rooted.at rooted.within in
    record {
      at = rooted.at;
      within = omega (arith, rooted.within, grown.longer);
      there = ap (λ (e : Assigned). is_true clause e.literal) same ∙ rooted.there;
      lowest = ap (λ (e : Assigned). e.level) same ∙ rooted.lowest;
    }

pub covered_grown : (before after : Watching) (old new : Trailing) (id : ℕ) → id < length before.clauses → IsRewatched before after → IsGrown old new → IsCovered before old.entries id → IsCovered after new.entries id
covered_grown before after old new id there rewatched grown (inl attached) = inl (rewatched.attached id there attached)
covered_grown before after old new id there rewatched grown (inr rooted) =
    inr (subst (λ (cs : List (List SatLit)). IsRooted new.entries (clause_at cs id)) (sym rewatched.clauses) (rooted_grown old new (clause_at before.clauses id) grown rooted))

-- ---- a learned clause is attached after going back

-- the literal that became false last isn't false any more
pub freed : (old back : Trailing) (level : ℕ) (clause : List SatLit) → IsTrail old → IsBack old back level → IsAsserting old clause level → 0 < old.level → effect_of (literals back.entries) clause ≡ Conflict → ⊥
freed old back level clause trail is asserting above conflict =
    let u = asserting.last above in
    let e = entry_at old.entries u.place in
    let l = opposite e.literal in
    let all = conflict_says (literals back.entries) clause conflict in
    let falsity = All-contains (λ m. is_false (literals back.entries) m ≡ true) clause l (λ k d within. and_at (list_all (is_false (literals back.entries))) (is_false (literals back.entries)) refl (λ _ _. refl) clause k d within all) (Contains-from_any same_literal l clause u.there) in
    let j = place_of_true back.entries (opposite l) falsity in
    let same = front_at old back level is j.0 j.1 in
    let inside = front_within old back level is j.0 j.1 in
    let variable : variable_of (entry_at old.entries j.0).literal ≡ variable_of e.literal = omega (arith, ap (λ (x : Assigned). x.literal.0) same, j.2) in
    let low = low_at old back level is j.0 j.1 in
    let lower = asserting.lower above in
    let here = same_place old trail j.0 u.place inside u.within variable in
    omega (arith, low, ap (λ (x : Assigned). x.level) same, ap (λ k. (entry_at old.entries k).level) here, u.level_there, lower)

-- the clause that was added
pub added_at : (w : Watching) (clause : List SatLit) → clause_at (w.clauses ++ clause ∷ []) (length w.clauses) ≡ clause
added_at w clause = get_or_at w.clauses clause [] [] (length w.clauses) refl

-- what was covered before is covered after going back with one clause more
pub back_covered : (w : Watching) (clause : List SatLit) (old back : Trailing) (level id : ℕ) → length w.watches ≡ 2 * length w.clauses → IsBack old back level → id < length w.clauses → IsCovered w old.entries id → IsCovered (with_clause clause w) back.entries id
back_covered w clause old back level id size is there (inl attached) =
    inl (attached_longer w.watches (unattached_watch clause) (omega (arith, size)) (2 * id) (omega (arith, there, size)) attached)
back_covered w clause old back level id size is there (inr rooted) =
    inr (subst (IsRooted back.entries) (sym (get_or_append_left w.clauses (clause ∷ []) [] id there)) (back_rooted old back level (clause_at w.clauses id) is rooted))

-- a search that went back
pub gone : (w after : Watching) (clause : List SatLit) (old back new : Trailing) (level : ℕ) → IsFitting w old → length w.watches ≡ 2 * length w.clauses → IsBack old back level → IsRewatched (with_clause clause w) after → Fits after new → IsPresent new → IsSound (with_clause clause w).clauses back → AreImplied (with_clause clause w).clauses back new → IsGrown back new → IsCovered after new.entries (length w.clauses) → IsFitting after new
gone w after clause old back new level fitting size is rewatched fits present sound implied grown last = record {
  fits = fits;
  present = present;
  sound = sound_rewatched (with_clause clause w) after back new rewatched sound grown implied;
  covered = λ id within.
      let count = length-append w.clauses (clause ∷ []) in
      elim (cases_eq id (length w.clauses)) [
        | inl here ↦ subst (IsCovered after new.entries) (sym here) last
        | inr other ↦
            let low : id < length w.clauses = omega (arith, within, ap length rewatched.clauses, count, other) in
            covered_grown (with_clause clause w) after back new id (omega (arith, low, count)) rewatched grown (back_covered w clause old back level id size is low (fitting.covered id low))
      ];
}

-- ---- a search begins again

-- what is justified stays so after going back
pub justified_back : (clauses : List (List SatLit)) (old back : Trailing) (level : ℕ) → IsBack old back level → (k : ℕ) → k < length back.entries → IsJustified clauses (before old.entries k) (entry_at old.entries k).literal (entry_at old.entries k).reason → IsJustified clauses (before back.entries k) (entry_at back.entries k).literal (entry_at back.entries k).reason
justified_back clauses old back level is k within justified =
    let made : before back.entries k ≡ before old.entries k = ap (λ es. before es k) is.front ∙ before_take old.entries (length back.entries) k (omega (arith, within)) in
    let e = entry_at old.entries k in
    subst (λ (x : Assigned). IsJustified clauses (before back.entries k) x.literal x.reason) (sym (front_at old back level is k within)) (subst (λ m. IsJustified clauses m e.literal e.reason) (sym made) justified)

back_sound : (clauses : List (List SatLit)) (old back : Trailing) (level : ℕ) → IsBack old back level → IsSound clauses old → IsSound clauses back
back_sound clauses old back level is sound = record {
  justified = λ k within. justified_back clauses old back level is k within (sound.justified k (front_within old back level is k within));
}

pub fitting_back : (w : Watching) (old back : Trailing) (level : ℕ) → IsFitting w old → IsBack old back level → level < old.level → IsFitting w back
fitting_back w old back level fitting is lower = record {
  fits = fits_back w old back level fitting.fits is;
  present = back_present old back level is fitting.present lower;
  sound = back_sound w.clauses old back level is fitting.sound;
  covered = λ id there. elim (fitting.covered id there) [
    | inl attached ↦ inl attached
    | inr rooted ↦ inr (back_rooted old back level (clause_at w.clauses id) is rooted)
  ];
}
