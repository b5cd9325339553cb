-- What a search over dense variables says.
use Rattle.std.proofs.Common.{◌≡◌, ℕ, ◌+◌, ◌<◌, false, List, [], ◌++◌, length, map, take, All, Result, Ok, Err, IfOk, IfErr, slice_index_or, refl, sym, ◌∙◌, ap, subst, arith}
use Rattle.std.proofs.lemmas.List.{get_or-map, length-map}
use Rattle.std.proofs.lemmas.List.FromFn.{fill_by_all, get_or-map-range_with_len, length-map-range_with_len}
use Rattle.cnf_core.specs.declared.literal.SatLit.{SatLit}
use Rattle.cnf_core.specs.declared.stop.Stop.{Stop}
use Rattle.cnf_core.specs.declared.stop.Stop.TheVariants.{Spent, Memory}
use Rattle.cnf_core.specs.Clauses.{Formula, Meets, clause_at}
use Rattle.cnf_core.specs.Charges.{Charging}
use Rattle.cnf_core.specs.Derivations.{AreDerived, clauses_of, has_all}
use Rattle.learn_solver.specs.Solvers.{IsExtended, IsStopped, Solving, wanted}
use Rattle.learn_solver.specs.Findings.{IsFinding}
use Rattle.learn_solver.specs.declared.verdict.Finding.{Finding}
use Rattle.learn_solver.specs.declared.verdict.Finding.TheVariants.{Model, Refuted}
use Rattle.learn_solver.proofs.AdvanceLemmas.{derived_after}
use Rattle.ask_core.specs.Renamings.{numbers_of}
use Rattle.ask_core.specs.Solved.{AreLearned, IsAll, IsFound, IsHalted}

pub all_there : (small : Formula) → All (λ id. id < length small.clauses) (numbers_of [] 0 (length small.clauses))
all_there small k d below =
    let n = length small.clauses in
    let low : k < n = omega (arith, below, length-map-range_with_len (λ j. 0 + j) 0 n) in
    omega (arith, low, get_or-map-range_with_len (λ j. 0 + j) 0 n k k d low (omega arith))

-- all clauses are wanted
whole_wanted : (cs : List (List SatLit)) → map (clause_at cs) (numbers_of [] 0 (length cs)) ≡ cs
whole_wanted cs =
    let n = length cs in
    let ids = numbers_of [] 0 n in
    let at : (k : ℕ) → k < n → slice_index_or ids k 0 ≡ k = λ k below. get_or-map-range_with_len (λ j. 0 + j) 0 n k k 0 below (omega arith) ∙ omega arith in
    let size : length (map (clause_at cs) ids) ≡ n = length-map ids (clause_at cs) ∙ length-map-range_with_len (λ j. 0 + j) 0 n in
    fill_by_all (clause_at cs) (map (clause_at cs) ids) n [] size (λ k below. get_or-map (clause_at cs) ids k 0 [] (omega (arith, below, length-map-range_with_len (λ j. 0 + j) 0 n)) ∙ ap (clause_at cs) (at k below))
    ∙ sym (fill_by_all (clause_at cs) cs n [] refl (λ k below. refl))

wanted-all : (small : Formula) (s new : Solving) → IsAll small s → new.formula ≡ s.formula → new.ids ≡ s.ids → wanted new.formula new.ids ≡ small.clauses
wanted-all small s new all formula ids =
    ap (λ f. wanted f new.ids) (formula ∙ ap (λ (x : Solving). x.formula) all.is) ∙ (ap (wanted small) (ids ∙ ap (λ (x : Solving). x.ids) all.is) ∙ whole_wanted small.clauses)

found : {O : Type 0} (small : Formula) (s new : Solving) (before after : Charging O) (v : Finding) → IsAll small s → IsExtended s new before after → IsFinding new v → IsFound small new.lines v
found {O} small s new before after (Model values) all extended is =
    (is.variables ∙ ap (λ (f : Formula). f.variables) (extended.formula ∙ ap (λ (x : Solving). x.formula) all.is), subst (Meets values) (wanted-all small s new all extended.formula extended.ids) is.meets)
found {O} small s new before after Refuted all extended is = is.closed

learned : {O : Type 0} (small : Formula) (s new : Solving) (before after : Charging O) → IsAll small s → IsExtended s new before after → AreLearned small new.lines
learned {O} small s new before after all extended =
    let none : s.lines ≡ [] = ap (λ (x : Solving). x.lines) all.is in
    let formula = ap (λ (x : Solving). x.formula) all.is in
    let first : AreDerived s.formula s.lines = subst (λ ls. AreDerived s.formula ls) (sym none) (λ k d below. absurd (omega (arith, below))) in
    let derived = subst (λ f. AreDerived f new.lines) (extended.formula ∙ formula) (derived_after s new before after first extended) in
    let whole : wanted s.formula s.ids ≡ small.clauses = wanted-all small s s all refl refl in
    record {
      derived = derived;
      fresh = λ k d within. subst (λ cs. All (λ clause. has_all (slice_index_or new.lines k d).clause clause ≡ false) (cs ++ clauses_of (take k new.lines))) whole (extended.added k d (omega (arith, ap length none)) within).fresh;
    }

pub dense_found : {O : Type 0} (small : Formula) (s new : Solving) (before after : Charging O) (r : Result Finding Stop) → IsAll small s → IfOk r (λ _. IsExtended s new before after) → IfOk r (IsFinding new) → IfOk r (IsFound small new.lines)
dense_found {O} small s new before after (Ok v) all extended is = found small s new before after v all extended is
dense_found {O} small s new before after (Err stop) all extended is = tt

pub dense_learned : {O : Type 0} (small : Formula) (s new : Solving) (before after : Charging O) (r : Result Finding Stop) → IsAll small s → IfOk r (λ _. IsExtended s new before after) → IfOk r (λ _. AreLearned small new.lines)
dense_learned {O} small s new before after (Ok v) all extended = learned small s new before after all extended
dense_learned {O} small s new before after (Err stop) all extended = tt

halted : {O : Type 0} (small : Formula) (s new : Solving) (before after : Charging O) (stop : Stop) → IsAll small s → IsStopped s new before after stop → IsHalted small new.lines before stop
halted {O} small s new before after Memory all is = tt
halted {O} small s new before after (Spent n) all is = (
  learned small s new before after all is.extended,
  record {
    told = is.learned_is;
    used = omega (arith, is.used, is.extended.counted, ap length (ap (λ (x : Solving). x.lines) all.is));
  },
)

pub dense_halted : {O : Type 0} (small : Formula) (s new : Solving) (before after : Charging O) (r : Result Finding Stop) → IsAll small s → IfErr r (IsStopped s new before after) → IfErr r (IsHalted small new.lines before)
dense_halted {O} small s new before after (Ok v) all is = tt
dense_halted {O} small s new before after (Err stop) all is = halted small s new before after stop all is
