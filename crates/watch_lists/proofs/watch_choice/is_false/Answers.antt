-- A literal's own value says whether it is false, since none is true and false.
use Rattle.std.proofs.Common.{◌≡◌, ◌/◌, cond, not, Bool, true, false, List, None, Some, refl, sym, ◌∙◌, ap, arith}
use Rattle.std.proofs.lemmas.Bool.{false_from_ne_true}
use Rattle.cnf_core.specs.declared.literal.SatLit.{SatLit}
use Rattle.cnf_core.specs.Clauses.{opposite, variable_of}
use Rattle.cnf_core.specs.Derivations.{is_false, is_true}
use Rattle.trail_core.specs.Trails.{IsTrail, Trailing, entry_at, literals, value_in}
use Rattle.trail_core.proofs.TrailLemmas.{not_false, place_of_true, same_place}
use Rattle.watch_lists.proofs.EffectLemmas.{value_false}
use Rattle.watch_lists.proofs.watch_choice.is_false.Goals as goal

value_true : (made : List SatLit) (l : SatLit) → value_in made l ≡ Some true → is_true made l ≡ true
value_true made l e = by_tests (is_true made l) (is_false made l) e
  where
    by_tests : (t f : Bool) → cond t (Some true) (cond f (Some false) None) ≡ Some true → t ≡ true
    by_tests true f h = refl
    by_tests false true h = absurd (let x : Some false ≡ Some true = h in cc)
    by_tests false false h = absurd (let x : None ≡ Some true = h in cc)

-- on a trail no literal is true and false
not_both : (t : Trailing) → IsTrail t → (l : SatLit) → is_true (literals t.entries) l ≡ true → is_false (literals t.entries) l ≡ false
not_both t is l holds = false_from_ne_true (is_false (literals t.entries) l) (λ fails.
    let i = place_of_true t.entries l holds in
    let j = place_of_true t.entries (opposite l) fails in
    let half : variable_of (opposite l) ≡ variable_of l = omega arith in
    let same = same_place t is i.0 j.0 i.1 j.1 (ap (λ n. n / 2) i.2 ∙ (sym half ∙ sym (ap (λ n. n / 2) j.2))) in
    let clash : l.0 ≡ (opposite l).0 = sym i.2 ∙ (ap (λ k. (entry_at t.entries k).literal.0) same ∙ j.2) in
    omega (arith, clash))

of_value : (t : Trailing) → IsTrail t → (l : SatLit) (b : Bool) → value_in (literals t.entries) l ≡ Some b → not b ≡ is_false (literals t.entries) l
of_value t is l true value = sym (not_both t is l (value_true (literals t.entries) l value))
of_value t is l false value = sym (value_false (literals t.entries) l value)

pub returns-in-Some : goal.returns-in-Some
returns-in-Some c = of_value c.args.trail.now c.level-level.ensures.trail c.args.literal c.in-Some.value (sym c.value.ensures ∙ c.in-Some.is)

pub returns-in-None : goal.returns-in-None
returns-in-None c = sym (not_false (literals c.args.trail.now.entries) c.args.literal (sym c.value.ensures ∙ c.in-None.is))
