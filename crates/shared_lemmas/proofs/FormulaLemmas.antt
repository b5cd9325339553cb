-- The formulas of two queries under the same feeds differ in the clauses of the outputs alone.
use Rattle.std.proofs.Common.{◌≡◌, ◌≢◌, ℕ, zero, suc, ◌+◌, ◌-◌, ◌<◌, Bool, List, length, inl, inr, refl, sym, ◌∙◌, subst, arith}
use Rattle.std.proofs.lemmas.Bool.{cases_lt}
use Rattle.cnf_core.specs.declared.literal.SatLit.{SatLit}
use Rattle.cnf_core.specs.Clauses.{clause_at}
use Rattle.net_core.specs.Sides.{Graphs}
use Rattle.net_core.specs.declared.graphs.Side.{Side}
use Rattle.claim_core.specs.declared.query.Feed.{Feed}
use Rattle.claim_core.specs.declared.query.Query.{Query}
use Rattle.claim_core.specs.Queries.{circuit_of}
use Rattle.claim_core.specs.Formulas.{clauses_by, formula_of, half_clauses, left_literals, output_literal, query_clauses, right_literals}
use Rattle.claim_core.proofs.FormulaLemmas.{clause_count, clause_of_left, clause_of_right}
use Rattle.shared_lemmas.specs.Parts.{HaveCommon}
use Rattle.shared_lemmas.specs.Shared.{HaveSameFeeds}

-- all clauses but the last two don't depend on the outputs
same_front : (left right : List (List SatLit)) (a b c d : SatLit) (id : ℕ) → id < 1 + (length left + length right) → clause_at (clauses_by left right c d) id ≡ clause_at (clauses_by left right a b) id
same_front left right a b c d zero low = refl
same_front left right a b c d (suc k) low =
    let some : suc k ≢ 0 = omega arith in
    elim (cases_lt (suc k - 1) (length left)) [
      | inl early ↦ sym (clause_of_left left right c d (suc k) some early) ∙ clause_of_left left right a b (suc k) some early
      | inr late ↦
          let below : suc k - 1 - length left < length right = omega (arith, low, late) in
          sym (clause_of_right left right c d (suc k) some late below) ∙ clause_of_right left right a b (suc k) some late below
    ]

common_by : (count : ℕ) (variables : ℕ) (left right : List (List SatLit)) (a b c d : SatLit) → count ≡ length (clauses_by left right a b) → HaveCommon (record { count = count; same = count - 2 }) (record { variables = variables; clauses = clauses_by left right a b }) (record { variables = variables; clauses = clauses_by left right c d })
common_by count variables left right a b c d is =
    let one = clause_count left right a b in
    let other = clause_count left right c d in
    record {
      variables = refl;
      count = sym is;
      other_count = omega (arith, is, one, other);
      within = omega arith;
      same = λ id low. same_front left right a b c d id (omega (arith, low, is, one));
    }

abbrev asked_of : Side → List Feed → ℕ → Bool → Side → List Feed → ℕ → Bool → Query
asked_of a e j v b f k w = record {
  left = record { side = a; output = j; feed = e };
  left_value = v;
  right = record { side = b; output = k; feed = f };
  right_value = w;
}

module _ (graphs : Graphs) (count : ℕ) (a b : Side) (e f : List Feed) (j k m n : ℕ) (v w x y : Bool) (is : count ≡ length (query_clauses graphs (asked_of a e j v b f k w))) where
  abbrev Common_to : Query → Type 0
  Common_to other = HaveCommon (record { count = count; same = count - 2 }) (formula_of graphs (asked_of a e j v b f k w)) (formula_of graphs other)

  other_outputs : Common_to (asked_of a e m x b f n y)
  other_outputs =
      let one = asked_of a e j v b f k w in
      let other = asked_of a e m x b f n y in
      let left = half_clauses (circuit_of graphs one.left) (left_literals graphs one) in
      let right = half_clauses (circuit_of graphs one.right) (right_literals graphs one) in
      common_by count (formula_of graphs one).variables left right (output_literal (circuit_of graphs one.left) (left_literals graphs one) j v) (output_literal (circuit_of graphs one.right) (right_literals graphs one) k w) (output_literal (circuit_of graphs other.left) (left_literals graphs other) m x) (output_literal (circuit_of graphs other.right) (right_literals graphs other) n y) is

  by_parts : (c d : Side) (g h : List Feed) → c ≡ a → d ≡ b → g ≡ e → h ≡ f → Common_to (asked_of c g m x d h n y)
  by_parts c d g h left right left_feed right_feed =
      subst (λ s. Common_to (asked_of s g m x d h n y)) (sym left) (subst (λ s. Common_to (asked_of a g m x s h n y)) (sym right) (subst (λ fs. Common_to (asked_of a fs m x b h n y)) (sym left_feed) (subst (λ fs. Common_to (asked_of a e m x b fs n y)) (sym right_feed) other_outputs)))

pub feeds_common : (graphs : Graphs) (one other : Query) (count : ℕ) → HaveSameFeeds one other → count ≡ length (query_clauses graphs one) → HaveCommon (record { count = count; same = count - 2 }) (formula_of graphs one) (formula_of graphs other)
feeds_common graphs one other count same is =
    by_parts graphs count one.left.side one.right.side one.left.feed one.right.feed one.left.output one.right.output other.left.output other.right.output one.left_value one.right_value other.left_value other.right_value is other.left.side other.right.side other.left.feed other.right.feed same.left_side same.right_side same.left_feed same.right_feed
