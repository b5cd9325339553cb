-- What stands under a query among the answered ones, and what an answer more makes of them.
use Rattle.std.proofs.Common.{◌≡◌, ◌≢◌, zero, suc, Bool, true, false, Option, None, Some, List, [], ◌∷◌, ◌++◌, map, cond, All, Contains, refl, sym, ap, subst, ◌∙◌, arith}
use Rattle.std.specs.Bool.{Decides}
use Rattle.std.proofs.lemmas.List.Elements.{Contains-get_or, Contains-append_right}
use Rattle.std.proofs.lemmas.List.{map_push}
use Rattle.std.specs.Map.{lookup}
use Rattle.std.specs.Option.{IfSome, IfNone, option_copied, unwrap_or}
use Rattle.std.specs.Borrow.{Bor}
use Rattle.std.proofs.lemmas.Bool.{false≢true, false_from_ne_true}
use Rattle.std.proofs.lemmas.Map.{NonePasses, none_passes_from_lookup}
use Rattle.indexmap.specs.IndexMap.{insert_entry}
use Rattle.claim_core.specs.declared.query.Query.{Query}
use Rattle.ask_core.specs.declared.question.Answer.{Answer}
use Rattle.fact_tests.specs.Kept.{Kept, kept_of}

module _ (eq : Query → Query → Bool) (decides : (x y : Query) → Decides (eq x y) (x ≡ y)) where
  -- the first entry has the query, or a later one
  step : (e : Query × Answer) (es : List (Query × Answer)) (k : Query) (a : Answer) (b : Bool) → eq k e.0 ≡ b → lookup (eq k) (e ∷ es) ≡ Some a → (lookup (eq k) es ≡ Some a → Contains (map kept_of es) (kept_of (k, a))) → Contains (map kept_of (e ∷ es)) (kept_of (k, a))
  step e es k a true here is rest =
      let key : e.0 ≡ k = sym ((decides k e.0).0 here) in
      let value : e.1 ≡ a = ap (λ o. unwrap_or o a) (sym (ap (λ b. cond b (Some e.1) (lookup (eq k) es)) here) ∙ is) in
      let same : kept_of e ≡ kept_of (k, a) = λ i. record { query = key i; answer = value i } in
      subst (Contains (map kept_of (e ∷ es))) same (Contains-get_or (map kept_of (e ∷ es)) 0 (kept_of e) (omega arith))
  step e es k a false apart is rest =
      Contains-append_right (kept_of e ∷ []) (map kept_of es) (kept_of (k, a)) (rest (sym (ap (λ b. cond b (Some e.1) (lookup (eq k) es)) apart) ∙ is))

  -- an answer that is found is there under its query
  pub found : (es : List (Query × Answer)) (k : Query) (a : Answer) → lookup (eq k) es ≡ Some a → Contains (map kept_of es) (kept_of (k, a))
  found [] k a is = cc
  found (e ∷ es) k a is = step e es k a (eq k e.0) refl is (found es k a)

  -- none of them has the query
  pub none : (es : List (Query × Answer)) (k : Query) → NonePasses (eq k) es → All (λ entry. entry.query ≢ k) (map kept_of es)
  none [] k apart i d below same = omega (arith, below)
  none (e ∷ es) k apart zero d below same = false≢true (sym apart.0 ∙ (decides k e.0).1 (sym same))
  none (e ∷ es) k apart (suc i) d below same = none es k apart.1 i d (omega (arith, below)) same

  -- a query that none of them has comes last
  pub added : (es : List (Query × Answer)) (k : Query) (a : Answer) → All (λ entry. entry.query ≢ k) (map kept_of es) → insert_entry eq es k a ≡ es ++ (k, a) ∷ []
  added [] k a apart = refl
  added (e ∷ es) k a apart =
      let differs : eq k e.0 ≡ false = false_from_ne_true (eq k e.0) (λ here. apart 0 (kept_of e) (omega arith) (sym ((decides k e.0).0 here))) in
      ap (λ b. cond b ((e.0, a) ∷ es) (e ∷ insert_entry eq es k a)) differs ∙ ap (λ l. e ∷ l) (added es k a (λ i d below. apart (suc i) d (omega (arith, below))))

  -- what a look-up says of the queries that were answered
  pub got : (es : List (Query × Answer)) (known : List Kept) (k : Query) (r : Option (Bor Answer)) → map kept_of es ≡ known → option_copied r ≡ lookup (eq k) es → IfSome r (λ answer. Contains known (kept_of (k, answer.now)))
  got es known k None view is = tt
  got es known k (Some a) view is = subst (λ (ks : List Kept). Contains ks (kept_of (k, a.now))) view (found es k a.now (sym is))

  pub missed : (es : List (Query × Answer)) (known : List Kept) (k : Query) (r : Option (Bor Answer)) → map kept_of es ≡ known → option_copied r ≡ lookup (eq k) es → IfNone r (All (λ entry. entry.query ≢ k) known)
  missed es known k None view is = subst (All (λ entry. entry.query ≢ k)) view (none es k (none_passes_from_lookup (eq k) es (sym is)))
  missed es known k (Some a) view is = tt

  -- an answer more
  pub one_more : (es later : List (Query × Answer)) (known : List Kept) (k : Query) (a : Answer) → map kept_of es ≡ known → All (λ entry. entry.query ≢ k) known → later ≡ insert_entry eq es k a → map kept_of later ≡ known ++ kept_of (k, a) ∷ []
  one_more es later known k a view apart is =
      let apart_here = subst (All (λ entry. entry.query ≢ k)) (sym view) apart in
      ap (map kept_of) (is ∙ added es k a apart_here) ∙ (map_push kept_of es (k, a) ∙ ap (λ ks. ks ++ kept_of (k, a) ∷ []) view)
