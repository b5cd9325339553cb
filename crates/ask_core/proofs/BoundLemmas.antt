-- How many lines can be learned for a query, and what asking it comes to.
use Rattle.std.proofs.Common.{◌≡◌, suc, ◌+◌, ◌-◌, false, Result, Ok, Err, List, [], ◌∷◌, ◌++◌, length, take, slice_index_or, slice_set, refl, ◌∙◌, ap, sym, subst, arith}
use Rattle.std.specs.Result.{IsErrAnd}
use Rattle.std.proofs.lemmas.List.{get_or-append-add, length-append}
use Rattle.cnf_core.specs.declared.log.LogLine.{LogLine}
use Rattle.cnf_core.specs.declared.stop.Stop.{Stop}
use Rattle.cnf_core.specs.declared.stop.Stop.TheVariants.{Spent, Memory}
use Rattle.cnf_core.specs.Derivations.{clauses_of, no_line}
use Rattle.learn_solver.proofs.BoundLemmas.{AreUnlike, few_lines, line_at, unlike_at}
use Rattle.learn_solver.proofs.SolverLemmas.{line_known, line_says}
use Rattle.net_core.specs.Sides.{Graphs}
use Rattle.claim_core.specs.declared.query.Query.{Query}
use Rattle.query_core.specs.declared.ledger.Asked.{Asked}
use Rattle.claim_core.specs.Formulas.{formula_of}
use Rattle.query_core.specs.Ledgers.{Ledgered, charged_front, charged_in, entry_of, last_asked, nothing_asked, opened, with_lines}
use Rattle.ask_core.specs.declared.question.Answer.{Answer}
use Rattle.ask_core.specs.Answers.{Asks, IsAnswer, IsAskedIn, IsAskedWith, IsBounded, IsBoundedStop, IsStoppedAfter}
use Rattle.ask_core.proofs.AskLemmas.{stopped_weaker}

-- the last one of a list with one more
last_set : (asked : List Asked) (e f : Asked) → slice_set (asked ++ e ∷ []) (length (asked ++ e ∷ []) - 1) f ≡ asked ++ f ∷ []
last_set [] e f = refl
last_set (x ∷ asked) e f =
    let n : length (x ∷ (asked ++ e ∷ [])) - 1 ≡ suc (length (asked ++ e ∷ []) - 1) = omega (arith, length-append asked (e ∷ [])) in
    ap (slice_set (x ∷ (asked ++ e ∷ [])) _) refl ∙ (ap (λ k. slice_set (x ∷ (asked ++ e ∷ [])) k f) n ∙ ap (λ xs. x ∷ xs) (last_set asked e f))

pub last_is : (asked : List Asked) (e : Asked) → last_asked (asked ++ e ∷ []) ≡ e
last_is asked e =
    let n : length (asked ++ e ∷ []) - 1 ≡ length asked + 0 = omega (arith, length-append asked (e ∷ [])) in
    ap (λ k. slice_index_or (asked ++ e ∷ []) k nothing_asked) n ∙ get_or-append-add asked (e ∷ []) 0 nothing_asked

-- a query is asked: its entry stands after those for which lines were learned
pub asked_last : (query : Query) (lemmas lines : List LogLine) (asked : List Asked) → with_lines lines (opened query lemmas asked) ≡ charged_front asked ++ record (entry_of query lemmas) { lines = lines } ∷ []
asked_last query lemmas lines asked =
    let front = charged_front asked in
    let e = entry_of query lemmas in
    last_set front e (record (last_asked (front ++ e ∷ [])) { lines = lines }) ∙ ap (λ (x : Asked). front ++ record x { lines = lines } ∷ []) (last_is front e)

-- the last entry of a query that was opened, with lines in place of its lemmas
pub last_with : (query : Query) (lemmas lines : List LogLine) (asked : List Asked) → last_asked (with_lines lines (opened query lemmas asked)) ≡ record (entry_of query lemmas) { lines = lines }
last_with query lemmas lines asked =
    ap last_asked (asked_last query lemmas lines asked) ∙ last_is (charged_front asked) (record (entry_of query lemmas) { lines = lines })

pub bounded_with : (graphs : Graphs) (query : Query) (lemmas : List LogLine) (old new : Ledgered) → IsAskedWith lemmas graphs query old new → IsBounded graphs query new
bounded_with graphs query lemmas old new is =
    let f = formula_of graphs query in
    let first = length lemmas in
    let unlike : AreUnlike f.variables first is.lines = record {
      known = λ k late within. line_known f (clauses_of (take k is.lines)) (line_at is.lines k) (is.learned k no_line late within).derived;
      once = λ k late within. (line_says f (clauses_of (take k is.lines)) (line_at is.lines k) (is.learned k no_line late within).derived).once;
      unlike = λ j k early order within. unlike_at is.lines (line_at is.lines k).clause k j order within (is.learned k no_line (omega (arith, early, order)) within).unlike_earlier;
    } in
    omega (arith, few_lines f.variables first is.lines unlike, ap charged_in (ap last_asked is.asked ∙ last_with query lemmas is.lines old.asked))

pub bounded_in : (graphs : Graphs) (query : Query) (old new : Ledgered) → IsAskedIn graphs query old new → IsBounded graphs query new
bounded_in graphs query old new is = bounded_with graphs query is.lemmas old new is.with_them

-- so it is where the budget is spent
pub bounded_stop : {P : Type 0} (graphs : Graphs) (query : Query) (old new : Ledgered) (stop : Stop) → (P → IsBounded graphs query new) → IsStoppedAfter P old new stop → IsBoundedStop graphs query new stop
bounded_stop graphs query old new Memory bounded stopped = tt
bounded_stop graphs query old new (Spent learned) bounded stopped = bounded stopped.asked

module _ {Asked : Graphs → Query → Ledgered → Ledgered → Type 0} (graphs : Graphs) (query : Query) (old new : Ledgered) where
  pub asks_ok : (answer : Answer) → (Asked graphs query old new → IsBounded graphs query new) → IsAnswer graphs query answer → Asked graphs query old new → new.spent ≡ false → Asks Asked graphs query old new (Ok answer)
  asks_ok answer bounded right asked not_spent = record {
    answer = right;
    asked = asked;
    not_spent = not_spent;
    stop = tt;
    bounded = bounded asked;
    bounded_stop = tt;
  }

  pub asks_err : (r : Result Answer Stop) (stop : Stop) → (Asked graphs query old new → IsBounded graphs query new) → IsErrAnd r (λ e. e ≡ stop) → IsStoppedAfter (Asked graphs query old new) old new stop → Asks Asked graphs query old new r
  asks_err (Ok answer) stop bounded is stopped = absurd is
  asks_err (Err other) stop bounded is stopped =
      let here = subst (IsStoppedAfter (Asked graphs query old new) old new) (sym is) stopped in
      record {
        answer = tt;
        asked = tt;
        not_spent = tt;
        stop = here;
        bounded = tt;
        bounded_stop = bounded_stop graphs query old new other bounded here;
      }

  -- the same where less is said of what was asked
  pub asks_weaker : {Less : Graphs → Query → Ledgered → Ledgered → Type 0} (r : Result Answer Stop) → (Asked graphs query old new → Less graphs query old new) → Asks Asked graphs query old new r → Asks Less graphs query old new r
  asks_weaker (Ok answer) weaker is = record {
    answer = is.answer;
    asked = weaker is.asked;
    not_spent = is.not_spent;
    stop = tt;
    bounded = is.bounded;
    bounded_stop = tt;
  }
  asks_weaker (Err stop) weaker is = record {
    answer = tt;
    asked = tt;
    not_spent = tt;
    stop = stopped_weaker old new stop weaker is.stop;
    bounded = tt;
    bounded_stop = is.bounded_stop;
  }
