-- Lines that were paid for stay so: written into another log, under other outputs, and as a ledger grows.
use Rattle.std.proofs.Common.{◌≡◌, ◌⊎◌, ℕ, ◌+◌, ◌-◌, ◌<◌, ◌≤◌, cond, List, [], ◌∷◌, ◌++◌, length, take, drop, All, Any, Contains, slice_index_or, inl, inr, refl, sym, ap, subst, ◌∙◌, arith}
use Rattle.std.proofs.lemmas.Bool.Decides.{eqb_tells}
use Rattle.std.proofs.lemmas.Bool.{cases_lt}
use Rattle.std.proofs.lemmas.List.{get_or-drop, get_or-map, get_or-take, get_or_append_left, get_or_default, length-append, length-drop, length-map, length-take}
use Rattle.std.proofs.lemmas.List.Quantifiers.{Any-push}
use Rattle.cnf_core.specs.declared.literal.SatLit.{SatLit}
use Rattle.cnf_core.specs.declared.log.LogLine.{LogLine}
use Rattle.cnf_core.specs.Clauses.{Formula}
use Rattle.cnf_core.specs.Derivations.{clauses_of}
use Rattle.net_core.specs.Sides.{Graphs}
use Rattle.claim_core.specs.declared.query.Query.{Query}
use Rattle.claim_core.specs.Formulas.{formula_of, query_clauses}
use Rattle.query_core.specs.declared.ledger.Asked.{Asked}
use Rattle.query_core.specs.Ledgers.{Ledgered, charged_front, entry_of, last_asked, nothing_asked}
use Rattle.joint_hash.specs.declared.gates.ConeGate.{ConeGate}
use Rattle.joint_hash.specs.Merging.{AreBetween, AreLemmas, IsImplication, IsInner}
use Rattle.shared_lemmas.specs.Parts.{AreWritten, HaveCommon, IsWrittenAs, IsWrittenOf}
use Rattle.ask_core.specs.declared.question.Answer.{Answer}
use Rattle.ask_core.specs.declared.question.Answer.TheVariants.{Vector, Refuted}
use Rattle.ask_core.specs.Answers.{IsAskedWith, IsPaidFor}
use Rattle.ask_core.proofs.BoundLemmas.{asked_last, last_with}
use Rattle.shared_lemmas.specs.Shared.{AreLogPaid, HaveSameFeeds, IsChargedUnder, IsPaid, IsUnder, PaysFor}
use Rattle.shared_lemmas.proofs.FormulaLemmas.{feeds_common}
use Rattle.shared_lemmas.proofs.SharedLaws.{own_feeds}

-- ---- written into another log

implication_written : (formula : Formula) (line own : LogLine) → IsImplication formula line → IsWrittenAs (length formula.clauses) line own → IsImplication formula own
implication_written formula line own is written = record {
  start = is.start;
  end = is.end;
  is_start = is.is_start;
  is_end = is.is_end;
  clause = elim is.clause [ inl to ↦ inl (written.clause ∙ to) | inr back ↦ inr (written.clause ∙ back) ];
  between = λ k d within early. at (slice_index_or own.hints k d) (written.hints k d within early) early;
}
  where
    four : List ℕ
    four = 0 ∷ is.start.id ∷ (is.start.id + 1) ∷ (is.end.id + 2) ∷ []

    at : (id : ℕ) → Contains line.hints id → id < length formula.clauses → Contains four id
    at id (j, below, same) = subst (λ i. i < length formula.clauses → Contains four i) same (is.between j id below)

paid_written : (graphs : Graphs) (query : Query) (asked : List Asked) (line own : LogLine) → IsPaid graphs query asked line → IsWrittenAs (length (query_clauses graphs query)) line own → IsPaid graphs query asked own
paid_written graphs query asked line own (inl is) written = inl (implication_written (formula_of graphs query) line own is written)
paid_written graphs query asked line own (inr paid) written = inr (subst (λ c. Any (IsChargedUnder query c) asked) (sym written.clause) paid)

pub all_paid : (graphs : Graphs) (query : Query) (asked : List Asked) (source old new : List LogLine) → AreWritten (length (query_clauses graphs query)) source old new → All (IsPaid graphs query asked) source → All (IsPaid graphs query asked) old → All (IsPaid graphs query asked) new
all_paid graphs query asked source old new written theirs mine k d within = at (slice_index_or new k d) (written k d within)
  where
    one_of : (lines : List LogLine) (line : LogLine) → All (IsPaid graphs query asked) lines → Contains lines line → IsPaid graphs query asked line
    one_of lines line all (j, below, is) = subst (IsPaid graphs query asked) is (all j line below)

    at : (own : LogLine) → Contains old own ⊎ IsWrittenOf (length (query_clauses graphs query)) source own → IsPaid graphs query asked own
    at own (inl there) = one_of old own mine there
    at own (inr of) = paid_written graphs query asked of.line own (one_of source of.line theirs of.there) of.is

pub lemmas_paid : (graphs : Graphs) (query : Query) (merged stock lines : List LogLine) → AreLemmas (formula_of graphs query) merged → AreWritten (length (query_clauses graphs query)) stock merged lines → PaysFor graphs query stock lines
lemmas_paid graphs query merged stock lines are written asked paid =
    all_paid graphs query asked stock merged lines written paid (λ k d within. inl (are.implications k d within))

-- ---- under other outputs

inner_kept : (one other : Formula) (count : ℕ) (gate : ConeGate) → HaveCommon (record { count = count; same = count - 2 }) one other → IsInner one gate → IsInner other gate
inner_kept one other count gate have is = record {
  clauses = record {
    there = omega (arith, is.early, have.count, have.other_count);
    to_first = have.same gate.id (omega (arith, is.early, have.count)) ∙ is.clauses.to_first;
    to_second = have.same (gate.id + 1) (omega (arith, is.early, have.count)) ∙ is.clauses.to_second;
    from_both = have.same (gate.id + 2) (omega (arith, is.early, have.count)) ∙ is.clauses.from_both;
  };
  early = omega (arith, is.early, have.count, have.other_count);
}

implication_kept : (one other : Formula) (count : ℕ) (line : LogLine) → HaveCommon (record { count = count; same = count - 2 }) one other → IsImplication one line → IsImplication other line
implication_kept one other count line have is = record {
  start = is.start;
  end = is.end;
  is_start = inner_kept one other count is.start have is.is_start;
  is_end = inner_kept one other count is.end have is.is_end;
  clause = is.clause;
  between = subst (λ n. AreBetween n is.start is.end line.hints) (have.count ∙ sym have.other_count) is.between;
}

same_after : (first mid last : Query) → HaveSameFeeds first mid → HaveSameFeeds mid last → HaveSameFeeds first last
same_after first mid last one other = record {
  left_side = other.left_side ∙ one.left_side;
  left_feed = other.left_feed ∙ one.left_feed;
  right_side = other.right_side ∙ one.right_side;
  right_feed = other.right_feed ∙ one.right_feed;
}

paid_kept : (graphs : Graphs) (one other : Query) (asked : List Asked) (line : LogLine) → HaveSameFeeds one other → IsPaid graphs one asked line → IsPaid graphs other asked line
paid_kept graphs one other asked line same (inl is) = inl (implication_kept (formula_of graphs one) (formula_of graphs other) (length (query_clauses graphs one)) line (feeds_common graphs one other (length (query_clauses graphs one)) same refl) is)
paid_kept graphs one other asked line same (inr (k, entry, within, is, charged)) =
    inr (k, entry, within, is, record { same = same_after entry.query one other charged.same same; learned = charged.learned })

-- what was paid for under the feeds of the last query was under those of one with the same feeds
pub paid_under : (graphs : Graphs) (query : Query) (last_query : List Query) (asked : List Asked) (lines : List LogLine) → IsUnder query last_query → All (λ own. All (IsPaid graphs own asked) lines) last_query → All (IsPaid graphs query asked) lines
paid_under graphs query last_query asked lines under paid k d within =
    let own : All (IsPaid graphs under.own asked) lines = subst (λ q. All (IsPaid graphs q asked) lines) under.is (paid 0 under.own under.some) in
    paid_kept graphs under.own query asked (slice_index_or lines k d) under.same (own k d within)

-- ---- as a ledger grows

-- an entry for which a line was learned stays where an entry for which none was is taken off
charged_stays : (query : Query) (clause : List SatLit) (asked : List Asked) → Any (IsChargedUnder query clause) asked → Any (IsChargedUnder query clause) (charged_front asked)
charged_stays query clause asked (k, entry, within, is, charged) =
    let e = last_asked asked in
    elim (eqb_tells (length e.lines) e.lemmas) [
      | inl (found, same) ↦
          let low : k < length asked - 1 = elim (cases_lt k (length asked - 1)) [ inl less ↦ less | inr past ↦ absurd (last_charged same (omega (arith, within, past))) ] in
          let size = length-take (length asked - 1) asked in
          subst (Any (IsChargedUnder query clause)) (sym (ap (λ t. cond t (take (length asked - 1) asked) asked) found)) (k, entry, omega (arith, low, size), get_or-take (length asked - 1) asked k entry low ∙ is, charged)
      | inr (found, apart) ↦
          subst (Any (IsChargedUnder query clause)) (sym (ap (λ t. cond t (take (length asked - 1) asked) asked) found)) (k, entry, within, is, charged)
    ]
  where
    none : (e : Asked) → length e.lines ≡ e.lemmas → Contains (clauses_of (drop e.lemmas e.lines)) clause → ⊥
    none e same (j, below, at) = absurd (omega (arith, below, same, length-map (drop e.lemmas e.lines) (λ (l : LogLine). l.clause), length-drop e.lemmas e.lines))

    last_charged : length (last_asked asked).lines ≡ (last_asked asked).lemmas → k ≡ length asked - 1 → ⊥
    last_charged same at =
        let own : entry ≡ last_asked asked = sym is ∙ (get_or_default asked k entry nothing_asked within ∙ ap (λ j. slice_index_or asked j nothing_asked) at) in
        none entry (ap (λ (x : Asked). length x.lines) own ∙ (same ∙ sym (ap (λ (x : Asked). x.lemmas) own))) charged.learned

any_left : (P : Asked → Type 0) (xs : List Asked) (x : Asked) → Any P xs → Any P (xs ++ x ∷ [])
any_left P xs x (k, entry, within, is, has) = (k, entry, omega (arith, within, length-append xs (x ∷ [])), get_or_append_left xs (x ∷ []) entry k within ∙ is, has)

-- what was paid for before a query was asked still is
paid_after : (graphs g : Graphs) (query asked_query : Query) (lemmas : List LogLine) (old new : Ledgered) (line : LogLine) → IsAskedWith lemmas g asked_query old new → IsPaid graphs query old.asked line → IsPaid graphs query new.asked line
paid_after graphs g query asked_query lemmas old new line is (inl implies) = inl implies
paid_after graphs g query asked_query lemmas old new line is (inr paid) =
    let P : Asked → Type 0 = IsChargedUnder query line.clause in
    inr (subst (Any P) (sym (is.asked ∙ asked_last asked_query lemmas is.lines old.asked)) (any_left P (charged_front old.asked) _ (charged_stays query line.clause old.asked paid)))

pub all_after : (graphs g : Graphs) (query asked_query : Query) (lemmas lines : List LogLine) (old new : Ledgered) → IsAskedWith lemmas g asked_query old new → All (IsPaid graphs query old.asked) lines → All (IsPaid graphs query new.asked) lines
all_after graphs g query asked_query lemmas lines old new is paid k d within = paid_after graphs g query asked_query lemmas old new (slice_index_or lines k d) is (paid k d within)

-- the lines of the entry of a query are paid for: its lemmas were, and the others were learned for it
entry_paid : (graphs : Graphs) (query : Query) (lemmas : List LogLine) (old new : Ledgered) (is : IsAskedWith lemmas graphs query old new) → All (IsPaid graphs query old.asked) lemmas → All (IsPaid graphs query new.asked) is.lines
entry_paid graphs query lemmas old new is paid k d within =
    elim (cases_lt k (length lemmas)) [
      | inl early ↦
          let here : slice_index_or lemmas k d ≡ slice_index_or is.lines k d = ap (λ ls. slice_index_or ls k d) (sym is.begin) ∙ get_or-take (length lemmas) is.lines k d early in
          subst (IsPaid graphs query new.asked) here (paid_after graphs graphs query query lemmas old new (slice_index_or lemmas k d) is (paid k d early))
      | inr late ↦
          let line = slice_index_or is.lines k d in
          let P : Asked → Type 0 = IsChargedUnder query line.clause in
          inr (subst (Any P) (sym (is.asked ∙ asked_last query lemmas is.lines old.asked)) (Any-push P (charged_front old.asked) (record (entry_of query lemmas) { lines = is.lines }) (record { same = own_feeds query; learned = learned line late refl })))
    ]
  where
    learned : (line : LogLine) → length lemmas ≤ k → slice_index_or is.lines k d ≡ line → Contains (clauses_of (drop (length lemmas) is.lines)) line.clause
    learned line late at =
        let rest = drop (length lemmas) is.lines in
        let j = k - length lemmas in
        let below : j < length rest = omega (arith, within, late, length-drop (length lemmas) is.lines) in
        let place : length lemmas + j ≡ k = omega (arith, late) in
        (j, omega (arith, below, length-map rest (λ (l : LogLine). l.clause)), get_or-map (λ (l : LogLine). l.clause) rest j d line.clause below ∙ ap (λ (l : LogLine). l.clause) (get_or-drop (length lemmas) is.lines j d ∙ (ap (λ n. slice_index_or is.lines n d) place ∙ at)))

-- so are those of a log that has them
pub log_paid : (graphs : Graphs) (query : Query) (lemmas : List LogLine) (old new : Ledgered) (answer : Answer) → IsAskedWith lemmas graphs query old new → IsPaidFor new answer → All (IsPaid graphs query old.asked) lemmas → AreLogPaid graphs query new.asked answer
log_paid graphs query lemmas old new (Vector vector) is own paid = tt
log_paid graphs query lemmas old new (Refuted log) is own paid =
    subst (All (IsPaid graphs query new.asked)) (sym (own ∙ (ap (λ es. (last_asked es).lines) is.asked ∙ ap (λ (a : Asked). a.lines) (last_with query lemmas is.lines old.asked)))) (entry_paid graphs query lemmas old new is paid)

-- ---- the same of equal circuits and queries

pub paid_of : (graphs g : Graphs) (query q : Query) (asked : List Asked) (lines : List LogLine) → g ≡ graphs → q ≡ query → All (IsPaid graphs query asked) lines → All (IsPaid g q asked) lines
paid_of graphs g query q asked lines graphs_are query_is paid =
    subst (λ x. All (IsPaid g x asked) lines) (sym query_is) (subst (λ x. All (IsPaid x query asked) lines) (sym graphs_are) paid)

pub log_of : (graphs g : Graphs) (query q : Query) (asked : List Asked) (answer : Answer) → g ≡ graphs → q ≡ query → AreLogPaid graphs query asked answer → AreLogPaid g q asked answer
log_of graphs g query q asked answer graphs_are query_is paid =
    subst (λ x. AreLogPaid g x asked answer) (sym query_is) (subst (λ x. AreLogPaid x query asked answer) (sym graphs_are) paid)

pub pays_of : (graphs g : Graphs) (query q : Query) (some others : List LogLine) → g ≡ graphs → q ≡ query → PaysFor g q some others → PaysFor graphs query some others
pays_of graphs g query q some others graphs_are query_is pays =
    subst (λ x. PaysFor graphs x some others) query_is (subst (λ x. PaysFor x q some others) graphs_are pays)
