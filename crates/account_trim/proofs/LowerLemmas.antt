-- Numbers that go down by what is left out before them.
use Rattle.std.proofs.Common.{◌≡◌, ℕ, zero, suc, ◌+◌, ◌-◌, ◌<◌, ◌≤◌, Bool, true, false, cond, List, [], ◌∷◌, ◌++◌, length, map, All, Option, None, Some, nat_lt, slice_index_or, refl, sym, ap, ◌∙◌, arith}
use Rattle.std.specs.List.{range_with_len}
use Rattle.std.specs.Option.{option_map}
use Rattle.std.proofs.lemmas.Bool.{false≢true}
use Rattle.std.proofs.lemmas.List.FromFn.{map-range_with_len_more}
use Rattle.std.proofs.lemmas.List.Elements.{All-head, All-tail}
use Rattle.circuits.specs.Literals.{bit}
use Rattle.account_core.specs.declared.conclusion.Conclusion.{Conclusion}
use Rattle.account_core.specs.declared.conclusion.Conclusion.TheVariants.{NonePorts, NoneBan, Match}
use Rattle.account_core.specs.declared.step.Step.{Step}
use Rattle.account_core.specs.declared.step.Step.TheVariants.{Vector, Mismatch, Tally, Cover}
use Rattle.account_file.specs.declared.record.Record.{Record}
use Rattle.account_file.specs.declared.record.Record.TheVariants as record_of
use Rattle.account_file.specs.Spelling.{HasLine}
use Rattle.refusal_core.specs.Numbered.{step_by}
use Rattle.net_core.specs.Sides.{Graphs}
use Rattle.account_trim.specs.declared.links.Links.{Links}
use Rattle.account_trim.specs.declared.lowering.Lower.{Lower}
use Rattle.account_trim.specs.Links.{links_of}
use Rattle.account_trim.specs.Places.{places_of}
use Rattle.account_trim.specs.Lowered.{all_left_out, left_by, left_out, lower_by, lowered, lowered_conclusion, lowered_hint, lowered_record, marks_at}
use Rattle.account_trim.specs.Trims.{left_of}

pub left_out-none : (marks : List Bool) → left_out marks 0 ≡ 0
left_out-none [] = refl
left_out-none (mark ∷ marks) = refl

-- one place more
pub left_out-more : (marks : List Bool) (k : ℕ) → k < length marks → left_out marks (suc k) ≡ left_out marks k + cond (bit marks k) 0 1
left_out-more [] k below = absurd (omega (arith, below))
left_out-more (true ∷ marks) zero below = left_out-none marks
left_out-more (false ∷ marks) zero below = omega (arith, left_out-none marks)
left_out-more (true ∷ marks) (suc k) below = left_out-more marks k (omega (arith, below))
left_out-more (false ∷ marks) (suc k) below = let rest = left_out-more marks k (omega (arith, below)) in omega (arith, rest)

pub left_out-within : (marks : List Bool) (k : ℕ) → left_out marks k ≤ k
left_out-within [] k = omega arith
left_out-within (mark ∷ marks) zero = omega arith
left_out-within (true ∷ marks) (suc k) = let rest = left_out-within marks k in omega (arith, rest)
left_out-within (false ∷ marks) (suc k) = let rest = left_out-within marks k in omega (arith, rest)

-- one count more
pub counts_more : (marks : List Bool) (i : ℕ) (counts more : List ℕ) (next : ℕ) → next ≡ left_out marks i → counts ≡ map (left_out marks) (range_with_len 0 i) → more ≡ counts ++ next ∷ [] → more ≡ map (left_out marks) (range_with_len 0 (i + 1))
counts_more marks i counts more next told before is =
    is
    ∙ (ap (λ l. l ++ next ∷ []) before
    ∙ (ap (λ n. map (left_out marks) (range_with_len 0 i) ++ n ∷ []) told
    ∙ sym (map-range_with_len_more (left_out marks) 0 i i (omega arith))))

-- where all are marked, none is left out
abbrev pub AllMarked : List Bool → Type 0
AllMarked marks = All (λ mark. mark ≡ true) marks

none_left_out : (marks : List Bool) → AllMarked marks → (k : ℕ) → left_out marks k ≡ 0
none_left_out [] each k = refl
none_left_out (mark ∷ marks) each zero = refl
none_left_out (true ∷ marks) each (suc k) = none_left_out marks (All-tail (λ m. m ≡ true) true marks each) k
none_left_out (false ∷ marks) each (suc k) = absurd (false≢true (All-head (λ m. m ≡ true) false marks each))

map_none : (f : ℕ → ℕ) → ((k : ℕ) → f k ≡ 0) → (xs : List ℕ) (k : ℕ) → slice_index_or (map f xs) k 0 ≡ 0
map_none f none [] k = refl
map_none f none (x ∷ xs) zero = none x
map_none f none (x ∷ xs) (suc k) = map_none f none xs k

no_counts : (marks : List Bool) → AllMarked marks → (k : ℕ) → slice_index_or (all_left_out marks) k 0 ≡ 0
no_counts marks each k = map_none (left_out marks) (none_left_out marks each) (range_with_len 0 (length marks)) k

mark_there : (marks : List Bool) → AllMarked marks → (k : ℕ) → slice_index_or marks k true ≡ true
mark_there [] each k = refl
mark_there (mark ∷ marks) each zero = All-head (λ m. m ≡ true) mark marks each
mark_there (mark ∷ marks) each (suc k) = mark_there marks (All-tail (λ m. m ≡ true) mark marks each) k

all_there : (marks : List Bool) (places : List ℕ) → AllMarked marks → AllMarked (marks_at marks places)
all_there marks [] each k d below = absurd (omega (arith, below))
all_there marks (place ∷ places) each zero d below = mark_there marks each place
all_there marks (place ∷ places) each (suc k) d below = all_there marks places each k d (omega (arith, below))

-- numbers stay where nothing is left out
abbrev pub AreNone : List ℕ → Type 0
AreNone counts = (k : ℕ) → slice_index_or counts k 0 ≡ 0

number_stays : (counts : List ℕ) → AreNone counts → (n : ℕ) → lowered counts n ≡ n
number_stays counts none n = omega (arith, none n)

map_stays : (f : ℕ → ℕ) → ((n : ℕ) → f n ≡ n) → (xs : List ℕ) → map f xs ≡ xs
map_stays f same [] = refl
map_stays f same (x ∷ xs) = ap (λ y. y ∷ map f xs) (same x) ∙ ap (λ ys. x ∷ ys) (map_stays f same xs)

reference_stays : (f : ℕ → ℕ) → ((n : ℕ) → f n ≡ n) → (r : Option ℕ) → option_map f r ≡ r
reference_stays f same None = refl
reference_stays f same (Some n) = ap Some (same n)

references_stay : (f : ℕ → ℕ) → ((n : ℕ) → f n ≡ n) → (rs : List (Option ℕ)) → map (option_map f) rs ≡ rs
references_stay f same [] = refl
references_stay f same (r ∷ rs) = ap (λ s. s ∷ map (option_map f) rs) (reference_stays f same r) ∙ ap (λ ss. r ∷ ss) (references_stay f same rs)

step_stays : (f g : ℕ → ℕ) → ((n : ℕ) → f n ≡ n) → ((n : ℕ) → g n ≡ n) → (step : Step) → step_by f g step ≡ step
step_stays f g facts bans (Vector output values) = refl
step_stays f g facts bans (Mismatch fails holds) = ap (λ n. Mismatch n (f holds)) (facts fails) ∙ ap (λ n. Mismatch fails n) (facts holds)
step_stays f g facts bans (Tally kind have lack) = ap (λ ns. Tally kind ns (map f lack)) (map_stays f facts have) ∙ ap (λ ns. Tally kind have ns) (map_stays f facts lack)
step_stays f g facts bans (Cover kind from to refs) = ap (λ rs. Cover kind from to rs) (references_stay g bans refs)

hint_by : (low within : Bool) (hint from start : ℕ) → from ≡ 0 → (cond low hint (cond within (hint - (from - start)) hint)) ≡ hint
hint_by true within hint from start none = refl
hint_by false true hint from start none = omega (arith, none)
hint_by false false hint from start none = refl

hint_stays : (counts : List ℕ) (link : Links) → AreNone counts → (hint : ℕ) → lowered_hint counts link hint ≡ hint
hint_stays counts link none hint = hint_by (nat_lt hint link.base) (nat_lt (hint - link.base) (length counts - link.start)) hint (slice_index_or counts (link.start + (hint - link.base)) 0) (slice_index_or counts link.start 0) (none (link.start + (hint - link.base)))

-- Nothing is left out.
pub record LeavesNone (lower : Lower) : Type 0 where
  pub records : AreNone lower.records
  pub facts : AreNone lower.facts
  pub bans : AreNone lower.bans

conclusion_stays : (lower : Lower) → LeavesNone lower → (conclusion : Conclusion) → lowered_conclusion lower conclusion ≡ conclusion
conclusion_stays lower none (NoneBan ban) = ap NoneBan (number_stays lower.bans none.bans ban)
conclusion_stays lower none NonePorts = refl
conclusion_stays lower none (Match pairs) = refl

record_stays : (lower : Lower) (link : Links) → LeavesNone lower → (entry : Record) → lowered_record lower link entry ≡ entry
record_stays lower link none record_of.Header = refl
record_stays lower link none (record_of.Fact head) = refl
record_stays lower link none (record_of.Line line) = ap (λ hints. record_of.Line (record { clause = line.clause; hints = hints })) (map_stays (lowered_hint lower.records link) (hint_stays lower.records link none.records) line.hints)
record_stays lower link none (record_of.Ban ban) = ap (λ step. record_of.Ban (record { pairs = ban.pairs; step = step })) (step_stays (lowered lower.facts) (lowered lower.bans) (number_stays lower.facts none.facts) (number_stays lower.bans none.bans) ban.step)
record_stays lower link none (record_of.Conclusion conclusion) = ap record_of.Conclusion (conclusion_stays lower none conclusion)
record_stays lower link none (record_of.DropFact fact) = refl
record_stays lower link none (record_of.DropBan ban) = refl
record_stays lower link none record_of.End = refl

-- a record has a line under its new numbers, where it had one
pub lowered_line : (lower : Lower) (link : Links) (entry : Record) → HasLine entry → HasLine (lowered_record lower link entry)
lowered_line lower link record_of.Header has = tt
lowered_line lower link (record_of.Fact head) has = tt
lowered_line lower link (record_of.Line line) has = tt
lowered_line lower link (record_of.Ban ban) has = tt
lowered_line lower link (record_of.Conclusion conclusion) has = tt
lowered_line lower link (record_of.DropFact fact) has = has
lowered_line lower link (record_of.DropBan ban) has = has
lowered_line lower link record_of.End has = tt

left_stay : (lower : Lower) (marks : List Bool) (links : List Links) (records : List Record) → LeavesNone lower → AllMarked marks → length marks ≡ length links → length links ≡ length records → left_by lower marks links records ≡ records
left_stay lower [] links [] none each many same = refl
left_stay lower [] [] (entry ∷ records) none each many same = absurd (omega (arith, same))
left_stay lower [] (link ∷ links) (entry ∷ records) none each many same = absurd (omega (arith, many))
left_stay lower (mark ∷ marks) [] records none each many same = absurd (omega (arith, many))
left_stay lower (mark ∷ marks) (link ∷ links) [] none each many same = absurd (omega (arith, same))
left_stay lower (true ∷ marks) (link ∷ links) (entry ∷ records) none each many same =
    ap (λ e. e ∷ left_by lower marks links records) (record_stays lower link none entry)
    ∙ ap (λ es. entry ∷ es) (left_stay lower marks links records none (All-tail (λ m. m ≡ true) true marks each) (omega (arith, many)) (omega (arith, same)))
left_stay lower (false ∷ marks) (link ∷ links) (entry ∷ records) none each many same = absurd (false≢true (All-head (λ m. m ≡ true) false marks each))

-- all that is reached is left as it is
pub reached_stay : (graphs : Graphs) (records : List Record) (marks : List Bool) → AllMarked marks → length marks ≡ length (links_of graphs records) → length (links_of graphs records) ≡ length records → left_of graphs records marks ≡ records
reached_stay graphs records marks each many same =
    left_stay (lower_by (places_of graphs records) marks) marks (links_of graphs records) records
    (record {
      records = no_counts marks each;
      facts = no_counts (marks_at marks (places_of graphs records).facts) (all_there marks (places_of graphs records).facts each);
      bans = no_counts (marks_at marks (places_of graphs records).bans) (all_there marks (places_of graphs records).bans each);
    })
    each many same
