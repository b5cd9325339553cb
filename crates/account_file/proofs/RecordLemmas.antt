-- Records as they are written are those that are read.
use Rattle.std.proofs.Common.{◌≡◌, ℕ, true, cond, List, [], ◌∷◌, ◌++◌, map, All, codes, Result, Ok, refl, sym, ap, ◌∙◌, append-nil}
use Rattle.std.specs.Fmt.{decimal}
use Rattle.std.proofs.lemmas.List.{append_cancel_right}
use Rattle.std.proofs.lemmas.List.Elements.{All-head, All-tail}
use Rattle.text_core.specs.Lines.{IsLine}
use Rattle.claim_core.specs.declared.claims.Shape.{Shape}
use Rattle.claim_core.specs.declared.claims.Shape.TheVariants.{Up, Down, Swap}
use Rattle.claim_core.specs.declared.claims.Claim.{Claim}
use Rattle.account_core.specs.declared.conclusion.Conclusion.TheVariants.{NoneBan, Match}
use Rattle.account_core.specs.declared.fact.FactHead.TheVariants.{Fails, Holds}
use Rattle.account_core.specs.declared.step.Step.{Step}
use Rattle.account_core.specs.declared.step.Step.TheVariants.{Vector, Mismatch, Tally, Cover}
use Rattle.account_file.specs.declared.record.Record.{Record}
use Rattle.account_file.specs.declared.record.Record.TheVariants as record_of
use Rattle.account_file.specs.declared.fault.RecordFault.{RecordFault}
use Rattle.account_file.specs.Forms.{Parsed, followed, with_words, next_by, with_item, list_by, last_part, bits_of, shape_of, claim_of, step_of, record_in_front, record_in}
use Rattle.account_file.specs.Words.{words_of}
use Rattle.account_bytes.specs.Bodies.{ShapeHasPorts, ClaimHasPorts}
use Rattle.account_file.specs.Spelling.{bits_word, tris_word, reference_word, shape_words, claim_words, step_words, first_word, other_words, line_text, record_line, StepHasNumbers, IsWritable}
use Rattle.account_file.proofs.GrammarLemmas.{line_is_read}
use Rattle.account_file.proofs.NameLemmas.{side_is_word, side_back, kind_is_word, kind_back, tallied_is_word, tallied_back, bits_is_word, tris_is_word, two_bits_word, two_bits_is_word}
use Rattle.account_file.proofs.ReadLemmas.{IsWord, record_words, stops, list_stops}
use Rattle.account_file.proofs.SpellingLemmas.{IsVisible, words_spaced, line_spaced_words, spaced_words}
use Rattle.account_file.proofs.ValueLemmas.{AreItems, port_is_word, port_items, number_is_word, number_is_item, literal_is_word, literal_items, reference_is_word, reference_items, pair_is_word, pair_items}

-- what is written is read

module _ {X : Type 0} {read : List ℕ → Result X RecordFault} {spell : X → List ℕ} {IsFit : X → Type 0} (w : IsWord read spell IsFit) where
  give : {Y : Type 0} (x : X) (after : List (List ℕ)) (k : X → List (List ℕ) → Result Y RecordFault) → IsFit x → followed (next_by read (spell x ∷ after)) k ≡ k x after
  give {Y} x after k fit = ap (λ a. followed (with_words a after) k) (w.back x fit)

  list_back : AreItems spell IsFit → (xs : List X) (after : List (List ℕ)) → All IsFit xs → stops after ≡ true → list_by read (map spell xs ++ after) ≡ Ok (xs, after)
  list_back items [] after fit ends = list_stops read after ends
  list_back items (x ∷ xs) after fit ends =
      let first = All-head IsFit x xs fit in
      let rest : List (List ℕ) = map spell xs ++ after in
      ap (λ b. cond b (Ok ([], spell x ∷ rest)) (with_item (read (spell x)) (list_by read rest))) (items x first)
      ∙ ap (λ a. with_item a (list_by read rest)) (w.back x first)
      ∙ ap (λ r. with_item (Ok x) r) (list_back items xs after (All-tail IsFit x xs fit) ends)

  give_list : {Y : Type 0} → AreItems spell IsFit → (xs : List X) (after : List (List ℕ)) (k : List X → List (List ℕ) → Result Y RecordFault) → All IsFit xs → stops after ≡ true
      → followed (list_by read (map spell xs ++ after)) k ≡ k xs after
  give_list {Y} items xs after k fit ends = ap (λ a. followed a k) (list_back items xs after fit ends)

  give_last : {Y : Type 0} → AreItems spell IsFit → (xs : List X) (k : List X → List (List ℕ) → Result Y RecordFault) → All IsFit xs → followed (list_by read (map spell xs)) k ≡ k xs []
  give_last {Y} items xs k fit = ap (λ l. followed (list_by read l) k) (sym (append-nil (map spell xs))) ∙ give_list items xs [] k fit refl

shape_back : (shape : Shape) (after : List (List ℕ)) → ShapeHasPorts shape → shape_of (shape_words shape ++ after) ≡ Ok (shape, after)
shape_back (Up i) after fit = give port_is_word i after _ fit
shape_back (Down i) after fit = give port_is_word i after _ fit
shape_back (Swap i j a b) after fit =
    give port_is_word i (decimal j ∷ two_bits_word (a, b) ∷ after) _ fit.0
    ∙ give port_is_word j (two_bits_word (a, b) ∷ after) _ fit.1
    ∙ give two_bits_is_word (a, b) after _ tt

claim_back : (claim : Claim) (after : List (List ℕ)) → ClaimHasPorts claim → claim_of (claim_words claim ++ after) ≡ Ok (claim, after)
claim_back claim after fit =
    give side_is_word claim.side (decimal claim.output ∷ shape_words claim.shape ++ after) _ (side_back claim.side)
    ∙ give port_is_word claim.output (shape_words claim.shape ++ after) _ fit.output
    ∙ ap (λ (a : Parsed Shape). followed a (λ shape words. Ok (record { side = claim.side; output = claim.output; shape = shape }, words))) (shape_back claim.shape after fit.shape)

step_back : (step : Step) → StepHasNumbers step → step_of (step_words step) ≡ Ok (step, [])
step_back (Vector output tris) fit =
    give port_is_word output (tris_word tris ∷ []) _ fit ∙ give tris_is_word tris [] _ tt
step_back (Mismatch fails holds) fit =
    give number_is_word fails (decimal holds ∷ []) _ fit.0 ∙ give number_is_word holds [] _ fit.1
step_back (Tally kind have lack) fit =
    give tallied_is_word kind (map decimal have ++ codes "/" ∷ map decimal lack) _ (tallied_back kind)
    ∙ give_list number_is_word number_is_item have (codes "/" ∷ map decimal lack) _ fit.0 refl
    ∙ give_last number_is_word number_is_item lack _ fit.1
step_back (Cover kind from to refs) fit =
    give kind_is_word kind (map decimal from ++ codes "/" ∷ (map decimal to ++ codes "/" ∷ map reference_word refs)) _ (kind_back kind)
    ∙ give_list port_is_word port_items from (codes "/" ∷ (map decimal to ++ codes "/" ∷ map reference_word refs)) _ fit.0 refl
    ∙ give_list port_is_word port_items to (codes "/" ∷ map reference_word refs) _ fit.1.0 refl
    ∙ give_last reference_is_word reference_items refs _ fit.1.1

front_back : (entry : Record) → IsWritable entry → record_in_front (record_words entry) ≡ Ok (entry, [])
front_back (record_of.Fact (Fails claim bits)) w =
    ap (λ (a : Parsed Claim). followed a (λ claim words. followed (next_by bits_of words) (λ bits words. Ok (record_of.Fact (Fails claim bits), words)))) (claim_back claim (bits_word bits ∷ []) w)
    ∙ give bits_is_word bits [] _ tt
front_back (record_of.Fact (Holds claim)) w =
    ap (λ l. followed (claim_of l) (λ claim words. Ok (record_of.Fact (Holds claim), words))) (sym (append-nil (claim_words claim)))
    ∙ ap (λ (a : Parsed Claim). followed a (λ claim words. Ok (record_of.Fact (Holds claim), words))) (claim_back claim [] w)
front_back (record_of.Line line) w =
    give_list literal_is_word literal_items line.clause (codes ":" ∷ map decimal line.hints) _ w.literals refl
    ∙ give_last number_is_word number_is_item line.hints _ w.hints
front_back (record_of.Ban ban) w =
    give_list pair_is_word pair_items ban.pairs (codes ":" ∷ step_words ban.step) _ w.pairs refl
    ∙ ap (λ (a : Parsed Step). followed a (λ step words. Ok (record_of.Ban (record { pairs = ban.pairs; step = step }), words))) (step_back ban.step w.step)
front_back (record_of.Conclusion (NoneBan ban)) w = give number_is_word ban [] _ w
front_back (record_of.Conclusion (Match pairs)) w = give_last pair_is_word pair_items pairs _ w
front_back (record_of.DropFact fact) w = absurd w
front_back (record_of.DropBan ban) w = absurd w
front_back other w = refl

pub record_read : (entry : Record) → IsWritable entry → record_in (record_words entry) ≡ Ok entry
record_read entry w = ap (λ (a : Parsed Record). followed a (λ entry words. last_part entry words)) (front_back entry w)

-- lines

-- what is written has no blank and no control, since it is read
shown : (entry : Record) → IsWritable entry → IsVisible (first_word entry) × All IsVisible (other_words entry)
shown entry w =
    let all = ((line_is_read.each (record_words entry)).written entry (record_read entry w)).visible in
    (All-head IsVisible (first_word entry) (other_words entry) all, All-tail IsVisible (first_word entry) (other_words entry) all)

pub line_text_is_line : (entry : Record) → IsWritable entry → IsLine (line_text entry)
line_text_is_line entry w = line_spaced_words (first_word entry) (other_words entry) (shown entry w).0 (shown entry w).1

pub text_words : (entry : Record) → IsWritable entry → words_of (line_text entry) ≡ first_word entry ∷ other_words entry
text_words entry w = words_spaced (first_word entry) (other_words entry) (shown entry w).0 (shown entry w).1

-- a line that is written is read
pub written_is_read : (entry : Record) (line : List ℕ) → IsWritable entry → record_line entry ≡ line ++ 10 ∷ [] → record_in (words_of line) ≡ Ok entry
written_is_read entry line w e =
    ap (λ l. record_in (words_of l)) (append_cancel_right line (line_text entry) (10 ∷ []) (sym e)) ∙ ap record_in (text_words entry w) ∙ record_read entry w

-- what is read is written as the line, and can be written
pub read_is_written : (line : List ℕ) (entry : Record) → record_in (words_of line) ≡ Ok entry → (record_line entry ≡ line ++ 10 ∷ []) × IsWritable entry
read_is_written line entry e =
    let found = (line_is_read.each (words_of line)).written entry e in
    (ap (λ l. l ++ 10 ∷ []) (sym (spaced_words line (first_word entry) (other_words entry) found.same)), found.writable)
