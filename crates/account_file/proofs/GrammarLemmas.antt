-- The lines of an account are read word by word, and what is read is written so.
use Rattle.std.proofs.Common.{◌≡◌, ℕ, Bool, true, codes, List, [], ◌∷◌, ◌++◌, map, All, Result, Err, refl, ap}
use Rattle.std.specs.Fmt.{decimal}
use Rattle.std.proofs.lemmas.List.{append-nil}
use Rattle.claim_core.specs.declared.claims.Shape.{Shape}
use Rattle.claim_core.specs.declared.claims.Shape.TheVariants.{Up, Down, Swap}
use Rattle.claim_core.specs.declared.claims.Claim.{Claim}
use Rattle.account_core.specs.declared.conclusion.Conclusion.TheVariants.{NonePorts, NoneBan, Match}
use Rattle.account_core.specs.declared.fact.FactHead.TheVariants.{Fails, Holds}
use Rattle.account_core.specs.declared.step.Step.{Step}
use Rattle.account_core.specs.declared.step.Step.TheVariants.{Vector, Mismatch, Tally, Cover}
use Rattle.account_file.specs.declared.record.Record.{Record}
use Rattle.account_file.specs.declared.record.Record.TheVariants as record_of
use Rattle.account_file.specs.declared.fault.RecordFault.{RecordFault}
use Rattle.account_file.specs.declared.fault.RecordFault.TheVariants.{Word}
use Rattle.account_file.specs.declared.names.RecordName.{RecordName}
use Rattle.account_file.specs.declared.names.RecordName.TheVariants as record_name
use Rattle.account_file.specs.declared.names.ShapeName.{ShapeName}
use Rattle.account_file.specs.declared.names.ShapeName.TheVariants as shape_name
use Rattle.account_file.specs.declared.names.StepName.{StepName}
use Rattle.account_file.specs.declared.names.StepName.TheVariants as step_name
use Rattle.account_file.specs.declared.names.NoneName.{NoneName}
use Rattle.account_file.specs.declared.names.NoneName.TheVariants as none_name
use Rattle.account_bytes.specs.Bodies.{ShapeHasPorts, ClaimHasPorts}
use Rattle.account_file.specs.Spelling.{pair_word, reference_word, tallied_word, kind_word, shape_words, claim_words, step_words, StepHasNumbers}
use Rattle.account_file.specs.Forms.{Parsed, followed, next_by, list_by, last_part, named, is_separator, number_of, port_of, literal_of, reference_of, pair_of, bits_of, tris_of, two_bits_of, side_of, kind_of, tallied_of, shape_name_of, shape_word, step_name_of, step_word, none_name_of, none_word, record_name_of, record_word, shape_by, shape_of, claim_of, step_by, step_of, none_by, record_by, record_in}
use Rattle.account_file.proofs.ReadLemmas.{Words, Rest, CanEnd, IsRead, IsWord, next_read, list_read, end_named, end_last, last_read, nested_read, nested_end}
use Rattle.account_file.proofs.ValueLemmas.{port_is_word, number_is_word, literal_word, literal_is_word, reference_is_word, pair_is_word}
use Rattle.account_file.proofs.NameLemmas.{IsBack, side_is_word, kind_is_word, tallied_is_word, shape_name_is_word, step_name_is_word, none_name_is_word, record_name_is_word, bytes_show, named_is_word, named_self, bits_is_word, tris_is_word, two_bits_is_word}

-- a word of a part, and what follows it
then_word : {X Y : Type 0} {spell : X → List ℕ} {IsFit : X → Type 0} {front : Words → Words} (read : List ℕ → Result X RecordFault) (q : X → Words → Parsed Y) (k : Y → Rest) → IsWord read spell IsFit
    → ((x : X) → IsFit x → IsRead (λ l. front (spell x ∷ l)) (λ words. followed (q x words) k)) → IsRead front (λ words. followed (followed (next_by read words) q) k)
then_word {X} {Y} {spell} {IsFit} {front} read q k w r = nested_read (next_by read) q k (next_read read w (λ x after. followed (q x after) k) r)

-- a list of a part, and what follows it
then_list : {X Y : Type 0} {spell : X → List ℕ} {IsFit : X → Type 0} {front : Words → Words} (read : List ℕ → Result X RecordFault) (q : List X → Words → Parsed Y) (k : Y → Rest) → IsWord read spell IsFit
    → ((xs : List X) → All IsFit xs → IsRead (λ l. front (map spell xs ++ l)) (λ words. followed (q xs words) k))
    → ((xs : List X) → All IsFit xs → CanEnd (λ words. followed (q xs words) k))
    → IsRead front (λ words. followed (followed (list_by read words) q) k)
then_list {X} {Y} {spell} {IsFit} {front} read q k w r c = nested_read (list_by read) q k (list_read read w (λ xs after. followed (q xs after) k) (record { reads = r; ends = c }))

then_end : {Y : Type 0} {front : Words → Words} (name : List ℕ) (q : Bool → Words → Parsed Y) (k : Y → Rest) → is_separator name ≡ true
    → IsRead front (λ words. followed (q true words) k) → CanEnd (λ words. followed (followed (next_by (named name) words) q) k)
then_end {Y} {front} name q k ends r = nested_end (next_by (named name)) q k (end_named name (λ x after. followed (q x after) k) ends (named_self name) r)

-- a list that a name ends
closed_list : {X Y : Type 0} {spell : X → List ℕ} {IsFit : X → Type 0} {front : Words → Words} (read : List ℕ → Result X RecordFault) (name : List ℕ) (q : List X → Bool → Words → Parsed Y) (k : Y → Rest) → IsWord read spell IsFit
    → is_separator name ≡ true → bytes_show name ≡ true → named name (codes "0") ≡ Err Word
    → ((xs : List X) (b : Bool) → All IsFit xs → IsRead (λ l. front (map spell xs ++ name ∷ l)) (λ words. followed (q xs b words) k))
    → IsRead front (λ words. followed (followed (list_by read words) (λ xs after. followed (next_by (named name) after) (q xs))) k)
closed_list {X} {Y} {spell} {IsFit} {front} read name q k w ends shows zero r =
    then_list read (λ xs after. followed (next_by (named name) after) (q xs)) k w
    (λ xs fit. then_word (named name) (q xs) k (named_is_word name zero shows) (λ b is. r xs b fit))
    (λ xs fit. then_end name (q xs) k ends (r xs true fit))

-- claims

shape_read : {front : Words → Words} (k : Shape → Rest) → ((shape : Shape) → ShapeHasPorts shape → IsRead (λ l. front (shape_words shape ++ l)) (k shape)) → IsRead front (λ words. followed (shape_of words) k)
shape_read {front} k r = then_word shape_name_of _ k shape_name_is_word by
  where
    by : (name : ShapeName) → IsBack shape_name_of shape_word name → IsRead (λ l. front (shape_word name ∷ l)) (λ words. followed (shape_by name words) k)
    by shape_name.Up is = then_word port_of _ k port_is_word (λ i fit. r (Up i) fit)
    by shape_name.Down is = then_word port_of _ k port_is_word (λ i fit. r (Down i) fit)
    by shape_name.Swap is =
        then_word port_of _ k port_is_word
        (λ i one. then_word port_of _ k port_is_word
        (λ j other. then_word two_bits_of _ k two_bits_is_word
        (λ bits any. r (Swap i j bits.0 bits.1) (one, other))))

claim_read : {front : Words → Words} (k : Claim → Rest) → ((claim : Claim) → ClaimHasPorts claim → IsRead (λ l. front (claim_words claim ++ l)) (k claim)) → IsRead front (λ words. followed (claim_of words) k)
claim_read {front} k r =
    then_word side_of _ k side_is_word
    (λ side is. then_word port_of _ k port_is_word
    (λ output fit. nested_read shape_of _ k (shape_read _
    (λ shape fits. r (record { side = side; output = output; shape = shape }) (record { output = fit; shape = fits })))))

-- steps, which end a line

step_read : {front : Words → Words} (k : Step → Rest)
    → ((step : Step) → StepHasNumbers step → (all : Words → Words) → all [] ≡ front (step_words step) → IsRead all (k step))
    → ((step : Step) → CanEnd (k step)) → IsRead front (λ words. followed (step_of words) k)
step_read {front} k r c = then_word step_name_of _ k step_name_is_word by
  where
    by : (name : StepName) → IsBack step_name_of step_word name → IsRead (λ l. front (step_word name ∷ l)) (λ words. followed (step_by name words) k)
    by step_name.Vector is =
        then_word port_of _ k port_is_word
        (λ output fit. then_word tris_of _ k tris_is_word
        (λ tris any. r (Vector output tris) fit _ refl))
    by step_name.Mismatch is =
        then_word number_of _ k number_is_word
        (λ fails one. then_word number_of _ k number_is_word
        (λ holds other. r (Mismatch fails holds) (one, other) _ refl))
    by step_name.Tally is =
        then_word tallied_of _ k tallied_is_word
        (λ kind known. closed_list number_of (codes "/") _ k number_is_word refl refl refl
        (λ have slash one. then_list number_of _ k number_is_word
        (λ lack other. r (Tally kind have lack) (one, other) _ (ap (λ l. front (codes "tally" ∷ tallied_word kind ∷ map decimal have ++ codes "/" ∷ l)) (append-nil (map decimal lack))))
        (λ lack other. c (Tally kind have lack))))
    by step_name.Cover is =
        then_word kind_of _ k kind_is_word
        (λ kind known. closed_list port_of (codes "/") _ k port_is_word refl refl refl
        (λ from slash one. closed_list port_of (codes "/") _ k port_is_word refl refl refl
        (λ to second other. then_list reference_of _ k reference_is_word
        (λ refs fit. r (Cover kind from to refs) (one, (other, fit)) _ (ap (λ l. front (codes "cover" ∷ kind_word kind ∷ (map decimal from ++ codes "/" ∷ (map decimal to ++ codes "/" ∷ l)))) (append-nil (map reference_word refs))))
        (λ refs fit. c (Cover kind from to refs)))))

-- records

abbrev ends : Record → Rest
ends entry words = last_part entry words

by_none : (name : NoneName) → IsBack none_name_of none_word name → IsRead (λ l. codes "none" ∷ none_word name ∷ l) (λ words. followed (none_by name words) ends)
by_none none_name.Ports is = last_read (record_of.Conclusion NonePorts) refl tt
by_none none_name.Ban is = then_word number_of _ ends number_is_word (λ ban fit. last_read (record_of.Conclusion (NoneBan ban)) refl fit)

by_name : (name : RecordName) → IsBack record_name_of record_word name → IsRead (λ l. record_word name ∷ l) (λ words. followed (record_by name words) ends)
by_name record_name.Header is = then_word (named (codes "1")) _ ends (named_is_word (codes "1") refl refl) (λ version same. last_read record_of.Header refl tt)
by_name record_name.Fails is =
    nested_read claim_of _ ends (claim_read _ (λ claim fit. then_word bits_of _ ends bits_is_word (λ bits any. last_read (record_of.Fact (Fails claim bits)) refl fit)))
by_name record_name.Holds is =
    nested_read claim_of _ ends (claim_read _ (λ claim fit. last_read (record_of.Fact (Holds claim)) (ap (λ l. codes "holds" ∷ l) (append-nil (claim_words claim))) fit))
by_name record_name.Line is =
    closed_list literal_of (codes ":") _ ends literal_is_word refl refl refl
    (λ clause colon fit. then_list number_of _ ends number_is_word
    (λ hints fits. last_read (record_of.Line (record { clause = clause; hints = hints })) (ap (λ l. codes "l" ∷ map literal_word clause ++ codes ":" ∷ l) (append-nil (map decimal hints))) (record { literals = fit; hints = fits }))
    (λ hints fits. end_last (record_of.Line (record { clause = clause; hints = hints }))))
by_name record_name.Ban is =
    closed_list pair_of (codes ":") _ ends pair_is_word refl refl refl
    (λ pairs colon fit. nested_read step_of _ ends (step_read _
    (λ step fits all is. last_read (record_of.Ban (record { pairs = pairs; step = step })) is (record { pairs = fit; step = fits }))
    (λ step. end_last (record_of.Ban (record { pairs = pairs; step = step })))))
by_name record_name.None is = then_word none_name_of _ ends none_name_is_word by_none
by_name record_name.Match is =
    then_list pair_of _ ends pair_is_word
    (λ pairs fit. last_read (record_of.Conclusion (Match pairs)) (ap (λ l. codes "match" ∷ l) (append-nil (map pair_word pairs))) fit)
    (λ pairs fit. end_last (record_of.Conclusion (Match pairs)))
by_name record_name.End is = last_read record_of.End refl tt

pub line_is_read : IsRead (λ l. l) record_in
line_is_read = then_word record_name_of _ ends record_name_is_word by_name
