-- The records that are marked are written one after another.
use Rattle.std.proofs.Common.{◌≡◌, ℕ, suc, ◌+◌, ◌<◌, ◌≤◌, Bool, true, false, cond, List, [], ◌∷◌, ◌++◌, length, drop, All, slice_index_or, append_assoc, refl, sym, ap, subst, ◌∙◌, arith}
use Rattle.std.specs.List.{flat_map}
use Rattle.std.proofs.lemmas.List.{drop-drop, drop_more}
use Rattle.std.proofs.lemmas.List.Elements.{All-cons}
use Rattle.account_file.specs.declared.record.Record.{Record}
use Rattle.account_file.specs.Spelling.{HasLine, IsWritable, record_line}
use Rattle.circuits.specs.Literals.{bit}
use Rattle.account_trim.specs.declared.links.Links.{Links}
use Rattle.account_trim.specs.declared.lowering.Lower.{Lower}
use Rattle.account_trim.specs.Lowered.{HaveLines, left_by, lowered_record, marked}

-- the records that are left from a place on
abbrev left_from : Lower → List Bool → List Links → List Record → ℕ → List Record
left_from lower marks links records i = left_by lower (drop i marks) (drop i links) (drop i records)

-- Records are written up to a place: what was written, with what is left from there on, is the whole; and the records from there
-- on are as they were.
pub record IsWriting (lower : Lower) (marks : List Bool) (links : List Links) (records : List Record) (start : List ℕ) (place : ℕ) (now : List Record) (out : List ℕ) (count : ℕ) : Type 0 where
  pub as_many : length now ≡ length records
  pub rest : drop place now ≡ drop place records
  pub text : out ++ flat_map record_line (left_from lower marks links records place) ≡ start ++ flat_map record_line (left_by lower marks links records)
  pub writable : All IsWritable (left_from lower marks links records place) → All IsWritable (left_by lower marks links records)
  pub count_is : count + length (left_from lower marks links records place) ≡ length (left_by lower marks links records)
  pub few : count ≤ place

-- those from a place on are that of the place, if it is marked, and those after it
by_mark : (lower : Lower) (mark : Bool) (marks : List Bool) (link : Links) (links : List Links) (entry : Record) (records : List Record) → left_by lower (mark ∷ marks) (link ∷ links) (entry ∷ records) ≡ cond mark (lowered_record lower link entry ∷ []) [] ++ left_by lower marks links records
by_mark lower true marks link links entry records = refl
by_mark lower false marks link links entry records = refl

next_left : (lower : Lower) (marks : List Bool) (links : List Links) (records : List Record) (i : ℕ) (link : Links) (entry : Record) → i < length marks → i < length links → i < length records
    → left_from lower marks links records i ≡ cond (bit marks i) (lowered_record lower (slice_index_or links i link) (slice_index_or records i entry) ∷ []) [] ++ left_from lower marks links records (i + 1)
next_left lower marks links records i link entry of_marks of_links of_records =
    ap (λ ms. left_by lower ms (drop i links) (drop i records)) (drop_more marks i false of_marks)
    ∙ (ap (λ ls. left_by lower (bit marks i ∷ drop (i + 1) marks) ls (drop i records)) (drop_more links i link of_links)
    ∙ (ap (λ rs. left_by lower (bit marks i ∷ drop (i + 1) marks) (slice_index_or links i link ∷ drop (i + 1) links) rs) (drop_more records i entry of_records)
    ∙ by_mark lower (bit marks i) (drop (i + 1) marks) (slice_index_or links i link) (drop (i + 1) links) (slice_index_or records i entry) (drop (i + 1) records)))

-- its line
one_line : (mark : Bool) (entry : Record) (rest : List Record) → flat_map record_line (cond mark (entry ∷ []) [] ++ rest) ≡ cond mark (record_line entry) [] ++ flat_map record_line rest
one_line true entry rest = refl
one_line false entry rest = refl

one_writable : (mark : Bool) (entry : Record) (rest : List Record) → (mark ≡ true → IsWritable entry) → All IsWritable rest → All IsWritable (cond mark (entry ∷ []) [] ++ rest)
one_writable true entry rest can all = All-cons IsWritable entry rest (can refl) all
one_writable false entry rest can all = all

one_counted : (mark : Bool) (entry : Record) (rest : List Record) → length (cond mark (entry ∷ []) [] ++ rest) ≡ cond mark 1 0 + length rest
one_counted true entry rest = omega arith
one_counted false entry rest = omega arith

at_most_one : (mark : Bool) → cond mark 1 0 ≤ 1
at_most_one true = omega arith
at_most_one false = omega arith

-- one record more
pub writing_more : (lower : Lower) (marks : List Bool) (links : List Links) (records : List Record) (start : List ℕ) (i : ℕ) (now more : List Record) (out next : List ℕ) (count written : ℕ) (mark : Bool) (link : Links) (entry : Record)
    → i < length marks → i < length links → i < length records
    → mark ≡ bit marks i
    → link ≡ slice_index_or links i link
    → entry ≡ slice_index_or now i entry
    → length more ≡ length now
    → drop (i + 1) more ≡ drop (i + 1) now
    → next ≡ out ++ cond mark (record_line (lowered_record lower link entry)) []
    → (mark ≡ true → IsWritable (lowered_record lower link entry))
    → written ≡ cond mark 1 0
    → IsWriting lower marks links records start i now out count
    → IsWriting lower marks links records start (i + 1) more next (count + written)
writing_more lower marks links records start i now more out next count written mark link entry of_marks of_links of_records mark_is link_is entry_is many after next_is can written_is was = record {
  as_many = many ∙ was.as_many;
  rest = after ∙ later;
  text =
      ap (λ l. l ++ flat_map record_line rest) next_is
      ∙ (append_assoc out (cond mark (record_line one) []) (flat_map record_line rest)
      ∙ (ap (λ l. out ++ l) (sym (one_line mark one rest))
      ∙ (ap (λ l. out ++ flat_map record_line l) (sym parts)
      ∙ was.text)));
  writable = λ all. was.writable (subst (All IsWritable) (sym parts) (one_writable mark one rest can all));
  count_is = omega (arith, was.count_is, ap length parts, one_counted mark one rest, written_is);
  few = omega (arith, was.few, written_is, at_most_one mark);
}
  where
    one : Record
    one = lowered_record lower link entry

    rest : List Record
    rest = left_from lower marks links records (i + 1)

    later : drop (i + 1) now ≡ drop (i + 1) records
    later = sym (drop-drop 1 i now) ∙ (ap (drop 1) was.rest ∙ drop-drop 1 i records)

    there : i < length now
    there = omega (arith, of_records, was.as_many)

    same : entry ≡ slice_index_or records i entry
    same =
        let heads : slice_index_or now i entry ∷ drop (i + 1) now ≡ slice_index_or records i entry ∷ drop (i + 1) records = sym (drop_more now i entry there) ∙ (was.rest ∙ drop_more records i entry of_records) in
        entry_is ∙ ap (λ l. slice_index_or l 0 entry) heads

    parts : left_from lower marks links records i ≡ cond mark (one ∷ []) [] ++ rest
    parts =
        next_left lower marks links records i link entry of_marks of_links of_records
        ∙ (ap (λ b. cond b (lowered_record lower (slice_index_or links i link) (slice_index_or records i entry) ∷ []) [] ++ rest) (sym mark_is)
        ∙ (ap (λ l. cond mark (lowered_record lower l (slice_index_or records i entry) ∷ []) [] ++ rest) (sym link_is)
        ∙ ap (λ e. cond mark (lowered_record lower link e ∷ []) [] ++ rest) (sym same)))

-- the record of a place has a line, if it is marked
pub line_there : (lower : Lower) (marks : List Bool) (links : List Links) (records : List Record) (start : List ℕ) (i : ℕ) (now : List Record) (out : List ℕ) (count : ℕ) (mark : Bool) (entry : Record)
    → i < length records → mark ≡ bit marks i → entry ≡ slice_index_or now i entry → HaveLines marks records
    → IsWriting lower marks links records start i now out count
    → mark ≡ true → HasLine entry
line_there lower marks links records start i now out count mark entry below mark_is entry_is lines was marked =
    let there : i < length now = omega (arith, below, was.as_many) in
    let heads : slice_index_or now i entry ∷ drop (i + 1) now ≡ slice_index_or records i entry ∷ drop (i + 1) records =
    sym (drop_more now i entry there) ∙ (was.rest ∙ drop_more records i entry below) in
    subst HasLine (sym (entry_is ∙ ap (λ l. slice_index_or l 0 entry) heads)) (lines i entry below (sym mark_is ∙ marked))

-- What was written of all records.
pub record IsWritten (lower : Lower) (marks : List Bool) (links : List Links) (records : List Record) (start out : List ℕ) (count : ℕ) : Type 0 where
  pub text : out ≡ start ++ flat_map record_line (left_by lower marks links records)
  pub writable : All IsWritable (left_by lower marks links records)
  pub count_is : count ≡ length (left_by lower marks links records)

-- there are as many as are marked
pub left_counted : (lower : Lower) (marks : List Bool) (links : List Links) (records : List Record) → length marks ≡ length links → length links ≡ length records → length (left_by lower marks links records) ≡ marked marks
left_counted lower [] links records many same = refl
left_counted lower (mark ∷ marks) [] records many same = absurd (omega (arith, many))
left_counted lower (mark ∷ marks) (link ∷ links) [] many same = absurd (omega (arith, same))
left_counted lower (true ∷ marks) (link ∷ links) (entry ∷ records) many same = ap suc (left_counted lower marks links records (omega (arith, many)) (omega (arith, same)))
left_counted lower (false ∷ marks) (link ∷ links) (entry ∷ records) many same = left_counted lower marks links records (omega (arith, many)) (omega (arith, same))
