-- Lists of numbers and lines as bytes, written and read.
use Rattle.std.proofs.Common.{◌≡◌, ℕ, zero, suc, ◌+◌, ◌/◌, ◌%◌, ◌<◌, ◌≤◌, List, [], ◌∷◌, ◌++◌, length, drop, take, All, get_or, Result, Ok, Err, IfOk, OnOk, sym, ap, ◌∙◌, append_assoc, append-nil, arith}
use Rattle.std.proofs.Math.Dec.{ltb}
use Rattle.std.proofs.lemmas.Bool.{cond_both}
use Rattle.std.proofs.lemmas.List.{drop_all, drop_at, drop_more, get_or_default, get_or-map, length-append, length-map, take_all, take_more}
use Rattle.std.proofs.lemmas.List.Elements.{All-get_or}
use Rattle.cnf_core.specs.declared.literal.SatLit.{SatLit}
use Rattle.cnf_core.specs.declared.log.LogLine.{LogLine}
use Rattle.text_core.specs.Groups.{groups}
use Rattle.text_core.proofs.Extending.{one_part}
use Rattle.line_codec.specs.LineBytes.{AreWords, IsOfWords, IsWord, ReadsBack, clause_bytes, line_bytes, literal_numbers, number_bytes, numbers_bytes, delta_bytes, deltas_bytes}

-- ---- written

-- one number more, of those that are left
pub deltas_more : (now new : List ℕ) (from to : ℕ) (numbers whole : List ℕ) (k : ℕ) (d : ℕ) → k < length numbers → to ≡ get_or numbers k d → now ++ deltas_bytes from (drop k numbers) ≡ whole → new ≡ now ++ delta_bytes from to → new ++ deltas_bytes to (drop (k + 1) numbers) ≡ whole
deltas_more now new from to numbers whole k d there to_is before put =
    let left : drop k numbers ≡ to ∷ drop (k + 1) numbers = drop_more numbers k d there ∙ ap (λ n. n ∷ drop (k + 1) numbers) (sym to_is) in
    one_part now new (delta_bytes from to) (deltas_bytes to (drop (k + 1) numbers)) whole (ap (λ ns. now ++ deltas_bytes from ns) (sym left) ∙ before) put

-- all of them
pub deltas_all : (now whole : List ℕ) (from : ℕ) (numbers : List ℕ) (k : ℕ) → length numbers ≤ k → now ++ deltas_bytes from (drop k numbers) ≡ whole → now ≡ whole
deltas_all now whole from numbers k past before =
    sym (append-nil now) ∙ (ap (λ ns. now ++ deltas_bytes from ns) (sym (drop_all k numbers past)) ∙ before)

-- a list's length and its numbers have 64 bits, where all was written
pub clause_words : {E : Type 0} (r : Result (Unit {0}) E) (clause : List SatLit) (count : ℕ) → count ≡ length clause → IsWord count → OnOk r (All IsWord (literal_numbers clause)) → OnOk r (AreWords (literal_numbers clause))
clause_words (Ok done) clause count is word each = record {
  few = omega (arith, is, word, length-map clause (λ (l : SatLit). l.0));
  each = each;
}
clause_words (Err e) clause count is word each = tt

pub hints_words : {E : Type 0} (r : Result (Unit {0}) E) (hints : List ℕ) (count : ℕ) → count ≡ length hints → IsWord count → OnOk r (All IsWord hints) → OnOk r (AreWords hints)
hints_words (Ok done) hints count is word each = record { few = omega (arith, is, word); each = each }
hints_words (Err e) hints count is word each = tt

pub line_words : {E : Type 0} (r : Result (Unit {0}) E) (line : LogLine) → AreWords (literal_numbers line.clause) → OnOk r (AreWords line.hints) → OnOk r (IsOfWords line)
line_words (Ok done) line clause hints = record { clause = clause; hints = hints }
line_words (Err e) line clause hints = tt

-- ---- read

abbrev as_literal : ℕ → SatLit
as_literal n = record { 0 = n }

-- The next of some numbers was read, and the others are left.
pub record IsNext (numbers rest : List ℕ) (count to : ℕ) (bytes : List ℕ) : Type 0 where
  pub number_is : (d : ℕ) → to ≡ get_or numbers count d
  pub left : bytes ≡ deltas_bytes to (drop (count + 1) numbers) ++ rest

pub next_is : (numbers rest : List ℕ) (from to count : ℕ) (before after : List ℕ) → count < length numbers → All IsWord numbers → before ≡ deltas_bytes from (drop count numbers) ++ rest → ReadsBack IsWord (delta_bytes from) before after to → IsNext numbers rest count to after
next_is numbers rest from to count before after there words left told =
    let n = get_or numbers count 0 in
    let others = deltas_bytes n (drop (count + 1) numbers) in
    let first : before ≡ delta_bytes from n ++ (others ++ rest) = left ∙ (ap (λ ns. deltas_bytes from ns ++ rest) (drop_more numbers count 0 there) ∙ append_assoc (delta_bytes from n) others rest) in
    let read = told n (others ++ rest) (All-get_or IsWord numbers count 0 there words) first in
    record {
      number_is = λ d. read.0 ∙ get_or_default numbers count 0 d there;
      left = read.1 ∙ ap (λ m. deltas_bytes m (drop (count + 1) numbers) ++ rest) (sym read.0);
    }

-- one number more
pub numbers_more : (numbers rest : List ℕ) (from to count : ℕ) (before after items more : List ℕ) → count < length numbers → All IsWord numbers → items ≡ take count numbers → before ≡ deltas_bytes from (drop count numbers) ++ rest → ReadsBack IsWord (delta_bytes from) before after to → more ≡ items ++ to ∷ [] → (more ≡ take (count + 1) numbers) × (after ≡ deltas_bytes to (drop (count + 1) numbers) ++ rest)
numbers_more numbers rest from to count before after items more there words items_are left told put =
    let next = next_is numbers rest from to count before after there words left told in
    (put ∙ (ap (λ xs. xs ++ to ∷ []) items_are ∙ (ap (λ n. take count numbers ++ n ∷ []) (next.number_is 0) ∙ sym (take_more numbers count 0 there))), next.left)

pub numbers_all : (numbers rest : List ℕ) (from count : ℕ) (bytes items : List ℕ) → length numbers ≤ count → items ≡ take count numbers → bytes ≡ deltas_bytes from (drop count numbers) ++ rest → (items ≡ numbers) × (bytes ≡ rest)
numbers_all numbers rest from count bytes items past items_are left =
    (items_are ∙ take_all count numbers past, left ∙ ap (λ ns. deltas_bytes from ns ++ rest) (drop_all count numbers past))

-- one literal more
pub literals_more : (clause : List SatLit) (rest : List ℕ) (from to count : ℕ) (before after : List ℕ) (items more : List SatLit) → count < length clause → All IsWord (literal_numbers clause) → items ≡ take count clause → before ≡ deltas_bytes from (drop count (literal_numbers clause)) ++ rest → ReadsBack IsWord (delta_bytes from) before after to → more ≡ items ++ as_literal to ∷ [] → (more ≡ take (count + 1) clause) × (after ≡ deltas_bytes to (drop (count + 1) (literal_numbers clause)) ++ rest)
literals_more clause rest from to count before after items more there words items_are left told put =
    let numbers = literal_numbers clause in
    let next = next_is numbers rest from to count before after (omega (arith, there, length-map clause (λ (l : SatLit). l.0))) words left told in
    let literal : SatLit = get_or clause count (as_literal 0) in
    let is : to ≡ literal.0 = next.number_is 0 ∙ get_or-map (λ (l : SatLit). l.0) clause count (as_literal 0) 0 there in
    (put ∙ (ap (λ xs. xs ++ as_literal to ∷ []) items_are ∙ (ap (λ (n : ℕ). take count clause ++ as_literal n ∷ []) is ∙ sym (take_more clause count (as_literal 0) there))), next.left)

pub literals_all : (clause : List SatLit) (rest : List ℕ) (from count : ℕ) (bytes : List ℕ) (items : List SatLit) → length clause ≤ count → items ≡ take count clause → bytes ≡ deltas_bytes from (drop count (literal_numbers clause)) ++ rest → (items ≡ clause) × (bytes ≡ rest)
literals_all clause rest from count bytes items past items_are left =
    (items_are ∙ take_all count clause past, left ∙ ap (λ ns. deltas_bytes from ns ++ rest) (drop_all count (literal_numbers clause) (omega (arith, past, length-map clause (λ (l : SatLit). l.0)))))

-- a list after its length
pub clause_read : {V E : Type 0} (items : V → List SatLit) (before mid after : List ℕ) (count : ℕ) (r : Result V E) → ReadsBack IsWord number_bytes before mid count → IfOk r (λ v. ReadsBack (λ clause. (length clause ≡ count) × All IsWord (literal_numbers clause)) (λ clause. deltas_bytes 0 (literal_numbers clause)) mid after (items v)) → IfOk r (λ v. ReadsBack (λ clause. AreWords (literal_numbers clause)) clause_bytes before after (items v))
clause_read items before mid after count (Ok v) told others = λ written rest words is.
    let numbers = literal_numbers written in
    let first = told (length numbers) (deltas_bytes 0 numbers ++ rest) words.few (is ∙ append_assoc (number_bytes (length numbers)) (deltas_bytes 0 numbers) rest) in
    others written rest (sym (length-map written (λ (l : SatLit). l.0)) ∙ sym first.0, words.each) first.1
clause_read items before mid after count (Err e) told others = tt

pub hints_read : {V E : Type 0} (items : V → List ℕ) (before mid after : List ℕ) (count : ℕ) (r : Result V E) → ReadsBack IsWord number_bytes before mid count → IfOk r (λ v. ReadsBack (λ numbers. (length numbers ≡ count) × All IsWord numbers) (deltas_bytes 0) mid after (items v)) → IfOk r (λ v. ReadsBack AreWords numbers_bytes before after (items v))
hints_read items before mid after count (Ok v) told others = λ written rest words is.
    let first = told (length written) (deltas_bytes 0 written ++ rest) words.few (is ∙ append_assoc (number_bytes (length written)) (deltas_bytes 0 written) rest) in
    others written rest (sym first.0, words.each) first.1
hints_read items before mid after count (Err e) told others = tt

-- a line's two lists
pub line_read : (before mid after : List ℕ) (clause clause_items : List SatLit) (hints hints_items : List ℕ) → clause ≡ clause_items → hints ≡ hints_items → ReadsBack (λ c. AreWords (literal_numbers c)) clause_bytes before mid clause_items → ReadsBack AreWords numbers_bytes mid after hints_items → ReadsBack IsOfWords line_bytes before after (record { clause = clause; hints = hints })
line_read before mid after clause clause_items hints hints_items clause_is hints_is told others = λ written rest words is.
    let first = told written.clause (numbers_bytes written.hints ++ rest) words.clause (is ∙ append_assoc (clause_bytes written.clause) (numbers_bytes written.hints) rest) in
    let second = others written.hints rest words.hints first.1 in
    let clause_all : clause ≡ written.clause = clause_is ∙ first.0 in
    let hints_all : hints ≡ written.hints = hints_is ∙ second.0 in
    ((λ i. record { clause = clause_all i; hints = hints_all i }), second.1)

-- ---- lines

-- no line is without bytes
some_group : (more n : ℕ) → 0 < length (groups more n)
some_group zero n = omega arith
some_group (suc more) n = cond_both (ltb n 128) (n ∷ []) ((128 + n % 128) ∷ groups more (n / 128)) (λ text. 0 < length text) (λ e. omega arith) (λ e. omega arith)

pub some_line : (line : LogLine) (rest : List ℕ) → 0 < length (line_bytes line ++ rest)
some_line line rest =
    let number = number_bytes (length (literal_numbers line.clause)) in
    let literals = deltas_bytes 0 (literal_numbers line.clause) in
    let hints = numbers_bytes line.hints in
    omega (arith, some_group 9 (length (literal_numbers line.clause)), length-append number literals, length-append (number ++ literals) hints, length-append ((number ++ literals) ++ hints) rest)

-- what is left after as many bytes as were read
pub cut_read : (bytes after : List ℕ) (size : ℕ) (line : LogLine) → size + length after ≡ length bytes → ReadsBack IsOfWords line_bytes bytes after line → ReadsBack IsOfWords line_bytes bytes (drop size bytes) line
cut_read bytes after size line end told = λ written rest words is.
    let reads = told written rest words is in
    let here : length (line_bytes written) ≡ size = omega (arith, end, ap length is, length-append (line_bytes written) rest, ap length reads.1) in
    (reads.0, ap (drop size) is ∙ drop_at (line_bytes written) rest size here)
