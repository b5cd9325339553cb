-- What the numbers on the first line say of each header.
use Rattle.std.proofs.Common.{◌≡◌, ℕ, suc, ◌-◌, ◌^◌, ◌<◌, ◌≤◌, ◌==◌, Bool, true, false, IsTrue, List, [], ◌∷◌, ◌++◌, length, map, take, drop, get_or, Option, Some, None, IfSome, IfNone, Result, Ok, Err, IfOk, nat_lt, refl, sym, ap, subst, ◌∙◌, arith, length-take, length-drop}
use Rattle.std.specs.List.{list_any}
use Rattle.std.proofs.lemmas.List.{length-map}
use Rattle.std.proofs.lemmas.List.Elements.{All-head, All-tail}
use Rattle.text_core.specs.Lines.{lines}
use Rattle.text_core.specs.Piece.{Piece}
use Rattle.aiger_reader.specs.declared.header.HeaderNumbers.{HeaderNumbers}
use Rattle.aiger_reader.specs.Words.{numbers_on, AreSmall}
use Rattle.aiger_reader.specs.Headers.{AigerHeader, header_numbers, keyword, line_after, WritesHeader, HasHeader}
use Rattle.aiger_reader.specs.Numbers.{header_from, WritesNumbers, IsCounted}

-- a word that is no number of 32 bits stands in no row of them
pub no_number : (done numbers : List ℕ) (word : Option ℕ) (rest : List (Option ℕ)) → AreSmall numbers → ((n : ℕ) → n < 2 ^ 32 → word ≡ Some n → ⊥) → map Some done ++ word ∷ rest ≡ map Some numbers → ⊥
no_number [] [] word rest small none same = cc
no_number [] (n ∷ ns) word rest small none same =
    none n (All-head (λ n. n < 2 ^ 32) n ns small) (cc)
no_number (d ∷ ds) [] word rest small none same = cc
no_number (d ∷ ds) (n ∷ ns) word rest small none same =
    no_number ds ns word rest (All-tail (λ n. n < 2 ^ 32) n ns small) none (cc)

-- the first of the lines
pub line_after-first : (bytes left line : List ℕ) (rest : List (List ℕ)) → left ≡ drop 4 bytes → lines left ≡ line ∷ rest → line_after bytes ≡ line
line_after-first bytes left line rest following next =
    ap (λ (ls : List (List ℕ)). get_or ls 0 []) (ap lines (sym following) ∙ next)

-- a file with nothing after the keyword has no numbers
pub no_line : (bytes left : List ℕ) → left ≡ drop 4 bytes → lines left ≡ [] → (h : AigerHeader) → WritesHeader (line_after bytes) h → ⊥
no_line bytes left following none h writes =
    let empty : line_after bytes ≡ [] = ap (λ (ls : List (List ℕ)). get_or ls 0 []) (ap lines (sym following) ∙ none) in
    let same : [] ≡ map Some (header_numbers h) = ap numbers_on (sym empty) ∙ writes.written in
    cc

pub first_after : (bytes left : List ℕ) (after : List (List ℕ)) (line : Option Piece) → left ≡ drop 4 bytes → IfSome line (λ l. lines left ≡ l.bytes ∷ after) → IfSome line (λ l. line_after bytes ≡ l.bytes)
first_after bytes left after (Some line) following next = line_after-first bytes left line.bytes after following next
first_after bytes left after None following next = tt

pub none_after : (bytes left : List ℕ) (line : Option Piece) → left ≡ drop 4 bytes → IfNone line (lines left ≡ []) → IfNone line ((h : AigerHeader) → WritesHeader (line_after bytes) h → ⊥)
none_after bytes left (Some line) following none = tt
none_after bytes left None following none = no_line bytes left following none

-- fewer than five numbers are no header
pub too_few : (line row : List ℕ) (count : ℕ) (h : AigerHeader) → numbers_on line ≡ map Some (take count row) → count < 5 → WritesHeader line h → ⊥
too_few line row count h numbers few writes =
    let same : map Some (take count row) ≡ map Some (header_numbers h) = sym numbers ∙ writes.written in
    omega (arith, ap length same, length-map (take count row) (λ (n : ℕ). Some n), length-map (header_numbers h) (λ (n : ℕ). Some n), length-take count row)

-- five numbers at the front, and the others
take_five : (row : List ℕ) (k : ℕ) → 5 ≤ length row → take (suc (suc (suc (suc (suc k))))) row ≡ get_or row 0 0 ∷ get_or row 1 0 ∷ get_or row 2 0 ∷ get_or row 3 0 ∷ get_or row 4 0 ∷ take k (drop 5 row)
take_five (a ∷ b ∷ c ∷ d ∷ e ∷ rest) k h = refl
take_five row k h = absurd (omega arith)

-- five numbers or more that are read are those of a header
pub numbers_read : (line row : List ℕ) (count : ℕ) (any : Bool) → numbers_on line ≡ map Some (take count row) → 5 ≤ count → count ≤ length row → length row ≡ 9 → AreSmall (take count row) → any ≡ list_any (nat_lt 0) (take (count - 5) (drop 5 row)) → WritesNumbers line (record { variables = get_or row 0 0; inputs = get_or row 1 0; latches = get_or row 2 0; outputs = get_or row 3 0; gates = get_or row 4 0; has_property = any })
numbers_read line row count any numbers enough within nine small is =
    let k = count - 5 in
    let e : count ≡ suc (suc (suc (suc (suc k)))) = omega arith in
    let front = ap (λ n. take n row) e ∙ take_five row k (omega arith) in
    record {
      properties = take k (drop 5 row);
      header = λ binary. record {
        written = numbers ∙ ap (map Some) front;
        few = omega (arith, length-take k (drop 5 row), length-drop 5 row);
        small = subst AreSmall front small;
      };
      property = is;
    }

pub map_same : (xs ys : List ℕ) → map Some xs ≡ map Some ys → xs ≡ ys
map_same [] [] e = refl
map_same [] (y ∷ ys) e = cc
map_same (x ∷ xs) [] e = cc
map_same (x ∷ xs) (y ∷ ys) e =
    let tails : xs ≡ ys = map_same xs ys (cc) in
    cc

pub no_clash : true ≡ false → ⊥
no_clash e = cc

pub keyword_same : (a b : Bool) → keyword a ≡ keyword b → a ≡ b
keyword_same true true e = refl
keyword_same false false e = refl
keyword_same true false e = absurd (no_clash (sym (ap (λ (bytes : List ℕ). get_or bytes 1 0 == 97) e)))
keyword_same false true e = absurd (no_clash (ap (λ (bytes : List ℕ). get_or bytes 1 0 == 97) e))

-- a file's header has the form and the numbers that are read
header_same : (bytes : List ℕ) (binary : Bool) (numbers : HeaderNumbers) (h : AigerHeader) → take 4 bytes ≡ keyword binary → (writes : WritesNumbers (line_after bytes) numbers) → HasHeader bytes h → (h.binary ≡ binary) × (header_numbers h ≡ header_numbers (header_from binary numbers writes.properties))
header_same bytes binary numbers h begins writes has =
    (keyword_same h.binary binary (sym has.begins ∙ begins), map_same _ _ (sym has.numbers.written ∙ (writes.header binary).written))

pub not_counted : (bytes : List ℕ) (binary : Bool) (numbers : HeaderNumbers) → take 4 bytes ≡ keyword binary → WritesNumbers (line_after bytes) numbers → (IsCounted binary numbers → ⊥) → (h : AigerHeader) → HasHeader bytes h → ⊥
not_counted bytes binary numbers begins writes not_so h has =
    let same = header_same bytes binary numbers h begins writes has in
    let variables : h.variables ≡ numbers.variables = cc in
    let inputs : h.inputs ≡ numbers.inputs = cc in
    let latches : h.latches ≡ numbers.latches = cc in
    let gates : h.gates ≡ numbers.gates = cc in
    not_so (record {
      counted = omega (arith, has.counted);
      no_gaps = λ t. let gaps = has.no_gaps (subst IsTrue (sym same.0) t) in omega (arith, gaps);
    })

pub header_read : (bytes : List ℕ) (binary : Bool) (numbers : HeaderNumbers) → take 4 bytes ≡ keyword binary → (writes : WritesNumbers (line_after bytes) numbers) → IsCounted binary numbers → HasHeader bytes (header_from binary numbers writes.properties)
header_read bytes binary numbers begins writes counts =
    record {
      begins = begins;
      numbers = writes.header binary;
      counted = counts.counted;
      no_gaps = counts.no_gaps;
    }

-- two facts about the value that is there
pub ok_both : {T E : Type 0} (r : Result T E) (P Q R : T → Type 0) → ((x : T) → P x → Q x → R x) → IfOk r P → IfOk r Q → IfOk r R
ok_both (Ok x) P Q R both p q = both x p q
ok_both (Err e) P Q R both p q = tt
