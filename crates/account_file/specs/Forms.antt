-- The steps of the reader's code at the words of a line, which contracts of private functions cite; what they come to
-- is said in `Accounts`.
use Rattle.std.specs.Prelude.{ℕ, ◌^◌, ◌==◌, ◌&&◌, ◌||◌, not, Bool, true, false, List, [], ◌∷◌, codes, length, drop, take, Option, None, Some, Result, Ok, Err}
use Rattle.std.specs.Prelude.{nat_eq, nat_lt, slice_index_or, if◌then◌else◌}
use Rattle.std.specs.Char.{is_ascii_digit}
use Rattle.std.specs.List.{prefix_len}
use Rattle.std.specs.Str.{bytes_eq}
use Rattle.std.specs.Str.Parse.{digits_value}
use Rattle.text_core.specs.Numbers.{is_numeral}
use Rattle.circuits.specs.Ports.{kind_of_letter}
use Rattle.circuits.specs.declared.port.Pair.{Pair}
use Rattle.circuits.specs.declared.port.PortKind.{PortKind}
use Rattle.circuits.specs.declared.port.PortKind.TheVariants.{Input, Output}
use Rattle.net_core.specs.declared.graphs.Side.{Side}
use Rattle.net_core.specs.declared.graphs.Side.TheVariants.{First, Second}
use Rattle.word_sim.specs.declared.tri.Tri.{Tri}
use Rattle.word_sim.specs.declared.tri.Tri.TheVariants as tri
use Rattle.cnf_core.specs.declared.literal.SatLit.{SatLit}
use Rattle.claim_core.specs.declared.claims.Shape.{Shape}
use Rattle.claim_core.specs.declared.claims.Shape.TheVariants.{Up, Down, Swap}
use Rattle.claim_core.specs.declared.claims.Claim.{Claim}
use Rattle.account_core.specs.declared.conclusion.Conclusion.TheVariants.{NonePorts, NoneBan, Match}
use Rattle.account_core.specs.declared.fact.FactHead.TheVariants.{Fails, Holds}
use Rattle.account_core.specs.declared.step.Step.{Step}
use Rattle.account_core.specs.declared.step.Step.TheVariants.{Vector, Mismatch, Tally, Cover}
use Rattle.account_core.specs.declared.step.Tallied.{Tallied}
use Rattle.account_core.specs.declared.step.Tallied.TheVariants.{Support, Binate}
use Rattle.account_file.specs.Spelling.{bit_digit, kind_word, side_word, tallied_word, tri_digit}
use Rattle.account_file.specs.declared.record.Record.{Record}
use Rattle.account_file.specs.declared.record.Record.TheVariants as record_of
use Rattle.account_file.specs.declared.fault.RecordFault.{RecordFault}
use Rattle.account_file.specs.declared.fault.RecordFault.TheVariants as fault
use Rattle.account_file.specs.declared.names.RecordName.{RecordName}
use Rattle.account_file.specs.declared.names.RecordName.TheVariants as record_name
use Rattle.account_file.specs.declared.names.ShapeName.{ShapeName}
use Rattle.account_file.specs.declared.names.ShapeName.TheVariants as shape_name
use Rattle.account_file.specs.declared.names.StepName.{StepName}
use Rattle.account_file.specs.declared.names.StepName.TheVariants as step_name
use Rattle.account_file.specs.declared.names.NoneName.{NoneName}
use Rattle.account_file.specs.declared.names.NoneName.TheVariants as none_name

-- digits without a leading zero
abbrev pub is_plain : List ℕ → Bool
is_plain word = is_numeral word && (length word == 1 || not (slice_index_or word 0 0 == 48))

-- the number below a bound that a word writes so
abbrev pub number_below : ℕ → List ℕ → Option ℕ
number_below bound word =
    if is_plain word && nat_lt (digits_value 10 word) bound then Some (digits_value 10 word) else None

-- what is wrong with a word where a number stands
abbrev pub bad_number : List ℕ → RecordFault
bad_number word = if is_numeral word then fault.Number else fault.Word

-- what a word is, or else this fault
abbrev pub or_fault : {X : Type 0} → Option X → RecordFault → Result X RecordFault
or_fault {X} (Some x) fault = Ok x
or_fault {X} None fault = Err fault

-- numbers of 64 bits, and of 32
abbrev pub number_of : List ℕ → Result ℕ RecordFault
number_of word = or_fault (number_below (2 ^ 64) word) (bad_number word)

-- the position of a port, which has 32 bits
abbrev pub port_of : List ℕ → Result ℕ RecordFault
port_of word = or_fault (number_below (2 ^ 32) word) (bad_number word)

-- the same value in another form
abbrev pub mapped : {X Y : Type 0} → (X → Y) → Result X RecordFault → Result Y RecordFault
mapped {X} {Y} form (Ok x) = Ok (form x)
mapped {X} {Y} form (Err fault) = Err fault

-- the literal of a clause that has this number
abbrev pub literal_with : ℕ → SatLit
literal_with number = record { 0 = number }

-- a literal of a clause, written as its number
abbrev pub literal_of : List ℕ → Result SatLit RecordFault
literal_of word = mapped literal_with (number_of word)

-- a way for which a ban is named
abbrev pub numbered : ℕ → Option ℕ
numbered ban = Some ban

-- a ban's number, or `-`
abbrev pub reference_of : List ℕ → Result (Option ℕ) RecordFault
reference_of word = if bytes_eq word (codes "-") then Ok None else mapped numbered (number_of word)

-- `+` for a plain pair, `-` for an inverted one
abbrev pub flip_of_sign : ℕ → Option Bool
flip_of_sign sign = if sign == 43 then Some false else if sign == 45 then Some true else None

-- a pair, where each of its four parts is well written
abbrev pub pair_by : Option PortKind → Option ℕ → Option Bool → Option ℕ → Option Pair
pair_by (Some kind) (Some from) (Some flip) (Some to) = Some (record { kind = kind; from = from; to = to; flip = flip })
pair_by kind from flip to = None

-- by the digits in front, and by what stands after them: the sign, and the second number
abbrev pub pair_after : Option PortKind → List ℕ → List ℕ → Option Pair
pair_after kind from [] = None
pair_after kind from (sign ∷ to) =
    pair_by kind (number_below (2 ^ 32) from) (flip_of_sign sign) (number_below (2 ^ 32) to)

-- a pair of ports: a letter, a number, a sign, a number; both numbers of 32 bits
abbrev pub pair_in : List ℕ → Option Pair
pair_in [] = None
pair_in (letter ∷ rest) =
    let n = prefix_len is_ascii_digit rest in pair_after (kind_of_letter letter) (take n rest) (drop n rest)

-- a pair, or a word that is none
abbrev pub pair_of : List ℕ → Result Pair RecordFault
pair_of word = or_fault (pair_in word) fault.Word

-- the value that is written so, of some
abbrev pub one_of : {K X : Type 0} → (K → K → Bool) → (X → K) → List X → K → Result X RecordFault
one_of {K} {X} same spell [] key = Err fault.Word
one_of {K} {X} same spell (x ∷ xs) key = if same key (spell x) then Ok x else one_of same spell xs key

-- bits, and bits that may be either
abbrev pub bit_of : ℕ → Result Bool RecordFault
bit_of digit = one_of nat_eq bit_digit (false ∷ true ∷ []) digit

-- `0`, `1`, or `x` for either
abbrev pub tri_of : ℕ → Result Tri RecordFault
tri_of digit = one_of nat_eq tri_digit (tri.Zero ∷ tri.One ∷ tri.X ∷ []) digit

-- a value in front of others, or the first fault of them
abbrev pub with_digit : {X : Type 0} → Result X RecordFault → Result (List X) RecordFault → Result (List X) RecordFault
with_digit {X} (Err fault) rest = Err fault
with_digit {X} (Ok x) (Ok xs) = Ok (x ∷ xs)
with_digit {X} (Ok x) (Err fault) = Err fault

-- a value for each digit
abbrev pub digits_by : {X : Type 0} → (ℕ → Result X RecordFault) → List ℕ → Result (List X) RecordFault
digits_by {X} read [] = Ok []
digits_by {X} read (digit ∷ digits) = with_digit (read digit) (digits_by read digits)

-- the digits after `=`
abbrev pub digits_after : List ℕ → Result (List ℕ) RecordFault
digits_after [] = Err fault.Word
digits_after (sign ∷ digits) = if sign == 61 then Ok digits else Err fault.Word

-- the values that stand after `=`, if it is there
abbrev pub values_in : {X : Type 0} → (ℕ → Result X RecordFault) → Result (List ℕ) RecordFault → Result (List X) RecordFault
values_in {X} read (Ok digits) = digits_by read digits
values_in {X} read (Err fault) = Err fault

-- the bits of a vector: `=01`
abbrev pub bits_of : List ℕ → Result (List Bool) RecordFault
bits_of word = values_in bit_of (digits_after word)

-- a value for each input, which may be either: `=0x1`
abbrev pub tris_of : List ℕ → Result (List Tri) RecordFault
tris_of word = values_in tri_of (digits_after word)

-- the two bits of a swap
abbrev pub both_bits : Result Bool RecordFault → Result Bool RecordFault → Result (Bool × Bool) RecordFault
both_bits (Ok a) (Ok b) = Ok (a, b)
both_bits (Ok a) (Err fault) = Err fault
both_bits (Err fault) b = Err fault

-- the other one of two bits, after which nothing stands
abbrev pub second_bit : Result Bool RecordFault → List ℕ → Result (Bool × Bool) RecordFault
second_bit a [] = Err fault.Word
second_bit a (b ∷ []) = both_bits a (bit_of b)
second_bit a (b ∷ c ∷ after) = Err fault.Word

-- the values that the two inputs of a swap have before it: `01`
abbrev pub two_bits_of : List ℕ → Result (Bool × Bool) RecordFault
two_bits_of [] = Err fault.Word
two_bits_of (a ∷ after) = second_bit (bit_of a) after

-- words that are names
abbrev pub side_of : List ℕ → Result Side RecordFault
side_of word = one_of bytes_eq side_word (First ∷ Second ∷ []) word

-- `in` or `out`
abbrev pub kind_of : List ℕ → Result PortKind RecordFault
kind_of word = one_of bytes_eq kind_word (Input ∷ Output ∷ []) word

-- `support` or `binate`
abbrev pub tallied_of : List ℕ → Result Tallied RecordFault
tallied_of word = one_of bytes_eq tallied_word (Support ∷ Binate ∷ []) word

-- how an account writes that an input rises, that one falls, or that two change at once
abbrev pub shape_word : ShapeName → List ℕ
shape_word shape_name.Up = codes "up"
shape_word shape_name.Down = codes "down"
shape_word shape_name.Swap = codes "swap"

-- `up`, `down` or `swap`
abbrev pub shape_name_of : List ℕ → Result ShapeName RecordFault
shape_name_of word = one_of bytes_eq shape_word (shape_name.Up ∷ shape_name.Down ∷ shape_name.Swap ∷ []) word

-- how an account writes what kind of step shows a ban
abbrev pub step_word : StepName → List ℕ
step_word step_name.Vector = codes "vector"
step_word step_name.Mismatch = codes "mismatch"
step_word step_name.Tally = codes "tally"
step_word step_name.Cover = codes "cover"

-- `vector`, `mismatch`, `tally` or `cover`
abbrev pub step_name_of : List ℕ → Result StepName RecordFault
step_name_of word = one_of bytes_eq step_word (step_name.Vector ∷ step_name.Mismatch ∷ step_name.Tally ∷ step_name.Cover ∷ []) word

-- how an account writes why there is no match: by the numbers of ports, or by a ban without pairs
abbrev pub none_word : NoneName → List ℕ
none_word none_name.Ports = codes "ports"
none_word none_name.Ban = codes "ban"

-- `ports` or `ban`
abbrev pub none_name_of : List ℕ → Result NoneName RecordFault
none_name_of word = one_of bytes_eq none_word (none_name.Ports ∷ none_name.Ban ∷ []) word

-- the first word of a line, which says what record it is
abbrev pub record_word : RecordName → List ℕ
record_word record_name.Line = codes "l"
record_word record_name.Fails = codes "fails"
record_word record_name.Holds = codes "holds"
record_word record_name.Ban = codes "ban"
record_word record_name.Match = codes "match"
record_word record_name.None = codes "none"
record_word record_name.End = codes "end"
record_word record_name.Header = codes "npnp"

-- all first words that a line may have
abbrev pub record_names : List RecordName
record_names =
    record_name.Line ∷ record_name.Fails ∷ record_name.Holds ∷ record_name.Ban
    ∷ record_name.Match ∷ record_name.None ∷ record_name.End ∷ record_name.Header ∷ []

-- which record a line has, by its first word
abbrev pub record_name_of : List ℕ → Result RecordName RecordFault
record_name_of word = one_of bytes_eq record_word record_names word

-- this very word
abbrev pub named : List ℕ → List ℕ → Result Bool RecordFault
named name word = if bytes_eq word name then Ok true else Err fault.Word

-- A part of a line with the words after it, or what is wrong with the first word that doesn't fit.
abbrev pub Parsed : Type 0 → Type 0
Parsed X = Result (X × List (List ℕ)) RecordFault

-- a part, and then what follows
abbrev pub followed : {X Y : Type 0} → Parsed X → (X → List (List ℕ) → Result Y RecordFault) → Result Y RecordFault
followed {X} {Y} (Ok part) after = after part.0 part.1
followed {X} {Y} (Err fault) after = Err fault

-- what a word says, with the words after it, or what is wrong with the word
abbrev pub with_words : {X : Type 0} → Result X RecordFault → List (List ℕ) → Parsed X
with_words {X} (Ok x) words = Ok (x, words)
with_words {X} (Err fault) words = Err fault

-- one word
abbrev pub next_by : {X : Type 0} → (List ℕ → Result X RecordFault) → List (List ℕ) → Parsed X
next_by {X} read [] = Err fault.Word
next_by {X} read (word ∷ words) = with_words (read word) words

-- words up to `:`, `/` or the end
abbrev pub is_separator : List ℕ → Bool
is_separator word = bytes_eq word (codes ":") || bytes_eq word (codes "/")

-- one value more in front of a list, or the first fault of both
abbrev pub with_item : {X : Type 0} → Result X RecordFault → Parsed (List X) → Parsed (List X)
with_item {X} (Err fault) rest = Err fault
with_item {X} (Ok x) (Ok part) = Ok (x ∷ part.0, part.1)
with_item {X} (Ok x) (Err fault) = Err fault

-- a value for each word before a separator, and the words that are left
abbrev pub list_by : {X : Type 0} → (List ℕ → Result X RecordFault) → List (List ℕ) → Parsed (List X)
list_by {X} read [] = Ok ([], [])
list_by {X} read (word ∷ words) =
    if is_separator word then Ok ([], word ∷ words) else with_item (read word) (list_by read words)

-- the last part of a line, after which no word stands
abbrev pub last_part : {X : Type 0} → X → List (List ℕ) → Result X RecordFault
last_part {X} x [] = Ok x
last_part {X} x (word ∷ words) = Err fault.Word

-- claims
abbrev pub shape_by : ShapeName → List (List ℕ) → Parsed Shape
shape_by shape_name.Up words = followed (next_by port_of words) (λ i words. Ok (Up i, words))
shape_by shape_name.Down words = followed (next_by port_of words) (λ i words. Ok (Down i, words))
shape_by shape_name.Swap words =
    followed (next_by port_of words)
    (λ i words. followed (next_by port_of words)
    (λ j words. followed (next_by two_bits_of words)
    (λ bits words. Ok (Swap i j bits.0 bits.1, words))))

-- how a claim's inputs change: `up 3`, `down 3`, `swap 2 5 01`
abbrev pub shape_of : List (List ℕ) → Parsed Shape
shape_of words = followed (next_by shape_name_of words) (λ name words. shape_by name words)

-- a claim: circuit, output, and how inputs change
abbrev pub claim_of : List (List ℕ) → Parsed Claim
claim_of words =
    followed (next_by side_of words)
    (λ side words. followed (next_by port_of words)
    (λ output words. followed (shape_of words)
    (λ shape words. Ok (record { side = side; output = output; shape = shape }, words))))

-- steps
abbrev pub step_by : StepName → List (List ℕ) → Parsed Step
step_by step_name.Vector words =
    followed (next_by port_of words)
    (λ output words. followed (next_by tris_of words)
    (λ tris words. Ok (Vector output tris, words)))
step_by step_name.Mismatch words =
    followed (next_by number_of words)
    (λ fails words. followed (next_by number_of words)
    (λ holds words. Ok (Mismatch fails holds, words)))
step_by step_name.Tally words =
    followed (next_by tallied_of words)
    (λ kind words. followed (list_by number_of words)
    (λ have words. followed (next_by (named (codes "/")) words)
    (λ slash words. followed (list_by number_of words)
    (λ lack words. Ok (Tally kind have lack, words)))))
step_by step_name.Cover words =
    followed (next_by kind_of words)
    (λ kind words. followed (list_by port_of words)
    (λ from words. followed (next_by (named (codes "/")) words)
    (λ slash words. followed (list_by port_of words)
    (λ to words. followed (next_by (named (codes "/")) words)
    (λ second words. followed (list_by reference_of words)
    (λ refs words. Ok (Cover kind from to refs, words)))))))

-- why no match has the pairs of a ban: `vector ..`, `mismatch ..`, `tally ..`, `cover ..`
abbrev pub step_of : List (List ℕ) → Parsed Step
step_of words = followed (next_by step_name_of words) (λ name words. step_by name words)

-- records, by the words after the first
abbrev pub none_by : NoneName → List (List ℕ) → Parsed Record
none_by none_name.Ports words = Ok (record_of.Conclusion NonePorts, words)
none_by none_name.Ban words =
    followed (next_by number_of words) (λ ban words. Ok (record_of.Conclusion (NoneBan ban), words))

-- the record with this first word, as far as the words after it go
abbrev pub record_by : RecordName → List (List ℕ) → Parsed Record
record_by record_name.Header words =
    followed (next_by (named (codes "1")) words) (λ version words. Ok (record_of.Header, words))
record_by record_name.Fails words =
    followed (claim_of words)
    (λ claim words. followed (next_by bits_of words)
    (λ bits words. Ok (record_of.Fact (Fails claim bits), words)))
record_by record_name.Holds words =
    followed (claim_of words) (λ claim words. Ok (record_of.Fact (Holds claim), words))
record_by record_name.Line words =
    followed (list_by literal_of words)
    (λ clause words. followed (next_by (named (codes ":")) words)
    (λ colon words. followed (list_by number_of words)
    (λ hints words. Ok (record_of.Line (record { clause = clause; hints = hints }), words))))
record_by record_name.Ban words =
    followed (list_by pair_of words)
    (λ pairs words. followed (next_by (named (codes ":")) words)
    (λ colon words. followed (step_of words)
    (λ step words. Ok (record_of.Ban (record { pairs = pairs; step = step }), words))))
record_by record_name.None words = followed (next_by none_name_of words) (λ name words. none_by name words)
record_by record_name.Match words =
    followed (list_by pair_of words) (λ pairs words. Ok (record_of.Conclusion (Match pairs), words))
record_by record_name.End words = Ok (record_of.End, words)

-- the record that words begin with, and the one that they write
abbrev pub record_in_front : List (List ℕ) → Parsed Record
record_in_front words = followed (next_by record_name_of words) (λ name words. record_by name words)

-- the record that all words of a line write, with none left over
abbrev pub record_in : List (List ℕ) → Result Record RecordFault
record_in words = followed (record_in_front words) (λ entry words. last_part entry words)
