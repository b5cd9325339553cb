-- Words that are numbers, references or pairs: as they are written they are read.
use Rattle.std.proofs.Common.{◌≡◌, ◌⊎◌, ℕ, ◌<◌, ◌≤◌, ◌^◌, eqb, Bool, true, false, cond, codes, List, [], ◌∷◌, ◌++◌, length, take, drop, Option, Some, None, Result, Ok, Err, refl, sym, ap, subst, ◌∙◌, arith, inl, inr, take-append-drop, take_at, drop_at}
use Rattle.std.specs.Char.{is_ascii_digit}
use Rattle.std.specs.Fmt.{decimal}
use Rattle.std.specs.List.{prefix_len}
use Rattle.std.specs.Str.{bytes_eq}
use Rattle.std.proofs.lemmas.Bool.{eqb-true, false≢true}
use Rattle.std.proofs.lemmas.List.Elements.{All-cons, All-append}
use Rattle.std.proofs.lemmas.Slice.Eq.{bytes_eq-Decides}
use Rattle.text_core.specs.Numbers.{is_numeral}
use Rattle.circuits.specs.declared.port.Pair.{Pair}
use Rattle.circuits.specs.declared.port.PortKind.{PortKind}
use Rattle.circuits.specs.declared.port.PortKind.TheVariants.{Input, Output}
use Rattle.cnf_core.specs.declared.literal.SatLit.{SatLit}
use Rattle.account_file.specs.declared.fault.RecordFault.{RecordFault}
use Rattle.account_file.specs.declared.fault.RecordFault.TheVariants.{Word, Number}
use Rattle.circuits.specs.Ports.{kind_of_letter, letter_of}
use Rattle.account_file.specs.Forms.{number_below, bad_number, or_fault, number_of, port_of, mapped, literal_with, literal_of, numbered, reference_of, flip_of_sign, pair_by, pair_after, pair_in, pair_of, is_separator}
use Rattle.account_bytes.specs.Bodies.{IsPort, IsNumber, HasPorts, IsReference}
use Rattle.account_file.specs.Spelling.{sign_of, pair_word, reference_word}
use Rattle.account_file.proofs.NumberLemmas.{decimal_digits, decimal_numeral, number_read, number_written}
use Rattle.account_file.proofs.ReadLemmas.{IsWord, IsWordOrNumber, Wrote, digits_no_separator}
use Rattle.account_file.proofs.SpellingLemmas.{IsVisible, shown, digits_visible, digits_front}

-- no word of a list is a separator
abbrev pub AreItems : {X : Type 0} → (X → List ℕ) → (X → Type 0) → Type 0
AreItems {X} spell IsFit = (x : X) → IsFit x → is_separator (spell x) ≡ false

-- where something isn't read, its word is wrong, and no number
abbrev pub IsReadOrWord : {X : Type 0} → Result X RecordFault → Type 0
IsReadOrWord {X} (Ok x) = Unit {0}
IsReadOrWord {X} (Err fault) = fault ≡ Word

word_wrong : {X : Type 0} (a : Result X RecordFault) (fault : RecordFault) → IsReadOrWord a → a ≡ Err fault → fault ≡ Word
word_wrong {X} (Ok x) fault is e = absurd (let clash : ⊥ = cc in clash)
word_wrong {X} (Err other) fault is e = let same : other ≡ fault = cc in sym same ∙ is

-- One kind of word, none of which is a number.
pub record IsPlain {X : Type 0} (read : List ℕ → Result X RecordFault) (spell : X → List ℕ) (IsFit : X → Type 0) : Type 0 where
  pub faults : (word : List ℕ) → IsReadOrWord (read word)
  pub zero : read (codes "0") ≡ Err Word
  pub written : (word : List ℕ) (x : X) → read word ≡ Ok x → (word ≡ spell x) × IsFit x
  pub back : (x : X) → IsFit x → read (spell x) ≡ Ok x
  pub visible : (x : X) → IsFit x → IsVisible (spell x)

pub plain_word : {X : Type 0} (read : List ℕ → Result X RecordFault) (spell : X → List ℕ) (IsFit : X → Type 0) (x : X) → IsFit x → IsPlain read spell IsFit → IsWord read spell IsFit
plain_word {X} read spell IsFit x fit plain = record {
  word = spell x;
  some = record { value = x; is = plain.back x fit };
  faults = λ word fault e. inl (word_wrong (read word) fault (plain.faults word) e);
  digits = λ word e. absurd (let no = word_wrong (read word) Number (plain.faults word) e in let clash : ⊥ = cc in clash);
  fits = λ word e n small. absurd (let no = word_wrong (read word) Number (plain.faults word) e in let clash : ⊥ = cc in clash);
  zero = λ y word e digits. absurd (let both : Err Word ≡ Ok y = sym plain.zero ∙ e in let clash : ⊥ = cc in clash);
  written = plain.written;
  back = plain.back;
  visible = plain.visible;
}

-- numbers

module _ (bound : ℕ) (least : 2 ^ 32 ≤ bound) (most : bound ≤ 2 ^ 64) where
  abbrev reads : List ℕ → Result ℕ RecordFault
  reads word = or_fault (number_below bound word) (bad_number word)

  found : (word : List ℕ) (n : ℕ) → reads word ≡ Ok n → number_below bound word ≡ Some n
  found word n e = by (number_below bound word) refl e
    where
      by : (o : Option ℕ) → number_below bound word ≡ o → or_fault o (bad_number word) ≡ Ok n → o ≡ Some n
      by (Some m) is e = let same : m ≡ n = cc in ap Some same
      by None is e = absurd (let clash : ⊥ = cc in clash)

  back : (n : ℕ) → n < bound → reads (decimal n) ≡ Ok n
  back n below = ap (λ o. or_fault o (bad_number (decimal n))) (number_read bound n below most)

  bad_fault : (b : Bool) (fault : RecordFault) → cond b Number Word ≡ fault → IsWordOrNumber fault
  bad_fault true fault e = inr (sym e)
  bad_fault false fault e = inl (sym e)

  bad_digits : (b : Bool) → cond b Number Word ≡ Number → b ≡ true
  bad_digits true e = refl
  bad_digits false e = cc

  bad : (word : List ℕ) (fault : RecordFault) → reads word ≡ Err fault → bad_number word ≡ fault
  bad word fault e = by (number_below bound word) e
    where
      by : (o : Option ℕ) → or_fault o (bad_number word) ≡ Err fault → bad_number word ≡ fault
      by (Some m) e = absurd (let clash : ⊥ = cc in clash)
      by None e = cc

  pub number_word : IsWord reads decimal (λ n. n < bound)
  number_word = record {
    word = decimal 0;
    some = record { value = 0; is = back 0 (omega (arith, least)) };
    faults = λ word fault e. bad_fault (is_numeral word) fault (bad word fault e);
    digits = λ word e. bad_digits (is_numeral word) (bad word Number e);
    fits = λ word e n small. record { value = n; is = back n (omega (arith, small, least)) };
    zero = λ x word e digits. by word digits (number_below bound word) refl;
    written = λ word n e. number_written bound word n most (found word n e);
    back = back;
    visible = λ n below. digits_visible (decimal n) (decimal_digits n (omega (arith, below, most)));
  }
    where
      by : (word : List ℕ) → is_numeral word ≡ true → (o : Option ℕ) → number_below bound word ≡ o → (reads word ≡ Err Number) ⊎ Wrote reads word
      by word digits (Some n) is = inr (record { value = n; is = ap (λ o. or_fault o (bad_number word)) is })
      by word digits None is = inl (ap (λ o. or_fault o (bad_number word)) is ∙ ap (λ b. Err (cond b Number Word)) digits)

  pub number_items : AreItems decimal (λ n. n < bound)
  number_items n below = digits_no_separator (decimal n) (decimal_numeral n (omega (arith, below, most)))

pub port_is_word : IsWord port_of decimal IsPort
port_is_word = number_word (2 ^ 32) (omega arith) (omega arith)

pub port_items : AreItems decimal IsPort
port_items = number_items (2 ^ 32) (omega arith) (omega arith)

pub number_is_word : IsWord number_of decimal IsNumber
number_is_word = number_word (2 ^ 64) (omega arith) (omega arith)

pub number_is_item : AreItems decimal IsNumber
number_is_item = number_items (2 ^ 64) (omega arith) (omega arith)

-- other forms of numbers

module _ {X Y : Type 0} (f : X → Y) where
  pub record IsForm (a : Result X RecordFault) (y : Y) : Type 0 where
    pub x : X
    pub a_is : a ≡ Ok x
    pub y_is : y ≡ f x

  pub mapped_ok : (a : Result X RecordFault) (y : Y) → mapped f a ≡ Ok y → IsForm a y
  mapped_ok (Ok x) y e = record { x = x; a_is = refl; y_is = let same : f x ≡ y = cc in sym same }
  mapped_ok (Err fault) y e = absurd (let clash : ⊥ = cc in clash)

  pub mapped_err : (a : Result X RecordFault) (fault : RecordFault) → mapped f a ≡ Err fault → a ≡ Err fault
  mapped_err (Ok x) fault e = absurd (let clash : ⊥ = cc in clash)
  mapped_err (Err other) fault e = let same : other ≡ fault = cc in ap Err same

abbrev pub literal_word : SatLit → List ℕ
literal_word literal = decimal literal.0

pub literal_is_word : IsWord literal_of literal_word (λ literal. IsNumber literal.0)
literal_is_word = record {
  word = number_is_word.word;
  some = wrote number_is_word.word number_is_word.some;
  faults = λ word fault e. number_is_word.faults word fault (mapped_err literal_with (number_of word) fault e);
  digits = λ word e. number_is_word.digits word (mapped_err literal_with (number_of word) Number e);
  fits = λ word e n small. wrote (decimal n) (number_is_word.fits word (mapped_err literal_with (number_of word) Number e) n small);
  zero = λ x word e digits. elim (number_is_word.zero (mapped_ok literal_with (number_of (codes "0")) x e).x word (mapped_ok literal_with (number_of (codes "0")) x e).a_is digits) [
    | inl bad ↦ inl (ap (mapped literal_with) bad)
    | inr w ↦ inr (wrote word w)
  ];
  written = λ word literal e.
      let form = mapped_ok literal_with (number_of word) literal e in
      let w = number_is_word.written word form.x form.a_is in
      subst (λ l. (word ≡ literal_word l) × IsNumber l.0) (sym form.y_is) w;
  back = λ literal small. ap (mapped literal_with) (number_is_word.back literal.0 small);
  visible = λ literal small. number_is_word.visible literal.0 small;
}
  where
    wrote : (word : List ℕ) → Wrote number_of word → Wrote literal_of word
    wrote word w = record { value = literal_with w.value; is = ap (mapped literal_with) w.is }

pub literal_items : AreItems literal_word (λ literal. IsNumber literal.0)
literal_items literal small = number_is_item literal.0 small

-- references

abbrev by_dash : Bool → List ℕ → Result (Option ℕ) RecordFault
by_dash b word = cond b (Ok None) (mapped numbered (number_of word))

no_dash : (word : List ℕ) → is_numeral word ≡ true → bytes_eq word (codes "-") ≡ false
no_dash word digits = by (bytes_eq word (codes "-")) refl
  where
    by : (b : Bool) → bytes_eq word (codes "-") ≡ b → b ≡ false
    by true e = absurd (false≢true (ap is_numeral (sym ((bytes_eq-Decides word (codes "-")).0 e)) ∙ digits))
    by false e = refl

referred : (word : List ℕ) → is_numeral word ≡ true → reference_of word ≡ mapped numbered (number_of word)
referred word digits = ap (λ b. by_dash b word) (no_dash word digits)

pub reference_is_word : IsWord reference_of reference_word IsReference
reference_is_word = record {
  word = codes "-";
  some = record { value = None; is = refl };
  faults = λ word fault e. number_is_word.faults word fault (failed word fault e);
  digits = λ word e. number_is_word.digits word (failed word Number e);
  fits = λ word e n small.
      let w = number_is_word.fits word (failed word Number e) n small in
      record { value = Some w.value; is = referred (decimal n) (decimal_numeral n (omega (arith, small))) ∙ ap (mapped numbered) w.is };
  zero = λ x word e digits. elim (number_is_word.zero (mapped_ok numbered (number_of (codes "0")) x e).x word (mapped_ok numbered (number_of (codes "0")) x e).a_is digits) [
    | inl bad ↦ inl (referred word digits ∙ ap (mapped numbered) bad)
    | inr w ↦ inr (record { value = Some w.value; is = referred word digits ∙ ap (mapped numbered) w.is })
  ];
  written = written;
  back = back';
  visible = visible;
}
  where
    failed : (word : List ℕ) (fault : RecordFault) → reference_of word ≡ Err fault → number_of word ≡ Err fault
    failed word fault e = by (bytes_eq word (codes "-")) e
      where
        by : (b : Bool) → by_dash b word ≡ Err fault → number_of word ≡ Err fault
        by true e = absurd (let clash : ⊥ = cc in clash)
        by false e = mapped_err numbered (number_of word) fault e

    written : (word : List ℕ) (reference : Option ℕ) → reference_of word ≡ Ok reference → (word ≡ reference_word reference) × IsReference reference
    written word reference e = by (bytes_eq word (codes "-")) refl e
      where
        by : (b : Bool) → bytes_eq word (codes "-") ≡ b → by_dash b word ≡ Ok reference → (word ≡ reference_word reference) × IsReference reference
        by true is e =
            let none : None ≡ reference = cc in
            subst (λ r. (word ≡ reference_word r) × IsReference r) none ((bytes_eq-Decides word (codes "-")).0 is, tt)
        by false is e =
            let form = mapped_ok numbered (number_of word) reference e in
            subst (λ r. (word ≡ reference_word r) × IsReference r) (sym form.y_is) (number_is_word.written word form.x form.a_is)

    back' : (reference : Option ℕ) → IsReference reference → reference_of (reference_word reference) ≡ Ok reference
    back' None fit = refl
    back' (Some n) small = referred (decimal n) (decimal_numeral n small) ∙ ap (mapped numbered) (number_is_word.back n small)

    visible : (reference : Option ℕ) → IsReference reference → IsVisible (reference_word reference)
    visible None fit = shown (codes "-") refl
    visible (Some n) small = number_is_word.visible n small

pub reference_items : AreItems reference_word IsReference
reference_items None fit = refl
reference_items (Some n) small = number_is_item n small

-- pairs of ports

kind_read : (kind : PortKind) → kind_of_letter (letter_of kind) ≡ Some kind
kind_read Input = refl
kind_read Output = refl

flip_read : (flip : Bool) → flip_of_sign (sign_of flip) ≡ Some flip
flip_read true = refl
flip_read false = refl

sign_ends : (flip : Bool) → is_ascii_digit (sign_of flip) ≡ false
sign_ends true = refl
sign_ends false = refl

letter_shows : (kind : PortKind) → 32 < letter_of kind
letter_shows Input = omega arith
letter_shows Output = omega arith

sign_shows : (flip : Bool) → 32 < sign_of flip
sign_shows true = omega arith
sign_shows false = omega arith

pair_read : (pair : Pair) → HasPorts pair → pair_in (pair_word pair) ≡ Some pair
pair_read pair ports =
    let from = decimal pair.from in
    let after : List ℕ = sign_of pair.flip ∷ decimal pair.to in
    let digits = digits_front from (sign_of pair.flip) (decimal pair.to) (decimal_digits pair.from (omega (arith, ports.from))) (sign_ends pair.flip) in
    let cut : ℕ → Option Pair = λ n. pair_after (kind_of_letter (letter_of pair.kind)) (take n (from ++ after)) (drop n (from ++ after)) in
    let first = number_read (2 ^ 32) pair.from ports.from (omega arith) in
    let second = number_read (2 ^ 32) pair.to ports.to (omega arith) in
    ap cut digits
    ∙ ap (λ l. pair_after (kind_of_letter (letter_of pair.kind)) l (drop (length from) (from ++ after))) (take_at from after (length from) refl)
    ∙ ap (λ l. pair_after (kind_of_letter (letter_of pair.kind)) from l) (drop_at from after (length from) refl)
    ∙ ap (λ k. pair_by k (number_below (2 ^ 32) from) (flip_of_sign (sign_of pair.flip)) (number_below (2 ^ 32) (decimal pair.to))) (kind_read pair.kind)
    ∙ ap (λ n. pair_by (Some pair.kind) n (flip_of_sign (sign_of pair.flip)) (number_below (2 ^ 32) (decimal pair.to))) first
    ∙ ap (λ f. pair_by (Some pair.kind) (Some pair.from) f (number_below (2 ^ 32) (decimal pair.to))) (flip_read pair.flip)
    ∙ ap (λ n. pair_by (Some pair.kind) (Some pair.from) (Some pair.flip) n) second

kind_written : (letter : ℕ) (kind : PortKind) → kind_of_letter letter ≡ Some kind → letter ≡ letter_of kind
kind_written letter kind e = by (eqb letter 105) (eqb letter 111) refl refl e
  where
    by : (i o : Bool) → eqb letter 105 ≡ i → eqb letter 111 ≡ o → cond i (Some Input) (cond o (Some Output) None) ≡ Some kind → letter ≡ letter_of kind
    by true o is other e = let k : Input ≡ kind = cc in eqb-true letter 105 is ∙ ap letter_of k
    by false true is other e = let k : Output ≡ kind = cc in eqb-true letter 111 other ∙ ap letter_of k
    by false false is other e = cc

flip_written : (sign : ℕ) (flip : Bool) → flip_of_sign sign ≡ Some flip → sign ≡ sign_of flip
flip_written sign flip e = by (eqb sign 43) (eqb sign 45) refl refl e
  where
    by : (plain turned : Bool) → eqb sign 43 ≡ plain → eqb sign 45 ≡ turned → cond plain (Some false) (cond turned (Some true) None) ≡ Some flip → sign ≡ sign_of flip
    by true turned is other e = let f : false ≡ flip = cc in eqb-true sign 43 is ∙ ap sign_of f
    by false true is other e = let f : true ≡ flip = cc in eqb-true sign 45 other ∙ ap sign_of f
    by false false is other e = cc

-- a word is what is written of a pair, whose ports have 32 bits
abbrev IsPairWord : List ℕ → Pair → Type 0
IsPairWord word pair = (word ≡ pair_word pair) × HasPorts pair

by_fields : (letter : ℕ) (front : List ℕ) (sign : ℕ) (back : List ℕ) (k : Option PortKind) (m : Option ℕ) (f : Option Bool) (n : Option ℕ) (pair : Pair)
    → kind_of_letter letter ≡ k → number_below (2 ^ 32) front ≡ m → flip_of_sign sign ≡ f → number_below (2 ^ 32) back ≡ n → pair_by k m f n ≡ Some pair → IsPairWord (letter ∷ front ++ sign ∷ back) pair
by_fields letter front sign back (Some kind) (Some from) (Some flip) (Some to) pair ek em ef en e =
    let is : record { kind = kind; from = from; to = to; flip = flip } ≡ pair = cc in
    let first = number_written (2 ^ 32) front from (omega arith) em in
    let second = number_written (2 ^ 32) back to (omega arith) en in
    subst (IsPairWord (letter ∷ front ++ sign ∷ back)) is (
      ap (λ l. l ∷ front ++ sign ∷ back) (kind_written letter kind ek) ∙ ap (λ l. letter_of kind ∷ l ++ sign ∷ back) first.0
          ∙ ap (λ s. letter_of kind ∷ decimal from ++ s ∷ back) (flip_written sign flip ef) ∙ ap (λ l. letter_of kind ∷ decimal from ++ sign_of flip ∷ l) second.0,
      record { from = first.1; to = second.1 },
    )
by_fields letter front sign back k m f n pair ek em ef en e = cc

by_parts : (letter : ℕ) (front after : List ℕ) (pair : Pair) → pair_after (kind_of_letter letter) front after ≡ Some pair → IsPairWord (letter ∷ front ++ after) pair
by_parts letter front [] pair e = cc
by_parts letter front (sign ∷ back) pair e =
    by_fields letter front sign back (kind_of_letter letter) (number_below (2 ^ 32) front) (flip_of_sign sign) (number_below (2 ^ 32) back) pair refl refl refl refl e

pair_written : (word : List ℕ) (pair : Pair) → pair_in word ≡ Some pair → IsPairWord word pair
pair_written [] pair e = cc
pair_written (letter ∷ rest) pair e =
    let n = prefix_len is_ascii_digit rest in
    subst (λ l. IsPairWord (letter ∷ l) pair) (take-append-drop n rest) (by_parts letter (take n rest) (drop n rest) pair e)

or_word : {X : Type 0} (o : Option X) (x : X) → or_fault o Word ≡ Ok x → o ≡ Some x
or_word {X} (Some y) x e = let same : y ≡ x = cc in ap Some same
or_word {X} None x e = absurd (let clash : ⊥ = cc in clash)

or_word_fault : {X : Type 0} (o : Option X) → IsReadOrWord (or_fault o Word)
or_word_fault {X} (Some y) = tt
or_word_fault {X} None = refl

abbrev first_pair : Pair
first_pair = record { kind = Input; from = 0; to = 0; flip = false }

pub pair_is_word : IsWord pair_of pair_word HasPorts
pair_is_word =
    plain_word pair_of pair_word HasPorts first_pair (record { from = omega arith; to = omega arith })
    (record {
      faults = λ word. or_word_fault (pair_in word);
      zero = refl;
      written = λ word pair e. pair_written word pair (or_word (pair_in word) pair e);
      back = λ pair ports. ap (λ o. or_fault o Word) (pair_read pair ports);
      visible = visible;
    })
  where
    visible : (pair : Pair) → HasPorts pair → IsVisible (pair_word pair)
    visible pair ports =
        let shows : ℕ → Type 0 = λ byte. 32 < byte in
        let from = digits_visible (decimal pair.from) (decimal_digits pair.from (omega (arith, ports.from))) in
        let to = digits_visible (decimal pair.to) (decimal_digits pair.to (omega (arith, ports.to))) in
        All-cons shows (letter_of pair.kind) (decimal pair.from ++ sign_of pair.flip ∷ decimal pair.to) (letter_shows pair.kind)
        (All-append shows (decimal pair.from) (sign_of pair.flip ∷ decimal pair.to) from (All-cons shows (sign_of pair.flip) (decimal pair.to) (sign_shows pair.flip) to))

pub pair_items : AreItems pair_word HasPorts
pair_items pair ports = by pair.kind (decimal pair.from ++ sign_of pair.flip ∷ decimal pair.to)
  where
    by : (kind : PortKind) (rest : List ℕ) → is_separator (letter_of kind ∷ rest) ≡ false
    by Input rest = refl
    by Output rest = refl
