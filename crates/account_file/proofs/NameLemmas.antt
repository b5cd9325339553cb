-- Words that are names or bits: as they are written they are read.
use Rattle.std.proofs.Common.{◌≡◌, ℕ, ◌<◌, eqb, ltb, Bool, true, false, cond, codes, List, [], ◌∷◌, map, Result, Ok, Err, refl, sym, ap, subst, ◌∙◌, arith}
use Rattle.std.specs.List.{list_all}
use Rattle.std.specs.Str.{bytes_eq}
use Rattle.std.proofs.lemmas.Bool.{and_from, and_parts, eqb-true, ltb-true}
use Rattle.std.proofs.lemmas.List.Elements.{All-nil, All-cons}
use Rattle.std.proofs.lemmas.Slice.Eq.{bytes_eq-Decides}
use Rattle.circuits.specs.declared.port.PortKind.{PortKind}
use Rattle.circuits.specs.declared.port.PortKind.TheVariants.{Input, Output}
use Rattle.net_core.specs.declared.graphs.Side.{Side}
use Rattle.net_core.specs.declared.graphs.Side.TheVariants.{First, Second}
use Rattle.word_sim.specs.declared.tri.Tri.{Tri}
use Rattle.word_sim.specs.declared.tri.Tri.TheVariants as tri
use Rattle.account_core.specs.declared.step.Tallied.{Tallied}
use Rattle.account_core.specs.declared.step.Tallied.TheVariants.{Support, Binate}
use Rattle.account_file.specs.declared.fault.RecordFault.{RecordFault}
use Rattle.account_file.specs.declared.fault.RecordFault.TheVariants.{Word}
use Rattle.account_file.specs.declared.names.RecordName.TheVariants as record_name
use Rattle.account_file.specs.declared.names.ShapeName.TheVariants as shape_name
use Rattle.account_file.specs.declared.names.StepName.TheVariants as step_name
use Rattle.account_file.specs.declared.names.NoneName.TheVariants as none_name
use Rattle.account_file.specs.Forms.{bit_of, tri_of, with_digit, digits_by, digits_after, values_in, bits_of, tris_of, both_bits, two_bits_of, side_of, kind_of, tallied_of, shape_name_of, shape_word, step_name_of, step_word, none_name_of, none_word, one_of, record_name_of, record_names, record_word, named}
use Rattle.account_file.specs.Spelling.{side_word, bit_digit, tri_digit, bits_word, tris_word, tallied_word, kind_word}
use Rattle.account_file.proofs.ReadLemmas.{IsWord}
use Rattle.account_file.proofs.SpellingLemmas.{IsVisible, shown}
use Rattle.account_file.proofs.ValueLemmas.{IsReadOrWord, plain_word}

abbrev pub Any : {X : Type 0} → X → Type 0
Any {X} x = Unit {0}

-- what is read of names, and of digits

module _ {K X : Type 0} (same : K → K → Bool) (tells : (a b : K) → same a b ≡ true → a ≡ b) (spell : X → K) (shows : K → Bool) where
  one_faults : (xs : List X) (key : K) → IsReadOrWord (one_of same spell xs key)
  one_faults [] key = refl
  one_faults (x ∷ xs) key = by (same key (spell x)) (one_faults xs key)
    where
      by : (b : Bool) → IsReadOrWord (one_of same spell xs key) → IsReadOrWord (cond b (Ok x) (one_of same spell xs key))
      by true more = tt
      by false more = more

  -- all of the values' names show
  one_written : (xs : List X) → list_all (λ x. shows (spell x)) xs ≡ true → (key : K) (x : X) → one_of same spell xs key ≡ Ok x → (key ≡ spell x) × (shows (spell x) ≡ true)
  one_written [] all key x e = absurd (let clash : ⊥ = cc in clash)
  one_written (y ∷ xs) all key x e = by (same key (spell y)) refl e (λ rest. one_written xs parts.1 key x rest)
    where
      parts : (shows (spell y) ≡ true) × (list_all (λ x. shows (spell x)) xs ≡ true)
      parts = and_parts (shows (spell y)) (list_all (λ x. shows (spell x)) xs) all

      by : (b : Bool) → same key (spell y) ≡ b → cond b (Ok y) (one_of same spell xs key) ≡ Ok x → (one_of same spell xs key ≡ Ok x → (key ≡ spell x) × (shows (spell x) ≡ true)) → (key ≡ spell x) × (shows (spell x) ≡ true)
      by true is e more =
          let value : y ≡ x = cc in
          subst (λ v. (key ≡ spell v) × (shows (spell v) ≡ true)) value (tells key (spell y) is, parts.0)
      by false is e more = more e

-- names

-- the value's word is read as it
abbrev pub IsBack : {X : Type 0} → (List ℕ → Result X RecordFault) → (X → List ℕ) → X → Type 0
IsBack {X} read spell x = read (spell x) ≡ Ok x

abbrev pub bytes_show : List ℕ → Bool
bytes_show word = list_all (λ byte. ltb 32 byte) word

same_bytes : (a b : List ℕ) → bytes_eq a b ≡ true → a ≡ b
same_bytes a b is = (bytes_eq-Decides a b).0 is

name_word : {X : Type 0} (xs : List X) (spell : X → List ℕ) (x : X) → IsBack (one_of bytes_eq spell xs) spell x → list_all (λ x. bytes_show (spell x)) xs ≡ true → one_of bytes_eq spell xs (codes "0") ≡ Err Word
    → IsWord (one_of bytes_eq spell xs) spell (IsBack (one_of bytes_eq spell xs) spell)
name_word {X} xs spell x back all zero =
    plain_word (one_of bytes_eq spell xs) spell (IsBack (one_of bytes_eq spell xs) spell) x back
    (record {
      faults = one_faults bytes_eq same_bytes spell bytes_show xs;
      zero = zero;
      written = λ word y e. let is = (one_written bytes_eq same_bytes spell bytes_show xs all word y e).0 in (is, ap (one_of bytes_eq spell xs) (sym is) ∙ e);
      back = λ y is. is;
      visible = λ y is. shown (spell y) (one_written bytes_eq same_bytes spell bytes_show xs all (spell y) y is).1;
    })

-- which circuit

pub side_is_word : IsWord side_of side_word (IsBack side_of side_word)
side_is_word = name_word (First ∷ Second ∷ []) side_word First refl refl refl

pub side_back : (x : Side) → IsBack side_of side_word x
side_back First = refl
side_back Second = refl

-- which ports

pub kind_is_word : IsWord kind_of kind_word (IsBack kind_of kind_word)
kind_is_word = name_word (Input ∷ Output ∷ []) kind_word Input refl refl refl

pub kind_back : (x : PortKind) → IsBack kind_of kind_word x
kind_back Input = refl
kind_back Output = refl

-- what is counted

pub tallied_is_word : IsWord tallied_of tallied_word (IsBack tallied_of tallied_word)
tallied_is_word = name_word (Support ∷ Binate ∷ []) tallied_word Support refl refl refl

pub tallied_back : (x : Tallied) → IsBack tallied_of tallied_word x
tallied_back Support = refl
tallied_back Binate = refl

-- names of shapes of claims, of steps, of why there is no match, and of records

pub shape_name_is_word : IsWord shape_name_of shape_word (IsBack shape_name_of shape_word)
shape_name_is_word = name_word (shape_name.Up ∷ shape_name.Down ∷ shape_name.Swap ∷ []) shape_word shape_name.Up refl refl refl

pub step_name_is_word : IsWord step_name_of step_word (IsBack step_name_of step_word)
step_name_is_word = name_word (step_name.Vector ∷ step_name.Mismatch ∷ step_name.Tally ∷ step_name.Cover ∷ []) step_word step_name.Vector refl refl refl

pub none_name_is_word : IsWord none_name_of none_word (IsBack none_name_of none_word)
none_name_is_word = name_word (none_name.Ports ∷ none_name.Ban ∷ []) none_word none_name.Ports refl refl refl

pub record_name_is_word : IsWord record_name_of record_word (IsBack record_name_of record_word)
record_name_is_word = name_word record_names record_word record_name.Line refl refl refl

-- this very word

pub named_self : (name : List ℕ) → named name name ≡ Ok true
named_self name = ap (λ b. cond b (Ok true) (Err Word)) ((bytes_eq-Decides name name).1 refl)

pub named_is_word : (name : List ℕ) → named name (codes "0") ≡ Err Word → bytes_show name ≡ true → IsWord (named name) (λ b. name) (IsBack (named name) (λ b. name))
named_is_word name zero shows = name_word (true ∷ []) (λ b. name) true (named_self name) (and_from (bytes_show name) true shows refl) zero

-- digits that are values

pub record IsDigit {X : Type 0} (read : ℕ → Result X RecordFault) (digit : X → ℕ) : Type 0 where
  pub written : (d : ℕ) (x : X) → read d ≡ Ok x → d ≡ digit x
  pub back : (x : X) → read (digit x) ≡ Ok x
  pub shows : (x : X) → 32 < digit x
  pub faults : (d : ℕ) → IsReadOrWord (read d)

one_digit : {X : Type 0} (xs : List X) (digit : X → ℕ) → list_all (λ x. ltb 32 (digit x)) xs ≡ true → ((x : X) → one_of eqb digit xs (digit x) ≡ Ok x) → IsDigit (one_of eqb digit xs) digit
one_digit {X} xs digit all back = record {
  written = λ d x e. (one_written eqb eqb-true digit (ltb 32) xs all d x e).0;
  back = back;
  shows = λ x. ltb-true 32 (digit x) (one_written eqb eqb-true digit (ltb 32) xs all (digit x) x (back x)).1;
  faults = one_faults eqb eqb-true digit (ltb 32) xs;
}

bit_is_digit : IsDigit bit_of bit_digit
bit_is_digit = one_digit (false ∷ true ∷ []) bit_digit refl back
  where
    back : (x : Bool) → bit_of (bit_digit x) ≡ Ok x
    back true = refl
    back false = refl

tri_is_digit : IsDigit tri_of tri_digit
tri_is_digit = one_digit (tri.Zero ∷ tri.One ∷ tri.X ∷ []) tri_digit refl back
  where
    back : (x : Tri) → tri_of (tri_digit x) ≡ Ok x
    back tri.Zero = refl
    back tri.One = refl
    back tri.X = refl

module _ {X : Type 0} (read : ℕ → Result X RecordFault) (digit : X → ℕ) (d : IsDigit read digit) where
  digits_written : (word : List ℕ) (xs : List X) → digits_by read word ≡ Ok xs → word ≡ map digit xs
  digits_written [] xs e = let same : [] ≡ xs = cc in ap (map digit) same
  digits_written (byte ∷ word) xs e = by (read byte) refl (digits_by read word) refl e (λ rest f. digits_written word rest f)
    where
      by : (a : Result X RecordFault) → read byte ≡ a → (r : Result (List X) RecordFault) → digits_by read word ≡ r → with_digit a r ≡ Ok xs
          → ((rest : List X) → digits_by read word ≡ Ok rest → word ≡ map digit rest) → byte ∷ word ≡ map digit xs
      by (Err f) ea r er e more = absurd (let clash : ⊥ = cc in clash)
      by (Ok x) ea (Err f) er e more = absurd (let clash : ⊥ = cc in clash)
      by (Ok x) ea (Ok rest) er e more =
          let same : x ∷ rest ≡ xs = cc in
          ap (λ b. b ∷ word) (d.written byte x ea) ∙ ap (λ w. digit x ∷ w) (more rest er) ∙ ap (map digit) same

  digits_back : (xs : List X) → digits_by read (map digit xs) ≡ Ok xs
  digits_back [] = refl
  digits_back (x ∷ xs) = ap (λ a. with_digit a (digits_by read (map digit xs))) (d.back x) ∙ ap (λ r. with_digit (Ok x) r) (digits_back xs)

  digits_show : (xs : List X) → IsVisible (map digit xs)
  digits_show [] = All-nil (λ byte. 32 < byte)
  digits_show (x ∷ xs) = All-cons (λ byte. 32 < byte) (digit x) (map digit xs) (d.shows x) (digits_show xs)

  digits_faults : (word : List ℕ) → IsReadOrWord (digits_by read word)
  digits_faults [] = tt
  digits_faults (byte ∷ word) = by (read byte) (digits_by read word) (d.faults byte) (digits_faults word)
    where
      by : (a : Result X RecordFault) (r : Result (List X) RecordFault) → IsReadOrWord a → IsReadOrWord r → IsReadOrWord (with_digit a r)
      by (Err f) r one more = one
      by (Ok x) (Err f) one more = more
      by (Ok x) (Ok rest) one more = tt

  abbrev values : List ℕ → Result (List X) RecordFault
  values word = values_in read (digits_after word)

  abbrev spelled : List X → List ℕ
  spelled xs = 61 ∷ map digit xs

  values_written : (word : List ℕ) (xs : List X) → values word ≡ Ok xs → word ≡ spelled xs
  values_written [] xs e = absurd (let clash : ⊥ = cc in clash)
  values_written (sign ∷ word) xs e = by (eqb sign 61) refl e
    where
      by : (b : Bool) → eqb sign 61 ≡ b → values_in read (cond b (Ok word) (Err Word)) ≡ Ok xs → sign ∷ word ≡ spelled xs
      by true is e = ap (λ s. s ∷ word) (eqb-true sign 61 is) ∙ ap (λ w. 61 ∷ w) (digits_written word xs e)
      by false is e = absurd (let clash : ⊥ = cc in clash)

  values_faults : (word : List ℕ) → IsReadOrWord (values word)
  values_faults [] = refl
  values_faults (sign ∷ word) = by (eqb sign 61)
    where
      by : (b : Bool) → IsReadOrWord (values_in read (cond b (Ok word) (Err Word)))
      by true = digits_faults word
      by false = refl

  pub values_word : IsWord values spelled Any
  values_word =
      plain_word values spelled Any [] tt
      (record {
        faults = values_faults;
        zero = refl;
        written = λ word xs e. (values_written word xs e, tt);
        back = λ xs fit. digits_back xs;
        visible = λ xs fit. All-cons (λ byte. 32 < byte) 61 (map digit xs) (omega arith) (digits_show xs);
      })

pub bits_is_word : IsWord bits_of bits_word Any
bits_is_word = values_word bit_of bit_digit bit_is_digit

pub tris_is_word : IsWord tris_of tris_word Any
tris_is_word = values_word tri_of tri_digit tri_is_digit

-- the two bits of a swap

abbrev pub two_bits_word : Bool × Bool → List ℕ
two_bits_word bits = bit_digit bits.0 ∷ bit_digit bits.1 ∷ []

two_bits_written : (word : List ℕ) (bits : Bool × Bool) → two_bits_of word ≡ Ok bits → word ≡ two_bits_word bits
two_bits_written (x ∷ y ∷ []) bits e = by (bit_of x) (bit_of y) refl refl e
  where
    by : (a b : Result Bool RecordFault) → bit_of x ≡ a → bit_of y ≡ b → both_bits a b ≡ Ok bits → x ∷ y ∷ [] ≡ two_bits_word bits
    by (Err f) b ea eb e = absurd (let clash : ⊥ = cc in clash)
    by (Ok a) (Err f) ea eb e = absurd (let clash : ⊥ = cc in clash)
    by (Ok a) (Ok b) ea eb e =
        let same : (a, b) ≡ bits = cc in
        ap (λ d. d ∷ y ∷ []) (bit_is_digit.written x a ea) ∙ ap (λ d. bit_digit a ∷ d ∷ []) (bit_is_digit.written y b eb) ∙ ap two_bits_word same
two_bits_written word bits e = absurd (let clash : ⊥ = cc in clash)

two_bits_faults : (word : List ℕ) → IsReadOrWord (two_bits_of word)
two_bits_faults (x ∷ y ∷ []) = by (bit_of x) (bit_of y) (bit_is_digit.faults x) (bit_is_digit.faults y)
  where
    by : (a b : Result Bool RecordFault) → IsReadOrWord a → IsReadOrWord b → IsReadOrWord (both_bits a b)
    by (Err f) b one other = one
    by (Ok a) (Err f) one other = other
    by (Ok a) (Ok b) one other = tt
two_bits_faults word = refl

pub two_bits_is_word : IsWord two_bits_of two_bits_word Any
two_bits_is_word =
    plain_word two_bits_of two_bits_word Any (false, false) tt
    (record {
      faults = two_bits_faults;
      zero = refl;
      written = λ word bits e. (two_bits_written word bits e, tt);
      back = λ bits fit. ap (λ a. both_bits a (bit_of (bit_digit bits.1))) (bit_is_digit.back bits.0) ∙ ap (λ b. both_bits (Ok bits.0) b) (bit_is_digit.back bits.1);
      visible = λ bits fit.
          All-cons (λ byte. 32 < byte) (bit_digit bits.0) (bit_digit bits.1 ∷ []) (bit_is_digit.shows bits.0)
          (All-cons (λ byte. 32 < byte) (bit_digit bits.1) [] (bit_is_digit.shows bits.1) (All-nil (λ byte. 32 < byte)));
    })
