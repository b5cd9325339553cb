-- Readers that go through a line word by word: their faults, the words at which they find a bad number, and what they write.
use Rattle.std.proofs.Common.{◌≡◌, ◌⊎◌, ℕ, ◌<◌, ◌^◌, Bool, true, false, cond, codes, List, [], ◌∷◌, ◌++◌, length, map, All, Result, Ok, Err, refl, sym, ap, subst, ◌∙◌, arith, inl, inr, length-append}
use Rattle.std.specs.Fmt.{decimal}
use Rattle.std.specs.Str.{bytes_eq}
use Rattle.std.proofs.lemmas.Bool.{false≢true, or_from}
use Rattle.std.proofs.lemmas.List.Elements.{All-nil, All-cons}
use Rattle.std.proofs.lemmas.Slice.Eq.{bytes_eq-Decides}
use Rattle.text_core.specs.Numbers.{is_numeral}
use Rattle.account_file.specs.declared.record.Record.{Record}
use Rattle.account_file.specs.declared.fault.RecordFault.{RecordFault}
use Rattle.account_file.specs.declared.fault.RecordFault.TheVariants.{Word, Number}
use Rattle.account_file.specs.Forms.{Parsed, followed, with_words, next_by, is_separator, with_item, list_by, last_part, named}
use Rattle.account_file.specs.Spelling.{IsWritable, first_word, other_words}
use Rattle.account_file.proofs.NumberLemmas.{decimal_numeral}
use Rattle.account_file.proofs.SpellingLemmas.{IsVisible}

abbrev pub Words : Type 0
Words = List (List ℕ)

-- what a reader makes of the words that are left of a line
abbrev pub Rest : Type 0
Rest = Words → Result Record RecordFault

abbrev pub record_words : Record → Words
record_words entry = first_word entry ∷ other_words entry

abbrev pub IsWordOrNumber : RecordFault → Type 0
IsWordOrNumber fault = (fault ≡ Word) ⊎ (fault ≡ Number)

-- some words are read
pub record CanRead (p : Rest) : Type 0 where
  pub words : Words
  pub entry : Record
  pub read : p words ≡ Ok entry

-- the words begin a list's end, or there is none
abbrev pub stops : Words → Bool
stops [] = true
stops (word ∷ words) = is_separator word

-- some words that may stand after a list are read
pub record CanEnd (p : Rest) : Type 0 where
  pub words : Words
  pub entry : Record
  pub ends : stops words ≡ true
  pub read : p words ≡ Ok entry

-- there is a word of digits at which each line stops, and where each number would do
pub record IsStuck (p : Rest) (words : Words) : Type 0 where
  pub front : Words
  pub word : List ℕ
  pub more : Words
  pub words_are : words ≡ front ++ word ∷ more
  pub digits : is_numeral word ≡ true
  pub stuck : (after : Words) → p (front ++ word ∷ after) ≡ Err Number
  pub fits : (n : ℕ) → n < 2 ^ 32 → CanRead (λ after. p (front ++ decimal n ∷ after))

-- what is read of a word after others is a bad number, or the word fits
abbrev pub Decides : Rest → Type 0
Decides p = ((after : Words) → p after ≡ Err Number) ⊎ CanRead p

-- The words, with those in front of them, are what is written of the record, and have no blank and no control.
pub record Writes (front : Words → Words) (words : Words) (entry : Record) : Type 0 where
  pub same : front words ≡ record_words entry
  pub writable : IsWritable entry
  pub visible : All IsVisible words

-- What a reader says of these words, and of a word of digits after them where `0` is read.
pub record IsReadAt (front : Words → Words) (p : Rest) (words : Words) : Type 0 where
  pub faults : (fault : RecordFault) → p words ≡ Err fault → IsWordOrNumber fault
  pub stuck : p words ≡ Err Number → IsStuck p words
  pub zero : (more : Words) (word : List ℕ) (entry : Record) → p (words ++ codes "0" ∷ more) ≡ Ok entry → is_numeral word ≡ true → Decides (λ after. p (words ++ word ∷ after))
  pub written : (entry : Record) → p words ≡ Ok entry → Writes front words entry

pub record IsRead (front : Words → Words) (p : Rest) : Type 0 where
  pub some : CanRead p
  pub each : (words : Words) → IsReadAt front p words

-- the same of what is read of one word
pub record Wrote {X : Type 0} (read : List ℕ → Result X RecordFault) (word : List ℕ) : Type 0 where
  pub value : X
  pub is : read word ≡ Ok value

-- One kind of word. Each value has one word, which is read as it, and has no blank and no control.
pub record IsWord {X : Type 0} (read : List ℕ → Result X RecordFault) (spell : X → List ℕ) (IsFit : X → Type 0) : Type 0 where
  pub word : List ℕ
  pub some : Wrote read word
  pub faults : (word : List ℕ) (fault : RecordFault) → read word ≡ Err fault → IsWordOrNumber fault
  pub digits : (word : List ℕ) → read word ≡ Err Number → is_numeral word ≡ true
  pub fits : (word : List ℕ) → read word ≡ Err Number → (n : ℕ) → n < 2 ^ 32 → Wrote read (decimal n)
  pub zero : (x : X) (word : List ℕ) → read (codes "0") ≡ Ok x → is_numeral word ≡ true → (read word ≡ Err Number) ⊎ Wrote read word
  pub written : (word : List ℕ) (x : X) → read word ≡ Ok x → (word ≡ spell x) × IsFit x
  pub back : (x : X) → IsFit x → read (spell x) ≡ Ok x
  pub visible : (x : X) → IsFit x → IsVisible (spell x)

no_front : (front : Words) (word : List ℕ) (more : Words) → [] ≡ front ++ word ∷ more → ⊥
no_front front word more e = omega (arith, ap length e, length-append front (word ∷ more))

-- where readers do the same
read_as : {p q : Rest} → ((after : Words) → p after ≡ q after) → CanRead q → CanRead p
read_as {p} {q} same c = record { words = c.words; entry = c.entry; read = same c.words ∙ c.read }

decides_as : {p q : Rest} → ((after : Words) → p after ≡ q after) → Decides q → Decides p
decides_as {p} {q} same (inl bad) = inl (λ after. same after ∙ bad after)
decides_as {p} {q} same (inr c) = inr (read_as same c)

stuck_as : {p q : Rest} {words others : Words} (s : IsStuck q others) (front : Words) → words ≡ front ++ s.word ∷ s.more
    → ((word : List ℕ) (after : Words) → is_numeral word ≡ true → p (front ++ word ∷ after) ≡ q (s.front ++ word ∷ after)) → IsStuck p words
stuck_as {p} {q} {words} {others} s front words_are same = record {
  front = front;
  word = s.word;
  more = s.more;
  words_are = words_are;
  digits = s.digits;
  stuck = λ after. same s.word after s.digits ∙ s.stuck after;
  fits = λ n small. read_as (λ after. same (decimal n) after (decimal_numeral n (omega (arith, small)))) (s.fits n small);
}

-- a word of digits is no separator

no_name : (word name : List ℕ) → is_numeral word ≡ true → is_numeral name ≡ false → bytes_eq word name ≡ false
no_name word name digits none = by (bytes_eq word name) refl
  where
    by : (b : Bool) → bytes_eq word name ≡ b → b ≡ false
    by true e = absurd (false≢true (sym none ∙ ap is_numeral (sym ((bytes_eq-Decides word name).0 e)) ∙ digits))
    by false e = refl

pub digits_no_separator : (word : List ℕ) → is_numeral word ≡ true → is_separator word ≡ false
digits_no_separator word digits =
    or_from (bytes_eq word (codes ":")) (bytes_eq word (codes "/")) (no_name word (codes ":") digits refl) (no_name word (codes "/") digits refl)

stop_alike : (front : Words) (one other : List ℕ) (after more : Words) → is_numeral one ≡ true → is_numeral other ≡ true → stops (front ++ one ∷ after) ≡ stops (front ++ other ∷ more)
stop_alike [] one other after more digits others = digits_no_separator one digits ∙ sym (digits_no_separator other others)
stop_alike (first ∷ front) one other after more digits others = refl

-- readers that do the same of words that stop a list, or of those that don't
alike : {front : Words → Words} (p q : Rest) (words : Words) → ((l : Words) → stops l ≡ stops words → p l ≡ q l) → ((word : List ℕ) (after : Words) → p (words ++ word ∷ after) ≡ q (words ++ word ∷ after))
    → IsReadAt front q words → IsReadAt front p words
alike {front} p q words same same_after r = record {
  faults = λ fault e. r.faults fault (sym (same words refl) ∙ e);
  stuck = λ e.
      let s = r.stuck (sym (same words refl) ∙ e) in
      stuck_as s s.front s.words_are (λ word after digits. same (s.front ++ word ∷ after) (stop_alike s.front word s.word after s.more digits s.digits ∙ ap stops (sym s.words_are)));
  zero = λ more word entry e digits. decides_as (same_after word) (r.zero more word entry (sym (same_after (codes "0") more) ∙ e) digits);
  written = λ entry e. r.written entry (sym (same words refl) ∙ e);
}

-- lists

pub list_stops : {X : Type 0} (read : List ℕ → Result X RecordFault) (words : Words) → stops words ≡ true → list_by read words ≡ Ok ([], words)
list_stops {X} read [] e = refl
list_stops {X} read (word ∷ words) e = ap (λ b. cond b (Ok ([], word ∷ words)) (with_item (read word) (list_by read words))) e

pushed : {X : Type 0} (x : X) (part : Parsed (List X)) (k : List X → Rest) → followed (with_item (Ok x) part) k ≡ followed part (λ xs. k (x ∷ xs))
pushed {X} x (Ok part) k = refl
pushed {X} x (Err fault) k = refl

-- What follows a list is read, and some words that end the list.
pub record ListRest {X : Type 0} (spell : X → List ℕ) (IsFit : X → Type 0) (front : Words → Words) (k : List X → Rest) : Type 0 where
  pub reads : (xs : List X) → All IsFit xs → IsRead (λ l. front (map spell xs ++ l)) (k xs)
  pub ends : (xs : List X) → All IsFit xs → CanEnd (k xs)

module _ {X : Type 0} {spell : X → List ℕ} {IsFit : X → Type 0} (read : List ℕ → Result X RecordFault) (w : IsWord read spell IsFit) where
  -- one word, and what follows it
  abbrev WordThen : (X → Rest) → Rest
  WordThen k words = followed (next_by read words) k

  at_word : (k : X → Rest) (word : List ℕ) (a : Result X RecordFault) → read word ≡ a → (words : Words) → WordThen k (word ∷ words) ≡ followed (with_words a words) k
  at_word k word a is words = ap (λ b. followed (with_words b words) k) is

  word_read : (k : X → Rest) → ((x : X) → IsFit x → CanRead (k x)) → (word : List ℕ) → Wrote read word → CanRead (λ after. WordThen k (word ∷ after))
  word_read k c word x = read_as (at_word k word (Ok x.value) x.is) (c x.value (w.written word x.value x.is).1)

  written_after : (front : Words → Words) (word : List ℕ) (words : Words) (x : X) (entry : Record) → read word ≡ Ok x → Writes (λ l. front (spell x ∷ l)) words entry → Writes front (word ∷ words) entry
  written_after front word words x entry is rest =
      let this = w.written word x is in
      record {
        same = ap (λ v. front (v ∷ words)) this.0 ∙ rest.same;
        writable = rest.writable;
        visible = All-cons IsVisible word words (subst IsVisible (sym this.0) (w.visible x this.1)) rest.visible;
      }

  -- no word is left
  no_word : {front : Words → Words} (k : X → Rest) → ((x : X) → IsFit x → CanRead (k x)) → IsReadAt front (WordThen k) []
  no_word {front} k c = record {
    faults = λ fault e. inl (let same : Word ≡ fault = cc in sym same);
    stuck = λ e. absurd (let no : ⊥ = cc in no);
    zero = λ more word entry e digits. by (read (codes "0")) refl more word entry e digits;
    written = λ entry e. absurd (let no : ⊥ = cc in no);
  }
    where
      by : (a : Result X RecordFault) → read (codes "0") ≡ a → (more : Words) (word : List ℕ) (entry : Record) → followed (with_words a more) k ≡ Ok entry → is_numeral word ≡ true → Decides (λ after. WordThen k (word ∷ after))
      by (Ok x) is more word entry e digits = elim (w.zero x word is digits) [
        | inl bad ↦ inl (at_word k word (Err Number) bad)
        | inr good ↦ inr (word_read k c word good)
      ]
      by (Err f) is more word entry e digits = absurd (let no : ⊥ = cc in no)

  -- a word is left, and others after it
  some_word : {front : Words → Words} (k : X → Rest) → ((x : X) → IsFit x → CanRead (k x)) → (word : List ℕ) (words : Words)
      → ((x : X) → read word ≡ Ok x → IsReadAt (λ l. front (spell x ∷ l)) (k x) words) → IsReadAt front (WordThen k) (word ∷ words)
  some_word {front} k c word words r = by (read word) refl
    where
      by : (a : Result X RecordFault) → read word ≡ a → IsReadAt front (WordThen k) (word ∷ words)
      by (Ok x) is =
          let rest = r x is in
          let here = at_word k word (Ok x) is in
          record {
            faults = λ fault e. rest.faults fault (sym (here words) ∙ e);
            stuck = λ e. let s = rest.stuck (sym (here words) ∙ e) in stuck_as s (word ∷ s.front) (ap (λ l. word ∷ l) s.words_are) (λ other after digits. here (s.front ++ other ∷ after));
            zero = λ more other entry e digits. decides_as (λ after. here (words ++ other ∷ after)) (rest.zero more other entry (sym (here (words ++ codes "0" ∷ more)) ∙ e) digits);
            written = λ entry e. written_after front word words x entry is (rest.written entry (sym (here words) ∙ e));
          }
      by (Err f) is =
          let here = at_word k word (Err f) is in
          let bad : (fault : RecordFault) → WordThen k (word ∷ words) ≡ Err fault → read word ≡ Err fault = λ fault e. let both : ◌≡◌ {A = Result Record RecordFault} (Err f) (Err fault) = sym (here words) ∙ e in let same : f ≡ fault = cc in is ∙ ap Err same in
          record {
            faults = λ fault e. w.faults word fault (bad fault e);
            stuck = λ e. let number = bad Number e in record {
              front = [];
              word = word;
              more = words;
              words_are = refl;
              digits = w.digits word number;
              stuck = at_word k word (Err Number) number;
              fits = λ n small. word_read k c (decimal n) (w.fits word number n small);
            };
            zero = λ more other entry e digits. absurd (let both : Err f ≡ Ok entry = sym (here (words ++ codes "0" ∷ more)) ∙ e in cc);
            written = λ entry e. absurd (let both : Err f ≡ Ok entry = sym (here words) ∙ e in cc);
          }

  pub next_read : {front : Words → Words} (k : X → Rest) → ((x : X) → IsFit x → IsRead (λ l. front (spell x ∷ l)) (k x)) → IsRead front (λ words. followed (next_by read words) k)
  next_read {front} k r = record { some = let c = word_read k some w.word w.some in record { words = w.word ∷ c.words; entry = c.entry; read = c.read }; each = each }
    where
      some : (x : X) → IsFit x → CanRead (k x)
      some x fit = (r x fit).some

      each : (words : Words) → IsReadAt front (WordThen k) words
      each [] = no_word k some
      each (word ∷ words) = some_word k some word words (λ x is. (r x (w.written word x is).1).each words)

  -- a list of words, and what follows it: its end, or one word and a list
  abbrev ListThen : (List X → Rest) → Rest
  ListThen k words = followed (list_by read words) k

  abbrev ItemThen : (List X → Rest) → X → Rest
  ItemThen k x = ListThen (λ xs. k (x ∷ xs))

  at_stop : (k : List X → Rest) (words : Words) → stops words ≡ true → ListThen k words ≡ k [] words
  at_stop k words e = ap (λ a. followed a k) (list_stops read words e)

  at_item : (k : List X → Rest) (words : Words) → stops words ≡ false → ListThen k words ≡ WordThen (ItemThen k) words
  at_item k [] e = absurd (let no : ⊥ = cc in no)
  at_item k (word ∷ words) e = ap (λ b. followed (cond b (Ok ([], word ∷ words)) (with_item (read word) (list_by read words))) k) e ∙ by (read word)
    where
      by : (a : Result X RecordFault) → followed (with_item a (list_by read words)) k ≡ followed (with_words a words) (ItemThen k)
      by (Ok x) = pushed x (list_by read words) k
      by (Err f) = refl

  after_item : (front : Words → Words) (k : List X → Rest) → ListRest spell IsFit front k → (x : X) → IsFit x → ListRest spell IsFit (λ l. front (spell x ∷ l)) (λ xs. k (x ∷ xs))
  after_item front k r x fit = record { reads = λ xs fits. r.reads (x ∷ xs) (All-cons IsFit x xs fit fits); ends = λ xs fits. r.ends (x ∷ xs) (All-cons IsFit x xs fit fits) }

  some_list : (front : Words → Words) (k : List X → Rest) → ListRest spell IsFit front k → CanRead (ListThen k)
  some_list front k r = let end = r.ends [] (All-nil IsFit) in record { words = end.words; entry = end.entry; read = at_stop k end.words end.ends ∙ end.read }

  list_each : (front : Words → Words) (k : List X → Rest) → ListRest spell IsFit front k → (words : Words) → IsReadAt front (ListThen k) words
  list_each front k r [] =
      let end = (r.reads [] (All-nil IsFit)).each [] in
      let item : IsReadAt front (WordThen (ItemThen k)) [] = no_word (ItemThen k) (λ x fit. some_list (λ l. front (spell x ∷ l)) (λ xs. k (x ∷ xs)) (after_item front k r x fit)) in
      record {
        faults = end.faults;
        stuck = λ e. let s = end.stuck e in absurd (no_front s.front s.word s.more s.words_are);
        zero = λ more word entry e digits. decides_as (λ after. at_item k (word ∷ after) (digits_no_separator word digits)) (item.zero more word entry (sym (at_item k (codes "0" ∷ more) refl) ∙ e) digits);
        written = end.written;
      }
  list_each front k r (word ∷ words) =
      by (is_separator word) refl (λ x is. list_each (λ l. front (spell x ∷ l)) (λ xs. k (x ∷ xs)) (after_item front k r x (w.written word x is).1) words)
    where
      by : (s : Bool) → is_separator word ≡ s → ((x : X) → read word ≡ Ok x → IsReadAt (λ l. front (spell x ∷ l)) (ItemThen k x) words) → IsReadAt front (ListThen k) (word ∷ words)
      by true is rest = alike (ListThen k) (k []) (word ∷ words) (λ l e. at_stop k l (e ∙ is)) (λ other after. at_stop k (word ∷ words ++ other ∷ after) is) ((r.reads [] (All-nil IsFit)).each (word ∷ words))
      by false is rest =
          alike (ListThen k) (WordThen (ItemThen k)) (word ∷ words) (λ l e. at_item k l (e ∙ is)) (λ other after. at_item k (word ∷ words ++ other ∷ after) is)
          (some_word (ItemThen k) (λ x fit. some_list (λ l. front (spell x ∷ l)) (λ xs. k (x ∷ xs)) (after_item front k r x fit)) word words rest)

  pub list_read : {front : Words → Words} (k : List X → Rest) → ListRest spell IsFit front k → IsRead front (λ words. followed (list_by read words) k)
  list_read {front} k r = record { some = some_list front k r; each = list_each front k r }

-- what may end lists

pub end_named : {front : Words → Words} (name : List ℕ) (k : Bool → Rest) → is_separator name ≡ true → named name name ≡ Ok true → IsRead front (k true) → CanEnd (λ words. followed (next_by (named name) words) k)
end_named {front} name k ends same r = record { words = name ∷ r.some.words; entry = r.some.entry; ends = ends; read = ap (λ a. followed (with_words a r.some.words) k) same ∙ r.some.read }

pub end_last : (entry : Record) → CanEnd (λ words. last_part entry words)
end_last entry = record { words = []; entry = entry; ends = refl; read = refl }

pub last_read : {front : Words → Words} (entry : Record) → front [] ≡ record_words entry → IsWritable entry → IsRead front (λ words. last_part entry words)
last_read {front} entry all writable = record { some = record { words = []; entry = entry; read = refl }; each = each }
  where
    each : (words : Words) → IsReadAt front (last_part entry) words
    each [] = record {
      faults = λ fault e. absurd (let no : ⊥ = cc in no);
      stuck = λ e. absurd (let no : ⊥ = cc in no);
      zero = λ more word other e digits. absurd (let no : ⊥ = cc in no);
      written = λ other e. let same : entry ≡ other = cc in record { same = all ∙ ap record_words same; writable = subst IsWritable same writable; visible = All-nil IsVisible };
    }
    each (word ∷ words) = record {
      faults = λ fault e. inl (let same : Word ≡ fault = cc in sym same);
      stuck = λ e. absurd (let no : ⊥ = cc in no);
      zero = λ more other entry e digits. absurd (let no : ⊥ = cc in no);
      written = λ other e. absurd (let no : ⊥ = cc in no);
    }

-- parts of parts

regrouped : {X Y : Type 0} (a : Parsed X) (q : X → Words → Parsed Y) (k : Y → Rest) → followed (followed a q) k ≡ followed a (λ x words. followed (q x words) k)
regrouped {X} {Y} (Ok part) q k = refl
regrouped {X} {Y} (Err fault) q k = refl

pub nested_read : {X Y : Type 0} {front : Words → Words} (p : Words → Parsed X) (q : X → Words → Parsed Y) (k : Y → Rest)
    → IsRead front (λ words. followed (p words) (λ x after. followed (q x after) k)) → IsRead front (λ words. followed (followed (p words) q) k)
nested_read {X} {Y} {front} p q k r = record {
  some = read_as same r.some;
  each = λ words. alike _ _ words (λ l e. same l) (λ word after. same (words ++ word ∷ after)) (r.each words);
}
  where
    same : (words : Words) → followed (followed (p words) q) k ≡ followed (p words) (λ x after. followed (q x after) k)
    same words = regrouped (p words) q k

pub nested_end : {X Y : Type 0} (p : Words → Parsed X) (q : X → Words → Parsed Y) (k : Y → Rest)
    → CanEnd (λ words. followed (p words) (λ x after. followed (q x after) k)) → CanEnd (λ words. followed (followed (p words) q) k)
nested_end {X} {Y} p q k c = record { words = c.words; entry = c.entry; ends = c.ends; read = regrouped (p c.words) q k ∙ c.read }
