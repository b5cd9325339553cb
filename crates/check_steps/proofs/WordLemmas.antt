-- Words that were read by their places.
use Rattle.std.proofs.Common.{◌≡◌, ◌≢◌, inl, inr, ℕ, ◌<◌, ◌≤◌, ◌↔◌, ◌==◌, ◌||◌, ◌&&◌, not, Bool, true, false, IsTrue, List, [], ◌∷◌, length, drop, Option, None, Some, IfNone, IfSome, get_or, refl, sym, ◌∙◌, ap, subst, arith}
use Rattle.std.specs.List.{between}
use Rattle.std.specs.Prelude.{codes}
use Rattle.std.specs.Str.{bytes_eq}
use Rattle.std.proofs.lemmas.Bool.{false≢true}
use Rattle.std.proofs.lemmas.Bool.Decides.{eqb_tells}
use Rattle.std.proofs.lemmas.Slice.{between_to_end}
use Rattle.std.proofs.lemmas.Slice.Eq.{bytes_eq-Decides}
use Rattle.check_steps.specs.Asks.{convert_request, flatten_request, match_request, make_request, restore_request, sweep_request, trim_request}
use Rattle.check_steps.specs.declared.words.Match.{Match as MatchWords}
use Rattle.check_steps.specs.Words.{AreBudgetAndSeed, AreFourNames, AreNames, AreTwoNames, AsksConvert, AsksFlatten, AsksInfo, AsksMake, AsksMatch, AsksRestore, AsksSweep, AsksTrim, HaveInfoForm, HaveSweepForm, IsNumber, MakeRequest, SweepRequest}
use Rattle.check_steps.specs.declared.words.Info.{Info as InfoWords}
use Rattle.check_steps.specs.declared.words.Make.{Make as MakeWords}
use Rattle.check_steps.specs.declared.words.Restore.{Restore as RestoreWords}
use Rattle.check_steps.specs.declared.words.Convert.{Convert as ConvertWords}
use Rattle.check_steps.specs.declared.words.Flatten.{Flatten as FlattenWords}
use Rattle.check_steps.specs.declared.words.Sweep.{Sweep as SweepWords}
use Rattle.check_steps.specs.declared.words.Trim.{Trim as TrimWords}

-- a text of which a test said that it isn't empty
pub not_empty : (text : List ℕ) (empty : Bool) → empty ≡ (length text == 0) → empty ≡ false → text ≢ []
not_empty text empty test refused e = false≢true (sym refused ∙ test ∙ ap (λ t. length t == 0) e)

-- four words that were read by their places
pub four : {X : Type 0} (xs : List X) (a b c d : X) → 4 ≤ length xs → length xs < 5 → a ≡ get_or xs 0 a → b ≡ get_or xs 1 b → c ≡ get_or xs 2 c → d ≡ get_or xs 3 d → xs ≡ a ∷ b ∷ c ∷ d ∷ []
four (x ∷ y ∷ z ∷ w ∷ []) a b c d low high ea eb ec ed = cc
four xs a b c d low high ea eb ec ed = absurd (omega arith)

pub two : {X : Type 0} (xs : List X) (a b : X) → 2 ≤ length xs → length xs < 3 → a ≡ get_or xs 0 a → b ≡ get_or xs 1 b → xs ≡ a ∷ b ∷ []
two (x ∷ y ∷ []) a b low high ea eb = cc
two xs a b low high ea eb = absurd (omega arith)

pub three : {X : Type 0} (xs : List X) (a b c : X) → 3 ≤ length xs → length xs < 4 → a ≡ get_or xs 0 a → b ≡ get_or xs 1 b → c ≡ get_or xs 2 c → xs ≡ a ∷ b ∷ c ∷ []
three (x ∷ y ∷ z ∷ []) a b c low high ea eb ec = cc
three xs a b c low high ea eb ec = absurd (omega arith)

-- what a name makes of words of the form
pub asks_if : (words : List (List ℕ)) (file : List ℕ) (budget : ℕ) (result : Option InfoWords) → HaveInfoForm words file budget → IfSome result (λ info. (info.file.now ≡ file) × (info.budget ≡ budget) × (file ≢ [])) → IfSome result (λ info. AsksInfo words info.file.now info.budget)
asks_if words file budget None form is = tt
asks_if words file budget (Some info) form is = record {
  form = subst (λ file. HaveInfoForm words file info.budget) (sym is.0) (subst (HaveInfoForm words file) (sym is.1) form);
  named = λ e. is.2 (sym is.0 ∙ e);
}

four_up : {X : Type 0} (xs : List X) (a b c d : X) → 4 ≤ length xs → a ≡ get_or xs 0 a → b ≡ get_or xs 1 b → c ≡ get_or xs 2 c → d ≡ get_or xs 3 d → xs ≡ a ∷ b ∷ c ∷ d ∷ drop 4 xs
four_up (x ∷ y ∷ z ∷ w ∷ rest) a b c d low ea eb ec ed = cc
four_up xs a b c d low ea eb ec ed = absurd (omega arith)

pub four_after : {X : Type 0} (xs : List X) (a b c d : X) → 4 ≤ length xs → a ≡ get_or xs 0 a → b ≡ get_or xs 1 b → c ≡ get_or xs 2 c → d ≡ get_or xs 3 d → xs ≡ a ∷ b ∷ c ∷ d ∷ between 4 (length xs) xs
four_after xs a b c d low ea eb ec ed = four_up xs a b c d low ea eb ec ed ∙ ap (λ rest. a ∷ b ∷ c ∷ d ∷ rest) (sym (between_to_end xs 4 (length xs) (omega arith)))

-- what names and numbers make of words of the form
pub asks_match : (words : List (List ℕ)) (first second account : List ℕ) (numbers : List (List ℕ)) (result : Option MatchWords)
    → words ≡ codes "match" ∷ first ∷ second ∷ account ∷ numbers
    → IfSome result (λ asked. (asked.first.now ≡ first) × (asked.second.now ≡ second) × (asked.account.now ≡ account))
    → IfSome result (λ asked. AreNames first second account)
    → IfSome result (λ asked. AreBudgetAndSeed numbers asked.budget asked.seed)
    → IfSome result (λ asked. AsksMatch words (match_request asked))
asks_match words first second account numbers None form are names_are numbers_are = tt
asks_match words first second account numbers (Some asked) form are names_are numbers_are = record {
  numbers = numbers;
  form = form ∙ ap (λ name. codes "match" ∷ name ∷ second ∷ account ∷ numbers) (sym are.0) ∙ ap (λ name. codes "match" ∷ asked.first.now ∷ name ∷ account ∷ numbers) (sym are.1) ∙ ap (λ name. codes "match" ∷ asked.first.now ∷ asked.second.now ∷ name ∷ numbers) (sym are.2);
  names = subst (λ name. AreNames name asked.second.now asked.account.now) (sym are.0) (subst (λ name. AreNames first name asked.account.now) (sym are.1) (subst (AreNames first second) (sym are.2) names_are));
  numbers_are = numbers_are;
}

is_nothing : (text : List ℕ) → true ≡ (length text == 0) → text ≡ []
is_nothing [] e = refl
is_nothing (x ∷ text) e = elim (eqb_tells (length (x ∷ text)) 0) [ inl (t, same) ↦ absurd (omega (arith, same)) | inr (t, other) ↦ absurd (false≢true (sym t ∙ sym e)) ]

names_if : (first second account : List ℕ) (a b c d e : Bool) → a ≡ (length first == 0) → b ≡ (length second == 0) → c ≡ (length account == 0) → d ≡ bytes_eq account first → e ≡ bytes_eq account second
    → IsTrue (not ((((a || b) || c) || d) || e)) → AreNames first second account
names_if first second account false false false false false ea eb ec ed ee t = record {
  first_named = not_empty first false ea refl;
  second_named = not_empty second false eb refl;
  account_named = not_empty account false ec refl;
  not_first = λ same. false≢true (ed ∙ (bytes_eq-Decides account first).1 same);
  not_second = λ same. false≢true (ee ∙ (bytes_eq-Decides account second).1 same);
}
names_if first second account a b c d e ea eb ec ed ee t = absurd (false≢true t)

only_names : (first second account : List ℕ) (a b c d e : Bool) → a ≡ (length first == 0) → b ≡ (length second == 0) → c ≡ (length account == 0) → d ≡ bytes_eq account first → e ≡ bytes_eq account second
    → AreNames first second account → IsTrue (not ((((a || b) || c) || d) || e))
only_names first second account true b c d e ea eb ec ed ee are = absurd (are.first_named (is_nothing first ea))
only_names first second account false true c d e ea eb ec ed ee are = absurd (are.second_named (is_nothing second eb))
only_names first second account false false true d e ea eb ec ed ee are = absurd (are.account_named (is_nothing account ec))
only_names first second account false false false true e ea eb ec ed ee are = absurd (are.not_first ((bytes_eq-Decides account first).0 (sym ed)))
only_names first second account false false false false true ea eb ec ed ee are = absurd (are.not_second ((bytes_eq-Decides account second).0 (sym ee)))
only_names first second account false false false false false ea eb ec ed ee are = refl

pub names_tested : (first second account : List ℕ) (a b c d e : Bool) → a ≡ (length first == 0) → b ≡ (length second == 0) → c ≡ (length account == 0) → d ≡ bytes_eq account first → e ≡ bytes_eq account second
    → IsTrue (not ((((a || b) || c) || d) || e)) ↔ AreNames first second account
names_tested first second account a b c d e ea eb ec ed ee = (names_if first second account a b c d e ea eb ec ed ee, only_names first second account a b c d e ea eb ec ed ee)

-- what a number and two names make of words of the form
pub asks_make : (words : List (List ℕ)) (word first second : List ℕ) (number : ℕ) (result : Option MakeWords)
    → words ≡ codes "make" ∷ word ∷ first ∷ second ∷ []
    → IsNumber word number
    → IfSome result (λ made. (made.number ≡ number) × (made.first.now ≡ first) × (made.second.now ≡ second))
    → IfSome result (λ made. AreTwoNames first second)
    → IfSome result (λ made. AsksMake words (make_request made))
asks_make words word first second number None form is are names = tt
asks_make words word first second number (Some made) form is are names = record {
  word = word;
  form = form ∙ ap (λ name. codes "make" ∷ word ∷ name ∷ second ∷ []) (sym are.1) ∙ ap (λ name. codes "make" ∷ word ∷ made.first.now ∷ name ∷ []) (sym are.2);
  number_is = subst (IsNumber word) (sym are.0) is;
  names = subst (λ name. AreTwoNames name made.second.now) (sym are.1) (subst (AreTwoNames first) (sym are.2) names);
}

-- where the second word is no number, no pair is asked for
pub not_make : (words : List (List ℕ)) (word : List ℕ) → get_or words 1 [] ≡ word → ((value : ℕ) → IsNumber word value → ⊥) → (request : MakeRequest) → AsksMake words request → ⊥
not_make words word is none request asks =
    let same : asks.word ≡ word = sym (ap (λ (words : List (List ℕ)). get_or words 1 []) asks.form) ∙ is in
    none request.number (subst (λ w. IsNumber w request.number) same asks.number_is)

-- where the fourth word of four is no number, no netlist is to be swept
pub not_sweep : (words : List (List ℕ)) (word : List ℕ) → length words ≡ 4 → get_or words 3 [] ≡ word → ((value : ℕ) → IsNumber word value → ⊥) → (request : SweepRequest) → AsksSweep words request → ⊥
not_sweep words word many is none request asks =
    elim asks.form [
      | inl (form, same) ↦ omega (arith, many, ap length form)
      | inr (other, form, number) ↦
          let same : other ≡ word = sym (ap (λ (words : List (List ℕ)). get_or words 3 []) form) ∙ is in
          none request.allowance (subst (λ w. IsNumber w request.allowance) same number)
    ]

-- what nothing says
pub none_says : {X : Type 0} (P : Type 0) (result : Option X) → P → IfNone result P
none_says P None holds = holds
none_says P (Some x) holds = tt

two_names_if : (first second : List ℕ) (a b c : Bool) → a ≡ (length first == 0) → b ≡ (length second == 0) → c ≡ bytes_eq second first → IsTrue (not ((a || b) || c)) → AreTwoNames first second
two_names_if first second false false false ea eb ec t = record {
  first_named = not_empty first false ea refl;
  second_named = not_empty second false eb refl;
  apart = λ same. false≢true (ec ∙ (bytes_eq-Decides second first).1 same);
}
two_names_if first second a b c ea eb ec t = absurd (false≢true t)

only_two_names : (first second : List ℕ) (a b c : Bool) → a ≡ (length first == 0) → b ≡ (length second == 0) → c ≡ bytes_eq second first → AreTwoNames first second → IsTrue (not ((a || b) || c))
only_two_names first second true b c ea eb ec are = absurd (are.first_named (is_nothing first ea))
only_two_names first second false true c ea eb ec are = absurd (are.second_named (is_nothing second eb))
only_two_names first second false false true ea eb ec are = absurd (are.apart ((bytes_eq-Decides second first).0 (sym ec)))
only_two_names first second false false false ea eb ec are = refl

pub two_names_tested : (first second : List ℕ) (a b c : Bool) → a ≡ (length first == 0) → b ≡ (length second == 0) → c ≡ bytes_eq second first → IsTrue (not ((a || b) || c)) ↔ AreTwoNames first second
two_names_tested first second a b c ea eb ec = (two_names_if first second a b c ea eb ec, only_two_names first second a b c ea eb ec)

pub five : {X : Type 0} (xs : List X) (a b c d e : X) → 5 ≤ length xs → length xs < 6 → a ≡ get_or xs 0 a → b ≡ get_or xs 1 b → c ≡ get_or xs 2 c → d ≡ get_or xs 3 d → e ≡ get_or xs 4 e → xs ≡ a ∷ b ∷ c ∷ d ∷ e ∷ []
five (x ∷ y ∷ z ∷ w ∷ u ∷ []) a b c d e low high ea eb ec ed ee = cc
five xs a b c d e low high ea eb ec ed ee = absurd (omega arith)

-- what four names make of words of the form
five_words : (command first second account written : List ℕ) (first' second' account' written' : List ℕ) (words : List (List ℕ))
    → words ≡ command ∷ first ∷ second ∷ account ∷ written ∷ []
    → (first' ≡ first) × (second' ≡ second) × (account' ≡ account) × (written' ≡ written)
    → words ≡ command ∷ first' ∷ second' ∷ account' ∷ written' ∷ []
five_words command first second account written first' second' account' written' words form are =
    form ∙ ap (λ name. command ∷ name ∷ second ∷ account ∷ written ∷ []) (sym are.0) ∙ ap (λ name. command ∷ first' ∷ name ∷ account ∷ written ∷ []) (sym are.1) ∙ ap (λ name. command ∷ first' ∷ second' ∷ name ∷ written ∷ []) (sym are.2) ∙ ap (λ name. command ∷ first' ∷ second' ∷ account' ∷ name ∷ []) (sym are.3)

four_names_too : (first second account written : List ℕ) (first' second' account' written' : List ℕ)
    → AreFourNames first second account written
    → (first' ≡ first) × (second' ≡ second) × (account' ≡ account) × (written' ≡ written)
    → AreFourNames first' second' account' written'
four_names_too first second account written first' second' account' written' names are =
    subst (λ name. AreFourNames name second' account' written') (sym are.0) (subst (λ name. AreFourNames first name account' written') (sym are.1) (subst (λ name. AreFourNames first second name written') (sym are.2) (subst (AreFourNames first second account) (sym are.3) names)))

pub asks_restore : (words : List (List ℕ)) (first second account restored : List ℕ) (result : Option RestoreWords)
    → words ≡ codes "restore" ∷ first ∷ second ∷ account ∷ restored ∷ []
    → IfSome result (λ asked. (asked.first.now ≡ first) × (asked.second.now ≡ second) × (asked.account.now ≡ account) × (asked.restored.now ≡ restored))
    → IfSome result (λ asked. AreFourNames first second account restored)
    → IfSome result (λ asked. AsksRestore words (restore_request asked))
asks_restore words first second account restored None form are names_are = tt
asks_restore words first second account restored (Some asked) form are names_are = record {
  form = five_words (codes "restore") first second account restored asked.first.now asked.second.now asked.account.now asked.restored.now words form are;
  names = four_names_too first second account restored asked.first.now asked.second.now asked.account.now asked.restored.now names_are are;
}

pub asks_trim : (words : List (List ℕ)) (first second account trimmed : List ℕ) (result : Option TrimWords)
    → words ≡ codes "trim" ∷ first ∷ second ∷ account ∷ trimmed ∷ []
    → IfSome result (λ asked. (asked.first.now ≡ first) × (asked.second.now ≡ second) × (asked.account.now ≡ account) × (asked.trimmed.now ≡ trimmed))
    → IfSome result (λ asked. AreFourNames first second account trimmed)
    → IfSome result (λ asked. AsksTrim words (trim_request asked))
asks_trim words first second account trimmed None form are names_are = tt
asks_trim words first second account trimmed (Some asked) form are names_are = record {
  form = five_words (codes "trim") first second account trimmed asked.first.now asked.second.now asked.account.now asked.trimmed.now words form are;
  names = four_names_too first second account trimmed asked.first.now asked.second.now asked.account.now asked.trimmed.now names_are are;
}

-- what two names make of words of the form
pub asks_convert : (words : List (List ℕ)) (account converted : List ℕ) (result : Option ConvertWords)
    → words ≡ codes "convert" ∷ account ∷ converted ∷ []
    → IfSome result (λ asked. (asked.account.now ≡ account) × (asked.converted.now ≡ converted))
    → IfSome result (λ asked. AreTwoNames account converted)
    → IfSome result (λ asked. AsksConvert words (convert_request asked))
asks_convert words account converted None form are names_are = tt
asks_convert words account converted (Some asked) form are names_are = record {
  form = form ∙ ap (λ name. codes "convert" ∷ name ∷ converted ∷ []) (sym are.0) ∙ ap (λ name. codes "convert" ∷ asked.account.now ∷ name ∷ []) (sym are.1);
  names = subst (λ name. AreTwoNames name asked.converted.now) (sym are.0) (subst (AreTwoNames account) (sym are.1) names_are);
}

-- and for a file of models to be flattened
pub asks_flatten : (words : List (List ℕ)) (file flat : List ℕ) (result : Option FlattenWords)
    → words ≡ codes "flatten" ∷ file ∷ flat ∷ []
    → IfSome result (λ asked. (asked.file.now ≡ file) × (asked.flat.now ≡ flat))
    → IfSome result (λ asked. AreTwoNames file flat)
    → IfSome result (λ asked. AsksFlatten words (flatten_request asked))
asks_flatten words file flat None form are names_are = tt
asks_flatten words file flat (Some asked) form are names_are = record {
  form = form ∙ ap (λ name. codes "flatten" ∷ name ∷ flat ∷ []) (sym are.0) ∙ ap (λ name. codes "flatten" ∷ asked.file.now ∷ name ∷ []) (sym are.1);
  names = subst (λ name. AreTwoNames name asked.flat.now) (sym are.0) (subst (AreTwoNames file) (sym are.1) names_are);
}

-- what two names make of words of the form, with an allowance
pub asks_sweep : (words : List (List ℕ)) (file swept : List ℕ) (allowance : ℕ) (result : Option SweepWords)
    → HaveSweepForm words (record { file = file; swept = swept; allowance = allowance })
    → IfSome result (λ asked. (asked.file.now ≡ file) × (asked.swept.now ≡ swept) × (asked.allowance ≡ allowance))
    → IfSome result (λ asked. AreTwoNames file swept)
    → IfSome result (λ asked. AsksSweep words (sweep_request asked))
asks_sweep words file swept allowance None form are names_are = tt
asks_sweep words file swept allowance (Some asked) form are names_are = record {
  form = subst (λ name. HaveSweepForm words (record { file = name; swept = asked.swept.now; allowance = asked.allowance })) (sym are.0) (subst (λ name. HaveSweepForm words (record { file = file; swept = name; allowance = asked.allowance })) (sym are.1) (subst (λ n. HaveSweepForm words (record { file = file; swept = swept; allowance = n })) (sym are.2) form));
  names = subst (λ name. AreTwoNames name asked.swept.now) (sym are.0) (subst (AreTwoNames file) (sym are.1) names_are);
}

-- four names are two that are read with the one that is written, and the account with it
four_names : (first second account restored : List ℕ) → AreNames first second restored → AreTwoNames account restored → AreFourNames first second account restored
four_names first second account restored names pair = record {
  first_named = names.first_named;
  second_named = names.second_named;
  account_named = pair.first_named;
  restored_named = names.account_named;
  not_first = names.not_first;
  not_second = names.not_second;
  not_account = pair.apart;
}

read_names : (first second account restored : List ℕ) → AreFourNames first second account restored → AreNames first second restored
read_names first second account restored are = record {
  first_named = are.first_named;
  second_named = are.second_named;
  account_named = are.restored_named;
  not_first = are.not_first;
  not_second = are.not_second;
}

account_names : (first second account restored : List ℕ) → AreFourNames first second account restored → AreTwoNames account restored
account_names first second account restored are = record {
  first_named = are.account_named;
  second_named = are.restored_named;
  apart = are.not_account;
}

pub four_names_tested : (first second account restored : List ℕ) (a b : Bool) → IsTrue a ↔ AreNames first second restored → IsTrue b ↔ AreTwoNames account restored → IsTrue (a && b) ↔ AreFourNames first second account restored
four_names_tested first second account restored true true one two = (λ t. four_names first second account restored (one.0 refl) (two.0 refl), λ are. refl)
four_names_tested first second account restored true false one two = (λ t. absurd (false≢true t), λ are. two.1 (account_names first second account restored are))
four_names_tested first second account restored false true one two = (λ t. absurd (false≢true t), λ are. one.1 (read_names first second account restored are))
four_names_tested first second account restored false false one two = (λ t. absurd (false≢true t), λ are. one.1 (read_names first second account restored are))
