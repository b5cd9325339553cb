-- For `names`: which model has a name, and the ports of the model at a place.
use Rattle.std.proofs.Common.{◌≡◌, ℕ, zero, suc, ◌+◌, ◌<◌, ◌≤◌, Bool, true, false, not, cond, eqb, List, [], ◌∷◌, ◌++◌, length, get_or, take, Option, None, Some, refl, ap, sym, subst, ◌∙◌, inl, inr, arith}
use Rattle.std.specs.Prelude.{is_some, nat_lt, option_map, position, slice_get}
use Rattle.std.specs.Option.{option_or}
use Rattle.std.specs.List.{AllZip, list_any, list_all, position_or_len}
use Rattle.std.specs.Str.{bytes_eq}
use Rattle.std.proofs.lemmas.Bool.{cases_lt}
use Rattle.std.proofs.lemmas.Bool.Decides.{nat_tests}
use Rattle.std.proofs.lemmas.Option.{same_Some, cond_some, slice_get_read, slice_get_past}
use Rattle.std.proofs.lemmas.List.{take_more, length_push, length-take-le}
use Rattle.std.proofs.lemmas.List.Folds.{position_or_len_push, list_all-map}
use Rattle.text_core.specs.Piece.{Piece}
use Rattle.blif_reader.specs.declared.names.PortNames.{PortNames}
use Rattle.blif_reader.specs.Numbers.{bytes_of}
use Rattle.blif_reader.proofs.NumberLemmas.{list_any-map, any_place}
use Rattle.hier_blif.specs.declared.fault.HierFault.{HierFault}
use Rattle.hier_blif.specs.declared.fault.HierKind.TheVariants as wrong
use Rattle.hier_blif.specs.declared.model.InstanceLine.{InstanceLine}
use Rattle.hier_blif.specs.declared.model.BlifModel.{BlifModel}
use Rattle.hier_blif.specs.Stops.{first_of}
use Rattle.hier_blif.specs.Models.{no_name, empty_model}
use Rattle.hier_blif.specs.Names.{is_among, has_name}
use Rattle.hier_blif.specs.NameFaults.{when, model_faults}
use Rattle.hier_blif.specs.Scopes.{number_of, with_number, model_at, HasPorts}
use Rattle.hier_blif.proofs.ElementLemmas.{same_bytes}

-- the place of the first that passes, or the length
place_by : (t : Bool) (n m : ℕ) → n ≤ m → cond (not t) (1 + n) 0 ≤ suc m
place_by true n m h = omega (arith, h)
place_by false n m h = omega (arith, h)

place_within : {X : Type 0} (p : X → Bool) (xs : List X) → position_or_len p xs ≤ length xs
place_within p [] = omega arith
place_within p (x ∷ xs) = place_by (p x) (position_or_len p xs) (length xs) (place_within p xs)

none_by : (t : Bool) (n m : ℕ) → nat_lt n m ≡ t → n ≤ m → cond t (Some n) None ≡ None → m ≡ n
none_by true n m e h none = cc none
none_by false n m e h none = grind (arith, nat_tests)

pub no_place : {X : Type 0} (p : X → Bool) (xs : List X) → position p xs ≡ None → length xs ≡ position_or_len p xs
no_place p xs none =
    none_by (nat_lt (position_or_len p xs) (length xs)) (position_or_len p xs) (length xs) refl (place_within p xs) none

pub some_place : {X : Type 0} (p : X → Bool) (xs : List X) (n : ℕ) → position p xs ≡ Some n → n ≡ position_or_len p xs
some_place p xs n h =
    sym (cond_some (nat_lt (position_or_len p xs) (length xs)) (position_or_len p xs) n h).1

-- of one element more
abbrev placed : ℕ → ℕ → Option ℕ
placed n m = cond (nat_lt n m) (Some n) None

at_end : (t : Bool) (m : ℕ) → placed (m + cond t 0 1) (m + 1) ≡ cond t (Some m) None
at_end true m =
    let e : nat_lt (m + 0) (m + 1) ≡ true = grind (arith, nat_tests) in
    let same : m + 0 ≡ m = omega arith in
    ap (λ t. cond t (Some (m + 0)) None) e ∙ ap (λ (n : ℕ). Some n) same
at_end false m =
    let e : nat_lt (m + 1) (m + 1) ≡ false = grind (arith, nat_tests) in
    ap (λ t. cond t (Some (m + 1)) None) e

push_less : (n m : ℕ) (t : Bool) → n < m → placed (cond (eqb n m) (m + cond t 0 1) n) (m + 1) ≡ option_or (placed n m) (cond t (Some m) None)
push_less n m t h =
    let apart : eqb n m ≡ false = grind (arith, nat_tests) in
    let below : nat_lt n m ≡ true = grind (arith, nat_tests) in
    let later : nat_lt n (m + 1) ≡ true = grind (arith, nat_tests) in
    ap (λ b. placed (cond b (m + cond t 0 1) n) (m + 1)) apart
    ∙ (ap (λ b. cond b (Some n) None) later ∙ sym (ap (λ b. option_or (cond b (Some n) None) (cond t (Some m) None)) below))

push_last : (n m : ℕ) (t : Bool) → n ≡ m → placed (cond (eqb n m) (m + cond t 0 1) n) (m + 1) ≡ option_or (placed n m) (cond t (Some m) None)
push_last n m t h =
    let same : eqb n m ≡ true = grind (arith, nat_tests) in
    let past : nat_lt n m ≡ false = grind (arith, nat_tests) in
    ap (λ b. placed (cond b (m + cond t 0 1) n) (m + 1)) same
    ∙ (at_end t m ∙ sym (ap (λ b. option_or (cond b (Some n) None) (cond t (Some m) None)) past))

push_by : (n m : ℕ) (t : Bool) → n ≤ m → placed (cond (eqb n m) (m + cond t 0 1) n) (m + 1) ≡ option_or (placed n m) (cond t (Some m) None)
push_by n m t h = elim (cases_lt n m) [
  | inl less ↦ push_less n m t less
  | inr past ↦ push_last n m t (omega (arith, h, past))
]

position_push : {X : Type 0} (p : X → Bool) (xs : List X) (x : X) → position p (xs ++ x ∷ []) ≡ option_or (position p xs) (cond (p x) (Some (length xs)) None)
position_push p xs x =
    ap (λ n. placed n (length (xs ++ x ∷ []))) (position_or_len_push p xs x)
    ∙ (ap (λ m. placed (cond (eqb (position_or_len p xs) (length xs)) (length xs + cond (p x) 0 1) (position_or_len p xs)) m) (length_push xs x)
    ∙ push_by (position_or_len p xs) (length xs) (p x) (place_within p xs))

-- names that are numbered, the first of a name
pub or_none : (o : Option ℕ) → o ≡ option_or o None
or_none None = refl
or_none (Some n) = refl

or_other : (o : Option ℕ) (other : Option ℕ) → is_some o ≡ true → o ≡ option_or o other
or_other None other h = cc h
or_other (Some n) other h = refl

lookup_push : (numbers : List (List ℕ × ℕ)) (name : List ℕ) (number : ℕ) (q : List ℕ) → number_of (numbers ++ (name, number) ∷ []) q ≡ option_or (number_of numbers q) (cond (bytes_eq q name) (Some number) None)
lookup_push [] name number q = refl
lookup_push (entry ∷ numbers) name number q =
    found (bytes_eq q entry.0) entry.1 (number_of numbers q) (number_of (numbers ++ (name, number) ∷ []) q) (cond (bytes_eq q name) (Some number) None) (lookup_push numbers name number q)
  where
    found : (t : Bool) (v : ℕ) (o r other : Option ℕ) → r ≡ option_or o other → cond t (Some v) r ≡ option_or (cond t (Some v) o) other
    found true v o r other h = refl
    found false v o r other h = h

kept_number : (t : Bool) (numbers : List (List ℕ × ℕ)) (name : List ℕ) (number : ℕ) (q : List ℕ) → bytes_eq q name ≡ t → is_some (number_of numbers name) ≡ true → number_of numbers q ≡ option_or (number_of numbers q) (cond t (Some number) None)
kept_number false numbers name number q e h = or_none (number_of numbers q)
kept_number true numbers name number q e h =
    or_other (number_of numbers q) (Some number) (ap (λ n. is_some (number_of numbers n)) (same_bytes q name e) ∙ h)

pub with_by : (t : Bool) (numbers : List (List ℕ × ℕ)) (name : List ℕ) (number : ℕ) (q : List ℕ) → is_some (number_of numbers name) ≡ t → number_of (cond t numbers (numbers ++ (name, number) ∷ [])) q ≡ option_or (number_of numbers q) (cond (bytes_eq q name) (Some number) None)
with_by true numbers name number q e = kept_number (bytes_eq q name) numbers name number q refl e
with_by false numbers name number q e = lookup_push numbers name number q

-- one element more is numbered
mapped : (number : ℕ → ℕ) (o : Option ℕ) (t : Bool) (k : ℕ) → option_or (option_map number o) (cond t (Some (number k)) None) ≡ option_map number (option_or o (cond t (Some k) None))
mapped number (Some n) t k = refl
mapped number None true k = refl
mapped number None false k = refl

pub numbered_next : {X : Type 0} (key : X → List ℕ) (number : ℕ → ℕ) (xs : List X) (k : ℕ) (x : X) (old new : List (List ℕ × ℕ)) → k < length xs → x ≡ get_or xs k x → ((name : List ℕ) → number_of old name ≡ option_map number (position (λ y. bytes_eq name (key y)) (take k xs))) → new ≡ with_number old (key x) (number k) → (name : List ℕ) → number_of new name ≡ option_map number (position (λ y. bytes_eq name (key y)) (take (k + 1) xs))
numbered_next {X} key number xs k x old new below is so_far n name =
    let p = λ (y : X). bytes_eq name (key y) in
    let more : take k xs ++ x ∷ [] ≡ take (k + 1) xs = sym (take_more xs k x below ∙ ap (λ y. take k xs ++ y ∷ []) (sym is)) in
    let count : length (take k xs) ≡ k = length-take-le k xs (omega (arith, below)) in
    ap (λ ns. number_of ns name) n
    ∙ (with_by (is_some (number_of old (key x))) old (key x) (number k) name refl
    ∙ (ap (λ o. option_or o (cond (p x) (Some (number k)) None)) (so_far name)
    ∙ (mapped number (position p (take k xs)) (p x) k
    ∙ ap (option_map number) (ap (λ j. option_or (position p (take k xs)) (cond (p x) (Some j) None)) (sym count)
    ∙ (sym (position_push p (take k xs) x) ∙ ap (position p) more)))))

-- a model, by its place
same_number : (o : Option ℕ) → option_map (λ n. n) o ≡ o
same_number None = refl
same_number (Some n) = refl

pub numbered_more : (models : List BlifModel) (k : ℕ) (model : BlifModel) (old new : List (List ℕ × ℕ)) → k < length models → model ≡ get_or models k model → ((name : List ℕ) → number_of old name ≡ position (has_name name) (take k models)) → new ≡ with_number old model.name.bytes k → (name : List ℕ) → number_of new name ≡ position (has_name name) (take (k + 1) models)
numbered_more models k model old new below is so_far n name =
    numbered_next (λ (m : BlifModel). m.name.bytes) (λ place. place) models k model old new below is (λ q. so_far q ∙ sym (same_number (position (has_name q) (take k models)))) n name
    ∙ same_number (position (has_name name) (take (k + 1) models))

-- the ports at a place
pub ports_at : (models : List BlifModel) (ports : List PortNames) (place : ℕ) (found : PortNames) → AllZip HasPorts models ports → slice_get ports place ≡ Some found → HasPorts (model_at models place) found
ports_at [] [] place found all get = absurd (cc get)
ports_at [] (p ∷ ports) place found all get = absurd all
ports_at (m ∷ models) [] place found all get = absurd all
ports_at (m ∷ models) (p ∷ ports) zero found all get = subst (HasPorts m) (same_Some p found get) all.0
ports_at (m ∷ models) (p ∷ ports) (suc place) found all get = ports_at models ports place found all.1 get

pub no_model_at : (models : List BlifModel) (ports : List PortNames) (place : ℕ) → AllZip HasPorts models ports → slice_get ports place ≡ None → model_at models place ≡ empty_model 0 no_name
no_model_at [] [] place all get = refl
no_model_at [] (p ∷ ports) place all get = absurd all
no_model_at (m ∷ models) [] place all get = absurd all
no_model_at (m ∷ models) (p ∷ ports) zero all get = absurd (cc get)
no_model_at (m ∷ models) (p ∷ ports) (suc place) all get = no_model_at models ports place all.1 get

-- whether a name is among words, by their bytes
pub among_named : (name : List ℕ) (words : List Piece) (names : List (List ℕ)) → names ≡ bytes_of words → list_any (bytes_eq name) names ≡ is_among name words
among_named name words names is =
    ap (list_any (bytes_eq name)) is ∙ list_any-map (bytes_eq name) (λ (w : Piece). w.bytes) words

pub all_named : (p : List ℕ → Bool) (words : List Piece) (names : List (List ℕ)) → names ≡ bytes_of words → list_all p names ≡ list_all (λ (w : Piece). p w.bytes) words
all_named p words names is = ap (list_all p) is ∙ list_all-map p (λ (w : Piece). w.bytes) words

abbrev no_model_at_word : ℕ → Option HierFault
no_model_at_word at = Some (record { kind = wrong.NoModel; at = at })

-- an instance of a model, and of none
pub is_there : (models : List BlifModel) (line : InstanceLine) (place : ℕ) → place ≡ position_or_len (has_name line.model.bytes) models → place < length models → model_faults models line ≡ []
is_there models line place is below =
    let p = has_name line.model.bytes in
    let some : list_any p models ≡ true = sym (any_place p models) ∙ below_true (position_or_len p models) (length models) (subst (λ n. n < length models) is below) in
    ap (λ t. when (not t) wrong.NoModel line.model.at) some
  where
    below_true : (n m : ℕ) → n < m → nat_lt n m ≡ true
    below_true n m h = grind (arith, nat_tests)

pub not_there : (models : List BlifModel) (line : InstanceLine) (place at : ℕ) → place ≡ position_or_len (has_name line.model.bytes) models → length models ≤ place → at ≡ line.model.at → first_of (model_faults models line) ≡ Some (record { kind = wrong.NoModel; at = at })
not_there models line place at is past a =
    let p = has_name line.model.bytes in
    let none : list_any p models ≡ false = sym (any_place p models) ∙ past_false (position_or_len p models) (length models) (subst (λ n. length models ≤ n) is past) in
    ap (λ t. first_of (when (not t) wrong.NoModel line.model.at)) none ∙ ap no_model_at_word (sym a)
  where
    past_false : (n m : ℕ) → m ≤ n → nat_lt n m ≡ false
    past_false n m h = grind (arith, nat_tests)

-- the ports at a place that was looked up
pub ports_read : (models : List BlifModel) (ports all : List PortNames) (place : ℕ) (found : PortNames) → all ≡ ports → AllZip HasPorts models ports → place < length all → found ≡ get_or all place found → HasPorts (model_at models place) found
ports_read models ports all place found same zip below is =
    ports_at models ports place found zip (slice_get_read ports (length ports) place found refl (subst (λ ps. place < length ps) same below) (subst (λ ps. found ≡ get_or ps place found) same is))

pub no_ports_read : (models : List BlifModel) (ports all : List PortNames) (place : ℕ) → all ≡ ports → AllZip HasPorts models ports → length all ≤ place → model_at models place ≡ empty_model 0 no_name
no_ports_read models ports all place same zip past =
    no_model_at models ports place zip (slice_get_past ports place (subst (λ ps. length ps ≤ place) same past))
