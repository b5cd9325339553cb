-- For `names` and `ports`: what one name more does to the numbers, and to the names of each kind of port.
use Rattle.std.proofs.Common.{◌≡◌, ℕ, suc, ◌+◌, ◌<◌, Bool, true, false, not, ◌||◌, ◌&&◌, cond, List, [], ◌∷◌, ◌++◌, length, map, get_or, take, drop, Option, Some, None, refl, ap, sym, subst, ◌∙◌, inl, inr, arith, append_assoc}
use Rattle.std.specs.Prelude.{nat_lt, filter, MatchOption}
use Rattle.std.specs.List.{list_any, position_or_len, position}
use Rattle.std.specs.Str.{bytes_eq}
use Rattle.std.proofs.lemmas.Bool.{cases_lt, not-true, not-false}
use Rattle.std.proofs.lemmas.Bool.Decides.{nat_tests}
use Rattle.std.proofs.lemmas.List.{append-nil, map-append, map_push, take_more, get_or_default, length-append, length-map, take-append-drop}
use Rattle.std.proofs.Math.Seq.{get_or-append_seam, drop-cons}
use Rattle.std.proofs.lemmas.List.Folds.{list_any-append}
use Rattle.std.proofs.lemmas.List.Elements.{filter-append}
use Rattle.text_core.specs.Piece.{Piece}
use Rattle.circuits.specs.declared.port.PortKind.{PortKind}
use Rattle.circuits.specs.declared.port.PortKind.TheVariants.{Input, Output}
use Rattle.net_core.specs.Limits.{most_ports}
use Rattle.net_file.specs.declared.fault.NetKind.TheVariants as fault
use Rattle.blif_reader.specs.declared.survey.PortWord.{PortWord}
use Rattle.blif_reader.specs.Names.{is_same_kind, same_name, repeats_port, is_redefined, words_of_kind}
use Rattle.blif_reader.specs.Numbers.{IsAdded, bytes_of, port_names, NoneBefore, AreNamed, AreDefined, IsRepeatedPort, IsRepeatedName}
use Rattle.blif_reader.specs.Ports.{IsExcess}

-- a test of each element's image
pub list_any-map : {X Y : Type 0} (p : Y → Bool) (f : X → Y) (xs : List X) → list_any p (map f xs) ≡ list_any (λ x. p (f x)) xs
list_any-map p f [] = refl
list_any-map p f (x ∷ xs) = ap (λ t. p (f x) || t) (list_any-map p f xs)

pub position_or_len-map : {X Y : Type 0} (p : Y → Bool) (f : X → Y) (xs : List X) → position_or_len p (map f xs) ≡ position_or_len (λ x. p (f x)) xs
position_or_len-map p f [] = refl
position_or_len-map p f (x ∷ xs) = ap (λ n. cond (not (p (f x))) (1 + n) 0) (position_or_len-map p f xs)

shifted : (t : Bool) (n m : ℕ) (r : Bool) → nat_lt n m ≡ r → nat_lt (cond (not t) (1 + n) 0) (suc m) ≡ (t || r)
shifted true n m r h = grind (arith, nat_tests)
shifted false n m true h = grind (arith, nat_tests)
shifted false n m false h = grind (arith, nat_tests)

-- there is a place exactly where some element passes
pub any_place : {X : Type 0} (p : X → Bool) (xs : List X) → nat_lt (position_or_len p xs) (length xs) ≡ list_any p xs
any_place p [] = grind (arith, nat_tests)
any_place p (x ∷ xs) = shifted (p x) (position_or_len p xs) (length xs) (list_any p xs) (any_place p xs)

told : (t : Bool) (n m : ℕ) (some : Bool) → nat_lt n m ≡ t → t ≡ some → MatchOption (cond t (Some n) None) (some ≡ false) (λ i. (some ≡ true) × (i ≡ n) × (i < m))
told true n m some h e = (sym e, refl, grind (arith, nat_tests))
told false n m some h e = sym e

-- the number of a name, by the place among the keys
pub number_told : {X Y : Type 0} (p : Y → Bool) (f : X → Y) (keys : List X) (r : Option ℕ) → r ≡ position (λ k. p (f k)) keys → MatchOption r (list_any p (map f keys) ≡ false) (λ n. (list_any p (map f keys) ≡ true) × (n ≡ position_or_len p (map f keys)) × (n < length (map f keys)))
number_told p f keys r h =
    let place = position_or_len-map p f keys in
    let long = length-map keys f in
    let any = list_any-map p f keys in
    let n = position_or_len (λ k. p (f k)) keys in
    let t = list_any (λ k. p (f k)) keys in
    let P : ℕ → ℕ → Bool → Type 0 = λ n m t. MatchOption r (t ≡ false) (λ i. (t ≡ true) × (i ≡ n) × (i < m)) in
    let keyed : P n (length keys) t = subst (λ o. MatchOption o (t ≡ false) (λ i. (t ≡ true) × (i ≡ n) × (i < length keys))) (sym h) (told (nat_lt n (length keys)) n (length keys) t refl (any_place (λ k. p (f k)) keys)) in
    subst (λ n. P n (length (map f keys)) (list_any p (map f keys))) (sym place) (subst (λ m. P n m (list_any p (map f keys))) (sym long) (subst (P n (length keys)) (sym any) keyed))

-- names to which one is added, unless it is there
keys_added : {X Y : Type 0} (f : X → Y) (t : Bool) (keys : List X) (x : X) → map f (cond t keys (keys ++ x ∷ [])) ≡ cond (not t) (map f keys ++ f x ∷ []) (map f keys)
keys_added f true keys x = refl
keys_added f false keys x = map_push f keys x

pub added_told : {X : Type 0} (f : X → List ℕ) (x : X) (old new : List X) (added : Bool) → added ≡ not (list_any (λ k. bytes_eq (f x) (f k)) old) → new ≡ cond (list_any (λ k. bytes_eq (f x) (f k)) old) old (old ++ x ∷ []) → IsAdded (f x) added (map f old) (map f new)
added_told f x old new added a n =
    let same = list_any-map (bytes_eq (f x)) f old in
    record {
      told = a ∙ ap not (sym same);
      names = ap (map f) n ∙ (keys_added f (list_any (λ k. bytes_eq (f x) (f k)) old) old x ∙ ap (λ t. cond t (map f old ++ f x ∷ []) (map f old)) (sym a));
    }

-- what a test says of the elements before, one more at a time
pub NoneBefore-more : {X : Type 0} (found : List X → X → Bool) (xs : List X) (x : X) (k : ℕ) → ((d : X) → get_or xs k d ≡ x) → NoneBefore found xs k → found (take k xs) x ≡ false → NoneBefore found xs (k + 1)
NoneBefore-more found xs x k is before h j d below =
    elim (cases_lt j k) [
      | inl less ↦ before j d less
      | inr past ↦ let e : j ≡ k = omega arith in subst (λ n. found (take n xs) (get_or xs n d) ≡ false) (sym e) (ap (found (take k xs)) (is d) ∙ h)
    ]

-- a port has the name of an earlier one exactly where its name is among those of its kind
repeats_by_test : (t : Bool) (name other : List ℕ) (rest : List (List ℕ)) (r : Bool) → r ≡ list_any (bytes_eq name) rest → ((t && bytes_eq name other) || r) ≡ list_any (bytes_eq name) (cond t (other ∷ rest) rest)
repeats_by_test true name other rest r h = ap (λ q. bytes_eq name other || q) h
repeats_by_test false name other rest r h = h

map-cond : {X Y : Type 0} (f : X → Y) (t : Bool) (x : X) (xs : List X) → map f (cond t (x ∷ xs) xs) ≡ cond t (f x ∷ map f xs) (map f xs)
map-cond f true x xs = refl
map-cond f false x xs = refl

pub repeats_named : (earlier : List PortWord) (port : PortWord) → repeats_port earlier port ≡ list_any (bytes_eq port.word.bytes) (port_names port.kind earlier)
repeats_named [] port = refl
repeats_named (other ∷ earlier) port =
    let t = is_same_kind other.kind port.kind in
    repeats_by_test t port.word.bytes other.word.bytes (port_names port.kind earlier) (repeats_port earlier port) (repeats_named earlier port)
    ∙ ap (list_any (bytes_eq port.word.bytes)) (sym (map-cond (λ (p : PortWord). p.word.bytes) t other (filter (λ p. is_same_kind p.kind port.kind) earlier)))

-- a kind is the same as itself
self_same : (kind : PortKind) → is_same_kind kind kind ≡ true
self_same Input = refl
self_same Output = refl

port_names-push : (kind : PortKind) (earlier : List PortWord) (port : PortWord) → port_names kind (earlier ++ port ∷ []) ≡ port_names kind earlier ++ cond (is_same_kind port.kind kind) (port.word.bytes ∷ []) []
port_names-push kind earlier port =
    let name = λ (p : PortWord). p.word.bytes in
    let test = λ (p : PortWord). is_same_kind p.kind kind in
    ap (map name) (filter-append test earlier (port ∷ []))
    ∙ (map-append name (filter test earlier) (filter test (port ∷ [])) ∙ ap (λ ns. map name (filter test earlier) ++ ns) (map-cond name (is_same_kind port.kind kind) port []))

-- the names of the kind that a port is of, and of the other
names_of_same_kind : (kind : PortKind) (earlier : List PortWord) (port : PortWord) → port.kind ≡ kind → port_names kind (earlier ++ port ∷ []) ≡ port_names kind earlier ++ port.word.bytes ∷ []
names_of_same_kind kind earlier port e =
    port_names-push kind earlier port ∙ ap (λ t. port_names kind earlier ++ cond t (port.word.bytes ∷ []) []) (ap (λ t. is_same_kind t kind) e ∙ self_same kind)

names_of_other_kind : (kind other : PortKind) (earlier : List PortWord) (port : PortWord) → port.kind ≡ kind → is_same_kind kind other ≡ false → port_names other (earlier ++ port ∷ []) ≡ port_names other earlier
names_of_other_kind kind other earlier port e h =
    port_names-push other earlier port
    ∙ (ap (λ t. port_names other earlier ++ cond t (port.word.bytes ∷ []) []) (ap (λ t. is_same_kind t other) e ∙ h) ∙ append-nil (port_names other earlier))

added_name : (name : List ℕ) (old new : List (List ℕ)) → IsAdded name true old new → (list_any (bytes_eq name) old ≡ false) × (new ≡ old ++ name ∷ [])
added_name name old new is = (not-true (list_any (bytes_eq name) old) (sym is.told), is.names)

-- one port more is named
more_of_kind : (kind : PortKind) (ports : List PortWord) (k : ℕ) (port : PortWord) (old new : List (List ℕ)) → k < length ports → ((d : PortWord) → get_or ports k d ≡ port) → port.kind ≡ kind → NoneBefore repeats_port ports k → old ≡ port_names kind (take k ports) → IsAdded port.word.bytes true old new → NoneBefore repeats_port ports (k + 1) × (new ≡ port_names kind (take (k + 1) ports))
more_of_kind kind ports k port old new h is e once o a =
    let added = added_name port.word.bytes old new a in
    let more : take (k + 1) ports ≡ take k ports ++ port ∷ [] = take_more ports k port h ∙ ap (λ p. take k ports ++ p ∷ []) (is port) in
    let none : repeats_port (take k ports) port ≡ false = repeats_named (take k ports) port ∙ (ap (λ t. list_any (bytes_eq port.word.bytes) (port_names t (take k ports))) e ∙ (ap (list_any (bytes_eq port.word.bytes)) (sym o) ∙ added.0)) in
    (NoneBefore-more repeats_port ports port k is once none, added.1 ∙ (ap (λ ns. ns ++ port.word.bytes ∷ []) o ∙ (sym (names_of_same_kind kind (take k ports) port e) ∙ ap (port_names kind) (sym more))))

rest_of_kind : (kind other : PortKind) (ports : List PortWord) (k : ℕ) (port : PortWord) (old new : List (List ℕ)) → k < length ports → ((d : PortWord) → get_or ports k d ≡ port) → port.kind ≡ kind → is_same_kind kind other ≡ false → old ≡ port_names other (take k ports) → new ≡ old → new ≡ port_names other (take (k + 1) ports)
rest_of_kind kind other ports k port old new h is e differ o n =
    let more : take (k + 1) ports ≡ take k ports ++ port ∷ [] = take_more ports k port h ∙ ap (λ p. take k ports ++ p ∷ []) (is port) in
    n ∙ (o ∙ (sym (names_of_other_kind kind other (take k ports) port e differ) ∙ ap (port_names other) (sym more)))

-- what adding a port's name does to the names of both kinds
abbrev pub AddsPort : Bool → PortWord → List (List ℕ) → List (List ℕ) → List (List ℕ) → List (List ℕ) → Type 0
AddsPort added port inputs outputs inputs2 outputs2 =
    (port.kind ≡ Input → IsAdded port.word.bytes added inputs inputs2 × (outputs2 ≡ outputs))
    × (port.kind ≡ Output → IsAdded port.word.bytes added outputs outputs2 × (inputs2 ≡ inputs))

named_by_kind : (kind : PortKind) (ports : List PortWord) (k : ℕ) (port : PortWord) (inputs outputs inputs2 outputs2 : List (List ℕ)) → k < length ports → ((d : PortWord) → get_or ports k d ≡ port) → port.kind ≡ kind → AreNamed ports k inputs outputs → AddsPort true port inputs outputs inputs2 outputs2 → AreNamed ports (k + 1) inputs2 outputs2
named_by_kind Input ports k port inputs outputs inputs2 outputs2 h is e named adds =
    let a = adds.0 e in
    let more = more_of_kind Input ports k port inputs inputs2 h is e named.once named.inputs_are a.0 in
    record {
      once = more.0;
      inputs_are = more.1;
      outputs_are = rest_of_kind Input Output ports k port outputs outputs2 h is e refl named.outputs_are a.1;
    }
named_by_kind Output ports k port inputs outputs inputs2 outputs2 h is e named adds =
    let a = adds.1 e in
    let more = more_of_kind Output ports k port outputs outputs2 h is e named.once named.outputs_are a.0 in
    record {
      once = more.0;
      inputs_are = rest_of_kind Output Input ports k port inputs inputs2 h is e refl named.inputs_are a.1;
      outputs_are = more.1;
    }

pub named_more : (ports : List PortWord) (k : ℕ) (port : PortWord) (inputs outputs inputs2 outputs2 : List (List ℕ)) → k < length ports → ((d : PortWord) → get_or ports k d ≡ port) → AreNamed ports k inputs outputs → AddsPort true port inputs outputs inputs2 outputs2 → AreNamed ports (k + 1) inputs2 outputs2
named_more ports k port inputs outputs inputs2 outputs2 h is named adds =
    named_by_kind port.kind ports k port inputs outputs inputs2 outputs2 h is refl named adds

there : (name : List ℕ) (old new : List (List ℕ)) → IsAdded name false old new → list_any (bytes_eq name) old ≡ true
there name old new is = not-false (list_any (bytes_eq name) old) (sym is.told)

repeated_by_kind : (kind : PortKind) (ports : List PortWord) (k : ℕ) (port : PortWord) (inputs outputs inputs2 outputs2 : List (List ℕ)) → port.kind ≡ kind → AreNamed ports k inputs outputs → AddsPort false port inputs outputs inputs2 outputs2 → list_any (bytes_eq port.word.bytes) (port_names kind (take k ports)) ≡ true
repeated_by_kind Input ports k port inputs outputs inputs2 outputs2 e named adds =
    ap (list_any (bytes_eq port.word.bytes)) (sym named.inputs_are) ∙ there port.word.bytes inputs inputs2 (adds.0 e).0
repeated_by_kind Output ports k port inputs outputs inputs2 outputs2 e named adds =
    ap (list_any (bytes_eq port.word.bytes)) (sym named.outputs_are) ∙ there port.word.bytes outputs outputs2 (adds.1 e).0

-- a port is the first that repeats
pub repeated : (ports : List PortWord) (k : ℕ) (port : PortWord) (inputs outputs inputs2 outputs2 : List (List ℕ)) → k < length ports → ((d : PortWord) → get_or ports k d ≡ port) → AreNamed ports k inputs outputs → AddsPort false port inputs outputs inputs2 outputs2 → IsRepeatedPort ports fault.DuplicatePort port.word.at
repeated ports k port inputs outputs inputs2 outputs2 h is named adds = record {
  is = refl;
  place = k;
  first = record {
    there = h;
    here = λ d. ap (repeats_port (take k ports)) (is d) ∙ (repeats_named (take k ports) port ∙ repeated_by_kind port.kind ports k port inputs outputs inputs2 outputs2 refl named adds);
    none_before = named.once;
  };
  offset = λ d. ap (λ (p : PortWord). p.word.at) (sym (is d));
}

-- a name is an input's or was defined exactly where it is among the names
redefined_named : (inputs before : List Piece) (word : Piece) (names : List (List ℕ)) → names ≡ bytes_of (inputs ++ before) → list_any (bytes_eq word.bytes) names ≡ is_redefined inputs before word
redefined_named inputs before word names n =
    ap (list_any (bytes_eq word.bytes)) n
    ∙ (list_any-map (bytes_eq word.bytes) (λ (w : Piece). w.bytes) (inputs ++ before) ∙ list_any-append (same_name word) inputs before)

-- one name more is defined
pub defined_more : (inputs defined : List Piece) (k : ℕ) (word : Piece) (names new : List (List ℕ)) (added : Bool) → k < length defined → ((d : Piece) → get_or defined k d ≡ word) → AreDefined inputs defined k names → added ≡ true → IsAdded word.bytes added names new → AreDefined inputs defined (k + 1) new
defined_more inputs defined k word names new added h is are t adds =
    let a = added_name word.bytes names new (subst (λ b. IsAdded word.bytes b names new) t adds) in
    let more : take (k + 1) defined ≡ take k defined ++ word ∷ [] = take_more defined k word h ∙ ap (λ w. take k defined ++ w ∷ []) (is word) in
    record {
      once = NoneBefore-more (is_redefined inputs) defined word k is are.once (sym (redefined_named inputs (take k defined) word names are.names_are) ∙ a.0);
      names_are = a.1 ∙ (ap (λ ns. ns ++ word.bytes ∷ []) are.names_are ∙ (sym (map_push (λ (w : Piece). w.bytes) (inputs ++ take k defined) word) ∙ ap bytes_of (append_assoc inputs (take k defined) (word ∷ []) ∙ ap (λ ws. inputs ++ ws) (sym more))));
    }

-- a name is the first that is defined again
pub defined_again : (inputs defined : List Piece) (k : ℕ) (word : Piece) (names new : List (List ℕ)) (added : Bool) → k < length defined → ((d : Piece) → get_or defined k d ≡ word) → AreDefined inputs defined k names → added ≡ false → IsAdded word.bytes added names new → IsRepeatedName inputs defined fault.NameRedefined word.at
defined_again inputs defined k word names new added h is are t adds =
    let a = there word.bytes names new (subst (λ b. IsAdded word.bytes b names new) t adds) in
    record {
      is = refl;
      why = record {
        place = k;
        first = record {
          there = h;
          here = λ d. ap (is_redefined inputs (take k defined)) (is d) ∙ (sym (redefined_named inputs (take k defined) word names are.names_are) ∙ a);
          none_before = are.once;
        };
        offset = ap (λ (w : Piece). w.at) (sym (is (record { bytes = []; at = 0 })));
      };
    }

-- an element that was read at a place is the one there
pub at_place : {X : Type 0} (xs : List X) (k : ℕ) (x : X) → k < length xs → x ≡ get_or xs k x → (d : X) → get_or xs k d ≡ x
at_place xs k x h is d = get_or_default xs k d x h ∙ sym is

-- the words of ports of a kind
pub words_of_kind-append : (kind : PortKind) (xs ys : List PortWord) → words_of_kind kind (xs ++ ys) ≡ words_of_kind kind xs ++ words_of_kind kind ys
words_of_kind-append kind xs ys =
    let test = λ (p : PortWord). is_same_kind p.kind kind in
    ap (map (λ (p : PortWord). p.word)) (filter-append test xs ys) ∙ map-append (λ (p : PortWord). p.word) (filter test xs) (filter test ys)

self_kind : (kind : PortKind) (port : PortWord) (rest : List PortWord) → port.kind ≡ kind → words_of_kind kind (port ∷ rest) ≡ port.word ∷ words_of_kind kind rest
self_kind kind port rest e =
    let test = λ (p : PortWord). is_same_kind p.kind kind in
    ap (λ t. map (λ (p : PortWord). p.word) (cond t (port ∷ filter test rest) (filter test rest))) (ap (λ t. is_same_kind t kind) e ∙ self_same kind)

-- a port after as many as the limit is the first beyond it
pub excess : (kind : PortKind) (ports : List PortWord) (k : ℕ) (port : PortWord) (at : ℕ) → k < length ports → ((d : PortWord) → get_or ports k d ≡ port) → port.kind ≡ kind → length (words_of_kind kind (take k ports)) ≡ most_ports → at ≡ port.word.at → IsExcess (words_of_kind kind ports) at
excess kind ports k port at h is e full a =
    let before = words_of_kind kind (take k ports) in
    let after = words_of_kind kind (drop (suc k) ports) in
    let parts : ports ≡ take k ports ++ port ∷ drop (suc k) ports = sym (take-append-drop k ports) ∙ ap (λ ps. take k ports ++ ps) (drop-cons ports k port h ∙ ap (λ p. p ∷ drop (suc k) ports) (is port)) in
    let whole : words_of_kind kind ports ≡ before ++ port.word ∷ after = ap (words_of_kind kind) parts ∙ (words_of_kind-append kind (take k ports) (port ∷ drop (suc k) ports) ∙ ap (λ ws. before ++ ws) (self_kind kind port (drop (suc k) ports) e)) in
    let there : get_or (before ++ port.word ∷ after) most_ports nowhere ≡ port.word = subst (λ n. get_or (before ++ port.word ∷ after) n nowhere ≡ port.word) full (get_or-append_seam before port.word after nowhere) in
    subst (λ words. IsExcess words at) (sym whole) (record {
      many = omega (arith, full, length-append before (port.word ∷ after));
      offset = a ∙ ap (λ (w : Piece). w.at) (sym there);
    })
  where
    nowhere : Piece
    nowhere = record { bytes = []; at = 0 }
