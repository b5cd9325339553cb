-- Lists, written value by value, and read.
use Rattle.std.proofs.Common.{◌≡◌, ◌<◌, ◌≤◌, ◌+◌, ◌^◌, ℕ, List, [], ◌∷◌, ◌++◌, length, take, All, slice_index_or, Result, Ok, Err, sym, ap, subst, ◌∙◌, append_assoc, append-nil}
use Rattle.std.specs.Result.{IsErrAnd}
use Rattle.std.specs.List.{flat_map}
use Rattle.std.proofs.lemmas.List.{flat_map_more, take_all, take_more}
use Rattle.std.proofs.lemmas.List.Elements.{All-nil, All-push}
use Rattle.byte_form.specs.Codes.{BeginsWith, HasItems, IsPrefixCode, ListFits, list_bytes, number_bytes}
use Rattle.byte_form.proofs.CodeLemmas.{list_begins, list_none, more_items}
use Rattle.account_bytes.specs.declared.form.FormStop.{FormStop}
use Rattle.account_bytes.specs.declared.form.FormStop.TheVariants.{Malformed, Memory}
use Rattle.account_bytes.specs.Bodies.{IsNumber}
use Rattle.account_bytes.specs.Reading.{Reads, ReadsItems}

-- the length of a list was written, and its first values
pub record HasPut {X : Type 0} (bytes : X → List ℕ) (Fits : X → Type 0) (xs : List X) (count : ℕ) (start now : List ℕ) : Type 0 where
  pub text : now ≡ start ++ (number_bytes 8 (length xs) ++ flat_map bytes (take count xs))
  pub fit : All Fits (take count xs)

pub put_begun : {X : Type 0} (bytes : X → List ℕ) (Fits : X → Type 0) (xs : List X) (start now : List ℕ) → now ≡ start ++ number_bytes 8 (length xs) → HasPut bytes Fits xs 0 start now
put_begun {X} bytes Fits xs start now is = record {
  text = is ∙ ap (λ l. start ++ l) (sym (append-nil (number_bytes 8 (length xs))));
  fit = All-nil Fits;
}

pub put_next : {X : Type 0} (bytes : X → List ℕ) (Fits : X → Type 0) (xs : List X) (i : ℕ) (d : X) (start now next : List ℕ) → i < length xs → HasPut bytes Fits xs i start now
    → next ≡ now ++ bytes (slice_index_or xs i d) → Fits (slice_index_or xs i d) → HasPut bytes Fits xs (i + 1) start next
put_next {X} bytes Fits xs i d start now next below so_far is fits =
    let x = slice_index_or xs i d in
    let done = take i xs in
    let front = number_bytes 8 (length xs) in
    let more : take (i + 1) xs ≡ done ++ x ∷ [] = take_more xs i d below in
    let all : (front ++ flat_map bytes done) ++ bytes x ≡ front ++ flat_map bytes (take (i + 1) xs) =
    flat_map_more bytes front done x ∙ ap (λ l. front ++ flat_map bytes l) (sym more) in record {
      text = is ∙ (ap (λ l. l ++ bytes x) so_far.text ∙ (append_assoc start (front ++ flat_map bytes done) (bytes x) ∙ ap (λ l. start ++ l) all));
      fit = subst (All Fits) (sym more) (All-push Fits done x so_far.fit fits);
    }

pub put_all : {X : Type 0} (bytes : X → List ℕ) (Fits : X → Type 0) (xs : List X) (i : ℕ) (start now : List ℕ) → length xs ≤ i → HasPut bytes Fits xs i start now → now ≡ start ++ list_bytes bytes xs
put_all {X} bytes Fits xs i start now whole so_far =
    so_far.text ∙ ap (λ l. start ++ (number_bytes 8 (length xs) ++ flat_map bytes l)) (take_all i xs whole)

pub fit_all : {X : Type 0} (bytes : X → List ℕ) (Fits : X → Type 0) (xs : List X) (i : ℕ) (start now : List ℕ) → length xs ≤ i → length xs < 2 ^ 64 → HasPut bytes Fits xs i start now → ListFits Fits xs
fit_all {X} bytes Fits xs i start now whole few so_far = record { count = few; each = subst (All Fits) (take_all i xs whole) so_far.fit }

-- the next value isn't there
stop_as : {X : Type 0} (bytes : X → List ℕ) (Fits : X → Type 0) (count : ℕ) (old mid after new : List ℕ) (items : List X) (why : FormStop) → Reads {X = X} bytes Fits mid (Err why) after → HasItems bytes Fits old items mid → length items < count → ReadsItems {X = X} bytes Fits count old (Err why) new
stop_as {X} bytes Fits count old mid after new items Malformed is has fewer = record { items = items; left = mid; has = has; fewer = fewer; none = is }
stop_as {X} bytes Fits count old mid after new items Memory is has fewer = tt

pub items_stop : {X : Type 0} (bytes : X → List ℕ) (Fits : X → Type 0) (count : ℕ) (old mid after new : List ℕ) (items : List X) (call : Result X FormStop) (answer : Result (List X) FormStop) (why : FormStop) → call ≡ Err why → IsErrAnd answer (λ e. e ≡ why) → Reads bytes Fits mid call after → HasItems bytes Fits old items mid → length items < count → ReadsItems bytes Fits count old answer new
items_stop {X} bytes Fits count old mid after new items call (Ok xs) why was from is has fewer = absurd from
items_stop {X} bytes Fits count old mid after new items call (Err e) why was from is has fewer =
    subst (λ stop. ReadsItems {X = X} bytes Fits count old (Err stop) new) (sym from) (stop_as bytes Fits count old mid after new items why (subst (λ r. Reads bytes Fits mid r after) was is) has fewer)

-- one value more
pub pushed_items : {X : Type 0} (bytes : X → List ℕ) (Fits : X → Type 0) (old mid new : List ℕ) (items longer : List X) (x : X) → longer ≡ items ++ x ∷ [] → HasItems bytes Fits old items mid → BeginsWith bytes Fits mid x new → HasItems bytes Fits old longer new
pushed_items {X} bytes Fits old mid new items longer x is has next =
    subst (λ xs. HasItems bytes Fits old xs new) (sym is) (more_items bytes Fits old items mid x new has next)

-- after its length, a list
pub list_read : {X : Type 0} (bytes : X → List ℕ) (Fits : X → Type 0) (old mid new : List ℕ) (count : ℕ) (answer : Result (List X) FormStop) → IsPrefixCode bytes Fits → BeginsWith (number_bytes 8) IsNumber old count mid → ReadsItems bytes Fits count mid answer new → Reads (list_bytes bytes) (ListFits Fits) old answer new
list_read {X} bytes Fits old mid new count (Ok items) code first reads =
    list_begins bytes Fits old mid items new count first.text_is first.fits reads.1 reads.0
list_read {X} bytes Fits old mid new count (Err Malformed) code first reads =
    list_none bytes Fits code old mid reads.items reads.left count first.text_is first.fits reads.fewer reads.has reads.none
list_read {X} bytes Fits old mid new count (Err Memory) code first reads = tt
