-- What reading a value says of reading another that begins with it.
use Rattle.std.proofs.Common.{◌≡◌, ℕ, List, ◌++◌, Result, Ok, Err, refl, sym, ap, subst, ◌∙◌}
use Rattle.std.specs.Result.{IsErrAnd}
use Rattle.byte_form.specs.Codes.{BeginsWith, BeginsNone, BothFit, IsPrefixCode, both_bytes}
use Rattle.byte_form.proofs.CodeLemmas.{next_none}
use Rattle.account_bytes.specs.declared.form.FormStop.{FormStop}
use Rattle.account_bytes.specs.declared.form.FormStop.TheVariants.{Malformed, Memory}
use Rattle.account_bytes.specs.Reading.{Reads}

stop_as : {A X : Type 0} (bytes_a : A → List ℕ) (FitsA : A → Type 0) (bytes : X → List ℕ) (Fits : X → Type 0) (mid after old new : List ℕ) (why : FormStop) → Reads {X = A} bytes_a FitsA mid (Err why) after → (BeginsNone bytes_a FitsA mid → BeginsNone bytes Fits old) → Reads {X = X} bytes Fits old (Err why) new
stop_as {A} {X} bytes_a FitsA bytes Fits mid after old new Malformed is turn = turn is
stop_as {A} {X} bytes_a FitsA bytes Fits mid after old new Memory is turn = tt

-- a stop that is passed on
pub passed : {A X : Type 0} (bytes_a : A → List ℕ) (FitsA : A → Type 0) (bytes : X → List ℕ) (Fits : X → Type 0) (mid after old new : List ℕ) (call : Result A FormStop) (answer : Result X FormStop) (why : FormStop) → call ≡ Err why → IsErrAnd answer (λ e. e ≡ why) → Reads bytes_a FitsA mid call after → (BeginsNone bytes_a FitsA mid → BeginsNone bytes Fits old) → Reads bytes Fits old answer new
passed {A} {X} bytes_a FitsA bytes Fits mid after old new call (Ok x) why was from is turn = absurd from
passed {A} {X} bytes_a FitsA bytes Fits mid after old new call (Err e) why was from is turn =
    subst (λ stop. Reads {X = X} bytes Fits old (Err stop) new) (sym from) (stop_as bytes_a FitsA bytes Fits mid after old new why (subst (λ r. Reads bytes_a FitsA mid r after) was is) turn)

pub none_by : {X A : Type 0} (bytes : X → List ℕ) (Fits : X → Type 0) (bytes_a : A → List ℕ) (FitsA : A → Type 0) (to : X → A) (text : List ℕ) → ((x : X) → bytes x ≡ bytes_a (to x)) → ((x : X) → Fits x → FitsA (to x)) → BeginsNone bytes_a FitsA text → BeginsNone bytes Fits text
none_by {X} {A} bytes Fits bytes_a FitsA to text is fits h = record {
  none = λ x left begins. h.none (to x) left (record { fits = fits x begins.fits; text_is = begins.text_is ∙ ap (λ b. b ++ left) (is x) });
}

pub second_of_both : {A B : Type 0} (bytes_a : A → List ℕ) (FitsA : A → Type 0) (bytes_b : B → List ℕ) (FitsB : B → Type 0) (old mid : List ℕ) (a : A) → IsPrefixCode bytes_a FitsA → BeginsWith bytes_a FitsA old a mid → BeginsNone bytes_b FitsB mid → BeginsNone (both_bytes bytes_a bytes_b) (BothFit FitsA FitsB) old
second_of_both {A} {B} bytes_a FitsA bytes_b FitsB old mid a code first h =
    next_none (both_bytes bytes_a bytes_b) (BothFit FitsA FitsB) bytes_a FitsA (λ both. both.0) (λ both. bytes_b both.1) old a mid (λ both. refl) (λ both fits. fits.0) code first
    (record { none = λ both left begins. h.none both.1 left (record { fits = begins.fits.0.1; text_is = begins.text_is }) })

-- a value of which each is one of another kind, where that isn't there
pub passed_by : {A X : Type 0} (bytes_a : A → List ℕ) (FitsA : A → Type 0) (bytes : X → List ℕ) (Fits : X → Type 0) (to : X → A) (old after new : List ℕ) (call : Result A FormStop) (answer : Result X FormStop) (why : FormStop) → ((x : X) → bytes x ≡ bytes_a (to x)) → ((x : X) → Fits x → FitsA (to x)) → call ≡ Err why → IsErrAnd answer (λ e. e ≡ why) → Reads bytes_a FitsA old call after → Reads bytes Fits old answer new
passed_by {A} {X} bytes_a FitsA bytes Fits to old after new call answer why is fits was from reads =
    passed bytes_a FitsA bytes Fits old after old new call answer why was from reads (none_by bytes Fits bytes_a FitsA to old is fits)
