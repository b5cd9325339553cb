-- Classes of inputs of which any two may be exchanged. That is so of any two of a class, since what may be exchanged
-- with one and the same input may be exchanged with each other (symmetric variables of switching functions: Shannon,
-- 1938; McCluskey, 1956).
use Rattle.std.specs.Prelude.{◌≡◌, ◌≢◌, ◌⊎◌, ℕ, ◌+◌, ◌<◌, Bool, true, false, not, List, [], ◌∷◌, ◌++◌, length, All, AllPairs, Option, None, Some}
use Rattle.std.specs.Prelude.{slice_index_or, slice_set}
use Rattle.std.specs.Bool.{Decides}
use Rattle.circuits.specs.Literals.{EachAt, differ}
use Rattle.claim_core.specs.declared.info.Unate.{Unate}
use Rattle.claim_core.specs.declared.info.Unate.TheVariants.{Positive}
use Rattle.claim_core.specs.declared.info.Sym.{Sym}
use Rattle.claim_core.specs.declared.info.Sym.TheVariants.{Symmetric, Skew, Both}
use Rattle.claim_core.specs.Rows.{IsEntry}
use Rattle.fact_tests.specs.declared.exchange_classes.ExchangeClasses.{ExchangeClasses}
use Rattle.fact_tests.specs.declared.exchange_classes.Class.{Class}
use Rattle.fact_tests.specs.declared.exchange_classes.OtherInputs.{OtherInputs}
use Rattle.fact_tests.specs.declared.exchange_classes.ClassPlace.{ClassPlace}
use Rattle.fact_tests.specs.declared.exchange_classes.FoundClass.{FoundClass}
use Rattle.fact_tests.specs.Outputs.{IsAlike, input_at}

-- Two inputs may be exchanged in this way, and in the other one if and only if `both` says so.
pub record IsExchange (n : ℕ) (f : List Bool → Bool) (i j : ℕ) (inverted both : Bool) : Type 0 where
  pub alike : IsAlike n f i j inverted
  pub other : Decides both (IsAlike n f i j (not inverted))

-- two inputs may be exchanged in neither way
abbrev pub IsNever : ℕ → (List Bool → Bool) → ℕ → ℕ → Type 0
IsNever n f i j = (inverted : Bool) → IsAlike n f i j inverted → ⊥

-- in which way two inputs may be exchanged: None where in neither
abbrev pub IsWay : ℕ → (List Bool → Bool) → ℕ → ℕ → Option Bool → Type 0
IsWay n f i j None = IsNever n f i j
IsWay n f i j (Some inverted) = IsAlike n f i j inverted

-- an input that isn't the first one of a class belongs to it
abbrev pub IsOther : ℕ → (List Bool → Bool) → ℕ → Option OtherInputs → ℕ → Bool → Type 0
IsOther n f first None i inverted = ⊥
IsOther n f first (Some others) i inverted = (first < i) × IsExchange n f first i inverted others.both

-- an input belongs to a class: as its first one, or since it may be exchanged with that one in this way
abbrev pub IsIn : ℕ → (List Bool → Bool) → Class → ℕ → Bool → Type 0
IsIn n f class i inverted = ((i ≡ class.first.0) × (inverted ≡ false)) ⊎ IsOther n f class.first.0 class.others i inverted

-- the last input of a class
abbrev pub last_by : ℕ × Unate → Option OtherInputs → ℕ × Unate
last_by first None = first
last_by first (Some others) = others.last

-- the input that joined a class last, or its first one where no other did
abbrev pub last_of : Class → ℕ × Unate
last_of class = last_by class.first class.others

-- the last input belongs to the class, as is kept with it
abbrev pub HasLast : ℕ → (List Bool → Bool) → ℕ → Option OtherInputs → Type 0
HasLast n f first None = Unit {0}
HasLast n f first (Some others) = IsOther n f first (Some others) others.last.0 others.inverted

-- A class of inputs before `end`.
pub record IsClass (n : ℕ) (f : List Bool → Bool) (end : ℕ) (class : Class) : Type 0 where
  pub first : IsEntry n f class.first
  pub last : IsEntry n f (last_of class)
  pub before : (last_of class).0 < end
  pub joined : HasLast n f class.first.0 class.others

-- inputs of two classes
abbrev pub AreApart : ℕ → (List Bool → Bool) → Class → Class → Type 0
AreApart n f one other = (one.first.0 ≢ other.first.0) × IsNever n f one.first.0 other.first.0

-- Classes of inputs before `end`; no input of one may be exchanged with one of another.
pub record AreClasses (n : ℕ) (f : List Bool → Bool) (end : ℕ) (classes : List Class) : Type 0 where
  pub each : All (IsClass n f end) classes
  pub apart : AllPairs (AreApart n f) classes

-- An input belongs where the place says.
pub record IsPlace (n : ℕ) (f : List Bool → Bool) (classes : List Class) (i : ℕ) (place : ClassPlace) : Type 0 where
  pub there : place.class < length classes
  pub belongs : (d : Class) → IsIn n f (slice_index_or classes place.class d) i place.inverted

-- The first inputs of a support are sorted, as many as `count`.
pub record Sorts (n : ℕ) (f : List Bool → Bool) (support : List (ℕ × Unate)) (count : ℕ) (sorted : ExchangeClasses) : Type 0 where
  pub classes : AreClasses n f (input_at n support count) sorted.classes
  pub counted : length sorted.places ≡ count
  pub places : EachAt (λ k place. IsPlace n f sorted.classes (input_at n support k) place) sorted.places

-- The next input was added, and each other one belongs where it belonged.
pub record Adds (n : ℕ) (f : List Bool → Bool) (i : ℕ) (old new : ExchangeClasses) : Type 0 where
  pub classes : AreClasses n f (i + 1) new.classes
  pub place : ClassPlace
  pub placed : new.places ≡ old.places ++ place ∷ []
  pub belongs : IsPlace n f new.classes i place
  pub kept : (j : ℕ) (place : ClassPlace) → IsPlace n f old.classes j place → IsPlace n f new.classes j place

-- an input may not be exchanged with the last one of a class
abbrev pub IsStranger : ℕ → (List Bool → Bool) → Class → ℕ → Type 0
IsStranger n f class i = IsNever n f (last_of class).0 i

-- in a class of two or more it stays as it is whether any two may be exchanged both ways
abbrev pub KeepsBoth : Option OtherInputs → OtherInputs → Type 0
KeepsBoth None new = Unit {0}
KeepsBoth (Some others) new = new.both ≡ others.both

-- An input belongs to a class, of which these are the others then.
pub record Joins (n : ℕ) (f : List Bool → Bool) (class : Class) (entry : ℕ × Unate) (others : OtherInputs) : Type 0 where
  pub last : others.last ≡ entry
  pub exchange : IsExchange n f class.first.0 entry.0 others.inverted others.both
  pub kept : KeepsBoth class.others others

-- an input joins a class, or may not be exchanged with its inputs
abbrev pub IsJoined : ℕ → (List Bool → Bool) → Class → ℕ × Unate → Option OtherInputs → Type 0
IsJoined n f class entry None = IsStranger n f class entry.0
IsJoined n f class entry (Some others) = Joins n f class entry others

-- the second input of a class
abbrev pub IsSecond : ℕ → (List Bool → Bool) → ℕ × Unate → ℕ × Unate → Option OtherInputs → Type 0
IsSecond n f first entry None = IsNever n f first.0 entry.0
IsSecond n f first entry (Some others) = (others.last ≡ entry) × IsExchange n f first.0 entry.0 others.inverted others.both

-- a class's inputs beside the first one, when this one is the last
abbrev pub second_with : ℕ × Unate → Bool → Bool → OtherInputs
second_with entry inverted both = record { last = entry; inverted = inverted; both = both }

-- a second input of a class, by whether it may go with the first as they are, and with both inverted
abbrev pub second_by : ℕ × Unate → Bool → Bool → Option OtherInputs
second_by entry true true = Some (second_with entry false true)
second_by entry true false = Some (second_with entry false false)
second_by entry false true = Some (second_with entry true false)
second_by entry false false = None

-- an input more of a class: by the way in which it may be exchanged with the last one
abbrev pub next_by : OtherInputs → ℕ × Unate → Option Bool → Option OtherInputs
next_by others entry None = None
next_by others entry (Some inverted) = Some (second_with entry (differ others.inverted inverted) others.both)

-- an input more of a class of two or more, or that it belongs to another one
abbrev pub IsNext : ℕ → (List Bool → Bool) → OtherInputs → ℕ × Unate → Option OtherInputs → Type 0
IsNext n f others entry next = (way : Option Bool) × IsWay n f others.last.0 entry.0 way × (next ≡ next_by others entry way)

-- two inputs may be exchanged with both inverted, or in neither way
abbrev pub skew_by : Bool → Option Bool
skew_by true = Some true
skew_by false = None

-- the class of this number, where an input joined it
abbrev pub found_by : ℕ → Class → Option OtherInputs → Option FoundClass
found_by number class None = None
found_by number class (Some others) = Some (record { number = number; first = class.first; others = others })

-- An input belongs to the class of this number.
pub record Finds (n : ℕ) (f : List Bool → Bool) (classes : List Class) (entry : ℕ × Unate) (found : FoundClass) : Type 0 where
  pub there : found.number < length classes
  pub first : (d : Class) → found.first ≡ (slice_index_or classes found.number d).first
  pub joins : (d : Class) → Joins n f (slice_index_or classes found.number d) entry found.others

-- an input joins one of the classes, or may not be exchanged with an input of any
abbrev pub IsFound : ℕ → (List Bool → Bool) → List Class → ℕ × Unate → Option FoundClass → Type 0
IsFound n f classes entry None = All (λ class. IsStranger n f class entry.0) classes
IsFound n f classes entry (Some found) = Finds n f classes entry found

-- an input joins the class of this number, or may not be exchanged with its inputs
abbrev pub IsTried : ℕ → (List Bool → Bool) → List Class → ℕ × Unate → ℕ → Option FoundClass → Type 0
IsTried n f classes entry number None = (d : Class) → number < length classes → IsStranger n f (slice_index_or classes number d) entry.0
IsTried n f classes entry number (Some found) = Finds n f classes entry found

-- the classes with the next input
abbrev pub classes_with : ℕ × Unate → Option FoundClass → List Class → List Class
classes_with entry None classes = classes ++ record { first = entry; others = None } ∷ []
classes_with entry (Some found) classes = slice_set classes found.number (record { first = found.first; others = Some found.others })

-- where the next input belongs: in the class that was found, or in a new one after all others
abbrev pub place_in : Option FoundClass → List Class → ClassPlace
place_in None classes = record { class = length classes; inverted = false }
place_in (Some found) classes = record { class = found.number; inverted = found.others.inverted }

-- how two inputs of one class may be exchanged: by whether one goes with the other inverted
abbrev pub sym_by : Bool → Bool → Sym
sym_by true inverted = Both
sym_by false false = Symmetric
sym_by false true = Skew

-- any two inputs of a class may be exchanged both ways
abbrev pub both_by : Option OtherInputs → Bool
both_by None = false
both_by (Some others) = others.both
