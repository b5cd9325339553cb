-- Numbers and deltas as bytes, written and read.
use Rattle.std.proofs.Common.{◌≡◌, ◌⊎◌, ℕ, ◌+◌, ◌-◌, ◌*◌, ◌/◌, ◌%◌, ◌^◌, ◌<◌, ◌≤◌, min, cond, Bool, true, false, List, [], ◌∷◌, ◌++◌, inl, inr, ap, ◌∙◌, div-add-mod', arith}
use Rattle.std.specs.Bool.{⊤}
use Rattle.std.proofs.Math.Dec.{leb}
use Rattle.std.proofs.Math.Nat.{mul-div-le}
use Rattle.std.proofs.lemmas.Bool.{both_ways, cases_eq, cases_lt, cond-false, cond-true, cond_both, le-leb, leb-false, lt-leb}
use Rattle.std.proofs.lemmas.Bool.Decides.{leb_tells}
use Rattle.std.proofs.lemmas.Nat.{mod_below}
use Rattle.text_core.specs.Groups.{groups}
use Rattle.text_core.proofs.GroupLemmas.{groups_last, groups_next}
use Rattle.line_codec.specs.LineBytes.{IsWord, ReadsBack, low_of, mark_if, number_bytes, delta_bytes, signed_bytes, signed_first, signed_rest}

-- ---- groups

-- a byte at the front
abbrev pub IsFront : List ℕ → List ℕ → ℕ → Type 0
IsFront before after byte = ReadsBack (λ (byte : ℕ). ⊤) (λ (byte : ℕ). byte ∷ []) before after byte

pub last_group_read : (more n group : ℕ) (before after rest : List ℕ) → IsFront before after group → (more ≡ 0) ⊎ (group < 128) → before ≡ groups more n ++ rest → (group ≡ n) × (after ≡ rest)
last_group_read more n group before after rest told last is =
    elim (cases_eq more 0) [
      | inl none ↦ told n rest tt (is ∙ ap (λ text. text ++ rest) (groups_last more n (inl none)))
      | inr some ↦
          elim (cases_lt n 128) [
            | inl below ↦ told n rest tt (is ∙ ap (λ text. text ++ rest) (groups_last more n (inr below)))
            | inr above ↦
                let first = told (128 + n % 128) (groups (more - 1) (n / 128) ++ rest) tt (is ∙ ap (λ text. text ++ rest) (groups_next more n (omega (arith, some)) above)) in
                elim last [
                  | inl none ↦ absurd (some none)
                  | inr small ↦ absurd (omega (arith, small, first.0))
                ]
          ]
    ]

pub more_groups_read : (more n group high read : ℕ) (before mid after rest : List ℕ) → IsFront before mid group → ReadsBack IsWord (groups (more - 1)) mid after high → 0 < more → 128 ≤ group → read ≡ min (min (high * 128) (2 ^ 64 - 1) + (group - 128)) (2 ^ 64 - 1) → n < 2 ^ 64 → before ≡ groups more n ++ rest → (read ≡ n) × (after ≡ rest)
more_groups_read more n group high read before mid after rest told others some large read_is word is =
    elim (cases_lt n 128) [
      | inl below ↦
          let first = told n rest tt (is ∙ ap (λ text. text ++ rest) (groups_last more n (inr below))) in
          absurd (omega (arith, below, first.0, large))
      | inr above ↦
          let first = told (128 + n % 128) (groups (more - 1) (n / 128) ++ rest) tt (is ∙ ap (λ text. text ++ rest) (groups_next more n some above)) in
          let second = others (n / 128) rest (omega (arith, word, mul-div-le n 128)) first.1 in
          (omega (arith, read_is, first.0, second.0, word, div-add-mod' n 128), second.1)
    ]

-- ---- deltas

mark_most : (is_so : Bool) (bit : ℕ) → mark_if is_so bit ≤ bit
mark_most true bit = omega arith
mark_most false bit = omega arith

pub low_small : (magnitude : ℕ) → low_of magnitude < 64
low_small magnitude = cond_both (leb 64 magnitude) (magnitude % 64) magnitude (λ x. x < 64) (λ e. mod_below magnitude 64 (omega arith)) (λ e. leb-false 64 magnitude e)

-- a byte less a bit, where it has at least so much
abbrev pub without : ℕ → ℕ → ℕ
without byte bit = cond (leb bit byte) (byte - bit) byte

-- The first byte of a delta, taken apart.
record AreParts (first low : ℕ) (more negative : Bool) : Type 0 where
  goes_on : leb 128 first ≡ more
  sign : leb 64 (without first 128) ≡ negative
  low_is : without (without first 128) 64 ≡ low

short_sign : (negative : Bool) (low short : ℕ) → low < 64 → short ≡ mark_if negative 64 + low → leb 64 short ≡ negative
short_sign true low short small is = le-leb 64 short (omega (arith, is))
short_sign false low short small is = lt-leb 64 short (omega (arith, is, small))

short_low : (negative : Bool) (low short : ℕ) → low < 64 → short ≡ mark_if negative 64 + low → without short 64 ≡ low
short_low true low short small is = cond-true (leb 64 short) (short - 64) short (short_sign true low short small is) ∙ omega (arith, is)
short_low false low short small is = cond-false (leb 64 short) (short - 64) short (short_sign false low short small is) ∙ omega (arith, is)

first_goes_on : (more negative : Bool) (low first : ℕ) → low < 64 → first ≡ mark_if more 128 + mark_if negative 64 + low → leb 128 first ≡ more
first_goes_on true negative low first small is = le-leb 128 first (omega (arith, is))
first_goes_on false negative low first small is = lt-leb 128 first (omega (arith, is, small, mark_most negative 64))

first_short : (more negative : Bool) (low first : ℕ) → low < 64 → first ≡ mark_if more 128 + mark_if negative 64 + low → without first 128 ≡ mark_if negative 64 + low
first_short true negative low first small is = cond-true (leb 128 first) (first - 128) first (first_goes_on true negative low first small is) ∙ omega (arith, is)
first_short false negative low first small is = cond-false (leb 128 first) (first - 128) first (first_goes_on false negative low first small is) ∙ omega (arith, is)

parts_of : (more negative : Bool) (low first : ℕ) → low < 64 → first ≡ mark_if more 128 + mark_if negative 64 + low → AreParts first low more negative
parts_of more negative low first small is =
    let short = first_short more negative low first small is in
    record {
      goes_on = first_goes_on more negative low first small is;
      sign = short_sign negative low (without first 128) small short;
      low_is = short_low negative low (without first 128) small short;
    }

-- what is read of a delta's other bytes, where its first one said this
abbrev pub IsMagnitude : Bool → ℕ → List ℕ → List ℕ → ℕ → Type 0
IsMagnitude more low before after read = ReadsBack (λ magnitude. IsWord magnitude × (more ≡ leb 64 magnitude) × (low ≡ low_of magnitude)) signed_rest before after read

pub magnitude_low : (magnitude low : ℕ) (before after rest : List ℕ) → low ≡ low_of magnitude → leb 64 magnitude ≡ false → after ≡ before → before ≡ signed_rest magnitude ++ rest → (low ≡ magnitude) × (after ≡ rest)
magnitude_low magnitude low before after rest low_is none same is = (
  low_is ∙ cond-false (leb 64 magnitude) (magnitude % 64) magnitude none,
  same ∙ (is ∙ ap (λ text. text ++ rest) (cond-false (leb 64 magnitude) (number_bytes (magnitude / 64)) [] none)),
)

pub magnitude_high : (magnitude low high read : ℕ) (before after rest : List ℕ) → ReadsBack IsWord number_bytes before after high → read ≡ min (min (high * 64) (2 ^ 64 - 1) + low) (2 ^ 64 - 1) → magnitude < 2 ^ 64 → low ≡ low_of magnitude → leb 64 magnitude ≡ true → before ≡ signed_rest magnitude ++ rest → (read ≡ magnitude) × (after ≡ rest)
magnitude_high magnitude low high read before after rest told read_is word low_is some is =
    let others = told (magnitude / 64) rest (omega (arith, word, mul-div-le magnitude 64)) (is ∙ ap (λ text. text ++ rest) (cond-true (leb 64 magnitude) (number_bytes (magnitude / 64)) [] some)) in
    let low_six : low ≡ magnitude % 64 = low_is ∙ cond-true (leb 64 magnitude) (magnitude % 64) magnitude some in
    (omega (arith, read_is, others.0, low_six, word, div-add-mod' magnitude 64), others.1)

-- A delta was read, negative or not.
record IsSignedRead (negative : Bool) (magnitude read short : ℕ) (after rest : List ℕ) : Type 0 where
  magnitude_is : read ≡ magnitude
  left : after ≡ rest
  sign : leb 64 short ≡ negative

-- What was computed of a delta's first byte.
pub record IsTakenApart (first short low : ℕ) (more : Bool) : Type 0 where
  pub more_is : more ≡ leb 128 first
  pub short_is : short ≡ without first 128
  pub low_is : low ≡ without short 64

signed_read : (negative : Bool) (magnitude first short low read : ℕ) (more : Bool) (before mid after rest : List ℕ) → IsFront before mid first → IsTakenApart first short low more → IsMagnitude more low mid after read → magnitude < 2 ^ 64 → before ≡ signed_bytes negative magnitude ++ rest → IsSignedRead negative magnitude read short after rest
signed_read negative magnitude first short low read more before mid after rest told apart others word is =
    let one = told (signed_first negative magnitude) (signed_rest magnitude ++ rest) tt is in
    let parts = parts_of (leb 64 magnitude) negative (low_of magnitude) first (low_small magnitude) one.0 in
    let two = others magnitude rest (word, apart.more_is ∙ parts.goes_on, apart.low_is ∙ (ap (λ n. without n 64) apart.short_is ∙ parts.low_is)) one.1 in
    record { magnitude_is = two.0; left = two.1; sign = ap (leb 64) apart.short_is ∙ parts.sign }

module _ (from to first short low read : ℕ) (more : Bool) (before mid after rest : List ℕ) (told : IsFront before mid first) (apart : IsTakenApart first short low more) (others : IsMagnitude more low mid after read) (from_word : from < 2 ^ 64) (word : to < 2 ^ 64) (is : before ≡ delta_bytes from to ++ rest) where
  upward : from ≤ to → leb from to ≡ true → IsSignedRead false (to - from) read short after rest
  upward least test = signed_read false (to - from) first short low read more before mid after rest told apart others (omega (arith, word)) (is ∙ ap (λ text. text ++ rest) (cond-true (leb from to) (signed_bytes false (to - from)) (signed_bytes true (from - to)) test))

  downward : to < from → leb from to ≡ false → IsSignedRead true (from - to) read short after rest
  downward less test = signed_read true (from - to) first short low read more before mid after rest told apart others (omega (arith, from_word)) (is ∙ ap (λ text. text ++ rest) (cond-false (leb from to) (signed_bytes false (to - from)) (signed_bytes true (from - to)) test))

  pub delta_down : (reached : ℕ) → 64 ≤ short → reached ≡ from - read → (reached ≡ to) × (after ≡ rest)
  delta_down reached sign reached_is =
      elim (leb_tells from to) [
        | inl (test, least) ↦ absurd (both_ways (leb 64 short) (upward least test).sign (le-leb 64 short sign))
        | inr (test, less) ↦
            let delta = downward less test in
            (omega (arith, reached_is, delta.magnitude_is, less), delta.left)
      ]

  pub delta_up : (reached : ℕ) → short < 64 → reached ≡ min (from + read) (2 ^ 64 - 1) → (reached ≡ to) × (after ≡ rest)
  delta_up reached sign reached_is =
      elim (leb_tells from to) [
        | inl (test, least) ↦
            let delta = upward least test in
            (omega (arith, reached_is, delta.magnitude_is, least, word), delta.left)
        | inr (test, less) ↦ absurd (both_ways (leb 64 short) (lt-leb 64 short sign) (downward less test).sign)
      ]
