-- What classes say of signals, and what a word more makes of them.
use Rattle.std.proofs.Common.{◌≡◌, ℕ, zero, suc, ◌/◌, ◌%◌, ◌<◌, ◌^◌, eqb, Bool, true, false, List, [], length, map, replicate, Option, Some, slice_index_or, inl, inr, sym, ap, ◌∙◌, arith}
use Rattle.std.specs.Int.{bit_at}
use Rattle.std.specs.Option.{unwrap_or}
use Rattle.std.proofs.Math.Nat.{pow-suc, pow-zero}
use Rattle.std.proofs.lemmas.Bool.{false≢true}
use Rattle.std.proofs.lemmas.Bool.Decides.{eqb_tells}
use Rattle.std.proofs.lemmas.List.{get_or-map, length-map, length-replicate}
use Rattle.std.proofs.lemmas.Nat.Bits.{bit_at-lt, bit_at-suc, bit_at_lowest}
use Rattle.circuits.specs.declared.netlist.Lit.{Lit}
use Rattle.circuits.specs.Literals.{bit, differ, is_negated, signal_of}
use Rattle.circuits.specs.Netlists.{Net, signals_of, valuation_of}
use Rattle.circuits.proofs.Expansions.{differ_both}
use Rattle.word_sim.specs.Columns.{Table, word_bit, word_of}
use Rattle.word_sim.proofs.Lanes.{inverted-bit, two}
use Rattle.sweep.specs.declared.classes.Member.{Member}
use Rattle.sweep.specs.declared.comparing.SignalPair.{SignalPair}
use Rattle.sweep.specs.Classes.{AreClasses, AreSplit, IsSplitBy, bits_at_zero, first_member, key_of, member_at, number_of, seen}
use Rattle.sweep.specs.Comparing.{IsDifference}
use Rattle.sweep.specs.Signals.{AreUnlike, Computes}

-- digits of base two that are one at once are the same
same_digit : (m n : ℕ) → m < 2 → n < 2 → eqb m 1 ≡ eqb n 1 → m ≡ n
same_digit m n l k same =
    elim (two m l) [
      | inl e ↦ elim (two n k) [
        | inl f ↦ e ∙ sym f
        | inr f ↦ absurd (false≢true (sym (ap (λ d. eqb d 1) e) ∙ (same ∙ ap (λ d. eqb d 1) f)))
      ]
      | inr e ↦ elim (two n k) [
        | inl f ↦ absurd (false≢true (sym (ap (λ d. eqb d 1) f) ∙ (sym same ∙ ap (λ d. eqb d 1) e)))
        | inr f ↦ e ∙ sym f
      ]
    ]

-- numbers with the same digits of base two are the same
pub same_number : (n a b : ℕ) → a < 2 ^ n → b < 2 ^ n → ((i : ℕ) → i < n → bit_at a i ≡ bit_at b i) → a ≡ b
same_number zero a b l k same = omega (arith, l, k, pow-zero 2)
same_number (suc n) a b l k same =
    let half : a / 2 ≡ b / 2 = same_number n (a / 2) (b / 2) (omega (arith, l, pow-suc 2 n)) (omega (arith, k, pow-suc 2 n)) (λ i below. sym (bit_at-suc a i) ∙ (same (suc i) (omega (arith, below)) ∙ bit_at-suc b i)) in
    let lowest : a % 2 ≡ b % 2 = sym (bit_at_lowest a) ∙ (same 0 (omega arith) ∙ bit_at_lowest b) in
    omega (arith, half, lowest)

-- On some vectors, each bit of a signal's word is the signal's.
pub record AreWords (net : Net) (values : Table) (w : ℕ) : Type 0 where
  pub vector : ℕ → List Bool
  pub long : (v : ℕ) → v < 64 → length (vector v) ≡ net.inputs
  pub bits : (s v : ℕ) → s < signals_of net → v < 64
      → word_bit v (word_of w (slice_index_or values.columns s [])) ≡ bit (valuation_of net (vector v)) s

-- the sign with which a signal computes another is seen where all inputs are false
sign_is : (a b n : Bool) → b ≡ differ a n → n ≡ differ a b
sign_is true b true same = ap (differ true) (sym same)
sign_is true b false same = ap (differ true) (sym same)
sign_is false b true same = ap (differ false) (sym same)
sign_is false b false same = ap (differ false) (sym same)

at_zero : (net : Net) → length (replicate net.inputs false) ≡ net.inputs
at_zero net = length-replicate net.inputs false

-- what is seen of a signal, bit by bit
seen_bit : (net : Net) (members : List Member) (values : Table) (w : ℕ) → AreClasses net members → (words : AreWords net values w) → (s v : ℕ) → s < signals_of net → v < 64 → word_bit v (seen values w members s) ≡ differ (bit (valuation_of net (words.vector v)) s) (bit (bits_at_zero net) s)
seen_bit net members values w classes words s v there below =
    inverted-bit v (word_of w (slice_index_or values.columns s [])) (member_at members s).flip below
    ∙ ap (λ b. differ b (member_at members s).flip) (words.bits s v there below)
    ∙ ap (differ (bit (valuation_of net (words.vector v)) s)) (classes.flips s there)

-- the same is seen of two signals of which one computes the other or its complement
same_seen : (net : Net) (members : List Member) (values : Table) (w : ℕ) → AreClasses net members → AreWords net values w → (s t : ℕ) (literal : Lit) → s < signals_of net → t < signals_of net → seen values w members s < 2 ^ 64 → seen values w members t < 2 ^ 64 → signal_of literal ≡ t → Computes net s literal → seen values w members s ≡ seen values w members t
same_seen net members values w classes words s t literal here there small also_small at computes =
    same_number 64 (seen values w members s) (seen values w members t) small also_small (λ v below.
    let x = words.vector v in
    let sign = is_negated literal in
    let on_vector : bit (valuation_of net x) s ≡ differ (bit (valuation_of net x) t) sign =
    computes x (words.long v below) ∙ ap (λ u. differ (bit (valuation_of net x) u) sign) at in
    let on_zero : bit (bits_at_zero net) s ≡ differ (bit (bits_at_zero net) t) sign =
    computes (replicate net.inputs false) (at_zero net) ∙ ap (λ u. differ (bit (bits_at_zero net) u) sign) at in
    let bits : word_bit v (seen values w members s) ≡ word_bit v (seen values w members t) =
    seen_bit net members values w classes words s v here below
    ∙ ap (λ b. differ b (bit (bits_at_zero net) s)) on_vector
    ∙ ap (differ (differ (bit (valuation_of net x) t) sign)) on_zero
    ∙ differ_both (bit (valuation_of net x) t) (bit (bits_at_zero net) t) sign
    ∙ sym (seen_bit net members values w classes words t v there below) in
    same_digit (bit_at (seen values w members s) v) (bit_at (seen values w members t) v) (bit_at-lt (seen values w members s) v) (bit_at-lt (seen values w members t) v) bits)

some_same : {X : Type 0} (x y : X) → Some x ≡ Some y → x ≡ y
some_same {X} x y same = ap (λ (o : Option X). unwrap_or o x) same

-- classes that were split are classes
pub split_classes : (net : Net) (old new : List Member) (values : Table) (w : ℕ) → AreClasses net old → AreWords net values w → IsSplitBy values w old new → AreClasses net new
split_classes net old new values w classes words is = record {
  count = split.count ∙ classes.count;
  flips = λ s there. split.flips s (within s there) ∙ classes.flips s there;
  few = λ s there. omega (arith, split.few (key_of values w old s) (member_at new s).class (split.has s (within s there)), classes.count);
  unlike = λ s t here there apart literal at computes. apart (together s t here there literal at computes);
}
  where
    split : AreSplit (length old) values w old new is.entries
    split = is.split

    within : (s : ℕ) → s < signals_of net → s < length old
    within s there = omega (arith, there, classes.count)

    together : (s t : ℕ) → s < signals_of net → t < signals_of net → (literal : Lit) → signal_of literal ≡ t → Computes net s literal → (member_at new s).class ≡ (member_at new t).class
    together s t here there literal at computes =
        elim (eqb_tells (member_at old s).class (member_at old t).class) [
          | inl (found, same) ↦
              let alike = same_seen net old values w classes words s t literal here there (split.small s (within s here)) (split.small t (within t there)) at computes in
              let keys : key_of values w old s ≡ key_of values w old t = ap (λ k. (k, seen values w old s)) same ∙ ap (λ k. ((member_at old t).class, k)) alike in
              some_same (member_at new s).class (member_at new t).class (sym (split.has s (within s here)) ∙ (ap (number_of is.entries) keys ∙ split.has t (within t there)))
          | inr (found, apart) ↦ absurd (classes.unlike s t here there apart literal at computes)
        ]

-- at first all signals are of one class
pub first_classes : (net : Net) (members : List Member) (bits : List Bool) → bits ≡ bits_at_zero net → length bits ≡ signals_of net → members ≡ map first_member bits → AreClasses net members
first_classes net members bits bits_are count is = record {
  count = ap length is ∙ (length-map bits first_member ∙ count);
  flips = λ s there. ap (λ (m : Member). m.flip) (at s there) ∙ ap (λ (bs : List Bool). bit bs s) bits_are;
  few = λ s there. omega (arith, ap (λ (m : Member). m.class) (at s there));
  unlike = λ s t here there apart. absurd (apart (ap (λ (m : Member). m.class) (at s here) ∙ sym (ap (λ (m : Member). m.class) (at t there))));
}
  where
    at : (s : ℕ) → s < signals_of net → member_at members s ≡ first_member (bit bits s)
    at s there =
        ap (λ (ms : List Member). member_at ms s) is ∙ get_or-map first_member bits s false (record { flip = false; class = 0 }) (omega (arith, there, count))

-- signals of one class that differ on a vector are unlike: with the other sign they differ where all inputs are false
pub difference_unlike : (net : Net) (members : List Member) (pair : SignalPair) (x : List Bool) → AreClasses net members → pair.one < signals_of net → pair.other < signals_of net → pair.opposite ≡ differ (member_at members pair.one).flip (member_at members pair.other).flip → IsDifference net pair x → AreUnlike net pair.other pair.one
difference_unlike net members pair x classes here there sign_of difference literal at computes =
    let zero_bit : bit (bits_at_zero net) pair.other ≡ differ (bit (bits_at_zero net) pair.one) (is_negated literal) =
    computes (replicate net.inputs false) (at_zero net) ∙ ap (λ u. differ (bit (bits_at_zero net) u) (is_negated literal)) at in
    let sign : is_negated literal ≡ pair.opposite =
    sign_is (bit (bits_at_zero net) pair.one) (bit (bits_at_zero net) pair.other) (is_negated literal) zero_bit
    ∙ sym (ap (λ b. differ b (bit (bits_at_zero net) pair.other)) (classes.flips pair.one here))
    ∙ sym (ap (differ (member_at members pair.one).flip) (classes.flips pair.other there))
    ∙ sym sign_of in
    difference.unlike (computes x difference.inputs
    ∙ ap (λ u. differ (bit (valuation_of net x) u) (is_negated literal)) at
    ∙ ap (differ (bit (valuation_of net x) pair.one)) sign)
