-- Classes split by a word, one signal after the other.
use Rattle.std.proofs.Common.{◌≡◌, ◌≢◌, ℕ, ◌+◌, ◌<◌, ◌^◌, false, List, [], length, set, Some, slice_index_or, inl, inr, refl, sym, ap, subst, ◌∙◌, arith}
use Rattle.std.proofs.lemmas.Bool.Decides.{eqb_tells}
use Rattle.std.proofs.lemmas.List.{get_or-map, get_or-set_other, get_or-set_same, length-map, length-set}
use Rattle.std.proofs.lemmas.List.FromFn.{get_or-map-range_with_len, length-map-range_with_len}
use Rattle.circuits.specs.Literals.{bit, literal_bit, false_literal, plain_literal}
use Rattle.circuits.specs.Netlists.{Net, function_of, signals_of, valuation_of}
use Rattle.circuits.proofs.Expansions.{literal_bit-plain}
use Rattle.word_sim.specs.Columns.{Table, row_of, vector_at, word_bit, word_of}
use Rattle.word_sim.proofs.Lanes.{lane-bit}
use Rattle.sweep.specs.declared.classes.Member.{Member}
use Rattle.sweep.specs.Classes.{AreSplit, IsNumbered, key_of, member_at, number_of, seen}
use Rattle.sweep.specs.Exposed.{IsExposed}
use Rattle.sweep.proofs.ClassLemmas.{AreWords}

-- nothing is split at first
pub split_none : (values : Table) (w : ℕ) (old : List Member) → AreSplit 0 values w old old []
split_none values w old = record {
  count = refl;
  flips = λ s below. refl;
  others = λ s from below. refl;
  small = λ s below. absurd (omega (arith, below));
  has = λ s below. absurd (omega (arith, below));
  few = λ key k is. absurd (cc is);
}

-- one signal more
pub split_more : (values : Table) (w n number : ℕ) (old mid new : List Member) (entries more : List ((ℕ × ℕ) × ℕ)) → n < length old → seen values w old n < 2 ^ 64 → IsNumbered entries more (key_of values w old n) n number → new ≡ set mid n (record { flip = (member_at mid n).flip; class = number }) → AreSplit n values w old mid entries → AreSplit (n + 1) values w old new more
split_more values w n number old mid new entries more there small numbered is split =
    subst (λ ms. AreSplit (n + 1) values w old ms more) (sym is) (record {
      count = length-set mid n put ∙ split.count;
      flips = λ s below. elim (eqb_tells s n) [
        | inl (found, e) ↦ subst (λ k. (member_at now k).flip ≡ (member_at old k).flip) (sym e) (ap (λ (m : Member). m.flip) same_at ∙ split.flips n there)
        | inr (found, apart) ↦ ap (λ (m : Member). m.flip) (other_at s apart) ∙ split.flips s below
      ];
      others = λ s from below. ap (λ (m : Member). m.class) (other_at s (omega (arith, from))) ∙ split.others s (omega (arith, from)) below;
      small = λ s below. elim (eqb_tells s n) [
        | inl (found, e) ↦ subst (λ k. seen values w old k < 2 ^ 64) (sym e) small
        | inr (found, apart) ↦ split.small s (omega (arith, below, apart))
      ];
      has = λ s below. elim (eqb_tells s n) [
        | inl (found, e) ↦ subst (λ k. number_of more (key_of values w old k) ≡ Some (member_at now k).class) (sym e) (numbered.has ∙ ap Some (sym (ap (λ (m : Member). m.class) same_at)))
        | inr (found, apart) ↦ numbered.keeps (key_of values w old s) (member_at mid s).class (split.has s (omega (arith, below, apart))) ∙ ap Some (sym (ap (λ (m : Member). m.class) (other_at s apart)))
      ];
      few = λ key k under. elim (numbered.only key k under) [
        | inl e ↦ omega (arith, e)
        | inr before ↦ omega (arith, split.few key k before)
      ];
    })
  where
    put : Member
    put = record { flip = (member_at mid n).flip; class = number }

    now : List Member
    now = set mid n (record { flip = (member_at mid n).flip; class = number })

    same_at : member_at (set mid n (record { flip = (member_at mid n).flip; class = number })) n ≡ record { flip = (member_at mid n).flip; class = number }
    same_at = get_or-set_same mid n (record { flip = (member_at mid n).flip; class = number }) (record { flip = false; class = 0 }) (omega (arith, there, split.count))

    other_at : (s : ℕ) → s ≢ n → member_at (set mid n (record { flip = (member_at mid n).flip; class = number })) s ≡ member_at mid s
    other_at s apart = get_or-set_other mid n s (record { flip = (member_at mid n).flip; class = number }) (record { flip = false; class = 0 }) apart

-- a number that was there
pub numbered_old : (entries : List ((ℕ × ℕ) × ℕ)) (key : ℕ × ℕ) (signal number : ℕ) → number_of entries key ≡ Some number → IsNumbered entries entries key signal number
numbered_old entries key signal number is = record {
  has = is;
  keeps = λ other k found. found;
  only = λ other k found. inr found;
}

-- what simulating a netlist whose signals are its outputs gives
pub words_of : (net : Net) (inputs values : Table) (w : ℕ) → IsExposed net → length inputs.columns ≡ net.inputs → length values.columns ≡ length net.outputs → ((v : ℕ) → v < 64 → vector_at values w v ≡ function_of net (vector_at inputs w v)) → AreWords net values w
words_of net inputs values w exposed columns outputs simulated = record {
  vector = λ v. vector_at inputs w v;
  long = λ v below. length-map (row_of inputs.columns w) (word_bit v) ∙ (length-map inputs.columns (word_of w) ∙ columns);
  bits = λ s v there below.
      let valuation = valuation_of net (vector_at inputs w v) in
      let count : length net.outputs ≡ signals_of net = ap length exposed ∙ length-map-range_with_len plain_literal 0 (signals_of net) in
      let at : slice_index_or net.outputs s false_literal ≡ plain_literal s = ap (λ ls. slice_index_or ls s false_literal) exposed ∙ get_or-map-range_with_len plain_literal 0 (signals_of net) s s false_literal there (omega arith) in
      ap (word_bit v) (sym (get_or-map (word_of w) values.columns s [] 0 (omega (arith, there, outputs, count))))
      ∙ lane-bit v (row_of values.columns w) s
      ∙ ap (λ bs. bit bs s) (simulated v below)
      ∙ get_or-map (literal_bit valuation) net.outputs s false_literal false (omega (arith, there, count))
      ∙ ap (literal_bit valuation) at
      ∙ literal_bit-plain valuation s;
}
