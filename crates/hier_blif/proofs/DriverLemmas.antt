-- For `drivers`: what a line defines is numbered, and what the lines of a model define is which cover defines it.
use Rattle.std.proofs.Common.{◌≡◌, ℕ, zero, suc, ◌+◌, ◌-◌, ◌^◌, ◌<◌, ◌≤◌, ◌||◌, Bool, true, false, cond, List, [], ◌∷◌, ◌++◌, length, get_or, set, take, drop, map, All, Contains, Option, None, Some, Result, Ok, Err, refl, ap, sym, subst, ◌∙◌, arith, append-nil, take-append-drop}
use Rattle.std.specs.Prelude.{is_some, filter, min, unwrap_or, option_map, slice_get, OnOk}
use Rattle.std.specs.Option.{option_or}
use Rattle.std.specs.List.{flat_map, find}
use Rattle.std.specs.Str.{bytes_eq}
use Rattle.std.proofs.Math.Bool.{or-false}
use Rattle.std.proofs.lemmas.List.{length-append, length-map, get_or_default, at_drop_more, take_all}
use Rattle.std.proofs.lemmas.List.Elements.{All-cons, All-nil, All-head, All-contains, All-weaker, Contains-get_or}
use Rattle.std.proofs.lemmas.List.Folds.{list_any-append}
use Rattle.std.proofs.lemmas.Grind.{flat_map-append}
use Rattle.std.proofs.lemmas.Option.{slice_get_read}
use Rattle.text_core.specs.Piece.{Piece}
use Rattle.blif_reader.proofs.NumberLemmas.{list_any-map}
use Rattle.hier_blif.specs.declared.model.CoverLine.{CoverLine}
use Rattle.hier_blif.specs.declared.model.InstanceLine.{InstanceLine}
use Rattle.hier_blif.specs.declared.model.ModelLine.{ModelLine}
use Rattle.hier_blif.specs.declared.model.ModelLine.TheVariants.{Inputs, Outputs, Cover, Instance}
use Rattle.hier_blif.specs.declared.model.BlifModel.{BlifModel}
use Rattle.hier_blif.specs.declared.sizes.Size.{Size}
use Rattle.hier_blif.specs.Models.{no_name, empty_model}
use Rattle.hier_blif.specs.Bindings.{formal_of, actual_of}
use Rattle.hier_blif.specs.Names.{outputs_of, is_among, model_of, binds_output, actual, defined_on, defined_in}
use Rattle.hier_blif.specs.NameFaults.{name_faults}
use Rattle.hier_blif.specs.Depths.{is_within, covers_within}
use Rattle.hier_blif.specs.Hierarchies.{most_parts}
use Rattle.hier_blif.specs.Flattening.{FlatCover, covers_at, covers_from, flat_covers}
use Rattle.hier_blif.specs.Signals.{part_of, formal_bound, driver_on, driver_from, driver}
use Rattle.hier_blif.specs.Scopes.{number_of, with_number, model_at}
use Rattle.hier_blif.specs.Order.{place_of, callees_on}
use Rattle.hier_blif.specs.Sizes.{capped, AreWithin, covers_made, Counts}
use Rattle.hier_blif.specs.Drivers.{IsDriven, IsDrivenAt, AreDrivers, DefinesOutputs, DefineOutputs, Drives, IsDriving, IsFilled}
use Rattle.hier_blif.proofs.ElementLemmas.{kept}
use Rattle.hier_blif.proofs.AgreeLemmas.{output_defined}
use Rattle.hier_blif.proofs.WellNamedLemmas.{well_named}
use Rattle.hier_blif.proofs.SignalLemmas.{count_at}
use Rattle.hier_blif.proofs.LookUpLemmas.{or_none, with_by}
use Rattle.hier_blif.proofs.PushLemmas.{next_taken}
use Rattle.hier_blif.proofs.SizeLemmas.{covers_both, within_both, lines_within, counts_more}
use Rattle.hier_blif.proofs.CountLemmas.{counted_lines, counted}
use Rattle.hier_blif.proofs.TableLemmas.{table_more, table_held, table_all}
use Rattle.hier_blif.proofs.FilledLemmas.{find_told, find_found}

-- a cover that is made is one of those that there are
on_le : (below : BlifModel → List ℕ → ℕ) (f : BlifModel → List FlatCover) (models : List BlifModel) (k : ℕ) (says : ModelLine) (name : List ℕ) → ((model : BlifModel) (inner : List ℕ) → below model inner ≤ length (f model)) → driver_on below models says name ≤ length (covers_at f models k says)
on_le below f models k (Instance line) name le =
    subst (λ n. driver_on below models (Instance line) name ≤ n) (sym (length-map (f (model_of models line)) _)) (le (model_of models line) (formal_bound models line name))
on_le below f models k (Inputs words) name le = omega arith
on_le below f models k (Outputs words) name le = omega arith
on_le below f models k (Cover line) name le = omega arith

one_le : (t : Bool) (at d n rest later : ℕ) → d ≤ n → rest ≤ at + n + later → cond t (at + d) rest ≤ at + (n + later)
one_le true at d n rest later h k = omega (arith, h)
one_le false at d n rest later h k = omega (arith, k)

from_le : (below : BlifModel → List ℕ → ℕ) (f : BlifModel → List FlatCover) (models : List BlifModel) (lines : List ModelLine) (at k : ℕ) (name : List ℕ) → ((model : BlifModel) (inner : List ℕ) → below model inner ≤ length (f model)) → driver_from below f models at lines name ≤ at + length (covers_from f models k lines)
from_le below f models [] at k name le = omega arith
from_le below f models (says ∷ lines) at k name le =
    let n = length (covers_at f models 0 says) in
    let later = length (covers_from f models (suc k) lines) in
    let both = length-append (covers_at f models k says) (covers_from f models (suc k) lines) ∙ ap (λ m. m + later) (count_at f models k 0 says) in
    subst (λ m. driver_from below f models at (says ∷ lines) name ≤ at + m) (sym both) (one_le (is_among name (defined_on models says)) at (driver_on below models says name) n (driver_from below f models (at + n) lines name) later (on_le below f models 0 says name le) (from_le below f models lines (at + n) (suc k) name le))

pub driver_le : (depth : ℕ) (models : List BlifModel) (model : BlifModel) (name : List ℕ) → driver models depth model name ≤ length (flat_covers models depth model)
driver_le zero models model name = omega arith
driver_le (suc l) models model name =
    from_first (driver models (suc l) model name) (length (flat_covers models (suc l) model)) (from_le (driver models l) (flat_covers models l) models model.lines 0 0 name (λ inner formal. driver_le l models inner formal))
  where
    from_first : (n m : ℕ) → n ≤ 0 + m → n ≤ m
    from_first n m h = omega (arith, h)

-- a name that is numbered or not, and one more
some_either : {X : Type 0} (a b : Option X) → is_some (option_or a b) ≡ (is_some a || is_some b)
some_either None b = refl
some_either (Some x) b = refl

some_if : (t : Bool) (n : ℕ) → is_some (cond t (Some n) None) ≡ t
some_if true n = refl
some_if false n = refl

-- what a cover defines
cover_driven : (t : Bool) (before : ℕ) → cond t (Some before) None ≡ cond (t || false) (Some (before + 0)) None
cover_driven true before = ap (λ (n : ℕ). Some n) (omega arith)
cover_driven false before = refl

pub drives_cover : (models : List BlifModel) (says : ModelLine) (line : CoverLine) (before : ℕ) (old new : List (List ℕ × ℕ)) → says ≡ Cover line → new ≡ with_number old line.defined.bytes before → Drives models says before old new
drives_cover models says line before old new is put =
    subst (λ (l : ModelLine). Drives models l before old new) (sym is) (record {
      names = λ name.
          let t = bytes_eq name line.defined.bytes in
          ap is_some (at name)
          ∙ (some_either (number_of old name) (cond t (Some before) None) ∙ ap (λ b. is_some (number_of old name) || b) (some_if t before ∙ sym (or-false t)));
      numbers = λ l name within few. at name ∙ ap (option_or (number_of old name)) (cover_driven (bytes_eq name line.defined.bytes) before);
    })
  where
    at : (name : List ℕ) → number_of new name ≡ option_or (number_of old name) (cond (bytes_eq name line.defined.bytes) (Some before) None)
    at name =
        ap (λ ns. number_of ns name) put ∙ with_by (is_some (number_of old line.defined.bytes)) old line.defined.bytes before name refl

-- a line of ports defines nothing
keeps : (models : List BlifModel) (says : ModelLine) (before : ℕ) (numbers : List (List ℕ × ℕ)) → defined_on models says ≡ [] → Drives models says before numbers numbers
keeps models says before numbers none = record {
  names = λ name.
      sym (ap (λ words. is_some (number_of numbers name) || is_among name words) none ∙ or-false (is_some (number_of numbers name)));
  numbers = λ l name within few.
      or_none (number_of numbers name) ∙ sym (ap (λ words. option_or (number_of numbers name) (cond (is_among name words) (Some (before + driver_on (driver models l) models says name)) None)) none);
}

pub drives_none : (models : List BlifModel) (says : ModelLine) (before : ℕ) (old new : List (List ℕ × ℕ)) → ((line : InstanceLine) → says ≡ Instance line → ⊥) → ((line : CoverLine) → says ≡ Cover line → ⊥) → new ≡ old → Drives models says before old new
drives_none models (Instance line) before old new one other same = absurd (one line refl)
drives_none models (Cover line) before old new one other same = absurd (other line refl)
drives_none models (Inputs words) before old new one other same =
    subst (Drives models (Inputs words) before old) (sym same) (keeps models (Inputs words) before old refl)
drives_none models (Outputs words) before old new one other same =
    subst (Drives models (Outputs words) before old) (sym same) (keeps models (Outputs words) before old refl)

-- what an instance defines: the first word that binds an output to a name decides
abbrev pub bound_number : List (List ℕ × ℕ) → ℕ → Piece → ℕ
bound_number inside before word = min (before + unwrap_or (number_of inside (formal_of word.bytes)) 0) (2 ^ 64 - 1)

exact : (before d n : ℕ) (found : Option ℕ) → found ≡ Some d → d ≤ n → before + n ≤ most_parts → min (before + unwrap_or found 0) (2 ^ 64 - 1) ≡ before + d
exact before d n found is le few =
    let small : before + d < 2 ^ 64 = omega (arith, le, few) in
    ap (λ o. min (before + unwrap_or o 0) (2 ^ 64 - 1)) is ∙ omega (arith, small)

instance_driven : (o : Option Piece) (models : List BlifModel) (line : InstanceLine) (before l : ℕ) (inside : List (List ℕ × ℕ)) (name : List ℕ) → find (λ word. bytes_eq name (actual_of word.bytes)) (filter (binds_output models line) line.bindings) ≡ o → DefinesOutputs models line → IsDriven models (model_of models line) inside → is_within models l (model_of models line) ≡ true → before + covers_made models l (Instance line ∷ []) ≤ most_parts → option_map (bound_number inside before) o ≡ cond (is_some o) (Some (before + driver models l (model_of models line) (part_of formal_of o))) None
instance_driven None models line before l inside name is outputs driven within few = refl
instance_driven (Some word) models line before l inside name is outputs driven within few =
    let model = model_of models line in
    let found = find_found (λ (w : Piece). bytes_eq name (actual_of w.bytes)) (filter (binds_output models line) line.bindings) word is in
    let bound = kept (binds_output models line) line.bindings word found.0 in
    let defined = All-contains (λ w. binds_output models line w ≡ true → is_among (formal_of w.bytes) (defined_in models model) ≡ true) line.bindings word outputs bound.0 bound.1 in
    let most : before + covers_within models l model ≤ most_parts = omega (arith, few) in
    let small : covers_within models l model ≤ most_parts = omega (arith, most) in
    let number = driven.numbers l (formal_of word.bytes) within small defined in
    let le = subst (λ n. driver models l model (formal_of word.bytes) ≤ n) (counted l models model) (driver_le l models model (formal_of word.bytes)) in
    ap (λ (n : ℕ). Some n) (exact before (driver models l model (formal_of word.bytes)) (covers_within models l model) (number_of inside (formal_of word.bytes)) number le most)

pub drives_instance : (models : List BlifModel) (says : ModelLine) (line : InstanceLine) (before : ℕ) (inside old new : List (List ℕ × ℕ)) → says ≡ Instance line → DefineOutputs models says → IsDriven models (model_of models line) inside → IsFilled (binds_output models line) (λ word. actual_of word.bytes) (bound_number inside before) old line.bindings new → Drives models says before old new
drives_instance models says line before inside old new is outputs driven filled =
    subst (λ (l : ModelLine). Drives models l before old new) (sym is) (record {
      names = λ name.
          ap is_some (filled name)
          ∙ (some_either (number_of old name) (option_map (bound_number inside before) (first name)) ∙ ap (λ b. is_some (number_of old name) || b) (some_map (bound_number inside before) (first name) ∙ told name));
      numbers = λ l name within few.
          filled name
          ∙ (ap (option_or (number_of old name)) (instance_driven (first name) models line before l inside name refl bound driven (within 0 0 (omega arith)) few)
          ∙ ap (λ t. option_or (number_of old name) (cond t (Some (before + driver models l (model_of models line) (formal_bound models line name))) None)) (told name));
    })
  where
    first : (name : List ℕ) → Option Piece
    first name = find (λ word. bytes_eq name (actual_of word.bytes)) (filter (binds_output models line) line.bindings)

    told : (name : List ℕ) → is_some (find (λ word. bytes_eq name (actual_of word.bytes)) (filter (binds_output models line) line.bindings)) ≡ is_among name (map actual (filter (binds_output models line) line.bindings))
    told name =
        let outputs = filter (binds_output models line) line.bindings in
        find_told (λ (w : Piece). bytes_eq name (actual_of w.bytes)) outputs ∙ sym (list_any-map (λ (w : Piece). bytes_eq name w.bytes) actual outputs)

    bound : DefinesOutputs models line
    bound = All-head (DefinesOutputs models) line [] (subst (λ (l : ModelLine). DefineOutputs models l) is outputs)

    some_map : (f : Piece → ℕ) (o : Option Piece) → is_some (option_map f o) ≡ is_some o
    some_map f None = refl
    some_map f (Some w) = refl

-- no name is refused, so outputs that are bound are defined
pub outputs_defined : (models : List BlifModel) (model : BlifModel) (lines : List ModelLine) (k : ℕ) (says : ModelLine) → name_faults models ≡ [] → Contains models model → lines ≡ model.lines → k < length lines → says ≡ get_or lines k says → DefineOutputs models says
outputs_defined models model lines k says named held same below is =
    of_line says (subst (λ ls. slice_get ls k ≡ Some says) same (slice_get_read lines (length lines) k says refl below is))
  where
    of_line : (line : ModelLine) → slice_get model.lines k ≡ Some line → DefineOutputs models line
    of_line (Instance line) get =
        All-cons (DefinesOutputs models) line [] (λ j d less output. output_defined models model k line (get_or line.bindings j d) (well_named models named) held get (Contains-get_or line.bindings j d less) output) (All-nil (DefinesOutputs models))
    of_line (Inputs words) get = All-nil (DefinesOutputs models)
    of_line (Outputs words) get = All-nil (DefinesOutputs models)
    of_line (Cover line) get = All-nil (DefinesOutputs models)

-- one line more
one_more : (old new d : Option ℕ) (t : Bool) (x y : ℕ) → new ≡ option_or old (cond t (Some x) None) → option_or new (Some y) ≡ option_or old (Some (cond t x y))
one_more (Some n) new d t x y h = ap (λ o. option_or o (Some y)) h
one_more None new d true x y h = ap (λ o. option_or o (Some y)) h
one_more None new d false x y h = ap (λ o. option_or o (Some y)) h

line_made : (models : List BlifModel) (l : ℕ) (says : ModelLine) → length (covers_at (flat_covers models l) models 0 says) ≡ covers_made models l (says ∷ [])
line_made models l says =
    sym (ap length (append-nil (covers_at (flat_covers models l) models 0 says)))
    ∙ counted_lines (flat_covers models l) (covers_within models l) models (counted l models) 0 (says ∷ [])

sum_exact : (a b c x y z : ℕ) → a ≡ capped x → b ≡ capped y → c ≡ capped (a + b) → x + y + z ≤ most_parts → c ≡ a + y
sum_exact a b c x y z h k e few = omega (arith, h, k, e, few)

before_exact : (a x y z : ℕ) → a ≡ capped x → x + y + z ≤ most_parts → a + y ≤ most_parts
before_exact a x y z h few = omega (arith, h, few)

pub driving_more : (models : List BlifModel) (lines : List ModelLine) (k : ℕ) (says : ModelLine) (before more next : Size) (old new : List (List ℕ × ℕ)) → k < length lines → says ≡ get_or lines k says → next.instances ≡ capped (before.instances + more.instances) → next.covers ≡ capped (before.covers + more.covers) → Counts models 0 (says ∷ []) more → Drives models says before.covers old new → IsDriving models lines k before old → IsDriving models lines (k + 1) next new
driving_more models lines k says before more next old new below is i c here drives so_far = record {
  counts = counts_more models 0 lines k says before more next below is i c so_far.counts here;
  names = λ name.
      drives.names name
      ∙ (ap (λ t. t || is_among name (defined_on models says)) (so_far.names name)
      ∙ (sym (list_any-append (λ (w : Piece). bytes_eq name w.bytes) (flat_map (defined_on models) (take k lines)) (defined_on models says)) ∙ ap (is_among name) (sym taken)));
  numbers = λ l name within few.
      let f = flat_covers models l in
      let below_it = driver models l in
      let parts = subst (AreWithin models l) whole within in
      let front = within_both models l (take k lines) (says ∷ drop (k + 1) lines) parts in
      let back = within_both models l (says ∷ []) (drop (k + 1) lines) front.1 in
      let counts = ap (covers_made models l) whole ∙ (covers_both models l (take k lines) (says ∷ drop (k + 1) lines) ∙ ap (λ n. covers_made models l (take k lines) + n) (covers_both models l (says ∷ []) (drop (k + 1) lines))) in
      let x = covers_made models l (take k lines) in
      let y = covers_made models l (says ∷ []) in
      let z = covers_made models l (drop (k + 1) lines) in
      let small : x + y + z ≤ most_parts = omega (arith, counts, few) in
      let first = so_far.counts.covers l front.0 in
      let later = sum_exact before.covers more.covers next.covers x y z first (here.covers l back.0) c small ∙ ap (λ n. before.covers + n) (sym (line_made models l says)) in
      let step : driver_from below_it f models before.covers (drop k lines) name ≡ cond (is_among name (defined_on models (get_or lines k says))) (before.covers + driver_on below_it models (get_or lines k says) name) (driver_from below_it f models (before.covers + length (covers_at f models 0 (get_or lines k says))) (drop (k + 1) lines) name) = at_drop_more (λ ls. driver_from below_it f models before.covers ls name) lines k says below in
      let on = λ (line : ModelLine). cond (is_among name (defined_on models line)) (before.covers + driver_on below_it models line name) (driver_from below_it f models (before.covers + length (covers_at f models 0 line)) (drop (k + 1) lines) name) in
      ap (λ n. option_or (number_of new name) (Some (driver_from below_it f models n (drop (k + 1) lines) name))) later
      ∙ (one_more (number_of old name) (number_of new name) None (is_among name (defined_on models says)) (before.covers + driver_on below_it models says name) (driver_from below_it f models (before.covers + length (covers_at f models 0 says)) (drop (k + 1) lines) name) (drives.numbers l name back.0 (before_exact before.covers x y z first small))
      ∙ (ap (λ (n : ℕ). option_or (number_of old name) (Some n)) (sym (step ∙ ap on (sym is))) ∙ so_far.numbers l name within few));
}
  where
    rest : drop k lines ≡ says ∷ drop (k + 1) lines
    rest =
        let e : drop k lines ≡ get_or lines k says ∷ drop (k + 1) lines = at_drop_more (λ ls. ls) lines k says below in
        e ∙ ap (λ l. l ∷ drop (k + 1) lines) (sym is)

    whole : lines ≡ take k lines ++ says ∷ drop (k + 1) lines
    whole = sym (take-append-drop k lines) ∙ ap (λ ls. take k lines ++ ls) rest

    taken : flat_map (defined_on models) (take (k + 1) lines) ≡ flat_map (defined_on models) (take k lines) ++ defined_on models says
    taken =
        ap (flat_map (defined_on models)) (sym (next_taken lines k says below is))
        ∙ (flat_map-append (defined_on models) (take k lines) (says ∷ []) ∙ ap (λ ws. flat_map (defined_on models) (take k lines) ++ ws) (append-nil (defined_on models says)))

-- before the first line
pub driving_none : (models : List BlifModel) (lines : List ModelLine) (before : Size) → before ≡ record { instances = 0; covers = 0 } → IsDriving models lines 0 before []
driving_none models lines before is = subst (λ (size : Size). IsDriving models lines 0 size []) (sym is) (record {
  counts = record { instances = λ l all. refl; covers = λ l all. refl };
  names = λ name. refl;
  numbers = λ l name within few. refl;
})

-- all lines
all_numbered : (found : Option ℕ) (t : Bool) (d n : ℕ) → is_some found ≡ t → t ≡ true → option_or found (Some d) ≡ Some n → found ≡ Some n
all_numbered None t d n h e is = cc (h ∙ e)
all_numbered (Some m) t d n h e is = is

pub driving_all : (models : List BlifModel) (model : BlifModel) (lines : List ModelLine) (k : ℕ) (before : Size) (drivers : List (List ℕ × ℕ)) → length lines ≤ k → lines ≡ model.lines → IsDriving models lines k before drivers → IsDriven models model drivers
driving_all models model lines k before drivers past same driving = record {
  names = names;
  numbers = numbers;
}
  where
    whole : take k lines ≡ model.lines
    whole = take_all k lines past ∙ same

    names : (name : List ℕ) → is_some (number_of drivers name) ≡ is_among name (defined_in models model)
    names name = driving.names name ∙ ap (λ ls. is_among name (flat_map (defined_on models) ls)) (take_all k lines past ∙ same)

    numbers : (depth : ℕ) (name : List ℕ) → is_within models depth model ≡ true → covers_within models depth model ≤ most_parts → is_among name (defined_in models model) ≡ true → number_of drivers name ≡ Some (driver models depth model name)
    numbers zero name within few defined = absurd (cc within)
    numbers (suc l) name within few defined =
        let all = subst (AreWithin models l) (sym same) (lines_within models model l within) in
        let small = subst (λ ls. covers_made models l ls ≤ most_parts) (sym same) few in
        let is = driving.numbers l name all small ∙ ap (λ (ls : List ModelLine). Some (driver_from (driver models l) (flat_covers models l) models 0 ls name)) same in
        all_numbered (number_of drivers name) (is_among name (defined_in models model)) _ _ (names name) defined is

-- what a call promises where it succeeds
pub ok_as : {X E : Type 0} (call : Result X E) (P Q : Type 0) → (P → Q) → OnOk call P → OnOk call Q
ok_as (Ok x) P Q turn is = turn is
ok_as (Err e) P Q turn is = tt

-- the drivers of the models of a line's instances
pub driven_place : (models : List BlifModel) (says : ModelLine) (line : InstanceLine) (place : ℕ) (drivers : List (List (List ℕ × ℕ))) (d : List (List ℕ × ℕ)) → says ≡ Instance line → place ≡ place_of models line → All (IsDrivenAt models drivers) (callees_on models says) → IsDriven models (model_of models line) (get_or drivers place d)
driven_place models says line place drivers d is at driven =
    let all = subst (λ (l : ModelLine). All (IsDrivenAt models drivers) (callees_on models l)) is driven in
    subst (λ n. IsDriven models (model_of models line) (get_or drivers n d)) (sym at) (All-head (IsDrivenAt models drivers) (place_of models line) [] all d)

pub place_below : (models : List BlifModel) (says : ModelLine) (line : InstanceLine) (place n : ℕ) → says ≡ Instance line → place ≡ place_of models line → All (λ callee. callee < n) (callees_on models says) → place < n
place_below models says line place n is at there =
    let all = subst (λ (l : ModelLine). All (λ callee. callee < n) (callees_on models l)) is there in
    subst (λ q. q < n) (sym at) (All-head (λ callee. callee < n) (place_of models line) [] all)

-- what all models below have, those of a line's instances have
pub callees_have : (P : ℕ → Type 0) (models : List BlifModel) (says : ModelLine) (n : ℕ) → ((place : ℕ) → place < n → P place) → All (λ callee. callee < n) (callees_on models says) → All P (callees_on models says)
callees_have P models says n each there = All-weaker (λ callee. callee < n) P each (callees_on models says) there

-- the table of all models
abbrev DriverAt : List BlifModel → ℕ → List (List ℕ × ℕ) → Type 0
DriverAt models place drivers = IsDriven models (model_at models place) drivers

pub callees_driven : (models : List BlifModel) (drivers : List (List (List ℕ × ℕ))) (places found : List ℕ) → All (IsDrivenAt models drivers) places → All (Contains places) found → All (IsDrivenAt models drivers) found
callees_driven models drivers places found driven held = table_held (DriverAt models) drivers places found driven held

pub driven_at : (models : List BlifModel) (place : ℕ) (read : BlifModel) (driven : List (List ℕ × ℕ)) → place < length models → IsDriven models (get_or models place read) driven → IsDriven models (model_at models place) driven
driven_at models place read driven there is =
    subst (λ (m : BlifModel). IsDriven models m driven) (get_or_default models place read (empty_model 0 no_name) there) is

pub driven_more : (models : List BlifModel) (order : List ℕ) (k place : ℕ) (drivers : List (List (List ℕ × ℕ))) (driven : List (List ℕ × ℕ)) → k < length order → place ≡ get_or order k place → place < length drivers → IsDriven models (model_at models place) driven → All (IsDrivenAt models drivers) (take k order) → All (IsDrivenAt models (set drivers place driven)) (take (k + 1) order)
driven_more models order k place drivers driven below is there here so_far =
    table_more (DriverAt models) order k place drivers driven below is there here so_far

pub all_driven : (models : List BlifModel) (drivers : List (List (List ℕ × ℕ))) (order : List ℕ) (k : ℕ) → length order ≤ k → length drivers ≡ length models → ((place : ℕ) → place < length models → Contains order place) → All (IsDrivenAt models drivers) (take k order) → AreDrivers models drivers
all_driven models drivers order k past entries whole driven = record {
  entries = entries;
  each = λ place below. table_all (DriverAt models) drivers order k place past (whole place below) driven;
}

-- what an instance defines, where its model's place was looked up
pub drives_placed : (models : List BlifModel) (says : ModelLine) (line : InstanceLine) (place before : ℕ) (drivers : List (List (List ℕ × ℕ))) (inside old new : List (List ℕ × ℕ)) → says ≡ Instance line → place ≡ place_of models line → inside ≡ get_or drivers place inside → DefineOutputs models says → All (IsDrivenAt models drivers) (callees_on models says) → IsFilled (λ word. is_among (formal_of word.bytes) (outputs_of (model_at models place))) (λ word. actual_of word.bytes) (bound_number inside before) old line.bindings new → Drives models says before old new
drives_placed models says line place before drivers inside old new is at read outputs driven filled =
    let inner = subst (IsDriven models (model_of models line)) (sym read) (driven_place models says line place drivers inside is at driven) in
    drives_instance models says line before inside old new is outputs inner (subst (λ n. IsFilled (λ word. is_among (formal_of word.bytes) (outputs_of (model_at models n))) (λ word. actual_of word.bytes) (bound_number inside before) old line.bindings new) at filled)
