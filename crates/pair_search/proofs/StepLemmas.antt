-- What one more entry leaves.
use Rattle.std.proofs.Common.{◌≡◌, ◌≢◌, ◌⊎◌, ℕ, zero, suc, ◌<◌, ◌≤◌, false, true, cond, List, [], ◌∷◌, ◌++◌, length, get_or, take, Contains, refl, sym, ap, subst, ◌∙◌, inl, inr, arith}
use Rattle.std.proofs.lemmas.List.{append-nil, append_assoc, length_push}
use Rattle.std.proofs.lemmas.List.Elements.{All-push, Contains-append_left}
use Rattle.std.proofs.lemmas.List.Quantifiers.{all_pairs_push}
use Rattle.circuits.specs.declared.port.Pair.{Pair}
use Rattle.circuits.specs.declared.port.PortKind.{PortKind}
use Rattle.circuits.specs.declared.port.PortKind.TheVariants.{Input, Output}
use Rattle.net_core.specs.Sides.{Graphs}
use Rattle.net_core.specs.declared.graphs.Side.{Side}
use Rattle.net_core.specs.declared.graphs.Side.TheVariants.{First, Second}
use Rattle.account_core.specs.Tallies.{port_on}
use Rattle.account_core.specs.declared.step.Ban.{Ban}
use Rattle.account_core.specs.Given.{Decided}
use Rattle.account_core.specs.Ports.{Clash}
use Rattle.pair_domains.specs.declared.entry.Entry.{Entry}
use Rattle.pair_domains.specs.declared.entry.Cause.TheVariants.{Choice, LastWay}
use Rattle.pair_domains.specs.declared.entry.Fate.{Fate}
use Rattle.pair_domains.specs.declared.entry.Fate.TheVariants.{Assigned, Deleted}
use Rattle.pair_domains.specs.declared.entry.Reason.{Reason}
use Rattle.pair_domains.specs.declared.entry.Reason.TheVariants as reason
use Rattle.pair_domains.specs.Numbers.{pairs_of_ports}
use Rattle.pair_domains.specs.Trails.{AreEntries, Domained, IsOpen, IsPairOf, assigned_in, ports_of}
use Rattle.ban_book.specs.Covering.{Covers}
use Rattle.pair_search.specs.ConflictSets.{FitPorts, HasNoChoice, IsChoiceAt}
use Rattle.pair_search.specs.Grounded.{AreGrounded, IsGrounded, StayGrounded}
use Rattle.pair_search.specs.Justified.{AreJustified, IsJustified}
use Rattle.pair_search.proofs.GroundedLemmas.{grounded_front, stay_front, stay_none, stay_push, stay_twice}
use Rattle.pair_search.proofs.JustifiedLemmas.{assigned_append, justified_front, justified_push}
use Rattle.pair_search.proofs.PivotLemmas.{assigned_not_open}
use Rattle.pair_search.specs.Progress.{IsTrail, Propagates, StaysJustified, is_choice, left, left_of, level_zero}
use Rattle.pair_search.proofs.WeightLemmas.{few_entries, less_back, less_choice, less_push}

-- Domains with one entry more.
pub record HasOneMore (before after : Domained) (entry : Entry) : Type 0 where
  pub inputs : after.inputs ≡ before.inputs
  pub outputs : after.outputs ≡ before.outputs
  pub entries : after.entries ≡ before.entries ++ entry ∷ []

pub propagates_none : (bans : List Ban) (d : Domained) → AreJustified d.inputs d.outputs bans d.entries → Propagates bans d d
propagates_none bans d are = record {
  inputs = refl;
  outputs = refl;
  added = [];
  more = sym (append-nil d.entries);
  justified = are;
  grounded = stay_none d.entries;
  less = omega arith;
}

pub propagates_two : (bans : List Ban) (one two three : Domained) → Propagates bans one two → Propagates bans two three → Propagates bans one three
propagates_two bans one two three first second = record {
  inputs = second.inputs ∙ first.inputs;
  outputs = second.outputs ∙ first.outputs;
  added = first.added ++ second.added;
  more = second.more ∙ (ap (λ l. l ++ second.added) first.more ∙ append_assoc one.entries first.added second.added);
  justified = second.justified;
  grounded = stay_twice one.entries two.entries three.entries first.grounded second.grounded;
  less = omega (arith, first.less, second.less);
}

-- an assigned pair stays assigned
pub stays_assigned : (bans : List Ban) (before after : Domained) (p : Pair) → Propagates bans before after → Contains (assigned_in before.entries) p → Contains (assigned_in after.entries) p
stays_assigned bans before after p goes there =
    subst (λ (l : List Pair). Contains l p) (sym (ap assigned_in goes.more ∙ assigned_append before.entries goes.added)) (Contains-append_left (assigned_in before.entries) (assigned_in goes.added) p there)

-- there is room for an open pair's entry
pub room_for : (d : Domained) (e : Entry) → AreEntries d.inputs d.outputs d.entries → IsPairOf d.inputs d.outputs e.pair → IsOpen d.entries e.pair → length d.entries < pairs_of_ports d.inputs d.outputs
room_for d e are known is =
    omega (arith, length_push d.entries e, few_entries d.inputs d.outputs (d.entries ++ e ∷ []) (All-push (λ (x : Entry). IsPairOf d.inputs d.outputs x.pair) d.entries e are.known known) (all_pairs_push (λ (x y : Entry). x.pair ≢ y.pair) d.entries e are.distinct is))

justified_as : (bans : List Ban) (n m n2 m2 : ℕ) (es es2 : List Entry) → n2 ≡ n → m2 ≡ m → es2 ≡ es → AreJustified n m bans es → AreJustified n2 m2 bans es2
justified_as bans n m n2 m2 es es2 n_is m_is es_is are =
    subst (λ k. AreJustified k m2 bans es2) (sym n_is) (subst (λ k. AreJustified n k bans es2) (sym m_is) (subst (λ (l : List Entry). AreJustified n m bans l) (sym es_is) are))

left_as : (d : Domained) (count : ℕ) (n m : ℕ) (es es2 : List Entry) → d.inputs ≡ n → d.outputs ≡ m → es2 ≡ es → d.entries ≡ es2 → left_of (pairs_of_ports n m) es < count → left d < count
left_as d count n m es es2 n_is m_is es_is d_is less =
    subst (λ k. left_of (pairs_of_ports k d.outputs) d.entries < count) (sym n_is) (subst (λ k. left_of (pairs_of_ports n k) d.entries < count) (sym m_is) (subst (λ (l : List Entry). left_of (pairs_of_ports n m) l < count) (sym (d_is ∙ es_is)) less))

-- one entry more, that follows
pub justified_one : (bans : List Ban) (before after : Domained) (e : Entry) → HasOneMore before after e → AreJustified before.inputs before.outputs bans before.entries → IsJustified before.inputs before.outputs bans before.entries e.pair e.fate → AreJustified after.inputs after.outputs bans after.entries
justified_one bans before after e more are is =
    justified_as bans before.inputs before.outputs after.inputs after.outputs (before.entries ++ e ∷ []) after.entries more.inputs more.outputs more.entries (justified_push before.inputs before.outputs bans before.entries e are is)

pub less_one : (before after : Domained) (e : Entry) → HasOneMore before after e → AreEntries before.inputs before.outputs before.entries → IsPairOf before.inputs before.outputs e.pair → IsOpen before.entries e.pair → is_choice e.fate ≡ false → left after < left before
less_one before after e more are known is kind =
    left_as after (left before) before.inputs before.outputs (before.entries ++ e ∷ []) after.entries more.inputs more.outputs more.entries refl (less_push (pairs_of_ports before.inputs before.outputs) before.entries e (room_for before e are known is) kind)

pub less_chosen : (before after : Domained) (e : Entry) → HasOneMore before after e → AreEntries before.inputs before.outputs before.entries → IsPairOf before.inputs before.outputs e.pair → IsOpen before.entries e.pair → is_choice e.fate ≡ true → left after < left before
less_chosen before after e more are known is kind =
    left_as after (left before) before.inputs before.outputs (before.entries ++ e ∷ []) after.entries more.inputs more.outputs more.entries refl (less_choice (pairs_of_ports before.inputs before.outputs) before.entries e (room_for before e are known is) kind)

pub propagates_one : (bans : List Ban) (before after : Domained) (e : Entry) → HasOneMore before after e → AreEntries before.inputs before.outputs before.entries → IsPairOf before.inputs before.outputs e.pair → IsOpen before.entries e.pair → is_choice e.fate ≡ false → AreJustified before.inputs before.outputs bans before.entries → IsJustified before.inputs before.outputs bans before.entries e.pair e.fate → ((graphs : Graphs) (facts : List Decided) → IsGrounded graphs facts e.pair e.fate) → Propagates bans before after
propagates_one bans before after e more lawful known is kind are follows shown =
    let less = less_one before after e more lawful known is kind in
    record {
      inputs = more.inputs;
      outputs = more.outputs;
      added = e ∷ [];
      more = more.entries;
      justified = justified_one bans before after e more are follows;
      grounded = stay_push before.entries after.entries e more.entries shown;
      less = omega (arith, less);
    }

-- an entry is as a record of domains says
pub one_more_of : (before after : Domained) (e : Entry) → after ≡ record before { entries = before.entries ++ e ∷ [] } → HasOneMore before after e
one_more_of before after e is = record {
  inputs = ap (λ (d : Domained). d.inputs) is;
  outputs = ap (λ (d : Domained). d.outputs) is;
  entries = ap (λ (d : Domained). d.entries) is;
}

-- a pair that is open where another one of its kind is assigned, and that shares a port with it, clashes with it
pub clash_of : (es : List Entry) (assigned way : Pair) → Contains (assigned_in es) assigned → IsOpen es way → assigned.kind ≡ way.kind → (assigned.from ≡ way.from) ⊎ (assigned.to ≡ way.to) → Clash assigned way
clash_of es assigned way there is kind share = record {
  same_kind = kind;
  differ = λ same. assigned_not_open es way (subst (Contains (assigned_in es)) same there) is;
  share = share;
}

-- Before a choice, with one more pair deleted.
pub record IsBackAt (before after : Domained) (place : ℕ) (e : Entry) : Type 0 where
  pub inputs : after.inputs ≡ before.inputs
  pub outputs : after.outputs ≡ before.outputs
  pub entries : after.entries ≡ take place before.entries ++ e ∷ []

pub back_at : (before middle after : Domained) (place : ℕ) (e : Entry) → middle ≡ record before { entries = take place before.entries } → after ≡ record middle { entries = middle.entries ++ e ∷ [] } → IsBackAt before after place e
back_at before middle after place e first second = record {
  inputs = ap (λ (d : Domained). d.inputs) second ∙ ap (λ (d : Domained). d.inputs) first;
  outputs = ap (λ (d : Domained). d.outputs) second ∙ ap (λ (d : Domained). d.outputs) first;
  entries = ap (λ (d : Domained). d.entries) second ∙ ap (λ (d : Domained). d.entries ++ e ∷ []) first;
}

pub back_less : (before after : Domained) (place : ℕ) (p : Pair) (why : Reason) → IsBackAt before after place (record { pair = p; fate = Deleted why }) → AreEntries before.inputs before.outputs before.entries → IsChoiceAt before.entries place → left after < left before
back_less before after place p why at lawful choice =
    let e : Entry = record { pair = p; fate = Deleted why } in
    left_as after (left before) before.inputs before.outputs (take place before.entries ++ e ∷ []) after.entries at.inputs at.outputs at.entries refl (less_back (pairs_of_ports before.inputs before.outputs) place before.entries e e choice.within (few_entries before.inputs before.outputs before.entries lawful.known lawful.distinct) (ap is_choice (choice.chosen e)) refl)

pub back_grounded : (before after : Domained) (place number : ℕ) (p : Pair) → IsBackAt before after place (record { pair = p; fate = Deleted (reason.Ban number) }) → StayGrounded before.entries after.entries
back_grounded before after place number p at =
    stay_front before.entries after.entries place (record { pair = p; fate = Deleted (reason.Ban number) }) at.entries (λ graphs facts. tt)

pub back_justified : (bans : List Ban) (before after : Domained) (place number : ℕ) (p : Pair) → IsBackAt before after place (record { pair = p; fate = Deleted (reason.Ban number) }) → AreJustified before.inputs before.outputs bans before.entries → place < length before.entries → Covers bans (p ∷ assigned_in (take place before.entries)) number → AreJustified after.inputs after.outputs bans after.entries
back_justified bans before after place number p at are below covers =
    let e : Entry = record { pair = p; fate = Deleted (reason.Ban number) } in
    justified_as bans before.inputs before.outputs after.inputs after.outputs (take place before.entries ++ e ∷ []) after.entries at.inputs at.outputs at.entries (justified_push before.inputs before.outputs bans (take place before.entries) e (justified_front before.inputs before.outputs bans before.entries place (omega (arith, below)) are) covers)

-- the first entries alone follow, and are shown, as all were
pub front_justified : (bans : List Ban) (before after : Domained) (place : ℕ) → after ≡ record before { entries = take place before.entries } → place ≤ length before.entries → AreJustified before.inputs before.outputs bans before.entries → AreJustified after.inputs after.outputs bans after.entries
front_justified bans before after place is within are =
    subst (λ (d : Domained). AreJustified d.inputs d.outputs bans d.entries) (sym is) (justified_front before.inputs before.outputs bans before.entries place within are)

pub front_grounded : (before after : Domained) (place : ℕ) → after ≡ record before { entries = take place before.entries } → StayGrounded before.entries after.entries
front_grounded before after place is = record {
  stay = λ graphs facts are. subst (λ (d : Domained). AreGrounded graphs facts d.entries) (sym is) (grounded_front graphs facts before.entries place are);
}

-- what is assigned and deleted stays as it is
pub stays_none : (bans : List Ban) (d : Domained) → AreJustified d.inputs d.outputs bans d.entries → StaysJustified bans d d
stays_none bans d are = record {
  inputs = refl;
  outputs = refl;
  justified = are;
  grounded = stay_none d.entries;
}

-- one entry more, that follows and that facts show
pub stays_one : (bans : List Ban) (before after : Domained) (e : Entry) → HasOneMore before after e → AreJustified before.inputs before.outputs bans before.entries → IsJustified before.inputs before.outputs bans before.entries e.pair e.fate → ((graphs : Graphs) (facts : List Decided) → IsGrounded graphs facts e.pair e.fate) → StaysJustified bans before after
stays_one bans before after e more are is shown = record {
  inputs = more.inputs;
  outputs = more.outputs;
  justified = justified_one bans before after e more are is;
  grounded = stay_push before.entries after.entries e more.entries shown;
}

-- before a choice, with one more pair that a ban deletes
pub stays_back : (bans : List Ban) (before after : Domained) (place number : ℕ) (p : Pair) → IsBackAt before after place (record { pair = p; fate = Deleted (reason.Ban number) }) → AreJustified before.inputs before.outputs bans before.entries → place < length before.entries → Covers bans (p ∷ assigned_in (take place before.entries)) number → StaysJustified bans before after
stays_back bans before after place number p at are below covers = record {
  inputs = at.inputs;
  outputs = at.outputs;
  justified = back_justified bans before after place number p at are below covers;
  grounded = back_grounded before after place number p at;
}

-- the first entries alone
pub stays_front : (bans : List Ban) (before after : Domained) (place : ℕ) → after ≡ record before { entries = take place before.entries } → place ≤ length before.entries → AreJustified before.inputs before.outputs bans before.entries → StaysJustified bans before after
stays_front bans before after place is within are = record {
  inputs = ap (λ (d : Domained). d.inputs) is;
  outputs = ap (λ (d : Domained). d.outputs) is;
  justified = front_justified bans before after place is within are;
  grounded = front_grounded before after place is;
}

not_chosen : (fate : Fate) → fate ≢ Assigned Choice → is_choice fate ≡ false
not_chosen (Assigned Choice) other = absurd (other refl)
not_chosen (Assigned (LastWay side)) other = refl
not_chosen (Deleted why) other = refl

-- one entry that was not chosen, before others
zero_cons : (e : Entry) (es front : List Entry) → is_choice e.fate ≡ false → level_zero es ≡ front → level_zero (e ∷ es) ≡ e ∷ front
zero_cons e es front not same = ap (λ b. cond b [] (e ∷ level_zero es)) not ∙ ap (λ (l : List Entry). e ∷ l) same

zero_all : (es : List Entry) → ((k : ℕ) (d : Entry) → k < length es → is_choice (get_or es k d).fate ≡ false) → level_zero es ≡ es
zero_all [] none = refl
zero_all (e ∷ es) none = zero_cons e es es (none 0 e (omega arith)) (zero_all es (λ k d below. none (suc k) d (omega (arith, below))))

zero_front : (es : List Entry) (place : ℕ) → place < length es → ((k : ℕ) (d : Entry) → k < place → is_choice (get_or es k d).fate ≡ false) → ((d : Entry) → is_choice (get_or es place d).fate ≡ true) → level_zero es ≡ take place es
zero_front [] place below none chosen = absurd (omega (arith, below))
zero_front (e ∷ es) zero below none chosen = ap (λ b. cond b [] (e ∷ level_zero es)) (chosen e)
zero_front (e ∷ es) (suc place) below none chosen =
    zero_cons e es (take place es) (none 0 e (omega arith)) (zero_front es place (omega (arith, below)) (λ k d early. none (suc k) d (omega (arith, early))) chosen)

-- what stands before the first choice, and where there is none
pub zero_before : (es lent : List Entry) (place : ℕ) → lent ≡ es → IsChoiceAt lent place → HasNoChoice lent 0 place → level_zero es ≡ take place es
zero_before es lent place same choice first =
    subst (λ (l : List Entry). level_zero l ≡ take place l) same (zero_front lent place choice.within (λ k d early. not_chosen (get_or lent k d).fate (first.none k d (omega arith) early)) (λ d. ap is_choice (choice.chosen d)))

pub zero_whole : (es lent : List Entry) → lent ≡ es → HasNoChoice lent 0 (length lent) → level_zero es ≡ es
zero_whole es lent same none =
    subst (λ (l : List Entry). level_zero l ≡ l) same (zero_all lent (λ k d below. not_chosen (get_or lent k d).fate (none.none k d (omega arith) below)))

fit_same : (graphs : Graphs) (n m n2 m2 : ℕ) → n2 ≡ n → m2 ≡ m → FitPorts graphs n m → FitPorts graphs n2 m2
fit_same graphs n m n2 m2 n_is m_is fit = subst (λ k. FitPorts graphs k m2) (sym n_is) (subst (λ k. FitPorts graphs n k) (sym m_is) fit)

pub trail_on : (graphs : Graphs) (bans : List Ban) (before after : Domained) → IsTrail graphs bans before → after.inputs ≡ before.inputs → after.outputs ≡ before.outputs → AreJustified after.inputs after.outputs bans after.entries → IsTrail graphs bans after
trail_on graphs bans before after is inputs outputs are = record {
  fit = fit_same graphs before.inputs before.outputs after.inputs after.outputs inputs outputs is.fit;
  justified = are;
}

pub share_of : (side : Side) (one other : Pair) → port_on side one ≡ port_on side other → (one.from ≡ other.from) ⊎ (one.to ≡ other.to)
share_of First one other same = inl same
share_of Second one other same = inr same

-- the ports stay
pub ports_after : (bans : List Ban) (before after : Domained) (kind : PortKind) → Propagates bans before after → ports_of after.inputs after.outputs kind ≡ ports_of before.inputs before.outputs kind
ports_after bans before after Input goes = goes.inputs
ports_after bans before after Output goes = goes.outputs

pub known_after : (bans : List Ban) (before after : Domained) (p : Pair) → Propagates bans before after → IsPairOf before.inputs before.outputs p → IsPairOf after.inputs after.outputs p
known_after bans before after p goes known = record {
  from = omega (arith, known.from, ports_after bans before after p.kind goes);
  to = omega (arith, known.to, ports_after bans before after p.kind goes);
}
