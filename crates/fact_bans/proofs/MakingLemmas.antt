-- Calls that have claims decided and make bans, one after the other.
use Rattle.std.proofs.Common.{◌≡◌, Bool, true, false, List, [], ◌∷◌, ◌++◌, map, Result, Ok, Err, refl, sym, ap, subst, ◌∙◌, append_assoc, append-nil}
use Rattle.std.specs.Prelude.{IsErrAnd}
use Rattle.std.proofs.lemmas.List.Elements.{All-push}
use Rattle.cnf_core.specs.declared.stop.Stop.{Stop}
use Rattle.cnf_core.specs.declared.stop.Stop.TheVariants.{Memory}
use Rattle.circuits.specs.declared.port.Pair.{Pair}
use Rattle.net_core.specs.Sides.{Graphs}
use Rattle.query_core.specs.Ledgers.{Ledgered}
use Rattle.account_core.specs.declared.step.Ban.{Ban}
use Rattle.account_core.specs.Facts.{AreFacts}
use Rattle.account_core.specs.Given.{decided_by, given_of}
use Rattle.account_core.specs.Steps.{AreValidBans, IsValidBan}
use Rattle.oracle_core.specs.Oracles.{Known, Serves}
use Rattle.ban_book.specs.Vectors.{AreLastResorts, IsLastResort, IsVector}
use Rattle.ban_book.proofs.BookLemmas.{valid_push}
use Rattle.ban_book.proofs.VectorLemmas.{last_resorts_push_other}
use Rattle.ban_book.specs.Ways.{AddsBans}
use Rattle.ban_book.specs.declared.tallies.Lists.{Lists}
use Rattle.ban_book.specs.Listed.{tally_of}
use Rattle.fact_bans.specs.Serving.{AreValid, HasServed, MakesBans, MayMakeBans, OnlyAdds}
use Rattle.fact_bans.proofs.ServeLemmas.{served_one, served_same, served_then, serves_err, serves_ok, serves_last, serves_memory, valid_grows}

-- What calls did that were all answered.
pub record HasMadeBans (graphs : Graphs) (old new : Known) (before after : Ledgered) (bans more : List Ban) : Type 0 where
  pub served : HasServed old new before after
  pub valid : AreValid graphs new more
  pub adds : OnlyAdds bans more

pub adds_none : (bans : List Ban) → OnlyAdds bans bans
adds_none bans = record { added = []; more = sym (append-nil bans) }

pub adds_one : (bans after : List Ban) (ban : Ban) → after ≡ bans ++ ban ∷ [] → OnlyAdds bans after
adds_one bans after ban is = record { added = ban ∷ []; more = is }

pub adds_then : (first second third : List Ban) → OnlyAdds first second → OnlyAdds second third → OnlyAdds first third
adds_then first second third one other = record {
  added = one.added ++ other.added;
  more = other.more ∙ (ap (λ l. l ++ other.added) one.more ∙ append_assoc first one.added other.added);
}

pub lawful_of : (graphs : Graphs) (known : Known) (ledger : Ledgered) (bans : List Ban) → MayMakeBans graphs known ledger bans → AreFacts known.graphs known.facts
lawful_of graphs known ledger bans may = subst (λ (g : Graphs). AreFacts g known.facts) may.graphs_are may.lawful

pub made_same : (graphs : Graphs) (known : Known) (ledger : Ledgered) (bans : List Ban) → MayMakeBans graphs known ledger bans → HasMadeBans graphs known known ledger ledger bans bans
made_same graphs known ledger bans may = record {
  served = served_same known ledger (lawful_of graphs known ledger bans may) may.suits;
  valid = may.valid;
  adds = adds_none bans;
}

pub made_one : {X : Type 0} (graphs : Graphs) (old new : Known) (a b : Ledgered) (bans more : List Ban) (x : X) → MakesBans graphs old new a b bans more (Ok x) → HasMadeBans graphs old new a b bans more
made_one graphs old new a b bans more x makes = record {
  served = served_one old new a b x makes.serves;
  valid = makes.valid;
  adds = makes.adds;
}

pub made_then : (graphs : Graphs) (old mid new : Known) (a b c : Ledgered) (first second third : List Ban) → HasMadeBans graphs old mid a b first second → HasMadeBans graphs mid new b c second third → HasMadeBans graphs old new a c first third
made_then graphs old mid new a b c first second third one other = record {
  served = served_then old mid new a b c one.served other.served;
  valid = other.valid;
  adds = adds_then first second third one.adds other.adds;
}

-- after calls that were answered more may be called
pub may_later : (graphs : Graphs) (old new : Known) (a b : Ledgered) (bans more : List Ban) → MayMakeBans graphs old a bans → HasMadeBans graphs old new a b bans more → MayMakeBans graphs new b more
may_later graphs old new a b bans more may made = record {
  graphs_are = may.graphs_are ∙ sym made.served.grows.graphs;
  lawful = subst (λ (g : Graphs). AreFacts g new.facts) (sym (may.graphs_are ∙ sym made.served.grows.graphs)) made.served.grows.lawful;
  suits = made.served.suits;
  valid = made.valid;
}

pub makes_ok : {X : Type 0} (graphs : Graphs) (old new : Known) (a b : Ledgered) (bans more : List Ban) (result : Result X Stop) (x : X) → result ≡ Ok x → HasMadeBans graphs old new a b bans more → MakesBans graphs old new a b bans more result
makes_ok graphs old new a b bans more result x is made = record {
  serves = serves_ok old new a b result x is made.served;
  valid = made.valid;
  adds = made.adds;
}

-- a call that ends the others without an answer
pub makes_err : {X Y : Type 0} (graphs : Graphs) (old mid new : Known) (a b c : Ledgered) (first second third : List Ban) (result : Result Y Stop) (stop : Stop) → IsErrAnd result (λ e. e ≡ stop) → HasMadeBans graphs old mid a b first second → MakesBans {X = X} graphs mid new b c second third (Err stop) → MakesBans graphs old new a c first third result
makes_err graphs old mid new a b c first second third result stop is made makes = record {
  serves = serves_err old mid new a b c result stop is made.served makes.serves;
  valid = makes.valid;
  adds = adds_then first second third made.adds makes.adds;
}

-- a call that is the last one
pub makes_last : {X : Type 0} (graphs : Graphs) (old mid new : Known) (a b c : Ledgered) (first second third : List Ban) (result : Result X Stop) → HasMadeBans graphs old mid a b first second → MakesBans graphs mid new b c second third result → MakesBans graphs old new a c first third result
makes_last graphs old mid new a b c first second third result made makes = record {
  serves = serves_last old mid new a b c result made.served makes.serves;
  valid = makes.valid;
  adds = adds_then first second third made.adds makes.adds;
}

-- calls that keep no ban
pub makes_no_more : {X : Type 0} (graphs : Graphs) (old new : Known) (a b : Ledgered) (bans : List Ban) (result : Result X Stop) → AreValid graphs old bans → Serves old new a b result → MakesBans graphs old new a b bans bans result
makes_no_more graphs old new a b bans result valid serves = record {
  serves = serves;
  valid = valid_grows old new graphs bans serves.grows valid;
  adds = adds_none bans;
}

-- one ban is kept, by a vector only as a last resort
pub valid_one : (graphs : Graphs) (old new : Known) (a b : Ledgered) (bans more : List Ban) (ban : Ban) → AreValid graphs old bans → HasServed old new a b → more ≡ bans ++ ban ∷ [] → IsValidBan graphs (given_of (map decided_by new.facts) bans) ban → (IsVector ban.step → IsLastResort graphs (map decided_by new.facts) ban) → AreValid graphs new more
valid_one graphs old new a b bans more ban valid served is here resort =
    let grown = valid_grows old new graphs bans served.grows valid in
    record {
      graphs_are = grown.graphs_are;
      each = subst (AreValidBans graphs (map decided_by new.facts)) (sym is) (valid_push graphs (map decided_by new.facts) bans ban grown.each here);
      last_resorts = subst (AreLastResorts graphs (map decided_by new.facts)) (sym is) (record {
        each = All-push (λ (b : Ban). IsVector b.step → IsLastResort graphs (map decided_by new.facts) b) bans ban grown.last_resorts.each resort;
      });
    }

pub made_ban : (graphs : Graphs) (old new : Known) (a b : Ledgered) (bans more : List Ban) (ban : Ban) → AreValid graphs old bans → HasServed old new a b → more ≡ bans ++ ban ∷ [] → IsValidBan graphs (given_of (map decided_by new.facts) bans) ban → (IsVector ban.step → IsLastResort graphs (map decided_by new.facts) ban) → HasMadeBans graphs old new a b bans more
made_ban graphs old new a b bans more ban valid served is here resort = record {
  served = served;
  valid = valid_one graphs old new a b bans more ban valid served is here resort;
  adds = adds_one bans more ban is;
}

-- bans are kept that no vector shows, and that are valid whatever the facts are
pub made_more : (graphs : Graphs) (old new : Known) (a b : Ledgered) (first second third : List Ban) → HasMadeBans graphs old new a b first second → AddsBans graphs second third → HasMadeBans graphs old new a b first third
made_more graphs old new a b first second third made more = record {
  served = made.served;
  valid = record {
    graphs_are = made.valid.graphs_are;
    each = more.valid (map decided_by new.facts) made.valid.each;
    last_resorts = subst (AreLastResorts graphs (map decided_by new.facts)) (sym more.more) (last_resorts_push_other graphs (map decided_by new.facts) second more.added more.no_vector made.valid.last_resorts);
  };
  adds = adds_then first second third made.adds (record { added = more.added; more = more.more });
}

-- calls that were answered, and kept no ban
pub made_kept : (graphs : Graphs) (old new : Known) (a b : Ledgered) (bans more : List Ban) → AreValid graphs old bans → HasServed old new a b → more ≡ bans → HasMadeBans graphs old new a b bans more
made_kept graphs old new a b bans more valid served same = record {
  served = served;
  valid = subst (AreValid graphs new) (sym same) (valid_grows old new graphs bans served.grows valid);
  adds = subst (OnlyAdds bans) (sym same) (adds_none bans);
}

-- after calls that made bans come calls that have claims decided
pub made_asked : {X : Type 0} (graphs : Graphs) (old mid new : Known) (a b c : Ledgered) (bans more : List Ban) {x : X} → MayMakeBans graphs old a bans → HasMadeBans graphs old mid a b bans more → Serves mid new b c (Ok x) → HasMadeBans graphs old new a c bans more
made_asked graphs old mid new a b c bans more may made serves =
    made_then graphs old mid new a b c bans more more made (made_kept graphs mid new b c more more (may_later graphs old mid a b bans more may made).valid (served_one mid new b c _ serves) refl)

-- memory ran out after calls that were answered
pub makes_stop : {Y : Type 0} (graphs : Graphs) (old new : Known) (a b : Ledgered) (bans more : List Ban) (result : Result Y Stop) → IsErrAnd result (λ e. e ≡ Memory) → HasMadeBans graphs old new a b bans more → MakesBans graphs old new a b bans more result
makes_stop graphs old new a b bans more result is made = record {
  serves = serves_memory old new a b result is made.served;
  valid = made.valid;
  adds = made.adds;
}

-- the first call wasn't answered, and keeps no ban
pub makes_fail : {X Y : Type 0} (graphs : Graphs) (old new : Known) (a b : Ledgered) (bans : List Ban) (result : Result Y Stop) (stop : Stop) → IsErrAnd result (λ e. e ≡ stop) → MayMakeBans graphs old a bans → Serves {X = X} old new a b (Err stop) → MakesBans graphs old new a b bans bans result
makes_fail graphs old new a b bans result stop is may serves = record {
  serves = serves_err old old new a a b result stop is (served_same old a (lawful_of graphs old a bans may) may.suits) serves;
  valid = valid_grows old new graphs bans serves.grows may.valid;
  adds = adds_none bans;
}

-- no vector shows a tally's ban
pub tally_no_vector : (pair : Pair) (makes : Bool) (lists : Lists) → IsVector (tally_of pair makes lists).step → ⊥
tally_no_vector pair true lists vector = vector
tally_no_vector pair false lists vector = vector
