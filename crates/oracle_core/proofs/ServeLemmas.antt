-- Calls of an oracle, one after the other.
use Rattle.std.proofs.Common.{◌≡◌, [], ◌++◌, Result, Ok, Err, refl, sym, ap, subst, ◌∙◌, inl, inr, append_assoc, append-nil, ℕ, ◌+◌, ◌<◌}
use Rattle.std.specs.Prelude.{IsErrAnd}
use Rattle.cnf_core.specs.declared.stop.Stop.{Stop}
use Rattle.cnf_core.specs.declared.stop.Stop.TheVariants.{Spent, Memory}
use Rattle.net_core.specs.Sides.{Graphs}
use Rattle.query_core.specs.Ledgers.{Ledgered}
use Rattle.account_core.specs.Facts.{AreFacts}
use Rattle.account_core.specs.Ports.{HaveAsMany}
use Rattle.oracle_core.specs.Enough.{enough}
use Rattle.oracle_core.specs.Work.{IsCharged, IsWorkOfClaimsAndMatches}
use Rattle.oracle_core.specs.Oracles.{Grows, HasServed, IsAnswered, IsStopped, Keeps, Known, Serves, Suits, entry_at}

pub grows_same : (known : Known) → AreFacts known.graphs known.facts → Grows known known
grows_same known facts = record {
  graphs = refl;
  added = [];
  facts = sym (append-nil known.facts);
  lawful = facts;
  answered = λ query is. is;
}

grows_then : (old mid new : Known) → Grows old mid → Grows mid new → Grows old new
grows_then old mid new one other = record {
  graphs = other.graphs ∙ one.graphs;
  added = one.added ++ other.added;
  facts = other.facts ∙ (ap (λ facts. facts ++ other.added) one.facts ∙ append_assoc old.facts one.added other.added);
  lawful = other.lawful;
  answered = λ query is. other.answered query (one.answered query is);
}

pub keeps_same : (known : Known) (ledger : Ledgered) → Keeps known ledger ledger
keeps_same known ledger = record {
  budget = refl;
  charged = λ k there is. (there, there, refl);
  opened = λ k there. inl (there, there, refl);
}

keeps_then : (old mid : Known) (a b c : Ledgered) → Grows old mid → Keeps old a b → Keeps mid b c → Keeps old a c
keeps_then old mid a b c grows one other = record {
  budget = other.budget ∙ one.budget;
  charged = λ k there is.
      let first = one.charged k there is in
      let then = other.charged k first.1 (subst IsCharged (sym first.2) is) in
      (there, then.1, then.2 ∙ first.2);
  opened = λ k there.
      elim (other.opened k there) [
        | inl same ↦ elim (one.opened k same.0) [
          | inl before ↦ inl (before.0, same.1, same.2 ∙ before.2)
          | inr new ↦ inr (λ answered. new (subst (λ entry. IsAnswered old entry.query) same.2 answered))
        ]
        | inr new ↦ inr (λ answered. new (grows.answered (entry_at c.asked k).query answered))
      ];
}

stopped_then : (old mid : Known) (a b c : Ledgered) (stop : Stop) → Grows old mid → Keeps old a b → IsStopped mid b c stop → IsStopped old a c stop
stopped_then old mid a b c Memory grows keeps is = tt
stopped_then old mid a b c (Spent learned) grows keeps is = record {
  learned_is = is.learned_is ∙ keeps.budget;
  used = is.used ∙ keeps.budget;
  made = is.made ∙ ap (λ (n : ℕ). n + 1) keeps.budget;
  refused = is.refused;
  work = subst (λ graphs. IsWorkOfClaimsAndMatches graphs c) grows.graphs is.work;
  keeps = keeps_then old mid a b c grows keeps is.keeps;
  below = λ many.
      let before : b.budget < enough mid.graphs = is.below (subst (λ (graphs : Graphs). HaveAsMany graphs.first graphs.second) (sym grows.graphs) many) in
      subst (λ graphs. a.budget < enough graphs) grows.graphs (subst (λ budget. budget < enough mid.graphs) keeps.budget before);
}

-- nothing was asked yet
pub served_same : (known : Known) (ledger : Ledgered) → AreFacts known.graphs known.facts → Suits known ledger → HasServed known known ledger ledger
served_same known ledger facts suits = record {
  grows = grows_same known facts;
  suits = suits;
  keeps = keeps_same known ledger;
}

-- a call that was answered
pub served_one : {X : Type 0} (old new : Known) (a b : Ledgered) (x : X) → Serves old new a b (Ok x) → HasServed old new a b
served_one old new a b x serves = record { grows = serves.grows; suits = serves.suits; keeps = serves.keeps }

pub served_then : (old mid new : Known) (a b c : Ledgered) → HasServed old mid a b → HasServed mid new b c → HasServed old new a c
served_then old mid new a b c one other = record {
  grows = grows_then old mid new one.grows other.grows;
  suits = other.suits;
  keeps = keeps_then old mid a b c one.grows one.keeps other.keeps;
}

-- what was answered so far ends well
pub serves_ok : {X : Type 0} (old new : Known) (a b : Ledgered) (result : Result X Stop) (x : X) → result ≡ Ok x → HasServed old new a b → Serves old new a b result
serves_ok old new a b (Ok y) x is served = record { grows = served.grows; suits = served.suits; keeps = served.keeps; stopped = tt }
serves_ok old new a b (Err stop) x is served = cc

-- a call that ends the others without an answer, after some that were answered
pub serves_err : {X Y : Type 0} (old mid new : Known) (a b c : Ledgered) (result : Result Y Stop) (stop : Stop) → IsErrAnd result (λ e. e ≡ stop) → HasServed old mid a b → Serves {X = X} mid new b c (Err stop) → Serves old new a c result
serves_err old mid new a b c (Ok y) stop is served serves = absurd is
serves_err old mid new a b c (Err other) stop is served serves = record {
  grows = grows_then old mid new served.grows serves.grows;
  suits = tt;
  keeps = tt;
  stopped = stopped_then old mid a b c other served.grows served.keeps (subst (IsStopped mid b c) (sym is) serves.stopped);
}

-- a call that is the last one, after others that were answered
pub serves_last : {X : Type 0} (old mid new : Known) (a b c : Ledgered) (result : Result X Stop) → HasServed old mid a b → Serves mid new b c result → Serves old new a c result
serves_last old mid new a b c (Ok x) served serves =
    serves_ok old new a c (Ok x) x refl (served_then old mid new a b c served (served_one mid new b c x serves))
serves_last old mid new a b c (Err stop) served serves = serves_err old mid new a b c (Err stop) stop refl served serves

-- memory ran out after calls that were answered
pub serves_memory : {Y : Type 0} (old new : Known) (a b : Ledgered) (result : Result Y Stop) → IsErrAnd result (λ e. e ≡ Memory) → HasServed old new a b → Serves old new a b result
serves_memory old new a b (Ok y) is served = absurd is
serves_memory old new a b (Err other) is served = record {
  grows = served.grows;
  suits = tt;
  keeps = tt;
  stopped = subst (IsStopped old a b) (sym is) tt;
}
