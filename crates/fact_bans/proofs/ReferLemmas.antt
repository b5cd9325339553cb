-- References to bans of ways, and the cover that has them all.
use Rattle.std.proofs.Common.{◌≡◌, ℕ, ◌+◌, ◌<◌, List, [], ◌∷◌, ◌++◌, length, take, get_or, All, Contains, Option, Some, refl, sym, subst, ◌∙◌, arith}
use Rattle.std.proofs.lemmas.List.{get_or-map}
use Rattle.std.proofs.lemmas.List.Elements.{All-contains}
use Rattle.std.proofs.lemmas.Option.{same_Some}
use Rattle.circuits.specs.declared.port.Pair.{Pair}
use Rattle.circuits.specs.declared.port.PortKind.TheVariants.{Output}
use Rattle.net_core.specs.Sides.{Graphs}
use Rattle.query_core.specs.Ledgers.{Ledgered}
use Rattle.account_core.specs.declared.step.Ban.{Ban}
use Rattle.account_core.specs.declared.step.Step.TheVariants as step
use Rattle.account_core.specs.Covers.{ways, IsReference}
use Rattle.account_core.specs.Given.{Decided, given_of}
use Rattle.account_core.specs.Ports.{AreOrdered, IsKnown}
use Rattle.oracle_core.specs.Oracles.{Known}
use Rattle.ban_book.specs.Ways.{AreClosed, IsClosed}
use Rattle.ban_book.proofs.BlockLemmas.{each_in}
use Rattle.fact_bans.specs.Carrying.{IsPairOf}
use Rattle.fact_bans.specs.Referred.{AreReferred, IsReferred}
use Rattle.fact_bans.specs.Serving.{MayMakeBans, OnlyAdds}
use Rattle.fact_bans.proofs.MakingLemmas.{made_same, made_then, HasMadeBans}
use Rattle.ban_book.specs.Covering.{Covers}
use Rattle.ban_book.proofs.BookLemmas.{covers_later}
use Rattle.ban_book.proofs.ListLemmas.{zip_map, zip_taken}

-- as more bans are kept
pub referred_later : (bans more : List Ban) (pair : Pair) (ref : Option ℕ) → OnlyAdds bans more → IsReferred bans pair ref → IsReferred more pair ref
referred_later bans more pair ref adds is = record {
  number = is.number;
  ref_is = is.ref_is;
  covers = covers_later bans adds.added more (pair ∷ []) is.number adds.more is.covers;
}

pub all_later : (bans more : List Ban) (ways : List Pair) (refs : List (Option ℕ)) → OnlyAdds bans more → AreReferred bans ways refs → AreReferred more ways refs
all_later bans more ways refs adds are = zip_map (IsReferred bans) (IsReferred more) ways refs (λ pair ref is. referred_later bans more pair ref adds is) are

-- The calls so far were answered, and the first ways have their bans.
pub record AreFound (graphs : Graphs) (old now : Known) (before after : Ledgered) (bans more : List Ban) (ways : List Pair) (refs : List (Option ℕ)) : Type 0 where
  pub made : HasMadeBans graphs old now before after bans more
  pub are : AreReferred more ways refs

pub found_none : (graphs : Graphs) (known : Known) (ledger : Ledgered) (bans : List Ban) (refs : List (Option ℕ)) → MayMakeBans graphs known ledger bans → refs ≡ [] → AreFound graphs known known ledger ledger bans bans [] refs
found_none graphs known ledger bans refs may none = record {
  made = made_same graphs known ledger bans may;
  are = subst (AreReferred bans []) (sym none) tt;
}

pub found_more : (graphs : Graphs) (old mid new : Known) (a b c : Ledgered) (bans first second : List Ban) (ways : List Pair) (k : ℕ) (d : Pair) (number : ℕ) (before after : List (Option ℕ)) → k < length ways → AreFound graphs old mid a b bans first (take k ways) before → HasMadeBans graphs mid new b c first second → Covers second (get_or ways k d ∷ []) number → after ≡ before ++ Some number ∷ [] → AreFound graphs old new a c bans second (take (k + 1) ways) after
found_more graphs old mid new a b c bans first second ways k d number before after there found made covers after_is = record {
  made = made_then graphs old mid new a b c bans first second found.made made;
  are = subst (AreReferred second (take (k + 1) ways)) (sym after_is) (zip_taken (IsReferred second) ways k d before (Some number) there (all_later first second (take k ways) before made.adds found.are) (record { number = number; ref_is = refl; covers = covers }));
}

-- the ways to pair outputs with outputs
pub ways_of_outputs : (graphs : Graphs) (from to : List ℕ) → All (λ port. port < length graphs.first.outputs) from → All (λ port. port < length graphs.second.outputs) to → All (IsPairOf graphs Output) (ways Output from to)
ways_of_outputs graphs from to from_below to_below =
    each_in (IsPairOf graphs Output) (record { kind = Output; from = from; to = to }) (λ f t flip here there. record {
      kind_is = refl;
      known = record {
        from = All-contains (λ port. port < length graphs.first.outputs) from f from_below here;
        to = All-contains (λ port. port < length graphs.second.outputs) to t to_below there;
      };
    })

reference_of : (facts : List Decided) (bans : List Ban) (pair : Pair) (ref : Option ℕ) → IsReferred bans pair ref → IsReference (given_of facts bans) [] pair ref
reference_of facts bans pair ref is =
    subst (IsReference (given_of facts bans) [] pair) (sym is.ref_is) (
      λ impossible. absurd (omega (arith, impossible.2)),
      subst (All (Contains (pair ∷ []))) (sym (get_or-map (λ (b : Ban). b.pairs) bans is.number no_ban [] is.covers.kept)) (is.covers.within no_ban).among,
    )
  where
    no_ban : Ban
    no_ban = record { pairs = []; step = step.Mismatch 0 0 }

-- ways that have bans of their own are closed
pub closed_of : (bans : List Ban) (ways : List Pair) (refs : List (Option ℕ)) → AreReferred bans ways refs → AreClosed bans [] ways refs
closed_of bans ways refs are = zip_map (IsReferred bans) (IsClosed bans []) ways refs one are
  where
    one : (pair : Pair) (ref : Option ℕ) → IsReferred bans pair ref → IsClosed bans [] pair ref
    one pair ref is = record {
      refers = reference_of [] bans pair ref is;
      kept = λ ban same. subst (λ n. n < length bans) (same_Some is.number ban (sym is.ref_is ∙ same)) is.covers.kept;
    }

pub nothing_known : (graphs : Graphs) → All (IsKnown graphs) []
nothing_known graphs k d below = absurd (omega (arith, below))

pub nothing_ordered : AreOrdered []
nothing_ordered i j d less below = absurd (omega (arith, below))
