-- What reasons name, and what is gathered of it.
use Rattle.std.proofs.Common.{◌≡◌, ◌≢◌, ℕ, ◌+◌, ◌*◌, ◌<◌, List, [], ◌∷◌, length, get_or, take, All, AllPairs, Contains, Option, None, Some, ◌++◌, refl, sym, subst, inl, inr, arith}
use Rattle.std.proofs.lemmas.List.Elements.{All-contains, All-contains_itself, All-weaker}
use Rattle.std.specs.List.{AllZip}
use Rattle.circuits.specs.declared.port.Pair.{Pair}
use Rattle.circuits.specs.declared.port.PortKind.{PortKind}
use Rattle.net_core.specs.declared.graphs.Side.{Side}
use Rattle.net_core.specs.declared.graphs.Side.TheVariants.{First, Second}
use Rattle.account_core.specs.declared.step.Ban.{Ban}
use Rattle.account_core.specs.Ports.{Clash}
use Rattle.ban_book.specs.Covering.{IsWithin}
use Rattle.ban_book.proofs.ListLemmas.{zip_map, zip_taken}
use Rattle.account_core.specs.Assigned.{IsPart}
use Rattle.ban_book.specs.declared.block.Block.{Block}
use Rattle.ban_book.specs.Ways.{nth_way, ways_in, IsBlock}
use Rattle.ban_book.proofs.BlockLemmas.{each_in}
use Rattle.ban_book.proofs.BlockListLemmas.{any_more, cons_more, among_more}
use Rattle.pair_domains.specs.declared.entry.Entry.{Entry}
use Rattle.pair_domains.specs.declared.entry.Fate.{Fate}
use Rattle.pair_domains.specs.declared.entry.Fate.TheVariants.{Assigned, Deleted}
use Rattle.pair_domains.specs.declared.entry.Reason.{Reason}
use Rattle.pair_domains.specs.declared.entry.Reason.TheVariants as reason
use Rattle.pair_domains.specs.Trails.{IsPairOf, ports_of}
use Rattle.pair_domains.proofs.EntryLemmas.{one_entry}
use Rattle.pair_search.proofs.ConflictLemmas.{covers_among}
use Rattle.pair_search.specs.Named.{AreAllGathered, AreAllNamed, AreNamed, IsGathered, IsLeftOutOr, IsNamedIn, deleted}

within_more : (few more : List Pair) (way : Pair) (ban : Ban) → All (Contains more) few → IsWithin (way ∷ few) ban → IsWithin (way ∷ more) ban
within_more few more way ban stays is = record { among = All-weaker (Contains (way ∷ few)) (Contains (way ∷ more)) (λ x. cons_more way few more x stays) ban.pairs is.among }

-- what is named among some pairs is named among more of them
pub named_more : (bans : List Ban) (few more : List Pair) (way : Pair) (why : Reason) → All (Contains more) few → AreNamed bans few way why → AreNamed bans more way why
named_more bans few more way (reason.Clash with) stays is = (All-contains (Contains more) few with stays is.0, is.1)
named_more bans few more way (reason.Ban number) stays is = record { kept = is.kept; within = λ d. within_more few more way _ stays (is.within d) }
named_more bans few more way (reason.Mismatch with fails holds) stays is = All-contains (Contains more) few with stays is

pub gathered_more : (bans : List Ban) (entries : List Entry) (few more : List Pair) (way : Pair) (noted : Option ℕ) → All (Contains more) few → IsGathered bans entries few way noted → IsGathered bans entries more way noted
gathered_more bans entries few more way None stays (inl impossible) = inl (any_more (λ (x : Pair). Clash x way) few more stays impossible)
gathered_more bans entries few more way None stays (inr is) = inr (is.0, is.1, named_more bans few more way is.0 stays is.2)
gathered_more bans entries few more way (Some number) stays is = covers_among bans way few more number stays is

left_out_more : (bans : List Ban) (entries : List Entry) (few more : List Pair) (skipped : Option Pair) (way : Pair) (noted : Option ℕ) → All (Contains more) few → IsLeftOutOr skipped way (IsGathered bans entries few way noted) → IsLeftOutOr skipped way (IsGathered bans entries more way noted)
left_out_more bans entries few more skipped way noted stays (inl same) = inl same
left_out_more bans entries few more skipped way noted stays (inr is) = inr (gathered_more bans entries few more way noted stays is)

-- a deleted way has one reason
abbrev named_by : List Ban → List Pair → Pair → Fate → Type 0
named_by bans pairs way (Assigned cause) = ⊥
named_by bans pairs way (Deleted why) = AreNamed bans pairs way why

pub one_reason : (bans : List Ban) (entries : List Entry) (pairs : List Pair) (way : Pair) (why : Reason) → AllPairs (λ (x y : Entry). x.pair ≢ y.pair) entries → Contains entries (deleted way why) → IsNamedIn bans entries pairs way → AreNamed bans pairs way why
one_reason bans entries pairs way why distinct here is =
    subst (λ (e : Entry). named_by bans pairs way e.fate) (one_entry entries (deleted way is.0) (deleted way why) distinct is.1 here refl) is.2

-- the ways of a port are pairs of ports that exist
pub way_known : (n m : ℕ) (side : Side) (kind : PortKind) (port number : ℕ) → port < ports_of n m kind → number < 2 * ports_of n m kind → IsPairOf n m (nth_way side kind port number)
way_known n m First kind port number there below = record { from = there; to = omega (arith, below) }
way_known n m Second kind port number there below = record { from = omega (arith, below); to = there }

-- so are the ways of a block
pub ways_known : (n m : ℕ) (block : Block) → IsBlock (ports_of n m block.kind) block → All (IsPairOf n m) (ways_in block)
ways_known n m block is =
    let count = ports_of n m block.kind in
    each_in (IsPairOf n m) block (λ f t flip first second. record {
      from = All-contains (λ port. port < count) block.from f is.from_below first;
      to = All-contains (λ port. port < count) block.to t is.to_below second;
    })

-- what is named, as it is lent
pub named_as : (es : List Entry) (skipped other : Option Pair) (bans bans_now : List Ban) (ways ways_now pairs : List Pair) → skipped ≡ other → bans ≡ bans_now → ways ≡ ways_now → AreAllNamed bans es ways skipped pairs → AreAllNamed bans_now es ways_now other pairs
named_as es skipped other bans bans_now ways ways_now pairs one two three is =
    subst (λ (s : Option Pair). AreAllNamed bans_now es ways_now s pairs) one (subst (λ (bs : List Ban). AreAllNamed bs es ways_now skipped pairs) two (subst (λ (ws : List Pair). AreAllNamed bans es ws skipped pairs) three is))

-- what is gathered of some ways
pub record AreGathered (bans : List Ban) (entries : List Entry) (assigned before now ways : List Pair) (skipped : Option Pair) (noted : List (Option ℕ)) : Type 0 where
  pub part : IsPart assigned now
  pub stays : All (Contains now) before
  pub each : AreAllGathered bans entries ways skipped now noted

pub gathered_none : (bans : List Ban) (entries : List Entry) (assigned before : List Pair) (skipped : Option Pair) (noted : List (Option ℕ)) → noted ≡ [] → IsPart assigned before → AreGathered bans entries assigned before before [] skipped noted
gathered_none bans entries assigned before skipped noted none part = record {
  part = part;
  stays = All-contains_itself before;
  each = subst (AreAllGathered bans entries [] skipped before) (sym none) tt;
}

pub gathered_one : (bans : List Ban) (entries : List Entry) (assigned before few more ways : List Pair) (skipped : Option Pair) (noted noted_now : List (Option ℕ)) (index : ℕ) (d : Pair) (number : Option ℕ) → index < length ways → noted_now ≡ noted ++ number ∷ [] → AreGathered bans entries assigned before few (take index ways) skipped noted → IsPart assigned more → All (Contains more) few → IsLeftOutOr skipped (get_or ways index d) (IsGathered bans entries more (get_or ways index d) number) → AreGathered bans entries assigned before more (take (index + 1) ways) skipped noted_now
gathered_one bans entries assigned before few more ways skipped noted noted_now index d number below pushed are part stays here =
    let R : List Pair → Pair → Option ℕ → Type 0 = λ pairs way n. IsLeftOutOr skipped way (IsGathered bans entries pairs way n) in
    record {
      part = part;
      stays = among_more before few more are.stays stays;
      each = subst (AllZip (R more) (take (index + 1) ways)) (sym pushed) (zip_taken (R more) ways index d noted number below (zip_map (R few) (R more) (take index ways) noted (λ way n is. left_out_more bans entries few more skipped way n stays is) are.each) here);
    }
