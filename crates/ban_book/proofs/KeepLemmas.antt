-- What a book of bans has.
use Rattle.std.proofs.Common.{◌≡◌, ℕ, ◌+◌, ◌<◌, List, [], ◌∷◌, ◌++◌, length, get_or, All, Option, None, Some, sym, subst, arith}
use Rattle.std.specs.List.{range_with_len}
use Rattle.std.proofs.lemmas.List.{append-nil, length-map}
use Rattle.std.proofs.lemmas.List.Elements.{All-contains, All-cons, All-nil}
use Rattle.std.proofs.lemmas.List.FromFn.{length-range_with_len, get_or-range_with_len}
use Rattle.circuits.specs.declared.port.Pair.{Pair}
use Rattle.net_core.specs.Sides.{Graphs}
use Rattle.circuits.specs.declared.port.PortKind.{PortKind}
use Rattle.net_core.specs.declared.graphs.Side.{Side}
use Rattle.net_core.specs.declared.graphs.Side.TheVariants.{First, Second}
use Rattle.account_core.specs.declared.step.Ban.{Ban}
use Rattle.account_core.specs.declared.step.Step.TheVariants as step
use Rattle.account_core.specs.Ports.{ports_in, AreOrdered, IsKnown}
use Rattle.account_core.specs.Given.{Decided, given_of}
use Rattle.account_core.specs.Covers.{IsReference}
use Rattle.account_core.specs.Steps.{AreValidBans, IsValidBan}
use Rattle.ban_book.specs.Vectors.{IsVector}
pub use Rattle.ban_book.proofs.BookLemmas.{covers_last}
use Rattle.ban_book.proofs.BookLemmas.{valid_push}
use Rattle.ban_book.proofs.VectorLemmas.{no_vector_none, no_vector_one}
use Rattle.ban_book.proofs.ListLemmas.{zip_map}
use Rattle.ban_book.specs.declared.block.Block.{Block}
use Rattle.account_core.specs.Tallies.{Ascend, other_side}
use Rattle.account_core.specs.Assigned.{AreAssignable, IsPart}
use Rattle.ban_book.specs.Ways.{block_of, ports_tried, ways_in, AreClosed, AddsBans, IsBlock, IsClosed}
use Rattle.ban_book.proofs.ClosedLemmas.{kept_at}

pub adds_no_bans : (graphs : Graphs) (bans : List Ban) → AddsBans graphs bans bans
adds_no_bans graphs bans = record { added = []; more = sym (append-nil bans); no_vector = no_vector_none; valid = λ facts valid. valid }

-- one more valid ban is kept, which no vector shows
pub adds_one_ban : (graphs : Graphs) (bans after : List Ban) (ban : Ban) → after ≡ bans ++ ban ∷ [] → (IsVector ban.step → ⊥) → ((facts : List Decided) → IsValidBan graphs (given_of facts bans) ban) → AddsBans graphs bans after
adds_one_ban graphs bans after ban is none valid = record {
  added = ban ∷ [];
  more = is;
  no_vector = no_vector_one ban none;
  valid = λ facts before. subst (AreValidBans graphs facts) (sym is) (valid_push graphs facts bans ban before (valid facts));
}

reference_facts : (facts : List Decided) (bans : List Ban) (pairs : List Pair) (pair : Pair) (ref : Option ℕ) → IsReference (given_of [] bans) pairs pair ref → IsReference (given_of facts bans) pairs pair ref
reference_facts facts bans pairs pair None is = is
reference_facts facts bans pairs pair (Some ban) is = is

range_ascends : (n : ℕ) → Ascend (range_with_len 0 n)
range_ascends n i j d less below =
    let there : j < n = omega (arith, below, length-range_with_len 0 n) in
    omega (arith, get_or-range_with_len 0 n i d (omega (arith, less, there)), get_or-range_with_len 0 n j d there, less)

range_below : (n : ℕ) → All (λ port. port < n) (range_with_len 0 n)
range_below n k d below =
    let there : k < n = omega (arith, below, length-range_with_len 0 n) in
    omega (arith, get_or-range_with_len 0 n k d there, there)

-- the ports that the ways of a port have on one side
tried_ascends : (side : Side) (port count : ℕ) → Ascend (ports_tried side port count)
tried_ascends First port count i j d less below = absurd (omega (arith, less, below))
tried_ascends Second port count i j d less below = range_ascends count i j d less below

tried_below : (side : Side) (port count : ℕ) → port < count → All (λ p. p < count) (ports_tried side port count)
tried_below First port count there = All-cons (λ p. p < count) port [] there (All-nil (λ p. p < count))
tried_below Second port count there = range_below count

tried_many : (side : Side) (port count : ℕ) → length (ports_tried side port count) + length (ports_tried (other_side side) port count) ≡ count + 1
tried_many First port count = omega (arith, length-range_with_len 0 count)
tried_many Second port count = omega (arith, length-range_with_len 0 count)

-- a port and all ports of the other circuit are a block
pub port_is_block : (side : Side) (kind : PortKind) (port count : ℕ) → port < count → IsBlock count (block_of side kind port count)
port_is_block side kind port count there = record {
  from_ascends = tried_ascends side port count;
  to_ascends = tried_ascends (other_side side) port count;
  from_below = tried_below side port count there;
  to_below = tried_below (other_side side) port count there;
  too_many = omega (arith, tried_many side port count);
}

-- the ban of pairs beside which all ways of a block are closed
pub cover_valid : (graphs : Graphs) (facts : List Decided) (bans : List Ban) (pairs listed : List Pair) (block : Block) (refs : List (Option ℕ)) → ports_in graphs.first block.kind ≡ ports_in graphs.second block.kind → All (IsKnown graphs) pairs → AreOrdered pairs → IsBlock (ports_in graphs.second block.kind) block → listed ≡ pairs → AreClosed bans pairs (ways_in block) refs → IsValidBan graphs (given_of facts bans) (record { pairs = listed; step = step.Cover block.kind block.from block.to refs })
cover_valid graphs facts bans pairs listed block refs many known ordered is same closed =
    subst (λ l. IsValidBan graphs (given_of facts bans) (record { pairs = l; step = step.Cover block.kind block.from block.to refs })) (sym same) (record {
      known = known;
      ordered = ordered;
      names = record {
        first_ports = subst (λ n. All (λ port. port < n) block.from) (sym many) is.from_below;
        second_ports = is.to_below;
        given_bans = λ ban there. omega (arith, kept_at bans pairs (ways_in block) refs there.0 ban closed there.1 there.2, length-map bans (λ (b : Ban). b.pairs));
      };
      rule = record {
        from_ascends = is.from_ascends;
        to_ascends = is.to_ascends;
        too_many = omega (arith, many, is.too_many);
        referred = zip_map (IsClosed bans pairs) (IsReference (given_of facts bans) pairs) (ways_in block) refs (λ pair ref one. reference_facts facts bans pairs pair ref one.refers) closed;
      };
      shown = tt;
    })

-- those of the assigned pairs that are known
pub part_known : (graphs : Graphs) (assigned pairs : List Pair) → AreAssignable graphs assigned → IsPart assigned pairs → All (IsKnown graphs) pairs
part_known graphs assigned pairs are part k d below = All-contains (IsKnown graphs) assigned (get_or pairs k d) are.known (part.among k d below)
