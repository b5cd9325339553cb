-- What stands where after some records, and the link of each record.
use Rattle.std.proofs.Common.{◌≡◌, ℕ, zero, suc, ◌+◌, ◌<◌, Bool, true, false, cond, List, [], ◌∷◌, ◌++◌, length, take, drop, None, slice_index_or, append-nil, append_assoc, refl, sym, ap, ◌∙◌, arith}
use Rattle.std.proofs.lemmas.List.{length-take-le, take-append-drop, take_more}
use Rattle.cnf_core.specs.Derivations.{is_empty}
use Rattle.net_core.specs.Sides.{Graphs}
use Rattle.account_core.specs.declared.conclusion.Conclusion.TheVariants as conclusion
use Rattle.account_core.specs.declared.fact.FactHead.TheVariants as head
use Rattle.account_file.specs.declared.record.Record.{Record}
use Rattle.account_file.specs.declared.record.Record.TheVariants as record_of
use Rattle.account_trim.specs.declared.links.Links.{Links}
use Rattle.account_trim.specs.declared.places.Places.{Places}
use Rattle.account_trim.specs.Links.{link, links_from, links_of}
use Rattle.account_trim.specs.Places.{given_at, no_places, places_of, with_all, with_one}

pub with_all_more : (graphs : Graphs) (places : Places) (k : ℕ) (xs ys : List Record) → with_all graphs places k (xs ++ ys) ≡ with_all graphs (with_all graphs places k xs) (k + length xs) ys
with_all_more graphs places k [] ys = let same : k ≡ k + 0 = omega arith in ap (λ n. with_all graphs places n ys) same
with_all_more graphs places k (x ∷ xs) ys =
    let same : (k + 1) + length xs ≡ k + suc (length xs) = omega arith in
    let next = with_one graphs places k x in
    with_all_more graphs next (k + 1) xs ys ∙ ap (λ n. with_all graphs (with_all graphs next (k + 1) xs) n ys) same

-- after the first n records
abbrev pub spots_at : Graphs → List Record → ℕ → Places
spots_at graphs records n = with_all graphs no_places 0 (take n records)

abbrev pub record_at : List Record → ℕ → Record
record_at records k = slice_index_or records k record_of.Header

pub spots_more : (graphs : Graphs) (records : List Record) (k : ℕ) → k < length records → spots_at graphs records (k + 1) ≡ with_one graphs (spots_at graphs records k) k (record_at records k)
spots_more graphs records k below =
    let e = record_at records k in
    let count : 0 + length (take k records) ≡ k = omega (arith, length-take-le k records (omega (arith, below))) in
    ap (with_all graphs no_places 0) (take_more records k record_of.Header below)
    ∙ (with_all_more graphs no_places 0 (take k records) (e ∷ [])
    ∙ ap (λ n. with_one graphs (spots_at graphs records k) n e) count)

link_from : (graphs : Graphs) (places : Places) (k : ℕ) (records : List Record) (j : ℕ) (d : Links) → j < length records → slice_index_or (links_from graphs places k records) j d ≡ link (with_all graphs places k (take j records)) (k + j) (record_at records j)
link_from graphs places k [] j d below = absurd (omega (arith, below))
link_from graphs places k (x ∷ xs) zero d below = let same : k ≡ k + 0 = omega arith in ap (λ n. link places n x) same
link_from graphs places k (x ∷ xs) (suc j) d below =
    let next = with_one graphs places k x in
    let same : (k + 1) + j ≡ k + suc j = omega arith in
    link_from graphs next (k + 1) xs j d (omega (arith, below)) ∙ ap (λ n. link (with_all graphs next (k + 1) (take j xs)) n (record_at xs j)) same

-- the link of the record of a place
pub link_is : (graphs : Graphs) (records : List Record) (k : ℕ) (d : Links) → k < length records → slice_index_or (links_of graphs records) k d ≡ link (spots_at graphs records k) k (record_at records k)
link_is graphs records k d below =
    let same : 0 + k ≡ k = omega arith in
    link_from graphs no_places 0 records k d below ∙ ap (λ n. link (spots_at graphs records k) n (record_at records k)) same

-- ---- what is given stays

-- A list goes on.
pub record Begins (front whole : List ℕ) : Type 0 where
  pub rest : List ℕ
  pub is : whole ≡ front ++ rest

begins_same : (xs : List ℕ) → Begins xs xs
begins_same xs = record { rest = []; is = sym (append-nil xs) }

begins_more : (xs ys : List ℕ) → Begins xs (xs ++ ys)
begins_more xs ys = record { rest = ys; is = refl }

begins_after : (xs ys zs : List ℕ) → Begins xs ys → Begins ys zs → Begins xs zs
begins_after xs ys zs one other = record {
  rest = one.rest ++ other.rest;
  is = other.is ∙ (ap (λ l. l ++ other.rest) one.is ∙ append_assoc xs one.rest other.rest);
}

-- The places of facts and of bans go on.
pub record GoOn (old new : Places) : Type 0 where
  pub facts : Begins old.facts new.facts
  pub bans : Begins old.bans new.bans

go_same : (places : Places) → GoOn places places
go_same places = record { facts = begins_same places.facts; bans = begins_same places.bans }

line_goes : (places : Places) (k : ℕ) (empty : Bool) → GoOn places (cond empty (record places { facts = places.facts ++ given_at places.owner k; owner = None; start = k + 1 }) places)
line_goes places k true = record { facts = begins_more places.facts (given_at places.owner k); bans = begins_same places.bans }
line_goes places k false = go_same places

one_goes : (graphs : Graphs) (places : Places) (k : ℕ) (entry : Record) → GoOn places (with_one graphs places k entry)
one_goes graphs places k record_of.Header = go_same places
one_goes graphs places k (record_of.Fact (head.Fails claim bits)) = record { facts = begins_more places.facts (k ∷ []); bans = begins_same places.bans }
one_goes graphs places k (record_of.Fact (head.Holds claim)) = record { facts = begins_same places.facts; bans = begins_same places.bans }
one_goes graphs places k (record_of.Line line) = line_goes places k (is_empty line.clause)
one_goes graphs places k (record_of.Ban ban) = record { facts = begins_same places.facts; bans = begins_more places.bans (k ∷ []) }
one_goes graphs places k (record_of.Conclusion conclusion.NonePorts) = go_same places
one_goes graphs places k (record_of.Conclusion (conclusion.NoneBan ban)) = go_same places
one_goes graphs places k (record_of.Conclusion (conclusion.Match pairs)) = record { facts = begins_same places.facts; bans = begins_same places.bans }
one_goes graphs places k (record_of.DropFact fact) = record { facts = begins_same places.facts; bans = begins_same places.bans }
one_goes graphs places k (record_of.DropBan ban) = record { facts = begins_same places.facts; bans = begins_same places.bans }
one_goes graphs places k record_of.End = go_same places

all_go : (graphs : Graphs) (places : Places) (k : ℕ) (records : List Record) → GoOn places (with_all graphs places k records)
all_go graphs places k [] = go_same places
all_go graphs places k (entry ∷ records) =
    let next = with_one graphs places k entry in
    let one = one_goes graphs places k entry in
    let rest = all_go graphs next (k + 1) records in
    record {
      facts = begins_after places.facts next.facts (with_all graphs next (k + 1) records).facts one.facts rest.facts;
      bans = begins_after places.bans next.bans (with_all graphs next (k + 1) records).bans one.bans rest.bans;
    }

pub spots_go : (graphs : Graphs) (records : List Record) (k : ℕ) → GoOn (spots_at graphs records k) (places_of graphs records)
spots_go graphs records k =
    let whole = ap (with_all graphs no_places 0) (sym (take-append-drop k records)) ∙ with_all_more graphs no_places 0 (take k records) (drop k records) in
    let rest = all_go graphs (spots_at graphs records k) (0 + length (take k records)) (drop k records) in
    record {
      facts = record { rest = rest.facts.rest; is = ap (λ (p : Places). p.facts) whole ∙ rest.facts.is };
      bans = record { rest = rest.bans.rest; is = ap (λ (p : Places). p.bans) whole ∙ rest.bans.is };
    }
