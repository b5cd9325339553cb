-- What trimming leaves of an account is an account, which proves the same, and all of it is reached.
use Rattle.std.proofs.Common.{◌≡◌, ◌≢◌, ◌&&◌, ℕ, zero, suc, ◌+◌, ◌<◌, ◌≤◌, Bool, true, false, List, [], ◌∷◌, ◌++◌, length, map, take, All, None, Some, IsSome, slice_index_or, inl, inr, refl, sym, ap, subst, ◌∙◌, arith}
use Rattle.std.specs.List.{range_with_len}
use Rattle.std.proofs.lemmas.Bool.{and_parts, cases_Bool, cases_lt}
use Rattle.std.proofs.lemmas.Option.{none-some}
use Rattle.std.proofs.lemmas.List.FromFn.{get_or-map-range_with_len, length-map-range_with_len}
use Rattle.std.proofs.lemmas.List.{get_or_default, get_or-map, length-map, map-append, take_all, take_more}
use Rattle.circuits.specs.Literals.{bit}
use Rattle.net_core.specs.Sides.{Graphs}
use Rattle.account_file.specs.declared.place.Place.TheVariants.{Start, FactLog, Logs, Ended}
use Rattle.account_file.specs.declared.record.Record.{Record}
use Rattle.account_file.specs.declared.record.Record.TheVariants as record_of
use Rattle.account_file.specs.Order.{AreInOrder, HaveEnded, next_place, place_after}
use Rattle.account_file.proofs.OrderLemmas.{place_after_last, place_there, take_in_order}
use Rattle.account_check.specs.Accounts.{Account, AreValid, HasFault, account_after, after, verdict_at, verdict_of}
use Rattle.account_check.specs.Drops.{nothing_dropped}
use Rattle.account_check.specs.Logs.{nothing}
use Rattle.account_check.proofs.AccountLemmas.{account_after-push, account_place}
use Rattle.refusal_core.specs.Names.{AreMarked}
use Rattle.refusal_core.specs.Trims.{kept, number_of}
use Rattle.refusal_core.proofs.KeptLemmas.{IsPlace, kept_at, kept_below, number_of-none, place_of}
use Rattle.account_trim.specs.declared.links.Links.{Links}
use Rattle.account_trim.specs.declared.lowering.Lower.{Lower}
use Rattle.account_trim.specs.declared.places.Places.{Places}
use Rattle.account_trim.specs.Links.{is_root, link, links_of, names}
use Rattle.account_trim.specs.Lowered.{all_left_out, left_by, left_out as count_left_out, lower_by, lowered, lowered_record, marks_at}
use Rattle.account_trim.specs.Places.{places_of, with_one}
use Rattle.account_trim.specs.Reached.{IsClosed, IsReached}
use Rattle.account_trim.specs.Trims.{left_of}
use Rattle.account_trim.proofs.ClosingLemmas.{marked_line, not_kept}
use Rattle.account_trim.proofs.KeptLemmas.{lowered_number, none_numbered}
use Rattle.account_trim.proofs.LinkLemmas.{links_back, links_length}
use Rattle.account_trim.proofs.LogStepLemmas.{entry_with}
use Rattle.account_trim.proofs.MovedLemmas.{next_kept, next_left_out}
use Rattle.account_trim.proofs.RelationLemmas.{IsKept, IsTaken, no_link, root_at}
use Rattle.account_trim.proofs.SpotLemmas.{link_is, record_at, spots_at, spots_go, spots_more}
use Rattle.account_trim.proofs.StageLemmas.{IsNext, left_out, taken}
use Rattle.account_trim.proofs.StepLemmas.{AreLower}

-- all records with their new numbers
abbrev lowered_all : Lower → List Links → List Record → List Record
lowered_all lower [] records = []
lowered_all lower (link ∷ links) [] = []
lowered_all lower (link ∷ links) (entry ∷ records) = lowered_record lower link entry ∷ lowered_all lower links records

lowered_length : (lower : Lower) (links : List Links) (records : List Record) → length links ≡ length records → length (lowered_all lower links records) ≡ length records
lowered_length lower [] records same = same
lowered_length lower (link ∷ links) [] same = absurd (omega (arith, same))
lowered_length lower (link ∷ links) (entry ∷ records) same = let rest = lowered_length lower links records (omega (arith, same)) in omega (arith, rest)

lowered_at : (lower : Lower) (links : List Links) (records : List Record) (k : ℕ) → length links ≡ length records → k < length records → record_at (lowered_all lower links records) k ≡ lowered_record lower (slice_index_or links k no_link) (record_at records k)
lowered_at lower [] [] k same below = absurd (omega (arith, below))
lowered_at lower [] (entry ∷ records) k same below = absurd (omega (arith, same))
lowered_at lower (link ∷ links) [] k same below = absurd (omega (arith, same))
lowered_at lower (link ∷ links) (entry ∷ records) zero same below = refl
lowered_at lower (link ∷ links) (entry ∷ records) (suc k) same below = lowered_at lower links records k (omega (arith, same)) (omega (arith, below))

left_is_kept : (lower : Lower) (marks : List Bool) (links : List Links) (records : List Record) → length marks ≡ length links → length links ≡ length records → left_by lower marks links records ≡ kept marks (lowered_all lower links records)
left_is_kept lower [] links records many same = refl
left_is_kept lower (mark ∷ marks) [] records many same = absurd (omega (arith, many))
left_is_kept lower (mark ∷ marks) (link ∷ links) [] many same = absurd (omega (arith, same))
left_is_kept lower (true ∷ marks) (link ∷ links) (entry ∷ records) many same = ap (λ l. lowered_record lower link entry ∷ l) (left_is_kept lower marks links records (omega (arith, many)) (omega (arith, same)))
left_is_kept lower (false ∷ marks) (link ∷ links) (entry ∷ records) many same = left_is_kept lower marks links records (omega (arith, many)) (omega (arith, same))

-- a number among places, less what is left out before it
abbrev lowered_in : List Bool → List ℕ → ℕ → ℕ
lowered_in marks ps n = lowered (all_left_out (marks_at marks ps)) n

lower_front : (marks : List Bool) (ps rest : List ℕ) (n : ℕ) → n < length ps → lowered_in marks (ps ++ rest) n ≡ number_of (marks_at marks ps) n
lower_front marks ps rest n below =
    ap (λ ms. lowered (all_left_out ms) n) (map-append (λ p. slice_index_or marks p true) ps rest)
    ∙ lowered_number (marks_at marks ps) (marks_at marks rest) n (omega (arith, below, length-map ps (λ p. slice_index_or marks p true)))

-- as many are kept as there are
number_whole : {X : Type 0} (marks : List Bool) (xs : List X) (n : ℕ) → length marks ≡ length xs → n ≡ length xs → number_of marks n ≡ length (kept marks xs)
number_whole {X} [] [] n same is = refl
number_whole {X} [] (x ∷ xs) n same is = absurd (omega (arith, same))
number_whole {X} (mark ∷ marks) [] n same is = absurd (omega (arith, same))
number_whole {X} (mark ∷ marks) (x ∷ xs) zero same is = absurd (omega (arith, is))
number_whole {X} (true ∷ marks) (x ∷ xs) (suc n) same is = ap suc (number_whole marks xs n (omega (arith, same)) (omega (arith, is)))
number_whole {X} (false ∷ marks) (x ∷ xs) (suc n) same is = number_whole marks xs n (omega (arith, same)) (omega (arith, is))

-- how the last record of an account stands
ended_plain : (graphs : Graphs) (links : List Links) (marks : List Bool) (k : ℕ) (old new : Account) (spots own : Places) → IsKept graphs links marks k old new spots own → old.place ≡ Ended → (new.place ≡ Ended) × (new.concluded ≡ old.concluded)
ended_plain graphs links marks k old new spots own is ended = elim is.mode [
  | inl open_none ↦ elim open_none [
    | inl mode ↦ (
      ap (λ (a : Account). a.place) mode.new_is ∙ (sym (ap (λ (a : Account). a.place) mode.old_is) ∙ ended),
      ap (λ (a : Account). a.concluded) mode.new_is ∙ sym (ap (λ (a : Account). a.concluded) mode.old_is),
    )
    | inr mode ↦ absurd (not_logs mode.logs (sym (ap (λ (a : Account). a.place) mode.old_is) ∙ ended))
  ]
  | inr open_one ↦ elim open_one [
    | inl mode ↦ absurd (not_fact_log (sym (ap (λ (a : Account). a.place) mode.old_is) ∙ ended))
    | inr mode ↦ absurd (not_fact_log (sym (ap (λ (a : Account). a.place) mode.old_is) ∙ ended))
  ]
]
  where
    not_logs : (n : ℕ) → Logs n ≡ Ended → ⊥
    not_logs n e = cc

    not_fact_log : FactLog ≡ Ended → ⊥
    not_fact_log e = cc

module _ (graphs : Graphs) (records : List Record) (marks : List Bool) (reached : IsReached (links_of graphs records) marks) (valid : AreValid graphs records) (ended : HaveEnded records) where
  abbrev L : List Links
  L = links_of graphs records

  abbrev low : Lower
  low = lower_by (places_of graphs records) marks

  abbrev every : List Record
  every = lowered_all low L records

  abbrev final : List Record
  final = kept marks every

  many : length marks ≡ length records
  many = reached.as_many ∙ links_length graphs records

  many_all : length marks ≡ length every
  many_all = many ∙ sym (lowered_length low L records (links_length graphs records))

  abbrev old_at : ℕ → Account
  old_at k = account_after graphs (take k records)

  abbrev new_at : ℕ → Account
  new_at k = account_after graphs (take (number_of marks k) final)

  abbrev own_at : ℕ → Places
  own_at k = spots_at graphs final (number_of marks k)

  abbrev entry_at : ℕ → Record
  entry_at k = record_at records k

  abbrev own_entry_at : ℕ → Record
  own_entry_at k = lowered_record low (link (spots_at graphs records k) k (entry_at k)) (entry_at k)

  -- the record that is left of one that is marked
  final_is : (k : ℕ) → k < length records → bit marks k ≡ true → record_at final (number_of marks k) ≡ own_entry_at k
  final_is k below marked =
      kept_at marks every k record_of.Header many_all (omega (arith, below, many, many_all)) marked
      ∙ (lowered_at low L records k (links_length graphs records) below
      ∙ ap (λ (l : Links). lowered_record low l (entry_at k)) (link_is graphs records k no_link below))

  final_below : (k : ℕ) → k < length records → bit marks k ≡ true → number_of marks k < length final
  final_below k below marked = kept_below marks every k many_all (omega (arith, below, many, many_all)) marked

  -- numbers go down by what is left out
  numbers : (k : ℕ) → AreLower low marks (spots_at graphs records k)
  numbers k =
      let on = spots_go graphs records k in
      record {
        facts = λ n below. ap (λ ps. lowered_in marks ps n) on.facts.is ∙ lower_front marks (spots_at graphs records k).facts on.facts.rest n below;
        bans = λ n below. ap (λ ps. lowered_in marks ps n) on.bans.is ∙ lower_front marks (spots_at graphs records k).bans on.bans.rest n below;
      }

  in_order : AreInOrder records
  in_order = subst IsSome (sym ended) refl

  -- where the next record stands
  next_there : (k : ℕ) → k < length records → next_place (old_at k).place (entry_at k) ≢ None
  next_there k below none =
      let now = place_there (take k records) (take_in_order k records in_order) in
      let later = place_there (take (k + 1) records) (take_in_order (k + 1) records in_order) in
      let here = account_place graphs (take k records) now.0 now.1 in
      let leads : next_place now.0 (entry_at k) ≡ Some later.0 =
      sym (place_after_last (take k records) (entry_at k) now.0 now.1) ∙ (ap place_after (sym (take_more records k record_of.Header below)) ∙ later.1) in
      none-some later.0 (sym none ∙ (ap (λ p. next_place p (entry_at k)) here ∙ leads))

  links_there : (k : ℕ) → k < length records → k < length L
  links_there k below = omega (arith, below, links_length graphs records)

  next_is : (k : ℕ) → k < length records → IsNext L marks k (spots_at graphs records k) (old_at k) (entry_at k)
  next_is k below = record {
    root_is = root_here;
    root = λ root. reached.closed.roots k no_link (links_there k below) (root_here ∙ root);
    named = λ marked. subst (λ (l : Links). AreMarked marks l.names) (link_is graphs records k no_link below) (reached.closed.named k no_link (links_there k below) marked);
    fine = valid k record_of.Header below;
    may = next_there k below;
    line = marked_line graphs records marks reached k below;
    closes = λ o hints last unmarked owner before facts bans no_roots marked.
        not_kept graphs records marks reached o k before below hints last owner facts bans
        (λ j from to. elim (cases_lt j k) [
          | inl earlier ↦ no_roots j from earlier
          | inr late ↦
              let same : j ≡ k = omega (arith, to, late) in
              ap (root_at L) same ∙ (root_here ∙ (ap (is_root (spots_at graphs records k).owner) last ∙ ap (λ x. is_root x (entry_with [] hints)) owner))
        ])
        unmarked marked;
  }
    where
      root_here : root_at L k ≡ is_root (spots_at graphs records k).owner (entry_at k)
      root_here = ap (λ (l : Links). l.is_root) (link_is graphs records k no_link below)

  -- what k records have come to, and where those stand that are left of them
  record Stage (k : ℕ) : Type 0 where
    is : IsKept graphs L marks k (old_at k) (new_at k) (spots_at graphs records k) (own_at k)
    place : place_after (take (number_of marks k) final) ≡ Some (new_at k).place

  counts_many : length low.records ≡ length marks
  counts_many = length-map-range_with_len (count_left_out marks) 0 (length marks)

  took : (k : ℕ) → k < length records → bit marks k ≡ true → Stage k → IsTaken graphs L marks k (old_at k) (new_at k) (spots_at graphs records k) (own_at k) (entry_at k) (own_entry_at k)
  took k below marked stage = taken graphs L marks low refl counts_many k (omega (arith, below, many)) (spots_at graphs records k) (own_at k) (numbers k) (old_at k) (new_at k) (entry_at k) (next_is k below) stage.is marked

  old_more : (k : ℕ) → k < length records → old_at (k + 1) ≡ after (old_at k) (entry_at k)
  old_more k below = ap (account_after graphs) (take_more records k record_of.Header below) ∙ account_after-push graphs (take k records) (entry_at k)

  -- one record more
  next_stage : (k : ℕ) → k < length records → Stage k → Stage (k + 1)
  next_stage k below stage = elim (cases_Bool (bit marks k)) [
    | inl marked ↦ stage_taken marked
    | inr unmarked ↦ stage_left_out unmarked
  ]
    where
      in_marks : k < length marks
      in_marks = omega (arith, below, many)

      stage_taken : bit marks k ≡ true → Stage (k + 1)
      stage_taken marked =
          let one = took k below marked stage in
          let i = number_of marks k in
          let there = final_below k below marked in
          let grown : take (number_of marks (k + 1)) final ≡ take i final ++ own_entry_at k ∷ [] =
          ap (λ n. take n final) (next_kept marks k in_marks marked)
          ∙ (take_more final i record_of.Header there
          ∙ ap (λ e. take i final ++ e ∷ []) (final_is k below marked)) in
          let new_is : new_at (k + 1) ≡ after (new_at k) (own_entry_at k) = ap (account_after graphs) grown ∙ account_after-push graphs (take i final) (own_entry_at k) in
          let own_is : own_at (k + 1) ≡ with_one graphs (own_at k) i (own_entry_at k) =
          ap (spots_at graphs final) (next_kept marks k in_marks marked)
          ∙ (spots_more graphs final i there
          ∙ ap (with_one graphs (own_at k) i) (final_is k below marked)) in
          record {
            is =
                subst (λ a. IsKept graphs L marks (k + 1) a (new_at (k + 1)) (spots_at graphs records (k + 1)) (own_at (k + 1))) (sym (old_more k below))
                (subst (λ b. IsKept graphs L marks (k + 1) (after (old_at k) (entry_at k)) b (spots_at graphs records (k + 1)) (own_at (k + 1))) (sym new_is)
                (subst (λ s. IsKept graphs L marks (k + 1) (after (old_at k) (entry_at k)) (after (new_at k) (own_entry_at k)) s (own_at (k + 1))) (sym (spots_more graphs records k below))
                (subst (λ o. IsKept graphs L marks (k + 1) (after (old_at k) (entry_at k)) (after (new_at k) (own_entry_at k)) (with_one graphs (spots_at graphs records k) k (entry_at k)) o) (sym own_is)
                one.kept)));
            place =
                ap place_after grown
                ∙ (place_after_last (take i final) (own_entry_at k) (new_at k).place stage.place
                ∙ (one.place ∙ ap (λ (a : Account). Some a.place) (sym new_is)));
          }

      stage_left_out : bit marks k ≡ false → Stage (k + 1)
      stage_left_out unmarked =
          let same = next_left_out marks k in_marks unmarked in
          let one = left_out graphs L marks low refl counts_many k in_marks (spots_at graphs records k) (own_at k) (numbers k) (old_at k) (new_at k) (entry_at k) (next_is k below) stage.is unmarked in
          record {
            is =
                subst (λ a. IsKept graphs L marks (k + 1) a (new_at (k + 1)) (spots_at graphs records (k + 1)) (own_at (k + 1))) (sym (old_more k below))
                (subst (λ n. IsKept graphs L marks (k + 1) (after (old_at k) (entry_at k)) (account_after graphs (take n final)) (spots_at graphs records (k + 1)) (spots_at graphs final n)) (sym same)
                (subst (λ s. IsKept graphs L marks (k + 1) (after (old_at k) (entry_at k)) (new_at k) s (own_at k)) (sym (spots_more graphs records k below))
                one));
            place = ap (λ n. place_after (take n final)) same ∙ (stage.place ∙ ap (λ n. Some (account_after graphs (take n final)).place) (sym same));
          }

  first_stage : Stage 0
  first_stage =
      let none = number_of-none marks in
      record {
        is =
            subst (λ n. IsKept graphs L marks 0 (old_at 0) (account_after graphs (take n final)) (spots_at graphs records 0) (spots_at graphs final n)) (sym none) (record {
              past = record { dropped = nothing_dropped; bans = [] };
              given = record { facts = []; bans = [] };
              stay = record { many = refl; same = λ n unmarked. refl };
              own_given = record { facts = []; bans = [] };
              concluded = None;
              facts = none_numbered marks;
              bans = none_numbered marks;
              mode = inl (inl (record { place = Start; proof = nothing; own_proof = nothing; old_is = refl; new_is = refl; no_line = λ line. refl; owner = refl; own_owner = refl }));
            });
        place = ap (λ n. place_after (take n final)) none ∙ ap (λ n. Some (account_after graphs (take n final)).place) (sym none);
      }

  stage_at : (k : ℕ) → k ≤ length records → Stage k
  stage_at zero within = first_stage
  stage_at (suc k) within =
      let next : k + 1 ≡ suc k = omega arith in
      subst Stage next (next_stage k (omega (arith, within)) (stage_at k (omega (arith, within))))

  -- where one that is left stood before
  was_at : (j : ℕ) → j < length final → IsPlace marks (length every) j
  was_at j below = place_of marks every j many_all below

  took_at : (j : ℕ) (below : j < length final) → IsTaken graphs L marks (was_at j below).place (old_at (was_at j below).place) (new_at (was_at j below).place) (spots_at graphs records (was_at j below).place) (own_at (was_at j below).place) (entry_at (was_at j below).place) (own_entry_at (was_at j below).place)
  took_at j below =
      let was = was_at j below in
      let there : was.place < length records = omega (arith, was.below, many, many_all) in
      took was.place there was.marked (stage_at was.place (omega (arith, there)))

  record_is : (j : ℕ) (d : Record) (below : j < length final) → slice_index_or final j d ≡ own_entry_at (was_at j below).place
  record_is j d below =
      let was = was_at j below in
      get_or_default final j d record_of.Header below
      ∙ (ap (record_at final) (sym was.number_is)
      ∙ final_is was.place (omega (arith, was.below, many, many_all)) was.marked)

  pub final_valid : AreValid graphs final
  final_valid j d below =
      let was = was_at j below in
      subst (λ e. HasFault (account_after graphs (take j final)) e None) (sym (record_is j d below))
      (subst (λ n. HasFault (account_after graphs (take n final)) (own_entry_at was.place) None) was.number_is (took_at j below).fine)

  -- the last stage
  whole : number_of marks (length records) ≡ length final
  whole = number_whole marks every (length records) many_all (omega (arith, many, many_all))

  last : Stage (length records)
  last = stage_at (length records) (omega arith)

  all_taken : take (number_of marks (length records)) final ≡ final
  all_taken = take_all (number_of marks (length records)) final (omega (arith, whole))

  last_old : old_at (length records) ≡ account_after graphs records
  last_old = ap (account_after graphs) (take_all (length records) records (omega arith))

  last_new : new_at (length records) ≡ account_after graphs final
  last_new = ap (account_after graphs) all_taken

  ended_alike : ((new_at (length records)).place ≡ Ended) × ((new_at (length records)).concluded ≡ (old_at (length records)).concluded)
  ended_alike = ended_plain graphs L marks (length records) (old_at (length records)) (new_at (length records)) (spots_at graphs records (length records)) (own_at (length records)) last.is
      (ap (λ (a : Account). a.place) last_old ∙ account_place graphs records Ended ended)

  pub final_ended : HaveEnded final
  final_ended = ap place_after (sym all_taken) ∙ (last.place ∙ ap (λ p. Some p) ended_alike.0)

  pub final_verdict : verdict_of (account_after graphs final) ≡ verdict_of (account_after graphs records)
  final_verdict =
      let new_place : (account_after graphs final).place ≡ Ended = ap (λ (a : Account). a.place) (sym last_new) ∙ ended_alike.0 in
      let old_place : (account_after graphs records).place ≡ Ended = account_place graphs records Ended ended in
      let same : (account_after graphs final).concluded ≡ (account_after graphs records).concluded =
      ap (λ (a : Account). a.concluded) (sym last_new) ∙ (ended_alike.1 ∙ ap (λ (a : Account). a.concluded) last_old) in
      ap (λ p. verdict_at p (account_after graphs final).concluded) new_place
      ∙ (same ∙ sym (ap (λ p. verdict_at p (account_after graphs records).concluded) old_place))

  -- ---- all that is left is reached

  abbrev final_links : List Links
  final_links = links_of graphs final

  module _ (own_marks : List Bool) (own : IsReached final_links own_marks) where
    abbrev back_mark : ℕ → Bool
    back_mark k = bit marks k && bit own_marks (number_of marks k)

    abbrev back : List Bool
    back = map back_mark (range_with_len 0 (length marks))

    back_is : (k : ℕ) → k < length marks → bit back k ≡ back_mark k
    back_is k below = get_or-map-range_with_len back_mark 0 (length marks) k k false below (omega arith)

    both : (k : ℕ) → k < length marks → bit marks k ≡ true → bit own_marks (number_of marks k) ≡ true → bit back k ≡ true
    both k below one other = back_is k below ∙ (ap (λ b. b && bit own_marks (number_of marks k)) one ∙ other)

    -- the link of what is left
    own_link : (k : ℕ) (d : Links) → k < length records → bit marks k ≡ true → slice_index_or final_links (number_of marks k) d ≡ link (own_at k) (number_of marks k) (own_entry_at k)
    own_link k d below marked = link_is graphs final (number_of marks k) d (final_below k below marked) ∙ ap (link (own_at k) (number_of marks k)) (final_is k below marked)

    own_there : (k : ℕ) → k < length records → bit marks k ≡ true → number_of marks k < length final_links
    own_there k below marked = omega (arith, final_below k below marked, links_length graphs final)

    back_closed : IsClosed L back
    back_closed = record {
      roots = λ k d below root.
          let here : k < length records = omega (arith, below, links_length graphs records) in
          let in_marks : k < length marks = omega (arith, here, many) in
          let marked = reached.closed.roots k d below root in
          let one = took k here marked (stage_at k (omega (arith, here))) in
          let is_root_here = ap (λ (l : Links). l.is_root) (own_link k no_link here marked) ∙ (one.root ∙ (sym (ap (λ (l : Links). l.is_root) (link_is graphs records k d here)) ∙ root)) in
          both k in_marks marked (own.closed.roots (number_of marks k) no_link (own_there k here marked) is_root_here);
      named = λ k d below has.
          let here : k < length records = omega (arith, below, links_length graphs records) in
          let in_marks : k < length marks = omega (arith, here, many) in
          let parts = and_parts (bit marks k) (bit own_marks (number_of marks k)) (sym (back_is k in_marks) ∙ has) in
          let one = took k here parts.0 (stage_at k (omega (arith, here))) in
          let own_names = subst (λ (l : Links). AreMarked own_marks l.names) (own_link k no_link here parts.0) (own.closed.named (number_of marks k) no_link (own_there k here parts.0) parts.1) in
          let moved = subst (AreMarked own_marks) one.named own_names in
          subst (λ (l : Links). AreMarked back l.names) (sym (link_is graphs records k d here))
          (each_back (names (spots_at graphs records k) k (entry_at k)) (below_marks k d below here)
          (subst (λ (l : Links). AreMarked marks l.names) (link_is graphs records k d here) (reached.closed.named k d below parts.0)) moved);
    }
      where
        below_marks : (k : ℕ) (d : Links) → k < length L → k < length records → All (λ p. p < length marks) (names (spots_at graphs records k) k (entry_at k))
        below_marks k d below here j e within =
            let before = subst (λ (l : Links). All (λ p. p < k) l.names) (link_is graphs records k d here) (links_back graphs records k d below) j e within in
            omega (arith, before, here, many)

        each_back : (ps : List ℕ) → All (λ p. p < length marks) ps → AreMarked marks ps → AreMarked own_marks (map (number_of marks) ps) → AreMarked back ps
        each_back ps there marked own_marked j d within =
            let p = slice_index_or ps j d in
            both p (there j d within) (marked j d within)
            (ap (bit own_marks) (sym (get_or-map (number_of marks) ps j d d within)) ∙ own_marked j d (omega (arith, within, length-map ps (number_of marks))))

    pub final_reached : All (λ mark. mark ≡ true) own_marks
    final_reached j d below =
        let in_final : j < length final = omega (arith, below, own.as_many, links_length graphs final) in
        let was = was_at j in_final in
        let in_marks : was.place < length marks = omega (arith, was.below, many_all) in
        let has = reached.least back back_closed was.place was.marked in
        let parts = and_parts (bit marks was.place) (bit own_marks (number_of marks was.place)) (sym (back_is was.place in_marks) ∙ has) in
        get_or_default own_marks j d false below ∙ (ap (bit own_marks) (sym was.number_is) ∙ parts.1)

  pub left_final : left_of graphs records marks ≡ final
  left_final = left_is_kept low marks L records reached.as_many (links_length graphs records)
