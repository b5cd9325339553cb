-- What a match says of the words and the files, and what it leaves.
use Rattle.std.proofs.Common.{◌≡◌, ◌≢◌, ℕ, inl, inr, Bool, true, false, IsTrue, List, length, Option, Some, Result, Ok, Err, refl, sym, ◌∙◌, ap, subst, arith}
use Rattle.std.proofs.lemmas.Bool.{false≢true}
use Rattle.std.proofs.lemmas.List.{take_all}
use Rattle.std.proofs.lemmas.Slice.Eq.{bytes_eq-Decides}
use Rattle.std.specs.Str.{bytes_eq}
use Rattle.circuits.proofs.MatchLaws.{match_from_functions, functions_from_equal}
use Rattle.net_print.specs.BlifLines.{blif_text}
use Rattle.net_file.specs.declared.named.Named.{Named}
use Rattle.shelf_core.specs.State.{ShelfState}
use Rattle.query_core.specs.Ledgers.{Ledgered}
use Rattle.account_check.specs.Verdicts.{IsAccepted as Proves}
use Rattle.account_check.specs.declared.verdict.Verdict.{Verdict}
use Rattle.account_check.specs.declared.verdict.Verdict.TheVariants as verdict
use Rattle.check_steps.specs.Held.{HasGraph}
use Rattle.run_steps.specs.Match.{HasPart, IsProved, IsSought, NamesAccount}
use Rattle.run_steps.specs.Make.{HasMadePair, HasPartOfPair, NamesPair, WriteFiles}
use Rattle.run_steps.specs.Restore.{HasPartOfRestored, HasRestored, NamesRestored}
use Rattle.run_steps.specs.Trim.{HasPartOfTrimmed, HasTrimmed, NamesTrimmed}
use Rattle.run_steps.specs.Convert.{HasConverted, HasPartOfConverted, NamesConverted}
use Rattle.run_steps.specs.Flatten.{HasFlattened, HasPartOfFlattened, NamesFlattened}
use Rattle.run_steps.specs.Sweep.{HasPartOfSwept, HasSwept, NamesSwept}
use Rattle.run_steps.specs.Outcomes.{FollowsWords, IsRight, IsSoundAnswer, Leaves, LeavesFiles, MayBeCut}
use Rattle.check_steps.specs.Asks.{Ask, convert_request, flatten_request, match_request, make_request, restore_request, sweep_request, trim_request}
use Rattle.run_steps.specs.Commands.{IsWritingCommand, IsNotWritten, asked_match}
use Rattle.run_steps.specs.Steps.{Decides, Finds, IsAnswered, IsCutOf, IsEnding, IsStopOfMatch, IsStopWithin}
use Rattle.check_steps.specs.Reading.{IsEarly, IsReadFrom, netlist_of}
use Rattle.check_steps.specs.Judged.{graphs_of}
use Rattle.check_steps.specs.Words.{AsksMatch, ReadFiles, check_words}
use Rattle.check_steps.specs.declared.words.Match.{Match as MatchWords}
use Rattle.check_steps.specs.declared.words.Command.{Command}
use Rattle.check_steps.specs.declared.words.Command.TheVariants.{Restore, Trim, Convert, Flatten, Sweep, Match, Make}
use Rattle.check_steps.specs.declared.outcome.Ending.{Ending}
use Rattle.check_steps.specs.declared.outcome.Outcome.{Outcome}
use Rattle.check_steps.specs.declared.outcome.Outcome.TheVariants.{Matched, NoMatching, Informed, Made, Restored, Trimmed, Converted, Flattened, Swept, ReadFault, WriteFault, Memory}
use Rattle.run_steps.proofs.CheckLemmas.{follows_files, follows_unwritten, leaves_early}
use Rattle.run_steps.proofs.PartLemmas.{whole_by_end}
use Rattle.run_steps.proofs.OutcomeLemmas.{early_unwritten, no_fault, of_answer, of_stop, of_unwritten, stop_line}
use Rattle.run_steps.proofs.FormLemmas.{names_one, reads_of, check_of}

-- a whole account is its first part
part_of : (held : List ℕ → Option (List ℕ)) (words : List (List ℕ)) (proved : Verdict) → IsProved held words proved → HasPart held words
part_of held words proved is =
    let sought = is.sought in
    let has = is.accepted.has in
    let graphs = is.accepted.graphs in
    let account = is.accepted.account in
    let named = names_one (check_words sought.first sought.second sought.account) sought.first sought.second sought.account has.first_name has.second_name has.account_name (check_of words sought is.asks) has.asks in
    record {
      sought = sought;
      asks = is.asks;
      graphs = graphs;
      first_held = subst (λ name. HasGraph (held name) graphs.first) named.0 has.first_held;
      second_held = subst (λ name. HasGraph (held name) graphs.second) named.1 has.second_held;
      account = account;
      proved = proved;
      accepted = is.accepted.accepted;
      count = length account;
      part = ap held (sym named.2) ∙ (has.there ∙ ap Some (sym (take_all (length account) account (omega arith))));
      unfinished = λ lines last. take_all (length account) account (omega arith);
    }

-- a whole netlist is its first part
part_of_restored : (before after : List ℕ → Option (List ℕ)) (words : List (List ℕ)) (gates : ℕ) → HasRestored before after words gates → HasPartOfRestored before after words
part_of_restored before after words gates is = record {
  request = is.request;
  asks = is.asks;
  first = is.first;
  second = is.second;
  first_held = is.first_held;
  second_held = is.second_held;
  gates = gates;
  bytes = is.bytes;
  restored = is.restored;
  count = length is.bytes;
  part = is.there ∙ ap Some (sym (take_all (length is.bytes) is.bytes (omega arith)));
}

-- a whole account that is trimmed or converted is its first part

part_of_trimmed : (held held_now : List ℕ → Option (List ℕ)) (words : List (List ℕ)) (before after : ℕ) → HasTrimmed held held_now words before after → HasPartOfTrimmed held held_now words
part_of_trimmed held held_now words before after is =
    let bytes = is.trim.trimmed.bytes.items in
    record {
      trimmed = is.trim.trimmed;
      is = is.trim.is;
      count = length bytes;
      part = is.there ∙ ap Some (sym (take_all (length bytes) bytes (omega arith)));
    }

part_of_converted : (before after : List ℕ → Option (List ℕ)) (words : List (List ℕ)) (from to records : ℕ) → HasConverted before after words from to records → HasPartOfConverted before after words
part_of_converted before after words from to records is =
    let bytes = is.conversion.converted.bytes in
    record {
      converted = is.conversion.converted;
      is = is.conversion.is;
      count = length bytes;
      part = is.there ∙ ap Some (sym (take_all (length bytes) bytes (omega arith)));
    }

-- a whole netlist that is flattened is its first part
part_of_flattened : (before after : List ℕ → Option (List ℕ)) (words : List (List ℕ)) (models instances gates : ℕ) → HasFlattened before after words models instances gates → HasPartOfFlattened before after words
part_of_flattened before after words models instances gates is = record {
  flat = is.flattening.flat;
  models = models;
  instances = instances;
  is = is.flattening.is;
  bytes = is.bytes;
  file = is.file;
  count = length is.bytes;
  part = is.there ∙ ap Some (sym (take_all (length is.bytes) is.bytes (omega arith)));
}

-- a whole netlist that is swept is its first part
part_of_swept : (held held_now : List ℕ → Option (List ℕ)) (words : List (List ℕ)) (before after : ℕ) (left : Option Ledgered) → HasSwept held held_now words before after left → HasPartOfSwept held held_now words
part_of_swept held held_now words before after left is = record {
  before = before;
  after = after;
  left = left;
  sweep = is.sweep;
  bytes = is.bytes;
  file = is.file;
  count = length is.bytes;
  part = is.there ∙ ap Some (sym (take_all (length is.bytes) is.bytes (omega arith)));
}

-- a whole pair is its first part
part_of_pair : (before after : List ℕ → Option (List ℕ)) (words : List (List ℕ)) → HasMadePair after words → HasPartOfPair before after words
part_of_pair before after words is =
    let text = blif_text is.pair.second.graph in
    record {
      request = is.request;
      asks = is.asks;
      pair = is.pair;
      drawn = is.drawn;
      part = inr (is.first_there, inr (length text, is.second_there ∙ ap Some (sym (take_all (length text) text (omega arith)))));
    }

pub may_be_cut : (before after : List ℕ → Option (List ℕ)) (words : List (List ℕ)) (o : Outcome) → Leaves before after words o → MayBeCut before after words
may_be_cut before after words (Matched matching) left = inr (inl (part_of after words (verdict.Match matching) left))
may_be_cut before after words NoMatching left = inr (inl (part_of after words verdict.None left))
may_be_cut before after words Made left = inr (inr (inl (part_of_pair before after words left)))
may_be_cut before after words (Restored gates) left = inr (inr (inr (inl (part_of_restored before after words gates left))))
may_be_cut before after words (Trimmed count rest) left = inr (inr (inr (inr (inl (part_of_trimmed before after words count rest left)))))
may_be_cut before after words (Converted from to records) left = inr (inr (inr (inr (inr (inl (part_of_converted before after words from to records left))))))
may_be_cut before after words (Flattened models instances gates) left = inr (inr (inr (inr (inr (inr (inl (part_of_flattened before after words models instances gates left)))))))
may_be_cut before after words (Swept gates rest ledger) left = inr (inr (inr (inr (inr (inr (inr (part_of_swept before after words gates rest ledger left)))))))
may_be_cut before after words WriteFault left = left
may_be_cut before after words Memory left = left
may_be_cut before after words other left = inl left

pub kept : (before after : List ℕ → Option (List ℕ)) (words : List (List ℕ)) (o : Outcome) → LeavesFiles o → Leaves before after words o → (name : List ℕ) → after name ≡ before name
kept before after words (Matched matching) none left = absurd (none.unmatched matching refl)
kept before after words NoMatching none left = absurd (none.no_refusal refl)
kept before after words Made none left = absurd (none.no_pair refl)
kept before after words (Restored gates) none left = absurd (none.no_netlist gates refl)
kept before after words (Trimmed count rest) none left = absurd (none.untrimmed count rest refl)
kept before after words (Converted from to records) none left = absurd (none.unconverted from to records refl)
kept before after words (Flattened models instances gates) none left = absurd (none.unflattened models instances gates refl)
kept before after words (Swept gates rest ledger) none left = absurd (none.unswept gates rest ledger refl)
kept before after words WriteFault none left = absurd (none.reported.written refl)
kept before after words Memory none left = absurd (none.reported.room refl)
kept before after words other none left = left

-- a name that is none of those that a command writes isn't written
pub not_written : (words : List (List ℕ)) (command : Command) (name : List ℕ) → Ask words command → (NamesAccount words name → ⊥) → (NamesPair words name → ⊥) → (NamesRestored words name → ⊥) → (NamesTrimmed words name → ⊥) → (NamesConverted words name → ⊥) → (NamesFlattened words name → ⊥) → (NamesSwept words name → ⊥) → IsNotWritten command name
not_written words (Match asked) name asks other apart unrestored untrimmed unconverted unflattened unswept = λ same. other (match_request asked, asks, same)
not_written words (Make asked) name asks other apart unrestored untrimmed unconverted unflattened unswept = (λ same. apart (make_request asked, asks, inl same), λ same. apart (make_request asked, asks, inr same))
not_written words (Restore asked) name asks other apart unrestored untrimmed unconverted unflattened unswept = λ same. unrestored (restore_request asked, asks, same)
not_written words (Trim asked) name asks other apart unrestored untrimmed unconverted unflattened unswept = λ same. untrimmed (trim_request asked, asks, same)
not_written words (Convert asked) name asks other apart unrestored untrimmed unconverted unflattened unswept = λ same. unconverted (convert_request asked, asks, same)
not_written words (Flatten asked) name asks other apart unrestored untrimmed unconverted unflattened unswept = λ same. unflattened (flatten_request asked, asks, same)
not_written words (Sweep asked) name asks other apart unrestored untrimmed unconverted unflattened unswept = λ same. unswept (sweep_request asked, asks, same)
not_written words command name asks other apart unrestored untrimmed unconverted unflattened unswept = tt

pub writes_of : (words : List (List ℕ)) (command : Command) → Ask words command → IsWritingCommand command → WriteFiles words
writes_of words (Match asked) asks is = inl (match_request asked, asks)
writes_of words (Make asked) asks is = inr (inl (make_request asked, asks))
writes_of words (Restore asked) asks is = inr (inr (inl (restore_request asked, asks)))
writes_of words (Trim asked) asks is = inr (inr (inr (inl (trim_request asked, asks))))
writes_of words (Convert asked) asks is = inr (inr (inr (inr (inl (convert_request asked, asks)))))
writes_of words (Flatten asked) asks is = inr (inr (inr (inr (inr (inl (flatten_request asked, asks))))))
writes_of words (Sweep asked) asks is = inr (inr (inr (inr (inr (inr (sweep_request asked, asks))))))
writes_of words other asks is = absurd is

-- where one name holds what it held, and so do all others, nothing changed
pub everywhere : (before after : List ℕ → Option (List ℕ)) (name : List ℕ) → ((n : List ℕ) → n ≢ name → after n ≡ before n) → after name ≡ before name → (n : List ℕ) (same : Bool) → bytes_eq n name ≡ same → after n ≡ before n
everywhere before after name others here n true is = let e = (bytes_eq-Decides n name).0 is in ap after e ∙ (here ∙ ap before (sym e))
everywhere before after name others here n false is = others n (λ e. false≢true (sym is ∙ (bytes_eq-Decides n name).1 e))

-- What an outcome of a match says: of the words, of the files that are held before and afterwards, and of itself.
record Settles (tells : Bool) (asked : MatchWords) (before after : List ℕ → Option (List ℕ)) (o : Outcome) : Type 0 where
  left : IsTrue tells → (words : List (List ℕ)) → AsksMatch words (match_request asked) → Leaves before after words o
  right : IsTrue tells → (words : List (List ℕ)) → AsksMatch words (match_request asked) → IsRight before words o
  by_words : (words : List (List ℕ)) → AsksMatch words (match_request asked) → FollowsWords words o

-- What was found for two netlists that were read, where the account was written under its name.
module _ (tells : Bool) (asked : MatchWords) (old new : ShelfState) (first second : Named)
    (first_read : IsReadFrom tells (old.held asked.first.now) first) (second_read : IsReadFrom tells (old.held asked.second.now) second)
    (others : IsTrue tells → (n : List ℕ) → n ≢ asked.account.now → new.held n ≡ old.held n) where
  first_graph : IsTrue tells → HasGraph (old.held asked.first.now) first.graph
  first_graph t = record { netlist = netlist_of first_read.circuit first; holds = first_read.held t; numbered = first_read.numbered }

  second_graph : IsTrue tells → HasGraph (old.held asked.second.now) second.graph
  second_graph t = record { netlist = netlist_of second_read.circuit second; holds = second_read.held t; numbered = second_read.numbered }

  -- the netlists' files stay
  first_after : IsTrue tells → (words : List (List ℕ)) → AsksMatch words (match_request asked) → HasGraph (new.held asked.first.now) first.graph
  first_after t words asks = subst (λ content. HasGraph content first.graph) (sym (others t asked.first.now (λ same. asks.names.not_first (sym same)))) (first_graph t)

  second_after : IsTrue tells → (words : List (List ℕ)) → AsksMatch words (match_request asked) → HasGraph (new.held asked.second.now) second.graph
  second_after t words asks = subst (λ content. HasGraph content second.graph) (sym (others t asked.second.now (λ same. asks.names.not_second (sym same)))) (second_graph t)

  files : IsTrue tells → (words : List (List ℕ)) → AsksMatch words (match_request asked) → IsSought old.held words (netlist_of first_read.circuit first) (netlist_of second_read.circuit second)
  files t words asks = record { sought = (match_request asked); asks = asks; first_held = first_read.held t; second_held = second_read.held t }

  proved_by : IsTrue tells → (words : List (List ℕ)) → AsksMatch words (match_request asked) → (account : List ℕ) (proved : Verdict) → Proves (graphs_of first second) account proved → new.held asked.account.now ≡ Some account → IsProved new.held words proved
  proved_by t words asks account proved proves there = record {
    sought = (match_request asked);
    asks = asks;
    accepted = record {
      graphs = (graphs_of first second);
      account = account;
      has = record {
        first_name = asked.first.now;
        second_name = asked.second.now;
        account_name = asked.account.now;
        asks = check_of words (match_request asked) asks;
        first_held = first_after t words asks;
        second_held = second_after t words asks;
        there = there;
      };
      accepted = proves;
    };
  }

  reads : (words : List (List ℕ)) → AsksMatch words (match_request asked) → ReadFiles words
  reads words asks = reads_of words (asked_match asked) tt asks

  -- an answer is right, and its account is left
  answered : (account : List ℕ) (o : Outcome) → IsAnswered (graphs_of first second) account o → (IsTrue tells → new.held asked.account.now ≡ Some account) → Settles tells asked old.held new.held o
  answered account o answer there =
      of_answer (Settles tells asked old.held new.held) (graphs_of first second) account o answer
      (λ matching proves matches. record {
        left = λ t words asks. proved_by t words asks account (verdict.Match matching) proves (there t);
        right = λ t words asks. record {
          first = netlist_of first_read.circuit first;
          second = netlist_of second_read.circuit second;
          files = files t words asks;
          matches = match_from_functions first_read.circuit second_read.circuit first.graph second.graph matching.inputs matching.outputs first_read.computes second_read.computes matches;
        };
        by_words = λ words asks. follows_files words (Matched matching) (reads words asks) (λ e. cc) (λ number text e. cc);
      })
      (λ proves unequal. record {
        left = λ t words asks. proved_by t words asks account verdict.None proves (there t);
        right = λ t words asks. record {
          first = netlist_of first_read.circuit first;
          second = netlist_of second_read.circuit second;
          files = files t words asks;
          unequal = λ equal. unequal (functions_from_equal first_read.circuit second_read.circuit first.graph second.graph first_read.acyclic second_read.acyclic first_read.computes second_read.computes equal);
        };
        by_words = λ words asks. follows_files words NoMatching (reads words asks) (λ e. cc) (λ number text e. cc);
      })

  -- where nothing changed at the account's name, no file changed
  unchanged : IsTrue tells → new.held asked.account.now ≡ old.held asked.account.now → (n : List ℕ) → new.held n ≡ old.held n
  unchanged t same n = everywhere old.held new.held asked.account.now (others t) same n (bytes_eq n asked.account.now) refl

  -- a budget that was spent, or running out of memory, is right

  stop_right : (o : Outcome) → IsStopWithin (graphs_of first second) asked.budget o → IsTrue tells → (words : List (List ℕ)) → AsksMatch words (match_request asked) → IsRight old.held words o
  stop_right o stop t words asks =
      of_stop (IsRight old.held words) (graphs_of first second) asked.budget o stop
      (λ ledger spent. inr (inl (record {
        sought = (match_request asked);
        asks = asks;
        graphs = (graphs_of first second);
        first_held = first_graph t;
        second_held = second_graph t;
        spent = spent;
      })))
      tt

  -- and a write that was refused leaves a first part

  cut : IsTrue tells → (words : List (List ℕ)) → AsksMatch words (match_request asked) → IsCutOf (graphs_of first second) (old.held asked.account.now) (new.held asked.account.now) → MayBeCut old.held new.held words
  cut t words asks is =
      elim is [
        | inl same ↦ inl (unchanged t same)
        | inr (account, proved, proves, text, first_part) ↦ inr (inl (record {
          sought = (match_request asked);
          asks = asks;
          graphs = (graphs_of first second);
          first_held = first_after t words asks;
          second_held = second_after t words asks;
          account = account;
          proved = proved;
          accepted = proves;
          count = first_part.0;
          part = first_part.1;
          unfinished = λ lines last. whole_by_end first_part.0 account proves.records lines text proves.account last;
        }))
      ]

  stopped : (o : Outcome) → IsStopOfMatch tells (graphs_of first second) asked.budget (old.held asked.account.now) (new.held asked.account.now) o → IsEarly o × (o ≢ ReadFault) × Settles tells asked old.held new.held o
  stopped o end =
      elim end [
        | inl (stop, same) ↦
            let early = (stop_line (graphs_of first second) asked.budget o stop).early in (
              early,
              (no_fault (graphs_of first second) asked.budget o stop).0,
              record {
                left = λ t words asks. leaves_early old.held new.held words o early (unchanged t (same t));
                right = stop_right o stop;
                by_words = λ words asks. follows_files words o (reads words asks) early.no_pair early.no_trial;
              },
            )
        | inr (is, part) ↦ (
          early_unwritten o is,
          of_unwritten (λ end. end ≢ ReadFault) o is (λ e. cc) (λ e. cc),
          record {
            left = λ t words asks. let first_part = cut t words asks (part t) in of_unwritten (Leaves old.held new.held words) o is first_part first_part;
            right = λ t words asks. of_unwritten (IsRight old.held words) o is tt tt;
            by_words = λ words asks. follows_unwritten words o is;
          },
        )
      ]

  pub finds : (result : Result Ending Outcome) → Finds tells first second asked.account.now asked.budget old new result → Decides tells (asked_match asked) old new result
  finds (Ok ending) found =
      let account = found.answer.0 in
      let answer = found.answer.1 in
      let graphs = graphs_of first second in
      let settles = answered account ending.outcome answer found.answer.2 in
      record {
        files = others;
        left = settles.left;
        right = settles.right;
        by_words = settles.by_words;
        sound = λ t words asks. of_answer (IsSoundAnswer old.held words) graphs account ending.outcome answer (λ matching proves matches. record { matches = λ other e. cc; refuses = λ e. cc }) (λ proves unequal. record { matches = λ other e. cc; refuses = λ e. cc });
        report = λ words asks. inr (inl (record {
          first = netlist_of first_read.circuit first;
          second = netlist_of second_read.circuit second;
          no_rows = of_answer (λ end. end ≢ Informed) graphs account ending.outcome answer (λ matching proves matches e. cc) (λ proves unequal e. cc);
          of_files = λ t. inr (files t words asks);
          same = found.report;
        }));
        ending = of_answer IsEnding graphs account ending.outcome answer (λ matching proves matches. record { asked = λ e. cc; read = λ e. cc; unwritten = λ e. cc }) (λ proves unequal. record { asked = λ e. cc; read = λ e. cc; unwritten = λ e. cc });
        early = tt;
        last = found.last;
        failed = λ e. cc;
        unwritten = λ e. cc;
      }
  finds (Err o) found =
      let stop = stopped o found.stopped in
      record {
        files = others;
        left = stop.2.left;
        right = stop.2.right;
        by_words = stop.2.by_words;
        sound = λ t words asks. tt;
        report = λ words asks. tt;
        ending = tt;
        early = stop.0;
        last = found.last;
        failed = λ e. absurd (stop.1 (cc e));
        unwritten = λ e. (tt, found.failed (cc e));
      }
