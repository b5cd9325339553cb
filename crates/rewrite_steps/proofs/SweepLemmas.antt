-- What a netlist that is swept says of the words and the files, and what it leaves.
use Rattle.std.proofs.Common.{◌≡◌, ℕ, inr, Bool, IsTrue, List, length, take, Some, Result, refl, sym, ap, subst, ◌∙◌, arith}
use Rattle.net_file.specs.declared.named.Named.{Named}
use Rattle.shelf_core.specs.State.{ShelfState}
use Rattle.check_steps.specs.Asks.{sweep_request}
use Rattle.check_steps.specs.Reading.{IsReadFrom, netlist_of}
use Rattle.check_steps.specs.Words.{AsksSweep}
use Rattle.check_steps.specs.declared.outcome.Ending.{Ending}
use Rattle.check_steps.specs.declared.outcome.Outcome.{Outcome}
use Rattle.check_steps.specs.declared.words.Sweep.{Sweep as SweepWords}
use Rattle.check_steps.proofs.GateLemmas.{few_gates}
use Rattle.run_steps.specs.Commands.{asked_sweep}
use Rattle.run_steps.specs.Outcomes.{IsRight, Leaves, MayBeCut}
use Rattle.run_steps.specs.Steps.{Decides}
use Rattle.run_steps.specs.Sweep.{IsFileOf, IsSweptTo}
use Rattle.run_steps.specs.Writing.{HasFirst}
use Rattle.run_steps.proofs.PrintedLemmas.{ascii_file}
use Rattle.rewrite_steps.specs.Rewriting.{IsSweptIn, Never, Rewrites}
use Rattle.rewrite_steps.proofs.DecideLemmas.{IsRefused, IsTold, rewrites_decides}

-- the netlist was read
module _ (tells : Bool) (asked : SweepWords) (old : ShelfState) (netlist : Named) (read : IsReadFrom tells (old.held asked.file.now) netlist) where
  abbrev IsMade : Outcome → List ℕ → Type 0
  IsMade o bytes = IsSweptIn netlist asked.allowance o bytes

  abbrev swept_to : (o : Outcome) (bytes : List ℕ) → (made : IsMade o bytes) → IsTrue tells → (words : List (List ℕ)) → AsksSweep words (sweep_request asked) → IsSweptTo old.held words (length netlist.graph.gates) (length made.printed.graph.gates) made.left
  swept_to o bytes made t words asks = record {
    request = sweep_request asked;
    asks = asks;
    graph = netlist.graph;
    there = record { netlist = netlist_of read.circuit netlist; holds = read.held t; numbered = read.numbered };
    swept = made.printed.graph;
    sweep = made.sweep;
    before_is = refl;
    after_is = refl;
  }

  -- what is printed of it is a file of it
  file_of : (o : Outcome) (bytes : List ℕ) → (made : IsMade o bytes) → IsTrue tells → IsFileOf (netlist_of read.circuit netlist) made.printed.graph bytes
  file_of o bytes made t =
      let holds = read.held t in
      let few = few_gates holds.bytes read.circuit netlist.graph netlist.input_names netlist.output_names holds.is read.numbered in
      subst (IsFileOf (netlist_of read.circuit netlist) made.printed.graph) (sym made.bytes_are)
      (ascii_file (old.held asked.file.now) read.circuit netlist made.printed holds read.computes made.sweep.equal made.sound.ordered (omega (arith, few, made.sweep.no_more)) made.input_names made.output_names)

  made_told : (o : Outcome) (bytes : List ℕ) → IsMade o bytes → IsTold o
  made_told o bytes made = subst IsTold (sym made.outcome_is) tt

  made_right : (o : Outcome) (bytes : List ℕ) → IsMade o bytes → IsTrue tells → (words : List (List ℕ)) → AsksSweep words (sweep_request asked) → IsRight old.held words o
  made_right o bytes made t words asks = subst (IsRight old.held words) (sym made.outcome_is) (swept_to o bytes made t words asks)

  made_left : (new : ShelfState) (o : Outcome) (bytes : List ℕ) → IsMade o bytes → new.held asked.swept.now ≡ Some bytes → IsTrue tells → (words : List (List ℕ)) → AsksSweep words (sweep_request asked) → Leaves old.held new.held words o
  made_left new o bytes made there t words asks =
      subst (Leaves old.held new.held words) (sym made.outcome_is) (record { sweep = swept_to o bytes made t words asks; bytes = bytes; there = there; file = file_of o bytes made t })

  made_part : (new : ShelfState) (o : Outcome) (bytes : List ℕ) → IsMade o bytes → HasFirst bytes (new.held asked.swept.now) → IsTrue tells → (words : List (List ℕ)) → AsksSweep words (sweep_request asked) → MayBeCut old.held new.held words
  made_part new o bytes made first t words asks = inr (inr (inr (inr (inr (inr (inr (record {
    before = length netlist.graph.gates;
    after = length made.printed.graph.gates;
    left = made.left;
    sweep = swept_to o bytes made t words asks;
    bytes = bytes;
    file = file_of o bytes made t;
    count = first.0;
    part = first.1;
  })))))))

  pub sweeps_decides : (now new : ShelfState) (result : Result Ending Outcome) → ((n : List ℕ) → now.held n ≡ old.held n) → now.faults ≡ old.faults → Rewrites (IsSweptIn netlist asked.allowance) Never tells asked.swept.now now new result → Decides tells (asked_sweep asked) old new result
  sweeps_decides now new result files clean rewrites =
      rewrites_decides tells (asked_sweep asked) tt tt old (IsSweptIn netlist asked.allowance) Never asked.swept.now now new (λ n apart. apart) files clean
      made_told (λ o never. absurd never) made_right (λ o never t words asks. absurd never) (made_left new) (made_part new) result rewrites
