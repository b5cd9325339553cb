use Rattle.std.proofs.Common.{◌≡◌, All, IfNone, IfSome, sym, ◌∙◌}
use Rattle.std.proofs.lemmas.Option.{IfSome_then}
use Rattle.std.proofs.lemmas.Result.{IfOk-weaker}
use Rattle.circuits.specs.declared.port.Pair.{Pair}
use Rattle.circuits.specs.declared.port.PortKind.TheVariants.{Input}
use Rattle.ban_book.specs.Rows.{AreAlike, IsMismatchBan}
use Rattle.ban_book.specs.Shown.{HaveNothing, IsShownByRows}
use Rattle.ban_book.proofs.AlikeLemmas.{alike_no_mismatch, apart_shown, none_then}
use Rattle.ban_book.proofs.EvenLemmas.{even_no_tally}
use Rattle.ban_book.proofs.UnevenLemmas.{uneven_shown}
use Rattle.ban_book.proofs.row_bans.ban_by_facts.Goals as goal

pub returns-in-Some-clause-shown : goal.returns-in-Some-clause-shown
returns-in-Some-clause-shown c =
    let shown = rw c.in-Some.is at c.in_ok-ban.ensures.shown in
    record {
      each = λ facts rows. uneven_shown c.args.graphs.now facts c.args.pairs.now c.args.pair c.args.first.now c.args.second.now c.in-Some.ban c.requires.known c.requires.output c.requires.first (c.requires.second ∙ sym c.first-first.ensures.ports.inputs) shown rows;
    }

pub returns-in-None-clause-shown : goal.returns-in-None-clause-shown
returns-in-None-clause-shown c =
    IfOk-weaker c.mismatch_by_rows.result (λ found. IfSome found (IsMismatchBan c.args.pairs.now c.args.pair c.args.first.now c.args.second.now)) (λ found. IfSome found (IsShownByRows c.args.graphs.now c.args.pairs.now c.args.pair c.args.first.now c.args.second.now))
    (λ found shown. IfSome_then found shown (λ ban is. record {
      each = λ facts rows. apart_shown c.args.graphs.now facts c.args.pairs.now c.args.pair c.args.first.now c.args.second.now ban c.requires.known c.requires.output c.requires.first c.requires.second is rows;
    }))
    c.mismatch_by_rows.ensures.shown

pub returns-in-None-clause-none : goal.returns-in-None-clause-none
returns-in-None-clause-none c =
    let even = rw c.in-None.is at c.in_ok-ban.ensures.none in
    IfOk-weaker c.mismatch_by_rows.result (λ found. IfNone found (All (λ (pair : Pair). pair.kind ≡ Input → AreAlike c.args.pair c.args.first.now c.args.second.now pair) c.args.pairs.now)) (λ found. IfNone found (HaveNothing c.args.graphs.now c.args.pairs.now c.args.pair c.args.first.now c.args.second.now))
    (λ found none. none_then found _ _ none (λ alike. record {
      each = λ facts rows are. record {
        no_mismatch = alike_no_mismatch c.args.graphs.now facts c.args.pairs.now c.args.pair c.args.first.now c.args.second.now are rows c.requires.known c.requires.output c.requires.first c.requires.second alike;
        no_tally = λ kind have lack. even_no_tally c.args.graphs.now facts c.args.pair c.args.first.now c.args.second.now are rows c.requires.first c.requires.second c.first-first.ensures.ports.inputs even c.args.pairs.now kind have lack c.requires.output;
      };
    }))
    c.mismatch_by_rows.ensures.none
