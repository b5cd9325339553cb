-- The first of the lines that are left was read, or none is.
use Rattle.std.proofs.Common.{◌≡◌, ℕ, ◌+◌, ◌-◌, ◌<◌, ◌∷◌, List, drop, take, length, sym, ap, subst, ◌∙◌, arith}
use Rattle.std.proofs.lemmas.List.{drop-drop, length-drop, take_all}
use Rattle.cnf_core.specs.declared.log.LogLine.{LogLine}
use Rattle.query_core.specs.Ledgers.{AreLeft, charged_lines}
use Rattle.query_core.proofs.ChargedLemmas.{first_read, left_more, none_left}
use Rattle.query_core.proofs.charged.ChargedLines.next_line.Goals as goal

pub returns-then-is_empty-clause-none : goal.returns-then-is_empty-clause-none
returns-then-is_empty-clause-none c =
    let inside = c.self.inside in
    let none : length inside.left.now ≡ 0 = grind arith in
    sym c.self.view_is ∙ none_left (drop inside.read (charged_lines inside.asked.now)) inside.left.now inside.read c.self.invariant none

pub invariant_of-self : goal.invariant_of-self
invariant_of-self c =
    let inside = c.self.inside in
    let lines = charged_lines inside.asked.now in
    let bytes = inside.left.now in
    let some : 0 < length bytes = grind arith in
    let size = c.in_ok-line.size in
    let first = first_read (drop inside.read lines) bytes inside.read size c.in_ok-line.line c.self.invariant some c.in_ok-line.ensures.reads in
    let rest : take (length bytes - size) (drop size bytes) ≡ drop size bytes = take_all (length bytes - size) (drop size bytes) (omega (arith, length-drop size bytes)) in
    subst (λ (text : List ℕ). AreLeft (drop (inside.read + 1) lines) text (inside.read + 1)) (sym rest) (left_more lines (drop size bytes) inside.read first.left)

pub returns-clause-line : goal.returns-clause-line
returns-clause-line c =
    let inside = c.self.inside in
    let lines = charged_lines inside.asked.now in
    let bytes = inside.left.now in
    let some : 0 < length bytes = grind arith in
    let line = c.in_ok-line.line in
    let first = first_read (drop inside.read lines) bytes inside.read c.in_ok-line.size line c.self.invariant some c.in_ok-line.ensures.reads in
    sym c.self.view_is ∙ (first.first ∙ ap (λ (left : List LogLine). line ∷ left) (drop-drop 1 inside.read lines))
