-- For `check_limits`: the word after as many as the limit, of words that stand on lines.
use Rattle.std.proofs.Common.{◌≡◌, ℕ, ◌+◌, ◌<◌, List, [], ◌++◌, length, get_or, take, drop, ap, sym, subst, ◌∙◌, inl, arith, take-append-drop}
use Rattle.std.specs.List.{flat_map}
use Rattle.std.proofs.lemmas.List.{get_or_default, get_or_append_left, get_or-append-add, length-append, at_drop_more}
use Rattle.std.proofs.lemmas.Grind.{flat_map-append}
use Rattle.text_core.specs.Piece.{Piece}
use Rattle.net_core.specs.Limits.{most_ports}
use Rattle.blif_reader.specs.JoinedLines.{word_of}
use Rattle.blif_reader.specs.Ports.{IsExcess}
use Rattle.hier_blif.specs.declared.fault.HierFault.{HierFault}
use Rattle.hier_blif.specs.declared.fault.HierKind.{HierKind}
use Rattle.hier_blif.specs.declared.fault.HierKind.TheVariants as wrong
use Rattle.hier_blif.specs.declared.fault.HierStop.{HierStop}
use Rattle.hier_blif.specs.declared.fault.HierStop.TheVariants.{Fault}
use Rattle.hier_blif.specs.declared.model.ModelLine.{ModelLine}
use Rattle.hier_blif.specs.Stops.{IsStopBy}
use Rattle.hier_blif.specs.Names.{inputs_on}
use Rattle.hier_blif.specs.Limits.{HasManyPorts}

abbrev at_kind : HierKind → ℕ → HierFault
at_kind kind at = record { kind = kind; at = at }

-- the words after others
later_word : (xs ys : List Piece) (n : ℕ) → word_of (xs ++ ys) (length xs + n) ≡ word_of ys n
later_word xs ys n = get_or-append-add xs ys n (record { bytes = []; at = 0 })

-- the line that has the first word beyond
pub excess_on : (f : ModelLine → List Piece) (lines : List ModelLine) (k : ℕ) (line : ModelLine) (left at : ℕ) (word : Piece) → k < length lines → line ≡ get_or lines k line → left + length (flat_map f (take k lines)) ≡ most_ports → left < length (f line) → word ≡ get_or (f line) left word → at ≡ word.at → IsExcess (flat_map f lines) at
excess_on f lines k line left at word below is so_far here word_is a = record {
  many = omega (arith, count, so_far, here);
  offset = a ∙ ap (λ (w : Piece). w.at) (word_is ∙ sym found);
}
  where
    next : flat_map f (drop k lines) ≡ f line ++ flat_map f (drop (k + 1) lines)
    next =
        let e : flat_map f (drop k lines) ≡ f (get_or lines k line) ++ flat_map f (drop (k + 1) lines) = at_drop_more (flat_map f) lines k line below in
        e ∙ ap (λ l. f l ++ flat_map f (drop (k + 1) lines)) (sym is)

    parts : flat_map f lines ≡ flat_map f (take k lines) ++ (f line ++ flat_map f (drop (k + 1) lines))
    parts =
        ap (flat_map f) (sym (take-append-drop k lines))
        ∙ (flat_map-append f (take k lines) (drop k lines) ∙ ap (λ ws. flat_map f (take k lines) ++ ws) next)

    count : length (flat_map f lines) ≡ length (flat_map f (take k lines)) + (length (f line) + length (flat_map f (drop (k + 1) lines)))
    count =
        ap length parts
        ∙ (length-append (flat_map f (take k lines)) (f line ++ flat_map f (drop (k + 1) lines))
        ∙ ap (λ n. length (flat_map f (take k lines)) + n) (length-append (f line) (flat_map f (drop (k + 1) lines))))

    at_left : most_ports ≡ length (flat_map f (take k lines)) + left
    at_left = omega (arith, so_far)

    found : word_of (flat_map f lines) most_ports ≡ get_or (f line) left word
    found =
        ap (λ ws. word_of ws most_ports) parts
        ∙ (ap (λ n. word_of (flat_map f (take k lines) ++ (f line ++ flat_map f (drop (k + 1) lines))) n) at_left
        ∙ (later_word (flat_map f (take k lines)) (f line ++ flat_map f (drop (k + 1) lines)) left
        ∙ (get_or_append_left (f line) (flat_map f (drop (k + 1) lines)) (record { bytes = []; at = 0 }) left here ∙ get_or_default (f line) left (record { bytes = []; at = 0 }) word here)))

pub many_inputs : (lines : List ModelLine) (at : ℕ) (stop : HierStop) → IsExcess (flat_map inputs_on lines) at → stop ≡ Fault (record { kind = wrong.TooManyInputs; at = at }) → IsStopBy (HasManyPorts lines) stop
many_inputs lines at stop excess is =
    subst (IsStopBy (HasManyPorts lines)) (sym is) (inl (record { many = excess.many; is = ap (λ n. at_kind wrong.TooManyInputs n) excess.offset }))
