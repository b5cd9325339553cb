-- A list whose first elements are replaced by what they are mapped to: the others are as they were.
use Rattle.std.proofs.Common.{◌≡◌, ℕ, ◌+◌, ◌<◌, List, ◌++◌, length, map, take, drop, get_or, ap, ◌∙◌, arith}
use Rattle.std.proofs.lemmas.List.{drop_more, get_or_at, length-map, length-take}

pub over_at : {X : Type 0} (f : X → X) (old list : List X) (i : ℕ) (d : X) → i < length old → list ≡ map f (take i old) ++ drop i old → get_or list i d ≡ get_or old i d
over_at {X} f old list i d below is =
    ap (λ l. get_or l i d) is
    ∙ (ap (λ l. get_or (map f (take i old) ++ l) i d) (drop_more old i d below)
    ∙ get_or_at (map f (take i old)) (get_or old i d) (drop (i + 1) old) d i (omega (arith, length-map (take i old) f, length-take i old, below)))
