-- What is written at the end leaves in front what stood there.
use Rattle.std.proofs.Common.{◌≡◌, List, ℕ, ◌++◌, length, drop, sym, ◌∙◌, ap, append_assoc}
use Rattle.std.proofs.lemmas.List.{take-append-drop}
use Rattle.std.proofs.Math.Seq.{take-append_seam, take-length}
use Rattle.text_core.specs.Extends.{Extends}

-- nothing was written
pub extends_same : (text : List ℕ) → Extends text text
extends_same text = take-length text

split : (old new : List ℕ) → Extends old new → new ≡ old ++ drop (length old) new
split old new extends = sym (take-append-drop (length old) new) ∙ ap (λ front. front ++ drop (length old) new) extends

-- first a part was written, and then another
pub extends_twice : (old mid new : List ℕ) → Extends old mid → Extends mid new → Extends old new
extends_twice old mid new first then =
    let whole : new ≡ old ++ (drop (length old) mid ++ drop (length mid) new) =
    split mid new then ∙ ap (λ m. m ++ drop (length mid) new) (split old mid first) ∙ append_assoc old (drop (length old) mid) (drop (length mid) new) in
    rw whole (take-append_seam old (drop (length old) mid ++ drop (length mid) new))

-- a part was written of what was left
pub one_part : (now new written left whole : List ℕ) → now ++ (written ++ left) ≡ whole → new ≡ now ++ written → new ++ left ≡ whole
one_part now new written left whole before put =
    ap (λ text. text ++ left) put ∙ append_assoc now written left ∙ before
