-- An append that fails before it writes anything.
use Rattle.std.proofs.Common.{◌≡◌, ℕ, ◌≤◌, List, [], ◌∷◌, length, take, cond, Some, refl, sym, ap, ◌∙◌, append-nil, arith}
use Rattle.std.proofs.lemmas.Slice.Eq.{bytes_eq-Decides}
use Rattle.shelf_core.specs.State.{Closed, Reading, Writing, grown}
use Rattle.shelf_core.specs.Safe.{File, look_up, open_mode, open_name, places_needed}
use Rattle.shelf_core.specs.declared.safe_shelf.Opened.{Opened}
use Rattle.shelf_core.specs.declared.safe_shelf.Opened.TheVariants as opened

-- the file that is written has the bytes that it had: those with the first 0 bytes of the piece
nothing_added : (files : List File) (open_as : Opened) (piece : List ℕ) → open_mode open_as ≡ Writing → places_needed open_as ≤ length files → look_up files (open_name files open_as) ≡ grown (look_up files (open_name files open_as)) (take 0 piece)
nothing_added files opened.No piece mode room = let e : Closed ≡ Writing = mode in cc
nothing_added files (opened.Reading place at) piece mode room = let e : Reading ≡ Writing = mode in cc
nothing_added [] opened.Writing piece mode room = absurd (omega (arith, room))
nothing_added (file ∷ files) opened.Writing piece mode room =
    let found : look_up (file ∷ files) file.0 ≡ Some file.1 = ap (λ b. cond b (Some file.1) (look_up files file.0)) ((bytes_eq-Decides file.0 file.0).1 refl) in
    found ∙ (ap Some (sym (append-nil file.1)) ∙ sym (ap (λ held. grown held []) found))

-- and so some first part of the piece was written
pub none_added : (files : List File) (open_as : Opened) (piece : List ℕ) → open_mode open_as ≡ Writing → places_needed open_as ≤ length files → (k : ℕ) × (look_up files (open_name files open_as) ≡ grown (look_up files (open_name files open_as)) (take k piece))
none_added files open_as piece mode room = (0, nothing_added files open_as piece mode room)
