-- Look-ups by name in a list of files.
use Rattle.std.proofs.Common.{◌≡◌, ◌≢◌, ℕ, ◌+◌, ◌<◌, zero, suc, true, false, List, [], ◌∷◌, drop, length, get_or, cond, Some, add-one, sym, ◌∙◌, ap, refl, arith}
use Rattle.std.proofs.Math.Seq.{drop-cons}
use Rattle.std.proofs.lemmas.List.{get_or_default}
use Rattle.std.proofs.lemmas.Slice.Eq.{bytes_eq-Decides}
use Rattle.std.specs.List.{insert, remove}
use Rattle.std.specs.Str.{bytes_eq}
use Rattle.shelf_core.specs.Safe.{File, look_up, file_at, IsPlace}

-- a look-up from a place on asks the file there first
pub look_up-drop : (files : List File) (name : List ℕ) (place : ℕ) → place < length files → look_up (drop place files) name ≡ cond (bytes_eq (file_at files place).0 name) (Some (file_at files place).1) (look_up (drop (place + 1) files) name)
look_up-drop files name place h = rw (add-one, drop-cons files place ([], [])) refl

-- a file that has the name, where none before it has
pub is_place : (files : List File) (name : List ℕ) (place : ℕ) (file : File) → place < length files → file ≡ get_or files place file → bytes_eq file.0 name ≡ true → look_up (drop place files) name ≡ look_up files name → IsPlace files name place
is_place files name place file below is named before =
    let there : file_at files place ≡ file = get_or_default files place ([], []) file below ∙ sym is in
    let called : bytes_eq (file_at files place).0 name ≡ true = rw there named in
    record {
      in_range = below;
      name_is = (bytes_eq-Decides (file_at files place).0 name).0 called;
      found = sym before ∙ look_up-drop files name place below ∙ ap (λ b. cond b (Some (file_at files place).1) (look_up (drop (place + 1) files) name)) called;
    }

-- a file of another name is not found
pub skipped : (file : File) (files : List File) (name : List ℕ) → file.0 ≢ name → look_up (file ∷ files) name ≡ look_up files name
skipped file files name other =
    elim (bytes_eq file.0 name) as (λ b. bytes_eq file.0 name ≡ b → look_up (file ∷ files) name ≡ look_up files name) [
      | true ↦ λ e. absurd (other ((bytes_eq-Decides file.0 name).0 e))
      | false ↦ λ e. ap (λ b. cond b (Some file.1) (look_up files name)) e
    ] refl

-- without a file, the others are found as before
pub look_up-remove : (files : List File) (place : ℕ) (name : List ℕ) → place < length files → (file_at files place).0 ≢ name → look_up (remove files place) name ≡ look_up files name
look_up-remove [] place name below other = absurd (omega arith)
look_up-remove (file ∷ files) zero name below other = sym (skipped file files name other)
look_up-remove (file ∷ files) (suc place) name below other = ap (λ found. cond (bytes_eq file.0 name) (Some file.1) found) (look_up-remove files place name (omega arith) other)

-- a file that stands before the older one of its name takes its place
pub renewed : (old mid new : List File) (file : File) (name : List ℕ) (place : ℕ) → file.0 ≡ name → mid ≡ insert old 0 file → IsPlace old name place → new ≡ remove mid (place + 1) → (n : List ℕ) → n ≢ name → look_up new n ≡ look_up old n
renewed old mid new file name place called added older gone n other =
    let new_is : new ≡ file ∷ remove old place = gone ∙ ap (λ files. remove files (place + 1)) added ∙ rw add-one refl in
    rw new_is (skipped file (remove old place) n (λ e. other (sym e ∙ called)) ∙ look_up-remove old place n older.in_range (λ e. other (sym e ∙ older.name_is)))
