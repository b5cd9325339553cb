-- For `numbers`: a table by names, as a list of names and numbers.
use Rattle.std.proofs.Common.{◌≡◌, ℕ, Bool, true, false, cond, List, [], ◌∷◌, ◌++◌, map, Option, None, Some, Bor, refl, ap, sym, ◌∙◌}
use Rattle.std.specs.Prelude.{is_some}
use Rattle.std.specs.Map.{lookup}
use Rattle.std.specs.Str.{bytes_eq}
use Rattle.std.proofs.lemmas.List.{map_push}
use Rattle.indexmap.specs.IndexMap.{insert_entry}
use Rattle.hier_blif.specs.Scopes.{number_of, with_number}

abbrev pub Entry : Type 0
Entry = Bor (List ℕ) × ℕ

abbrev pub kept_of : Entry → List ℕ × ℕ
kept_of entry = (entry.0.now, entry.1)

abbrev same_key : Bor (List ℕ) → Bor (List ℕ) → Bool
same_key one other = bytes_eq one.now other.now

pub lookup_kept : (p : List ℕ → Bool) (entries : List Entry) → lookup (λ (key : Bor (List ℕ)). p key.now) entries ≡ lookup p (map kept_of entries)
lookup_kept p [] = refl
lookup_kept p (entry ∷ entries) = ap (λ r. cond (p entry.0.now) (Some entry.1) r) (lookup_kept p entries)

none_from : (found : Option ℕ) → is_some found ≡ false → found ≡ None
none_from None h = refl
none_from (Some n) h = cc h

insert_new_by : (t : Bool) (entry : Entry) (entries : List Entry) (name : Bor (List ℕ)) (number : ℕ) → cond t (Some entry.1) (lookup (same_key name) entries) ≡ None → (lookup (same_key name) entries ≡ None → insert_entry same_key entries name number ≡ entries ++ (name, number) ∷ []) → cond t ((entry.0, number) ∷ entries) (entry ∷ insert_entry same_key entries name number) ≡ entry ∷ (entries ++ (name, number) ∷ [])
insert_new_by true entry entries name number h rest = cc h
insert_new_by false entry entries name number h rest = ap (λ es. entry ∷ es) (rest h)

insert_new : (entries : List Entry) (name : Bor (List ℕ)) (number : ℕ) → lookup (same_key name) entries ≡ None → insert_entry same_key entries name number ≡ entries ++ (name, number) ∷ []
insert_new [] name number h = refl
insert_new (entry ∷ entries) name number h =
    insert_new_by (same_key name entry.0) entry entries name number h (insert_new entries name number)

-- a name that has a number, and one that is new
pub number_kept : (entries : List Entry) (numbers : List (List ℕ × ℕ)) (name : Bor (List ℕ)) (number : ℕ) → map kept_of entries ≡ numbers → is_some (lookup (same_key name) entries) ≡ true → numbers ≡ with_number numbers name.now number
number_kept entries numbers name number view h =
    let has : is_some (number_of numbers name.now) ≡ true = ap (λ ns. is_some (number_of ns name.now)) (sym view) ∙ (ap is_some (sym (lookup_kept (bytes_eq name.now) entries)) ∙ h) in
    sym (ap (λ t. cond t numbers (numbers ++ (name.now, number) ∷ [])) has)

pub number_put : (entries : List Entry) (numbers : List (List ℕ × ℕ)) (name : Bor (List ℕ)) (number : ℕ) → map kept_of entries ≡ numbers → is_some (lookup (same_key name) entries) ≡ false → map kept_of (insert_entry same_key entries name number) ≡ with_number numbers name.now number
number_put entries numbers name number view h =
    let hasnt : is_some (number_of numbers name.now) ≡ false = ap (λ ns. is_some (number_of ns name.now)) (sym view) ∙ (ap is_some (sym (lookup_kept (bytes_eq name.now) entries)) ∙ h) in
    ap (map kept_of) (insert_new entries name number (none_from (lookup (same_key name) entries) h))
    ∙ (map_push kept_of entries (name, number)
    ∙ (ap (λ ns. ns ++ (name.now, number) ∷ []) view ∙ sym (ap (λ t. cond t numbers (numbers ++ (name.now, number) ∷ [])) hasnt)))
