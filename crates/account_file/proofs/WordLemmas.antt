-- A line is cut at its first blank.
use Rattle.std.proofs.Common.{◌≡◌, ℕ, ◌+◌, ◌<◌, ◌≤◌, List, [], ◌∷◌, length, take, drop, arith, refl, Err}
use Rattle.std.specs.List.{position_or_len}
use Rattle.std.proofs.lemmas.List.Splits.{slice_split_first, slice_split_none}
use Rattle.std.proofs.lemmas.List.Sums.{fails_before_first}
use Rattle.account_file.specs.declared.fault.RecordFault.TheVariants.{Word}
use Rattle.account_file.specs.Forms.{two_bits_of}
use Rattle.account_file.specs.Words.{is_space, words_of}

pub words_cut : (line : List ℕ) → position_or_len is_space line < length line → words_of line ≡ take (position_or_len is_space line) line ∷ words_of (drop (position_or_len is_space line + 1) line)
words_cut line below = slice_split_first is_space line 0 below

pub words_whole : (line : List ℕ) → length line ≤ position_or_len is_space line → words_of line ≡ line ∷ []
words_whole line none = slice_split_none is_space line (λ k d below. fails_before_first is_space line k d (omega (arith, below, none)))

pub not_two_bits : (word : List ℕ) → (length word ≡ 2 → ⊥) → Err Word ≡ two_bits_of word
not_two_bits [] other = refl
not_two_bits (a ∷ []) other = refl
not_two_bits (a ∷ b ∷ []) other = absurd (other refl)
not_two_bits (a ∷ b ∷ c ∷ word) other = refl
