-- A piece that is copied from a file to the front of a buffer.
use Rattle.std.proofs.Common.{◌≡◌, ℕ, ◌+◌, ◌<◌, ◌≤◌, true, List, ◌++◌, length, take, drop, Ok, sym, ◌∙◌, ap, refl, arith, length-drop}
use Rattle.std.proofs.lemmas.List.{take-append-drop, drop-drop, length-take-le}
use Rattle.std.proofs.Math.Seq.{drop-append_seam, take-append_seam}
use Rattle.shelf_core.specs.Safe.{File, file_at, safe_shelf}
use Rattle.shelf_core.specs.Calls.{Reads}
use Rattle.shelf_core.specs.declared.safe_shelf.Opened.TheVariants as opened

-- the front of the buffer is the piece, and the rest is as before
front : (from before : List ℕ) (k : ℕ) → k ≤ length from → take k (take k from ++ drop k before) ≡ take k from
front from before k h =
    ap (λ n. take n (take k from ++ drop k before)) (sym (length-take-le k from h)) ∙ take-append_seam (take k from) (drop k before)

back : (from before : List ℕ) (k : ℕ) → k ≤ length from → drop k (take k from ++ drop k before) ≡ drop k before
back from before k h =
    ap (λ n. drop n (take k from ++ drop k before)) (sym (length-take-le k from h)) ∙ drop-append_seam (take k from) (drop k before)

-- what a copy of the next bytes means as a read
pub read_is : (files : List File) (place at k : ℕ) (bytes before after : List ℕ) → bytes ≡ (file_at files place).1 → k ≤ length before → at + k ≤ length bytes → (at < length bytes → 0 < length before → 0 < k) → after ≡ take k (drop at bytes) ++ drop k before → Reads true (safe_shelf files (opened.Reading place at)) (safe_shelf files (opened.Reading place (at + k))) before after (Ok k)
read_is files place at k bytes before after is room there progress copied =
    let within : k ≤ length (drop at bytes) = rw length-drop (omega arith) in
    record {
      files = λ n. refl;
      mode = refl;
      named = refl;
      within = room;
      some = rw (← is, length-drop) (λ h. progress (omega arith));
      left = rw (← is, length-drop (at + k) bytes, length-drop at bytes) (omega arith);
      bytes = λ _. rw (copied, ← is, front (drop at bytes) before k within, ← drop-drop k at bytes) (take-append-drop k (drop at bytes));
      rest = λ _. rw copied (back (drop at bytes) before k within);
      left_stays = tt;
      unread_stays = tt;
      counted = omega arith;
      clean = refl;
      no_memory = λ e. cc;
      failed = λ e. cc;
    }
