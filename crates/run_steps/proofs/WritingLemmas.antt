-- First parts of a text that is written in pieces.
use Rattle.std.proofs.Common.{◌≡◌, ℕ, ◌+◌, ◌≤◌, min, inl, inr, Bool, IsTrue, List, [], ◌++◌, length, take, drop, Option, Some, Result, Ok, Err, OnOk, OnErr, refl, sym, ◌∙◌, ap, subst, arith, append_assoc}
use Rattle.std.specs.List.{between}
use Rattle.std.specs.Result.{IsErrAnd}
use Rattle.std.proofs.lemmas.List.{append-nil, length-take-le, take-append-drop, take-take, take_all, take_at, take-append-le, take_min, drop-append-le, drop-take, drop_at}
use Rattle.std.proofs.lemmas.Result.{err_from_is_err_and, on_ok_weaker, on_err_weaker}
use Rattle.std.proofs.lemmas.Slice.{between_is}
use Rattle.run_steps.specs.Writing.{HasFirst, WritesFile, WritesOn}
use Rattle.shelf_core.proofs.FaultLemmas.{none_before, one_call, rose_after}
use Rattle.shelf_core.specs.Calls.{Appends, Closes, Creates}
use Rattle.shelf_core.specs.State.{ShelfState, grown}
use Rattle.shelf_core.specs.declared.outside.ShelfStop.{ShelfStop}
use Rattle.shelf_core.specs.declared.outside.ShelfStop.TheVariants.{Memory}

-- what is so of the refusal that `?` hands on
handed : {X : Type 0} (P : Result X ShelfStop → Type 0) (stop : ShelfStop) (result : Result X ShelfStop) → IsErrAnd result (λ e. e ≡ stop) → P (Err stop) → P result
handed {X} P stop result is so = let err = err_from_is_err_and result is in subst P (sym (err.1 ∙ ap Err err.2)) so

-- what is so whatever the answer is
on_ok_always : {P : Type 0} (result : Result (Unit {0}) ShelfStop) → P → OnOk result P
on_ok_always {P} (Ok done) p = p
on_ok_always {P} (Err stop) p = tt

on_err_always : {P : Type 0} (result : Result (Unit {0}) ShelfStop) → P → OnErr result P
on_err_always {P} (Ok done) p = tt
on_err_always {P} (Err stop) p = p

take_plus : (m k : ℕ) (xs : List ℕ) → take (m + k) xs ≡ take m xs ++ take k (drop m xs)
take_plus m k xs =
    sym (take-append-drop m (take (m + k) xs)) ∙ (ap (λ ys. ys ++ drop m (take (m + k) xs)) (take-take m (m + k) xs (omega arith)) ∙ ap (λ ys. take m xs ++ ys) (drop-take m k xs))

-- a first part of a text is one of a text that goes on
first_of : (text more : List ℕ) (k : ℕ) → (count : ℕ) × (take k text ≡ take count (text ++ more))
first_of text more k =
    let least = min k (length text) in
    (least, sym (take_min k text) ∙ sym (take-append-le least text more (omega arith)))

-- and so is a text with a first part of what comes after it
first_after : (text more : List ℕ) (k : ℕ) → text ++ take k more ≡ take (length text + k) (text ++ more)
first_after text more k =
    sym (take_plus (length text) k (text ++ more) ∙ (ap (λ ys. ys ++ take k (drop (length text) (text ++ more))) (take_at text more (length text) refl) ∙ ap (λ ys. text ++ take k ys) (drop_at text more (length text) refl)))

whole_first : (text : List ℕ) (content : Option (List ℕ)) → content ≡ Some text → HasFirst text content
whole_first text content is = (length text, is ∙ ap Some (sym (take_all (length text) text (omega arith))))

-- a piece was appended, or a first part of it
pub written_one : (tells : Bool) (piece left : List ℕ) (old new : ShelfState) (result : Result (Unit {0}) ShelfStop)
    → Appends tells piece old new result
    → WritesOn tells (piece ++ left) left old new result
written_one tells piece left old new result appends = record {
  others = λ t n other. appends.others n other;
  writing = appends.mode;
  named = appends.named;
  whole = λ t there is. on_ok_weaker result (λ grows. (piece, refl, grows ∙ ap (λ content. grown content piece) is)) (appends.whole t);
  part = λ t there is. on_err_weaker result
      (λ (k, grows). let first = first_of piece left k in (first.0, grows ∙ (ap (λ content. grown content (take k piece)) is ∙ ap (λ bytes. Some (there ++ bytes)) first.1)))
      (appends.part t);
  clean = appends.clean;
  last = one_call old new appends.counted;
  failed = appends.failed;
}

-- writing goes on
pub written_then : (tells : Bool) (pending middle left : List ℕ) (old now new : ShelfState) (result : Result (Unit {0}) ShelfStop)
    → WritesOn tells pending middle old now (Ok tt)
    → WritesOn tells middle left now new result
    → WritesOn tells pending left old new result
written_then tells pending middle left old now new result first then = record {
  others = λ t n other. then.others t n (λ e. other (e ∙ first.named)) ∙ first.others t n other;
  writing = then.writing;
  named = then.named ∙ first.named;
  whole = λ t there is.
      let one = held t there is in
      on_ok_weaker result
      (λ two. (
        one.0 ++ two.0,
        one.1 ∙ (ap (λ bytes. one.0 ++ bytes) two.1 ∙ sym (append_assoc one.0 two.0 left)),
        ap new.held (sym first.named) ∙ (two.2 ∙ ap Some (append_assoc there one.0 two.0)),
      ))
      (then.whole t (there ++ one.0) one.2);
  part = λ t there is.
      let one = held t there is in
      on_err_weaker result
      (λ two. (
        length one.0 + two.0,
        ap new.held (sym first.named)
            ∙ (two.1
            ∙ ap Some (append_assoc there one.0 (take two.0 middle)
            ∙ ap (λ bytes. there ++ bytes) (first_after one.0 middle two.0 ∙ ap (take (length one.0 + two.0)) (sym one.1)))),
      ))
      (then.part t (there ++ one.0) one.2);
  clean = on_ok_weaker result (λ later. later ∙ first.clean) then.clean;
  last = none_before old now new first.clean then.last;
  failed = λ e. rose_after old.faults now.faults new.faults first.clean (then.failed e);
}
  where
    held : IsTrue tells → (there : List ℕ) (is : old.held old.name ≡ Some there) → (piece : List ℕ) × (pending ≡ piece ++ middle) × (now.held now.name ≡ Some (there ++ piece))
    held t there is = let one = first.whole t there is in (one.0, one.1, ap now.held first.named ∙ one.2)

-- as much is still to be written in another form
pub written_as : (tells : Bool) (pending other left : List ℕ) (old new : ShelfState) (result : Result (Unit {0}) ShelfStop)
    → other ≡ pending
    → WritesOn tells other left old new result
    → WritesOn tells pending left old new result
written_as tells pending other left old new result is writes = subst (λ bytes. WritesOn tells bytes left old new result) is writes

-- more comes after what was to be written
pub written_before : (tells : Bool) (pending left more : List ℕ) (old new : ShelfState) (result : Result (Unit {0}) ShelfStop)
    → WritesOn tells pending left old new result
    → WritesOn tells (pending ++ more) (left ++ more) old new result
written_before tells pending left more old new result writes = record {
  others = writes.others;
  writing = writes.writing;
  named = writes.named;
  whole = λ t there is. on_ok_weaker result (λ one. (one.0, ap (λ bytes. bytes ++ more) one.1 ∙ append_assoc one.0 left more, one.2)) (writes.whole t there is);
  part = λ t there is. on_err_weaker result (λ one. let first = first_of pending more one.0 in (first.0, one.1 ∙ ap (λ bytes. Some (there ++ bytes)) first.1)) (writes.part t there is);
  clean = writes.clean;
  last = writes.last;
  failed = writes.failed;
}

-- memory ran out after some of it was written
pub written_out_of_memory : (tells : Bool) (pending left other : List ℕ) (old new : ShelfState) (result : Result (Unit {0}) ShelfStop)
    → IsErrAnd result (λ e. e ≡ Memory)
    → WritesOn tells pending left old new (Ok tt)
    → WritesOn tells pending other old new result
written_out_of_memory tells pending left other old new result is writes =
    handed (λ r. WritesOn tells pending other old new r) Memory result is (record {
      others = writes.others;
      writing = writes.writing;
      named = writes.named;
      whole = λ t there held. tt;
      part = λ t there held.
          let one = writes.whole t there held in
          (length one.0, one.2 ∙ ap (λ bytes. Some (there ++ bytes)) (sym (take_at one.0 left (length one.0) refl) ∙ ap (take (length one.0)) (sym one.1)));
      clean = tt;
      last = writes.last;
      failed = λ e. cc;
    })

-- a refusal is the same one for each answer
pub not_written_on : (tells : Bool) (pending left other : List ℕ) (old new : ShelfState) (stop : ShelfStop) (result : Result (Unit {0}) ShelfStop)
    → IsErrAnd result (λ e. e ≡ stop)
    → WritesOn tells pending left old new (Err stop)
    → WritesOn tells pending other old new result
not_written_on tells pending left other old new stop result is writes =
    handed (λ r. WritesOn tells pending other old new r) stop result is (record {
      others = writes.others;
      writing = writes.writing;
      named = writes.named;
      whole = λ t there held. tt;
      part = writes.part;
      clean = tt;
      last = writes.last;
      failed = writes.failed;
    })

-- a piece of a text, and what comes after it
pub piece_of : (text : List ℕ) (done end : ℕ) → done ≤ end → end ≤ length text → between done end text ++ drop end text ≡ drop done text
piece_of text done end le within =
    ap (λ piece. piece ++ drop end text) (between_is text done end)
    ∙ (sym (drop-append-le done (take end text) (drop end text) (omega (arith, le, length-take-le end text within)))
    ∙ ap (drop done) (take-append-drop end text))

-- the next piece was appended
pub written_piece : (tells : Bool) (text : List ℕ) (done end : ℕ) (old now new : ShelfState) (result : Result (Unit {0}) ShelfStop)
    → done ≤ end
    → end ≤ length text
    → WritesOn tells text (drop done text) old now (Ok tt)
    → Appends tells (between done end text) now new result
    → WritesOn tells text (drop end text) old new result
written_piece tells text done end old now new result le within first appends =
    written_then tells text (drop done text) (drop end text) old now new result first
    (written_as tells (drop done text) (between done end text ++ drop end text) (drop end text) now new result (piece_of text done end le within)
    (written_one tells (between done end text) (drop end text) now new result appends))

-- the file wasn't made
pub not_created : (tells : Bool) (name text : List ℕ) (old new : ShelfState) (stop : ShelfStop) (result : Result (Unit {0}) ShelfStop)
    → IsErrAnd result (λ e. e ≡ stop)
    → Creates tells name old new (Err stop)
    → WritesFile tells name text old new result
not_created tells name text old new stop result is creates =
    handed (λ r. WritesFile tells name text old new r) stop result is (record {
      others = λ t n other. creates.others n other;
      whole = λ t. tt;
      part = λ t. elim (creates.kept t) [ inl same ↦ inl same | inr empty ↦ inr (0, empty) ];
      clean = tt;
      last = one_call old new creates.counted;
      failed = λ e. creates.failed e;
    })

made_empty : (tells : Bool) (name : List ℕ) (old made : ShelfState) → Creates tells name old made (Ok tt) → IsTrue tells → made.held made.name ≡ Some []
made_empty tells name old made creates t = ap made.held (creates.named t) ∙ creates.empty t

-- it was made, and not filled
pub not_written : (tells : Bool) (name text : List ℕ) (old made new : ShelfState) (stop : ShelfStop) (result : Result (Unit {0}) ShelfStop)
    → IsErrAnd result (λ e. e ≡ stop)
    → Creates tells name old made (Ok tt)
    → WritesOn tells text [] made new (Err stop)
    → WritesFile tells name text old new result
not_written tells name text old made new stop result is creates writes =
    handed (λ r. WritesFile tells name text old new r) stop result is (record {
      others = λ t n other. writes.others t n (λ e. other (e ∙ creates.named t)) ∙ creates.others n other;
      whole = λ t. tt;
      part = λ t.
          let first = writes.part t [] (made_empty tells name old made creates t) in
          inr (first.0, ap new.held (sym (creates.named t)) ∙ first.1);
      clean = tt;
      last = none_before old made new creates.clean writes.last;
      failed = λ e. rose_after old.faults made.faults new.faults creates.clean (writes.failed e);
    })

-- it was filled, and closed or not
pub closed : (tells : Bool) (name text : List ℕ) (old made full new : ShelfState) (result : Result (Unit {0}) ShelfStop)
    → Creates tells name old made (Ok tt)
    → WritesOn tells text [] made full (Ok tt)
    → Closes tells full new result
    → WritesFile tells name text old new result
closed tells name text old made full new result creates writes closes = record {
  others = λ t n other. closes.files n ∙ (writes.others t n (λ e. other (e ∙ creates.named t)) ∙ creates.others n other);
  whole = λ t. on_ok_always result (there t);
  part = λ t. on_err_always result (inr (whole_first text (new.held name) (there t)));
  clean = on_ok_weaker result (λ later. later ∙ writes.clean ∙ creates.clean) closes.clean;
  last = none_before old full new (writes.clean ∙ creates.clean) (one_call full new closes.counted);
  failed = λ e. rose_after old.faults full.faults new.faults (writes.clean ∙ creates.clean) (closes.failed e);
}
  where
    there : IsTrue tells → new.held name ≡ Some text
    there t =
        let all = writes.whole t [] (made_empty tells name old made creates t) in
        closes.files name ∙ (ap full.held (sym (creates.named t)) ∙ (all.2 ∙ ap Some (sym (all.1 ∙ append-nil all.0))))
