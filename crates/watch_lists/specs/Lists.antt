-- The watches of clauses, and for each literal the list of those that watch it (Moskewicz and others, Chaff, 2001).
use Rattle.std.specs.Prelude.{◌≡◌, ◌≢◌, ℕ, ◌+◌, ◌-◌, ◌*◌, ◌/◌, ◌%◌, ◌^◌, ◌<◌, ◌≤◌, List, [], ◌∷◌, ◌++◌, length, slice_index_or, slice_set}
use Rattle.std.specs.List.{count_by, swap_remove}
use Rattle.cnf_core.specs.declared.literal.SatLit.{SatLit}
use Rattle.cnf_core.specs.Derivations.{is_true}

-- the literal of a number
abbrev pub numbered : ℕ → SatLit
numbered c = record { 0 = c }

-- the literal that a watch watches
abbrev pub literal_at : List SatLit → ℕ → SatLit
literal_at watches s = slice_index_or watches s (numbered 0)

-- The watches of a literal, and for how many more of them there is room.
pub record Listed : Type 0 where
  pub watches : List ℕ
  pub room : ℕ

-- the list of a literal that nothing watches, and that has no room
abbrev pub none_listed : Listed
none_listed = record { watches = []; room = 0 }

-- the list of the literal of a number
abbrev pub list_at : List Listed → ℕ → Listed
list_at lists c = slice_index_or lists c none_listed

-- the watches of the literal of a number
abbrev pub list_of : List Listed → ℕ → List ℕ
list_of lists c = (list_at lists c).watches

-- the watch at a place
abbrev pub watch_at : List ℕ → ℕ → ℕ
watch_at list place = slice_index_or list place 0

-- one watch more
abbrev pub with_watch : ℕ → Listed → Listed
with_watch s list = record { watches = list.watches ++ s ∷ []; room = list.room - 1 }

-- the watch at a place is taken out, and the last one comes in its place
abbrev pub without_place : ℕ → Listed → Listed
without_place place list = record { watches = swap_remove list.watches place 0; room = list.room + 1 }

-- a watch was put into the list of the literal of a number
abbrev pub put_in : ℕ → ℕ → List Listed → List Listed
put_in c s lists = slice_set lists c (with_watch s (list_at lists c))

-- the one at a place was taken out of it
abbrev pub taken_from : ℕ → ℕ → List Listed → List Listed
taken_from c place lists = slice_set lists c (without_place place (list_at lists c))

-- there is room for one more in the list of the literal of a number
abbrev pub roomier_at : ℕ → List Listed → List Listed
roomier_at c lists = slice_set lists c (record (list_at lists c) { room = (list_at lists c).room + 1 })

-- the other watch of the same clause
abbrev pub partner : ℕ → ℕ
partner s = 2 * (s / 2) + (1 - s % 2)

-- the two watches of a clause differ: the clause is attached
abbrev pub IsAttached : List SatLit → ℕ → Type 0
IsAttached watches s = (literal_at watches s).0 ≢ (literal_at watches (partner s)).0

-- A watch stands at a place of a list.
pub record IsAt (list : List ℕ) (s place : ℕ) : Type 0 where
  pub within : place < length list
  pub is : watch_at list place ≡ s

-- it is in the list
abbrev pub IsIn : ℕ → List ℕ → Type 0
IsIn s list = (place : ℕ) × IsAt list s place

-- It is at one of the first n places.
pub record IsAmongFirst (left : ℕ) (list : List ℕ) (s : ℕ) : Type 0 where
  pub place : ℕ
  pub early : place < left
  pub there : IsAt list s place

-- none comes twice
abbrev pub IsOnce : List ℕ → Type 0
IsOnce list = (j k : ℕ) → j < length list → k < length list → watch_at list j ≡ watch_at list k → j ≡ k

-- A watch of this literal, of an attached clause.
pub record IsOwn (watches : List SatLit) (c s : ℕ) : Type 0 where
  pub within : s < length watches
  pub is : (literal_at watches s).0 ≡ c
  pub attached : IsAttached watches s

-- Each watch of an attached clause is in the list of its literal, once, and in no other.
pub record AreListed (watches : List SatLit) (lists : List Listed) : Type 0 where
  pub even : length watches % 2 ≡ 0
  pub few : length watches < 2 ^ 64
  pub known : (s : ℕ) → s < length watches → (literal_at watches s).0 < length lists
  pub own : (c s : ℕ) → c < length lists → IsIn s (list_of lists c) → IsOwn watches c s
  pub once : (c : ℕ) → c < length lists → IsOnce (list_of lists c)
  pub all : (s : ℕ) → s < length watches → IsAttached watches s → IsIn s (list_of lists (literal_at watches s).0)

-- how many clauses have the literal of a number
abbrev pub clauses_with : ℕ → List (List SatLit) → ℕ
clauses_with c clauses = count_by (λ clause. is_true clause (numbered c)) clauses

-- The list of each literal has room for a watch of each clause that has it.
pub record HaveRoom (clauses : List (List SatLit)) (lists : List Listed) : Type 0 where
  pub room : (c : ℕ)
      → c < length lists
      → clauses_with c clauses ≤ length (list_of lists c) + (list_at lists c).room

-- The lists have room for one watch more of each of the first n literals of a clause.
pub record IsRoomier (old new : List Listed) (clause : List SatLit) (count : ℕ) : Type 0 where
  pub size : length new ≡ length old
  pub same : (c : ℕ) → list_of new c ≡ list_of old c
  pub no_less : (c : ℕ) → (list_at old c).room ≤ (list_at new c).room
  pub more : (k : ℕ)
      → k < count
      → (list_at old (slice_index_or clause k (numbered 0)).0).room + 1 ≤ (list_at new (slice_index_or clause k (numbered 0)).0).room

-- The two watches of a clause, from this one on, got these literals, and no other watch another one.
pub record ArePut (old new : List SatLit) (s : ℕ) (first second : SatLit) : Type 0 where
  pub size : length new ≡ length old
  pub first_is : literal_at new s ≡ first
  pub second_is : literal_at new (s + 1) ≡ second
  pub others : (t : ℕ) → t ≢ s → t ≢ s + 1 → literal_at new t ≡ literal_at old t

-- A watch at a place of a literal's list watches another literal now, or the same one.
pub record IsMove (ws new_ws : List SatLit) (lists new_lists : List Listed) (f l : SatLit) (place s : ℕ) : Type 0 where
  pub stays : l.0 ≡ f.0 → (new_ws ≡ ws) × (new_lists ≡ lists)
  pub moves_watch : l.0 ≢ f.0 → new_ws ≡ slice_set ws s l
  pub moves_list : l.0 ≢ f.0 → new_lists ≡ put_in l.0 s (taken_from f.0 place lists)
