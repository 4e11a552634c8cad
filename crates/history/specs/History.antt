-- Histories of calls, and the claim about them (demand 3; document 01, "The ledger").
use Rattle.std.specs.Prelude.{◌≡◌, ℕ, ◌+◌, ◌*◌, ◌≤◌, ◌<◌, Bool, true, cond, not, List, [], ◌∷◌, ◌++◌, eqb, length, get_or, replicate}
use Rattle.meaning.specs.Lists.{all, any, count, onto, ordered}
use Rattle.meaning.specs.Refusal.{Question, first_no}
use Rattle.meaning.specs.Sketch.{in_range, blank}
use Rattle.meaning.specs.Output.{Output, has_room, nearest, both_left}
use Rattle.meaning.specs.Trie.{Tree, fresh, nodes, pruned}
use Rattle.meaning.specs.Ledger.{Settings, Row, Ledger, Event, search, show, check, Call, opening, reading, if_opening, far, above, called_for, listed}
use Rattle.meaning.specs.Forest.{block_bytes}
use Rattle.meaning.specs.Questions.{asked, by_ledger}
use Rattle.layout.specs.Lengths.{working_length}
use Rattle.promises.specs.Tables.{Tables}
use Rattle.promises.specs.Answers.{entered}
use Rattle.promises.specs.Sound.{Sound}
use Rattle.promises.specs.Relation.{Answer, Promised}

-- a call that gave this number
abbrev pub event : Call → ℕ → Event
event c n = record { call = c; refused = not (eqb n 0) }

-- the events, the last one first, and the tables that they have left
pub data History : List Event → Tables → Type 0 where
  -- an accepted opening, whatever the tables held before
  begun : (s : Settings) (T₀ : Tables) (a : Answer) (T : Tables) → Promised (opening s) T₀ a T → a.number ≡ 0 → History (event (opening s) 0 ∷ []) T
  -- a call, accepted or refused, that is lent the tables as the last one left them
  called : {es : List Event} {T : Tables} → History es T → (c : Call) (a : Answer) (T' : Tables) → Promised c T a T'
      → History (event c a.number ∷ es) T'
  -- a call that is lent anything, and refused by 4, 5 or 6: it changes nothing (proofs/Foreign.antt)
  foreign : {es : List Event} {T : Tables} → History es T → (c : Call) (T₀ : Tables) (a : Answer) (T₁ : Tables) → Promised c T₀ a T₁
      → 4 ≤ a.number → a.number ≤ 6 → History (event c a.number ∷ es) T

-- 4 and 5 of an opening go by its arguments and the tables' lengths; every other call passes 5 and 6
unfoldable pub admitted : Tables → Call → List Question
admitted T c = if_opening c (λ s. entered T c) []

-- the number of the first "no", as the ledger and the tries of demand 2 have it; 0 where there is none
unfoldable pub judged : Tables → Ledger → List Tree → Call → ℕ
judged T L F c = first_no (admitted T c ++ asked (by_ledger L F) c)

-- a search passes 7, 10 and 11
pub record RightlyPut (L : Ledger) (reader radius : ℕ) (x : List ℕ) : Type 0 where
  pub reads : reader < 256
  pub near : radius ≤ 64
  pub whole : length x ≡ L.settings.symbols
  pub symbols : in_range L.settings.bits x ≡ true

-- what a search rightly put gives: number, count and the two lists
pub record Found (L : Ledger) (reader radius : ℕ) (x : List ℕ) (before : Output) (number count : ℕ) (after : Output) : Type 0 where
  -- refused exactly when one of the two lists has fewer places than there are rows called for
  pub refusal : number ≡ cond (has_room (length (called_for L reader radius x)) before) 0 13
  pub rows : count ≡ length (called_for L reader radius x)
  pub output : after ≡ both_left number (listed L reader radius x) before

-- the sketch in a page's row
unfoldable pub sketch_in : List Row → ℕ → List ℕ
sketch_in [] p = []
sketch_in (r ∷ rs) p = cond (eqb r.page p) r.sketch (sketch_in rs p)

-- a working table with zeros in its needed part
unfoldable pub zeroed : Ledger → List ℕ → List ℕ
zeroed L ws = onto (replicate (working_length L.settings) 0) ws

-- the claim: of the tables that a history has left, its ledger and the tries of demand 2
pub record Claim (T : Tables) (L : Ledger) (F : List Tree) : Type 0 where
  -- each further call is refused just where a question says no
  pub refusals : (c : Call) (a : Answer) (T' : Tables) → Promised c T a T' → a.number ≡ judged T L F c
  -- a search rightly put
  pub searches : (reader radius : ℕ) (x : List ℕ) (o : Output) (a : Answer) (T' : Tables) → Promised (reading (search reader radius x o)) T a T'
      → RightlyPut L reader radius x → Found L reader radius x o a.number a.count a.output
  -- each page called for stands in its list once, and no other page stands there
  pub once : (reader radius : ℕ) (x : List ℕ) (p : ℕ)
      → count (λ n. eqb n p) (listed L reader radius x).pages ≡ cond (any (λ r. eqb r.page p) (called_for L reader radius x)) 1 0
  -- what is listed is, by definition, the pages and the distances of these rows: nearer rows above, and rows that are as far in rising pages
  pub in_order : (reader radius : ℕ) (x : List ℕ) → ordered (above x) (nearest (far x) radius (called_for L reader radius x)) ≡ true
  -- they are the rows called for: as many pass a test, whatever the test
  pub all_listed : (reader radius : ℕ) (x : List ℕ) (q : Row → Bool)
      → count q (nearest (far x) radius (called_for L reader radius x)) ≡ count q (called_for L reader radius x)
  -- a show gives the page's row, and nothing where it is refused
  pub shows : (reader p : ℕ) (a : Answer) (T' : Tables) → Promised (reading (show reader p)) T a T'
      → a.row ≡ cond (eqb (judged T L F (reading (show reader p))) 0) (sketch_in L.rows p) []
  -- a check says yes
  pub checks : (a : Answer) (T' : Tables) → Promised (reading check) T a T' → a.yes ≡ true
  -- a search and a check leave zeros in the needed part of the working table
  pub searched : (reader radius : ℕ) (x : List ℕ) (o : Output) (a : Answer) (T' : Tables) → Promised (reading (search reader radius x o)) T a T'
      → T'.working ≡ zeroed L T.working
  pub checked : (a : Answer) (T' : Tables) → Promised (reading check) T a T' → T'.working ≡ zeroed L T.working
  -- no page is blank: so none is listed or shown
  pub none-blank : all (λ r. not (blank r.sketch)) L.rows ≡ true
  -- every inner node of the tries has a child; so a trie has at most a node for each byte of each page, and its root
  pub all-pruned : all pruned F ≡ true
  pub few-nodes : (j : ℕ) → j < length F → nodes (get_or F j fresh) ≤ 1 + length L.rows * block_bytes L.settings j
  -- without pages the tries are as after an opening: each is its root
  pub emptied : L.rows ≡ [] → F ≡ replicate L.settings.blocks fresh
  -- the store is sound, and its tries are those
  pub sound : Sound T F

-- the rows called for have the same page numbers, and each page the same sketch
abbrev pub Agree : Ledger → Ledger → ℕ → ℕ → List ℕ → Type 0
Agree L M reader radius x =
    (p : ℕ)
    → (any (λ r. eqb r.page p) (called_for L reader radius x) ≡ any (λ r. eqb r.page p) (called_for M reader radius x))
    × (sketch_in (called_for L reader radius x) p ≡ sketch_in (called_for M reader radius x) p)
