-- What add and drop promise. On a sound store every answer and table is settled, but for what is named here; on any
-- other, what is left open is said, and what holds of it.
--
-- What the promises of add and drop leave open on a sound store: the numbers of the nodes that are no roots, as which node a fresh leaf
-- takes and the order of the free chain; the chain words of roots; the links of pages that are not live. On unsound tables: the answer
-- among 0, 12 and 14; the free link, the nodes and the links of pages. A second statement of both calls settles all this, on any
-- tables, by an equation: their `Outcome` is `add_page` (add_laws/specs/Add.antt), `drop_page` (drop_laws/specs/After.antt).
use Rattle.std.specs.Prelude.{ℕ, ◌+◌, ◌≡◌, ◌≢◌, ◌⊎◌, List, [], length, take, drop as skip}
use Rattle.meaning.specs.Trie.{Tree}
use Rattle.meaning.specs.Ledger.{add, drop}
use Rattle.meaning.specs.Forest.{forest_after}
use Rattle.layout.specs.Settings.{free_at}
use Rattle.layout.specs.Pages.{with_row, with_page, without_page, links_at}
use Rattle.layout.specs.Signature.{signature}
use Rattle.layout.specs.Lengths.{nodes_length, pages_length}
use Rattle.promises.specs.Tables.{Tables, given, rows_of}
use Rattle.promises.specs.Answers.{number}
use Rattle.promises.specs.Sound.{Sound}

-- the tables are as long as they were, and the rest of a longer one is as it was
pub record SameRest (T T' : Tables) : Type 0 where
  pub settings : length T'.settings ≡ length T.settings
  pub nodes : length T'.nodes ≡ length T.nodes
  pub pages : length T'.pages ≡ length T.pages
  -- its rows, and what is behind them, are settled by each call's own fields
  pub sketches : length T'.sketches ≡ length T.sketches
  pub working : T'.working ≡ T.working
  -- of the settings table only the free link may change: the header and the rights stand in front of it
  pub settings-front : take free_at T'.settings ≡ take free_at T.settings
  pub settings-rest : skip (free_at + 1) T'.settings ≡ skip (free_at + 1) T.settings
  pub nodes-rest : skip (nodes_length (given T)) T'.nodes ≡ skip (nodes_length (given T)) T.nodes
  pub pages-rest : skip (pages_length (given T)) T'.pages ≡ skip (pages_length (given T)) T.pages

-- the number that a call gives, and the tables that it leaves
pub data Outcome : Type 0 where
  outcome : ℕ → Tables → Outcome

-- the page words and signatures of a page table, by the capacity that T gives; the words behind them are links
abbrev pub page_words : Tables → List ℕ → List ℕ
page_words T pages = take (links_at (given T).pages) pages

-- page p has its class, its row and the signature of that; those of every other page are as they were
pub record PageAdded (T T' : Tables) (p c : ℕ) (x : List ℕ) : Type 0 where
  pub pages : page_words T T'.pages ≡ page_words T (with_page (given T).pages T.pages p c (signature (given T).bits x))
  pub sketches : T'.sketches ≡ with_row (given T).symbols T.sketches p x

-- after 14: words of the tries may have changed, but no page word, no signature and no word of the settings table
pub record Unfinished (T T' : Tables) : Type 0 where
  pub settings : T'.settings ≡ T.settings
  pub pages : page_words T T'.pages ≡ page_words T T.pages

-- an add on a sound store with the tries F
pub record AddedTo (T : Tables) (F : List Tree) (p c : ℕ) (x : List ℕ) (n : ℕ) (T' : Tables) : Type 0 where
  pub answers : n ≡ number T F (add p c x)
  pub tries : n ≡ 0 → Sound T' (forest_after (given T) (rows_of T) (add p c x) F)

pub record AddPromise (T : Tables) (p c : ℕ) (x : List ℕ) (n : ℕ) (T' : Tables) : Type 0 where
  -- 5 to 11 and 15 are asked of any tables: with no tries to count, 12 is passed
  pub early : number T [] (add p c x) ≢ 0 → n ≡ number T [] (add p c x)
  pub sound : (F : List Tree) → Sound T F → AddedTo T F p c x n T'
  -- on any tables, as is all that follows
  pub page : n ≡ 0 → PageAdded T T' p c x
  -- a refusal changes nothing; 14, on unsound tables, may have
  pub refused : n ≢ 0 → n ≢ 14 → T' ≡ T
  pub stopped : n ≡ 14 → Unfinished T T'
  -- the row of page p may be written by then
  pub stopped-row : n ≡ 14 → (T'.sketches ≡ T.sketches) ⊎ (T'.sketches ≡ with_row (given T).symbols T.sketches p x)
  pub rest : SameRest T T'
  -- Past 15 on unsound tables the answer is left open. 12: the free chain has fewer nodes than are needed. 14: of the links followed one
  -- leads outside its table, or on the page's path to a free node; an inner node stands at the packed length; more than 32 siblings, or
  -- more pages than the capacity, stand in one chain; a leaf that is split has a child already, which is no leaf; or the free nodes run
  -- out while the page is put in, though enough were counted, since chains share nodes or pages.
  pub late : number T [] (add p c x) ≡ 0 → (n ≡ 0) ⊎ ((n ≡ 12) ⊎ (n ≡ 14))

-- a drop on a sound store with the tries F
pub record DroppedFrom (T : Tables) (F : List Tree) (p n : ℕ) (T' : Tables) : Type 0 where
  pub answers : n ≡ number T F (drop p)
  pub tries : n ≡ 0 → Sound T' (forest_after (given T) (rows_of T) (drop p) F)

pub record DropPromise (T : Tables) (p n : ℕ) (T' : Tables) : Type 0 where
  pub early : number T [] (drop p) ≢ 0 → n ≡ number T [] (drop p)
  pub sound : (F : List Tree) → Sound T F → DroppedFrom T F p n T'
  -- on any tables, as is all that follows: page p is not live; every other page word, and every signature, is as it was
  pub page : n ≡ 0 → page_words T T'.pages ≡ page_words T (without_page T.pages p)
  pub refused : n ≢ 0 → n ≢ 14 → T' ≡ T
  pub stopped : n ≡ 14 → Unfinished T T'
  pub sketches : T'.sketches ≡ T.sketches
  pub rest : SameRest T T'
  -- 14: of the links followed one leads outside its table, or on the page's path to a free node; an inner node stands at the packed
  -- length; more than 32 siblings, or more pages than the capacity, stand in one chain; or the page, though live, stands in no leaf on
  -- its path.
  pub late : number T [] (drop p) ≡ 0 → (n ≡ 0) ⊎ (n ≡ 14)
