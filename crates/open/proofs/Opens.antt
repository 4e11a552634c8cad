-- An opening: its number by the tests on the way, and the tables that its leaves write.
use Prim.Native.Nat.{ℕ, ◌+◌, ◌≤◌, ◌<◌}
use native.Mathlib.Omega.{arith}
use mathlib.Core.Path.{◌≡◌, sym, ◌∙◌}
use mathlib.Core.Bool.{Bool, true, false, cond, ◌&&◌}
use mathlib.Core.List.{List, [], ◌∷◌, ◌++◌}
use borrow.Author.Tests.{ne_eqb, leb-true, eqb-true}
use lib.ListN.{length, get_or, set, drop, replicate, length-replicate, length-append, length-drop}
use Rattle.meaning.specs.Lists.{onto}
use Rattle.meaning.specs.Refusal.{first_no}
use Rattle.meaning.specs.Ledger.{Settings, opening}
use Rattle.meaning.specs.Questions.{asked}
use Rattle.meaning.proofs.Lists.{and_first, and_second}
use Rattle.layout.specs.declared.Numbers.{Numbers}
use Rattle.layout.specs.Settings.{settings_length, header, with_header, members_at, register_length, free_at}
use Rattle.layout.specs.Header.{bare, with_thresholds}
use Rattle.layout.specs.Limits.{limits_of}
use Rattle.layout.specs.Lengths.{nodes_length, pages_length, sketches_length, working_length}
use Rattle.layout.specs.Working.{map_words, summary_words}
use Rattle.layout.proofs.Limits.{limits_on, limits-lent}
use Rattle.words.specs.Bits.{zeroed}
use Rattle.promises.specs.Tables.{Tables}
use Rattle.promises.specs.Answers.{number, entered, long_settings, long_for, long_nodes, long_pages, long_working, free_link, fresh_settings, fresh_chain, fresh_state, fresh_nodes, fresh_pages, opened}
use Rattle.promises.specs.Calls.{OpenPromise}
use Rattle.fresh_tables.proofs.Runs.{sets-append, onto-sets, onto-append, zeroed-sets}

-- ---- the settings table: a list of a elements, n zeros and a word behind them
written : (xs ws : List ℕ) (a n v : ℕ) → length xs ≡ a → a + n < length ws
    → set (zeroed (xs ++ drop a ws) a n) (a + n) v ≡ onto (xs ++ (replicate n 0 ++ v ∷ [])) ws
unfolding onto
written xs ws a n v long h =
    let zs : List ℕ = replicate n 0 in
    let count : length zs ≡ n = length-replicate n 0 in
    let all : length xs + length (zs ++ v ∷ []) ≤ length ws = omega (arith, length-append zs (v ∷ [])) in
    let inside : a + n ≤ length (xs ++ drop a ws) = omega (arith, length-append xs (drop a ws), length-drop a ws) in
    rw (
      onto-append xs (zs ++ v ∷ []) ws all,
      sets-append zs (v ∷ []) (onto xs ws) (length xs),
      zeroed-sets (xs ++ drop a ws) a n inside,
      count,
      long,
    )

length-header : (s : Settings) → length s.thresholds ≡ 64 → length (header s) ≡ 70
unfolding header
length-header s count = rw count

pub settings-written : (s : Settings) (ws : List ℕ) → length s.thresholds ≡ 64 → settings_length ≤ length ws
    → set (zeroed (with_header ws s) members_at register_length) free_at (free_link s.nodes s.blocks) ≡ onto (fresh_settings s) ws
unfolding fresh_settings with_header
settings-written s ws count long = written (header s) ws members_at register_length (free_link s.nodes s.blocks) (length-header s count) (omega arith)

-- ---- the page table
pub pages-written : (s : Settings) (ps : List ℕ) → pages_length s ≤ length ps → zeroed ps 0 (pages_length s) ≡ onto (fresh_pages s) ps
unfolding fresh_pages
pages-written s ps long =
    let zs : List ℕ = replicate (pages_length s) 0 in
    let count : length zs ≡ pages_length s = length-replicate (pages_length s) 0 in
    zeroed-sets ps 0 (pages_length s) (omega arith) ∙ sym (onto-sets zs ps (omega arith))

-- ---- 5, by the header
abbrev pub all_long : Numbers → Tables → Bool
all_long h T = long_settings T && long_for (bare h) T (opening (bare h))

-- each table that is written is long enough
pub all-long : (h : Numbers) (T : Tables) → all_long h T ≡ true
    → (settings_length ≤ length T.settings) × (nodes_length (bare h) ≤ length T.nodes) × (pages_length (bare h) ≤ length T.pages)
unfolding long_settings long_for long_nodes long_pages
all-long h T long = (
  leb-true settings_length (length T.settings) (search and_first),
  leb-true (nodes_length (bare h)) (length T.nodes) (search (and_first, and_second)),
  leb-true (pages_length (bare h)) (length T.pages) (search (and_first, and_second)),
)

pub count-given : (h : Numbers) (count : ℕ) → limits_on h count ≡ true → count ≡ 64
unfolding limits_of
count-given h count e = eqb-true count 64 (search and_second)

-- ---- the ways out
refused : (s : Settings) (T : Tables) (n : ℕ) → number T [] (opening s) ≡ n → (n ≡ 0 → ⊥) → OpenPromise s T n T.settings T.nodes T.pages
refused s T n e h = record {
  answers = sym e;
  settings-left = rw (e, ne_eqb n 0 h);
  nodes-left = rw (e, ne_eqb n 0 h);
  pages-left = rw (e, ne_eqb n 0 h);
}

-- of an opening with these arguments, each threshold of 16 bits
module _ (h : Numbers) (ts : List ℕ) (short : (k : ℕ) → get_or ts k 0 < 65536) (T : Tables) where
  abbrev s : Settings
  s = with_thresholds h ts

  by_tests : number T [] (opening s) ≡ cond (limits_on h (length ts)) (cond (all_long h T) 0 5) 4
  unfolding number entered asked first_no long_for long_nodes long_pages long_working
      nodes_length pages_length sketches_length working_length map_words summary_words
  by_tests = rw (limits-lent s short)

  pub open-4 : limits_on h (length ts) ≡ false → OpenPromise s T 4 T.settings T.nodes T.pages
  open-4 e = refused s T 4 (by_tests ∙ rw e) (omega arith)

  module _ (within : limits_on h (length ts) ≡ true) where
    pub open-5 : all_long h T ≡ false → OpenPromise s T 5 T.settings T.nodes T.pages
    open-5 e = refused s T 5 (by_tests ∙ rw (within, e)) (omega arith)

    pub open_done : all_long h T ≡ true
        → (ws ns ps : List ℕ)
        → ws ≡ onto (fresh_settings s) T.settings
        → ns ≡ onto (fresh_nodes (bare h)) T.nodes
        → ps ≡ onto (fresh_pages (bare h)) T.pages
        → OpenPromise s T 0 ws ns ps
    unfolding opened fresh_nodes fresh_chain fresh_state fresh_pages pages_length
    open_done e ws ns ps settings nodes pages =
        let z : number T [] (opening s) ≡ 0 = by_tests ∙ rw (within, e) in
        record { answers = sym z; settings-left = rw z settings; nodes-left = rw z nodes; pages-left = rw z pages }
