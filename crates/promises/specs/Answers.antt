-- A call's refusal number, by the questions of documents 01 and 02 in their order, and the tables that it leaves.
use Rattle.std.specs.Prelude.{ℕ, suc, ◌*◌, Bool, true, cond, ◌&&◌, List, [], ◌∷◌, ◌++◌, map, ltb, leb, length, replicate}
use Rattle.meaning.specs.Lists.{onto, upto}
use Rattle.meaning.specs.Refusal.{Question, ask, first_no}
use Rattle.meaning.specs.Trie.{Tree}
use Rattle.meaning.specs.Ledger.{Settings, Call, if_opening}
use Rattle.meaning.specs.Questions.{in_limits, asked}
use Rattle.layout.specs.Settings.{settings_length, register_length, header, shows_opening}
use Rattle.layout.specs.Nodes.{free_state, empty_state}
use Rattle.layout.specs.Lengths.{nodes_length, pages_length, sketches_length, working_length}
use Rattle.promises.specs.Tables.{Tables, takes, given, by_tables}

-- is each table that a call takes, but the settings table and the output, long enough for the settings and capacities?
unfoldable pub long_nodes : Settings → Tables → Bool
long_nodes s T = leb (nodes_length s) (length T.nodes)

unfoldable pub long_pages : Settings → Tables → Bool
long_pages s T = leb (pages_length s) (length T.pages) && leb (sketches_length s) (length T.sketches)

unfoldable pub long_working : Settings → Tables → Bool
long_working s T = leb (working_length s) (length T.working)

-- a test more, where it is asked
abbrev and_if : Bool → Bool → Bool → Bool
and_if asked tests test = cond asked (tests && test) tests

unfoldable pub long_for : Settings → Tables → Call → Bool
long_for s T c =
    and_if (takes c).working (and_if (takes c).pages (and_if (takes c).nodes true (long_nodes s T)) (long_pages s T)) (long_working s T)

-- 5: is the settings table long enough?
unfoldable pub long_settings : Tables → Bool
long_settings T = leb settings_length (length T.settings)

-- 5 and 6 of every call but an opening
unfoldable pub shown56 : Tables → Call → List Question
shown56 T c = ask 5 (long_settings T) ∷ ask 6 (shows_opening T.settings && long_for (given T) T c) ∷ []

-- 4 to 6
unfoldable pub entered : Tables → Call → List Question
entered T c = if_opening c (λ s. ask 4 (in_limits s) ∷ ask 5 (long_settings T && long_for s T c) ∷ []) (shown56 T c)

-- the number of the first "no", from the tables and the tries that they hold; 0 where there is none
unfoldable pub number : Tables → List Tree → Call → ℕ
number T F c = first_no (entered T c ++ asked (by_tables T F) c)

-- ---- what an opening lays out

-- the free nodes are those past the roots, in rising order
unfoldable pub free_link : ℕ → ℕ → ℕ
free_link N x = cond (ltb x N) (suc x) 0

unfoldable pub fresh_settings : Settings → List ℕ
fresh_settings s = header s ++ (replicate register_length 0 ++ free_link s.nodes s.blocks ∷ [])

-- the chain words of the first x nodes, the state words, and no children
unfoldable pub fresh_chain : Settings → ℕ → ℕ
fresh_chain s x = cond (ltb x s.blocks) 0 (free_link s.nodes (suc x))

unfoldable pub fresh_state : Settings → ℕ → ℕ
fresh_state s x = cond (ltb x s.blocks) empty_state free_state

unfoldable pub fresh_nodes : Settings → List ℕ
fresh_nodes s = map (fresh_chain s) (upto s.nodes) ++ (map (fresh_state s) (upto s.nodes) ++ replicate (8 * s.nodes) 0)

unfoldable pub fresh_pages : Settings → List ℕ
fresh_pages s = replicate (pages_length s) 0

unfoldable pub opened : Settings → Tables → Tables
opened s T = record {
  settings = onto (fresh_settings s) T.settings;
  nodes = onto (fresh_nodes s) T.nodes;
  pages = onto (fresh_pages s) T.pages;
  sketches = T.sketches;
  working = T.working;
}
