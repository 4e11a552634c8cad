-- A leaf split where it is too long: pcap is the capacity of pages, S the sketch table.
use Rattle.std.specs.Prelude.{ℕ, zero, suc, ◌+◌, ◌-◌, List, Bool, true, false, cond, ◌&&◌, ltb, eqb, get_or, set, Ok, Err}
use Rattle.layout.specs.Nodes.{state_at, inner_state}
use Rattle.layout.specs.States.{count_of}
use Rattle.blocks.specs.declared.Level.{Level}
use Rattle.blocks.specs.declared.Rows.{Rows}
use Rattle.trie.specs.Model.{grown}
use Rattle.trie.specs.declared.Stop.TheVariants as stop
use Rattle.blocks.specs.Packed.{page_byte, level_at}
use Rattle.trie_insert.specs.Pages.{Pushed, pushed, push_page, After, after, put_leaf_m}

abbrev pub on_put : (List ℕ → List ℕ → ℕ → After) → After → After
on_put go (after N P (Ok g)) = go N P g.free
on_put go (after N P (Err e)) = after N P (Err e)

-- the pages of a chain from link l on, each in turn put into the child leaf of its byte, fewer than f
unfoldable pub split_from : List ℕ → Level → ℕ → ℕ → ℕ → ℕ → List ℕ → List ℕ → ℕ → ℕ → ℕ → After
split_from S v cap pcap base n N P l free zero = after N P (Err stop.Broken)
split_from S v cap pcap base n N P l free (suc f) =
    cond (eqb l 0) (after N P (Ok (grown n free)))
    (cond (ltb pcap l) (after N P (Err stop.Broken))
    (on_put (λ N' P' free'. split_from S v cap pcap base n N' P' (get_or P (base + (l - 1)) 0) free' f)
    (put_leaf_m N P cap base n (page_byte S v (l - 1)) (l - 1) free)))

-- leaf n as an inner node
abbrev pub open_leaf : List ℕ → ℕ → ℕ → List ℕ
open_leaf N cap n = set N (state_at cap n) inner_state

-- whether leaf n at level k is too long, by the number that stands in it; τ are the thresholds
unfoldable pub too_long : List ℕ → Rows → List ℕ → ℕ → ℕ → ℕ → Bool
too_long τ r N cap k n = ltb k r.bytes && ltb (get_or τ k 0) (count_of N cap n)

-- leaf n at level k as an inner node, its pages, from link l on, in leaves below
unfoldable pub split_leaf : List ℕ → Rows → ℕ → ℕ → ℕ → List ℕ → List ℕ → ℕ → ℕ → ℕ → ℕ → After
split_leaf S r cap pcap base N P k n l free = split_from S (level_at r k) cap pcap base n (open_leaf N cap n) P l free (pcap + 1)

-- page p put into leaf n at level k, which is split where it is too long then
module _ (S τ : List ℕ) (r : Rows) (cap pcap base : ℕ) where
  abbrev pub grow_by : List ℕ → List ℕ → ℕ → ℕ → ℕ → ℕ → Bool → After
  grow_by N P k n p free true = split_leaf S r cap pcap base N P k n (p + 1) free
  grow_by N P k n p free false = after N P (Ok (grown n free))

  abbrev pub grow_into : ℕ → ℕ → ℕ → ℕ → Pushed → After
  grow_into k n p free (pushed N P (Err e)) = after N P (Err e)
  grow_into k n p free (pushed N P (Ok u)) = grow_by N P k n p free (too_long τ r N cap k n)

  unfoldable pub grow_leaf : List ℕ → List ℕ → ℕ → ℕ → ℕ → ℕ → After
  grow_leaf N P k n p free = grow_into k n p free (push_page N P cap base n p)
