-- The loop over the blocks that takes the page out of each trie.
use Rattle.std.specs.Prelude.{Option, Some, None}
use Prim.Native.Nat.{ℕ, zero, suc, ◌+◌, ◌-◌, ◌≤◌, ◌<◌}
use native.Mathlib.Omega.{arith}
use native.Mathlib.Numerals.{add-one}
use mathlib.Core.Path.{◌≡◌, refl, sym, ap, ◌∙◌}
use mathlib.Core.List.{List}
use Rattle.meaning.specs.Ledger.{Settings}
use Rattle.meaning.specs.Forest.{bytes_of_sketch}
use Rattle.layout.specs.Header.{header_of, bare}
use Rattle.blocks.specs.RowBytes.{row_bytes}
use Rattle.trie_remove.specs.Remove.{Gone, gone}
use Rattle.drop_laws.specs.Removal.{on_removed, remove_block, remove_from, remove_all}

pub remove-start : (s : Settings) (S : List ℕ) (p : ℕ) (N P : List ℕ) (free : ℕ) → remove_from s S p (s.blocks - 0) 0 N P free ≡ remove_all s S p N P free
unfolding remove_all
remove-start s S p N P free = ap (λ (k : ℕ). remove_from s S p k 0 N P free) (omega arith)

module _ (s : Settings) (S : List ℕ) (p j : ℕ) (N P : List ℕ) (free : ℕ) (R : Gone) (inv : remove_from s S p (s.blocks - j) j N P free ≡ R) where
  pub remove-done : s.blocks ≤ j → gone N P (Some free) ≡ R
  unfolding remove_from
  remove-done h = let e : s.blocks - j ≡ 0 = omega arith in rw (← inv, e) refl

  module _ (h : j < s.blocks) (N' P' : List ℕ) (r : Option ℕ) (e : gone N' P' r ≡ remove_block s S p j N P free) where
    unroll : remove_from s S p (s.blocks - j) j N P free ≡ on_removed (λ N'' P'' free'. remove_from s S p (s.blocks - (j + 1)) (j + 1) N'' P'' free') (remove_block s S p j N P free)
    unfolding remove_from
    unroll = let q : s.blocks - j ≡ suc (s.blocks - (j + 1)) = omega arith in rw (q, add-one j) refl

    step : on_removed (λ N'' P'' free'. remove_from s S p (s.blocks - (j + 1)) (j + 1) N'' P'' free') (gone N' P' r) ≡ R
    step = ap (on_removed (λ N'' P'' free'. remove_from s S p (s.blocks - (j + 1)) (j + 1) N'' P'' free')) e ∙ sym unroll ∙ inv

    pub remove-more : (next : ℕ) → r ≡ Some next → remove_from s S p (s.blocks - (j + 1)) (j + 1) N' P' next ≡ R
    remove-more next m = rw m at step

    pub remove-broken : r ≡ None → gone N' P' None ≡ R
    remove-broken m = rw m at step

-- nothing hangs on the thresholds
pub remove-bare : (s : Settings) (S : List ℕ) (p k j : ℕ) (N P : List ℕ) (free : ℕ) → remove_from (bare (header_of s)) S p k j N P free ≡ remove_from s S p k j N P free
unfolding remove_from remove_block row_bytes bytes_of_sketch
remove-bare s S p zero j N P free = refl
remove-bare s S p (suc k) j N P free = go (remove_block s S p j N P free) (remove-bare s S p k (suc j))
  where
    go : (r : Gone) → ((N' P' : List ℕ) (free' : ℕ) → remove_from (bare (header_of s)) S p k (suc j) N' P' free' ≡ remove_from s S p k (suc j) N' P' free') →
        on_removed (λ N' P' free'. remove_from (bare (header_of s)) S p k (suc j) N' P' free') r ≡ on_removed (λ N' P' free'. remove_from s S p k (suc j) N' P' free') r
    go (gone N' P' (Some free')) ih = ih N' P' free'
    go (gone N' P' None) ih = refl
