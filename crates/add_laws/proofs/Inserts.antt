-- The loop over the blocks that puts the page into each trie.
use Rattle.std.specs.Prelude.{Some, None, Result, Ok, Err, is_err, true}
use mathlib.Core.Bool.{false≢true}
use Prim.Native.Nat.{ℕ, suc, ◌+◌, ◌-◌, ◌≤◌, ◌<◌}
use native.Mathlib.Omega.{arith}
use native.Mathlib.Numerals.{add-one}
use mathlib.Core.Path.{◌≡◌, refl, sym, ap, ◌∙◌}
use mathlib.Core.List.{List}
use Rattle.meaning.specs.Ledger.{Settings}
use Rattle.trie.specs.declared.leaf.Grown.{Grown}
use Rattle.trie.specs.declared.Stop.{Stop}
use Rattle.trie_insert.specs.Pages.{after}
use Rattle.add_laws.specs.Insert.{Filled, filled, on_insert, insert_block, insert_from, insert_all}

pub insert-start : (s : Settings) (S x : List ℕ) (p : ℕ) (N P : List ℕ) (free : ℕ) → insert_from s S x p (s.blocks - 0) 0 N P free ≡ insert_all s S x p N P free
unfolding insert_all
insert-start s S x p N P free = ap (λ (k : ℕ). insert_from s S x p k 0 N P free) (omega arith)

module _ (s : Settings) (S x : List ℕ) (p j : ℕ) (N P : List ℕ) (free : ℕ) (R : Filled) (inv : insert_from s S x p (s.blocks - j) j N P free ≡ R) where
  pub insert-done : s.blocks ≤ j → filled N P (Some free) ≡ R
  unfolding insert_from
  insert-done h = let e : s.blocks - j ≡ 0 = omega arith in rw (← inv, e) refl

  module _ (h : j < s.blocks) (N' P' : List ℕ) (g : Result Grown Stop) (e : after N' P' g ≡ insert_block s S x p j N P free) where
    unroll : insert_from s S x p (s.blocks - j) j N P free ≡ on_insert (λ N'' P'' free'. insert_from s S x p (s.blocks - (j + 1)) (j + 1) N'' P'' free') (insert_block s S x p j N P free)
    unfolding insert_from
    unroll = let q : s.blocks - j ≡ suc (s.blocks - (j + 1)) = omega arith in rw (q, add-one j) refl

    step : on_insert (λ N'' P'' free'. insert_from s S x p (s.blocks - (j + 1)) (j + 1) N'' P'' free') (after N' P' g) ≡ R
    step = ap (on_insert (λ N'' P'' free'. insert_from s S x p (s.blocks - (j + 1)) (j + 1) N'' P'' free')) e ∙ sym unroll ∙ inv

    pub insert-more : (h : Grown) → g ≡ Ok h → insert_from s S x p (s.blocks - (j + 1)) (j + 1) N' P' h.free ≡ R
    insert-more h m = rw m at step

    pub insert-stops : (why : Stop) → g ≡ Err why → filled N' P' None ≡ R
    insert-stops why m = rw m at step

    pub insert-stopped : is_err g ≡ true → filled N' P' None ≡ R
    insert-stopped m = go g refl m
      where
        go : (r : Result Grown Stop) → g ≡ r → is_err r ≡ true → filled N' P' None ≡ R
        go (Ok h) q z = absurd (false≢true z)
        go (Err why) q z = insert-stops why q
