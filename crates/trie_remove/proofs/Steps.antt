-- The models, one step at a time.
use Rattle.std.specs.Prelude.{Some, None, Ok, Err, Result, Option}
use Prim.Native.Nat.{ℕ, suc, ◌+◌, ◌-◌, ◌<◌, ◌≤◌}
use mathlib.Core.Path.{◌≡◌, refl, ap, ◌∙◌, sym}
use mathlib.Core.Bool.{cond}
use mathlib.Core.List.{List}
use native.Mathlib.Omega.{arith}
use borrow.Author.Tests.{le-ltb, lt-ltb, eq-eqb, ne_eqb}
use lib.Dec.{ltb, eqb}
use lib.ListN.{get_or, set}
use Rattle.layout.specs.Pages.{most_pages}
use Rattle.layout.specs.Nodes.{state_at, empty_state}
use Rattle.layout.specs.States.{kind_of, first_of, shorter}
use Rattle.layout.proofs.States.{first-most}
use Rattle.trie.specs.declared.path.Reached.{Reached}
use Rattle.trie.specs.declared.path.Reach.{Reach}
use Rattle.trie.specs.declared.path.Reach.TheVariants.{Leaf, Gap}
use Rattle.trie.specs.declared.path.Passed.{Passed}
use Rattle.trie.specs.Descend.{descend_to, passed_at, Noted, level_of}
use Rattle.trie_remove.specs.declared.Lost.{Lost}
use Rattle.trie_remove.specs.declared.Lost.TheVariants.{Missing, Broken}
use Rattle.trie_remove.specs.Take.{Took, link_in, take_from, take_page, took}
use Rattle.trie_remove.specs.Prune.{Freed, freed, prune_up}
use Rattle.trie_remove.specs.Remove.{shorten_leaf, remove_taken, remove_at, remove_page, Gone, gone, gone_to}
use Rattle.trie_remove.proofs.Prunes.{prune-same}

-- `take_page`, where the page is the first, and where it is not
module _ (P : List ℕ) (pcap base l p : ℕ) where
  module _ (e : l ≡ p + 1) where
    pub first-broken : pcap < get_or P (base + p) 0 → took P (Err Broken) ≡ take_page P pcap base l p
    unfolding take_page
    first-broken w = rw (eq-eqb _ _ e, lt-ltb _ _ w) refl

    pub first_out : get_or P (base + p) 0 ≤ pcap → took P (Ok (get_or P (base + p) 0)) ≡ take_page P pcap base l p
    unfolding take_page
    first_out w = rw (eq-eqb _ _ e, le-ltb _ _ w) refl

  pub not_first : (R : Took) → (l ≡ p + 1 → ⊥) → R ≡ take_from P pcap base p l l pcap → R ≡ take_page P pcap base l p
  unfolding take_page
  not_first R e h = h ∙ rw (ne_eqb _ _ e) refl

-- `take_from` at each way out of a turn. R is what the walk comes to in the end
module _ (P : List ℕ) (pcap base p a l f : ℕ) (R : Took) (inv : take_from P pcap base p a l f ≡ R) where
  pub take_out : f ≡ 0 → took P (Err Broken) ≡ R
  unfolding take_from
  take_out e = rw e at inv

  module _ (h : f ≡ 0 → ⊥) where
    abbrev at : ℕ
    at = base + (l - 1)

    take_step :
        cond (eqb l 0) (took P (Err Missing))
        (cond (ltb pcap l) (took P (Err Broken))
        (cond (eqb (get_or P at 0) (p + 1)) (took (set P at (get_or P (base + p) 0)) (Ok a))
        (take_from P pcap base p a (get_or P at 0) (f - 1)))) ≡ R
    unfolding take_from
    take_step = let e : suc (f - 1) ≡ f = omega arith in ap (take_from P pcap base p a l) e ∙ inv

    pub take_none : l ≡ 0 → took P (Err Missing) ≡ R
    take_none e = rw (eq-eqb _ _ e) at take_step

    module _ (e : l ≡ 0 → ⊥) where
      pub take-broken : pcap < l → took P (Err Broken) ≡ R
      take-broken w = rw (ne_eqb _ _ e, lt-ltb _ _ w) at take_step

      module _ (w : l ≤ pcap) where
        pub take-here : get_or P at 0 ≡ p + 1 → took (set P at (get_or P (base + p) 0)) (Ok a) ≡ R
        take-here q = rw (ne_eqb _ _ e, le-ltb _ _ w, eq-eqb _ _ q) at take_step

        pub take_on : (get_or P at 0 ≡ p + 1 → ⊥) → take_from P pcap base p a (get_or P at 0) (f - 1) ≡ R
        take_on q = rw (ne_eqb _ _ e, le-ltb _ _ w, ne_eqb _ _ q) at take_step

        pub take-further : (next g : ℕ) → next ≡ get_or P at 0 → g ≡ f - 1 → (next ≡ p + 1 → ⊥) → take_from P pcap base p a next g ≡ R
        take-further next g n z q = rw (n, z) (take_on (rw n at q))

-- `shorten_leaf`, by each way
module _ (N : List ℕ) (cap : ℕ) (way : ℕ → Passed) (n s k l free : ℕ) (M : List ℕ) where
  pub shorten-some : M ≡ shorter N cap n l → 0 < l → freed M free ≡ shorten_leaf N cap way n s k l free
  unfolding shorten_leaf
  shorten-some w h = rw (w, lt-ltb _ _ h) refl

  pub shorten-none : M ≡ set N (state_at cap n) empty_state → l ≤ 0 → (R : Freed) → R ≡ prune_up M cap way k n s free → R ≡ shorten_leaf N cap way n s k l free
  unfolding shorten_leaf
  shorten-none w h R e = e ∙ rw (← w, le-ltb _ _ h) refl

-- the links that `shorten_leaf` is given are in range
pub first_small : (N : List ℕ) (cap n first : ℕ) → first ≡ first_of (kind_of N cap n) → first ≤ most_pages
first_small N cap n first e = rw e (first-most N cap n)

pub out-link : (a : Result ℕ Lost) (l : ℕ) → a ≡ Ok l → link_in a ≤ most_pages → l ≤ most_pages
out-link a l e h = rw e at h

-- `remove_at`, by each way
module _ (N P : List ℕ) (cap pcap base : ℕ) (way : ℕ → Passed) (n s k p free first : ℕ) (f : first ≡ first_of (kind_of N cap n)) (ps : List ℕ) (a : Result ℕ Lost) (e : took ps a ≡ take_page P pcap base first p) where
  told : (b : Result ℕ Lost) → a ≡ b → take_page P pcap base (first_of (kind_of N cap n)) p ≡ took ps b
  told b q = rw (← f, ← q) (sym e)

  pub out-to : (l : ℕ) → a ≡ Ok l → remove_at N P cap pcap base way n s k p free ≡ gone_to ps (shorten_leaf N cap way n s k l free)
  unfolding remove_at
  out-to l q = ap (remove_taken N cap way n s k free) (told (Ok l) q)

  pub remove-out : (l : ℕ) (ns : List ℕ) (r : ℕ) → a ≡ Ok l → freed ns r ≡ shorten_leaf N cap way n s k l free →
      gone ns ps (Some r) ≡ remove_at N P cap pcap base way n s k p free
  remove-out l ns r q h = ap (gone_to ps) h ∙ sym (out-to l q)

  pub remove-lost : (why : Lost) → a ≡ Err why → gone N ps None ≡ remove_at N P cap pcap base way n s k p free
  unfolding remove_at
  remove-lost why q = rw (← f, ← e, q) refl

-- only the nodes above level k count
module _ (N P : List ℕ) (cap pcap base : ℕ) (path way : ℕ → Passed) (n s k p free : ℕ) (h : Noted path way k) where
  shorten-same : (l : ℕ) → shorten_leaf N cap path n s k l free ≡ shorten_leaf N cap way n s k l free
  unfolding shorten_leaf
  shorten-same l = ap (cond (ltb 0 l) (freed (shorter N cap n l) free)) (prune-same cap path way k h (set N (state_at cap n) empty_state) n s free)

  at_same : remove_at N P cap pcap base path n s k p free ≡ remove_at N P cap pcap base way n s k p free
  unfolding remove_at
  at_same = go (take_page P pcap base (first_of (kind_of N cap n)) p)
    where
      go : (t : Took) → remove_taken N cap path n s k free t ≡ remove_taken N cap way n s k free t
      go (took ps (Ok l)) = ap (gone_to ps) (shorten-same l)
      go (took ps (Err why)) = refl

-- `remove_page`, by each way
module _ (N P : List ℕ) (cap pcap base root : ℕ) (Y : List ℕ) (p free : ℕ) (r : Option Reach) (e : r ≡ descend_to N cap root Y) where
  pub remove-leaf : (at : Reached) (path : ℕ → Passed) (R : Gone) → r ≡ Some (Leaf at) → Noted path (passed_at N cap root Y) (level_of r) →
      R ≡ remove_at N P cap pcap base path at.node at.slot at.level p free → R ≡ remove_page N P cap pcap base root Y p free
  unfolding remove_page
  remove-leaf at path R q m h = h ∙ at_same N P cap pcap base path (passed_at N cap root Y) at.node at.slot at.level p free (rw q at m) ∙ rw (← e, q) refl

  pub remove-gap : (at : Reached) → r ≡ Some (Gap at) → gone N P None ≡ remove_page N P cap pcap base root Y p free
  unfolding remove_page
  remove-gap at q = rw (← e, q) refl

  pub remove-nowhere : r ≡ None → gone N P None ≡ remove_page N P cap pcap base root Y p free
  unfolding remove_page
  remove-nowhere q = rw (← e, q) refl
