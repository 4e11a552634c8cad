-- An insertion, on any tables, changes no word outside the nodes and the links of its block, and no length.
use Prim.Native.Nat.{ℕ, zero, suc, ◌+◌, ◌-◌, ◌≤◌, ◌<◌}
use native.Mathlib.Omega.{arith}
use mathlib.Core.Path.{◌≡◌, refl}
use mathlib.Core.Bool.{Bool, true, false, cond}
use Rattle.std.specs.Prelude.{Ok, Err, Option, Some, None}
use mathlib.Core.List.{List}
use borrow.Author.Tests.{eqb-false, ltb-false}
use lib.Dec.{ltb, eqb}
use lib.ListN.{length, get_or}
use Rattle.meaning.specs.Ledger.{Settings}
use Rattle.meaning.specs.Forest.{bytes_of_sketch}
use Rattle.layout.specs.Lengths.{pages_length}
use Rattle.layout.specs.Pages.{next_at, links_at}
use Rattle.layout.specs.Nodes.{state_at, node_words}
use Rattle.layout.proofs.Words.{link-behind}
use Rattle.layout.specs.States.{kind_of, longer}
use Rattle.layout.specs.declared.nodes.Kind.{Kind}
use Rattle.layout.specs.declared.nodes.Kind.TheVariants as kind
use Rattle.blocks.specs.declared.Level.{Level}
use Rattle.blocks.specs.declared.Rows.{Rows}
use Rattle.trie.specs.declared.Stop.TheVariants.{Full}
use Rattle.trie.specs.declared.Stop.TheVariants as stop
use Rattle.children.specs.declared.place.Place.{Place}
use Rattle.children.specs.declared.place.Place.TheVariants.{Found, Missing}
use Rattle.blocks.specs.Tables.{RowTable}
use Rattle.blocks.specs.Packed.{page_byte, level_at}
use Rattle.children.specs.Places.{Inside, find_place}
use Rattle.trie.specs.Model.{grown, Made, made, link_leaf, node_in, fresh_leaf, made_at, child_leaf}
use Rattle.children.proofs.Places.{find-inside}
use Rattle.blocks.proofs.Bytes.{level-table, byte_small}
use Rattle.blocks.proofs.Tables.{links-high}
use Rattle.trie.specs.declared.path.Reach.{Reach}
use Rattle.trie.specs.declared.path.Reach.TheVariants.{Leaf, Gap}
use Rattle.trie.specs.Descend.{descend_to, Inside as ReachInside}
use Rattle.trie.proofs.Inside.{descend-inside}
use Rattle.trie_insert.specs.Pages.{Pushed, pushed, push_at, push_page, After, after, put_done, put_into, put_leaf_m}
use Rattle.trie_insert.specs.Split.{on_put, split_from, open_leaf, too_long, split_leaf, grow_by, grow_into, grow_leaf}
use Rattle.trie_insert.specs.Insert.{Aimed, aimed, target_in, aim_made, aim_at, leaf_for, insert_at, insert_page}
use Rattle.blocks.specs.RowBytes.{rows_of}
use Rattle.store.specs.Within.{Within, Both}
use Rattle.store.proofs.Within.{within_none, within_both, within-set, node-set}
use Rattle.add_laws.specs.Insert.{Filled, filled, on_insert, insert_block, insert_from, insert_all}

-- ---- the node table
module _ (cap : ℕ) where
  -- and the node given lies in it
  abbrev KeptM : List ℕ → Made → Type 0
  KeptM N (made N' g) = Within 0 (node_words cap) N N' × (node_in g ≤ cap)

  abbrev KeptA : List ℕ → Aimed → Type 0
  KeptA N (aimed N' t) = Within 0 (node_words cap) N N' × (target_in t ≤ cap)

  link-kept : (N : List ℕ) (s f b : ℕ) → s < node_words cap → f < cap → Within 0 (node_words cap) N (link_leaf N cap s f b)
  unfolding link_leaf
  link-kept N s f b ls lf =
      within_both (within_both (node-set cap N (state_at cap f) _ (omega arith)) (node-set cap _ f _ (omega arith))) (node-set cap _ s _ ls)

  fresh_kept : (N : List ℕ) (s b free : ℕ) → s < node_words cap → KeptM N (fresh_leaf N cap s b free)
  unfolding fresh_leaf
  fresh_kept N s b free ls = go (eqb free 0) refl (ltb cap free) refl
    where
      go : (t : Bool) → eqb free 0 ≡ t → (u : Bool) → ltb cap free ≡ u →
          KeptM N (cond t (made N (Err Full)) (cond u (made N (Err stop.Broken)) (made (link_leaf N cap s (free - 1) b) (Ok (grown (free - 1) (get_or N (free - 1) 0))))))
      go true e u f = (within_none, omega arith)
      go false e true f = (within_none, omega arith)
      go false e false f =
          let l : free - 1 < cap = omega (arith, eqb-false free 0 e, ltb-false cap free f) in
          (link-kept N s (free - 1) b ls l, omega arith)

  child-kept : (N : List ℕ) (n b free : ℕ) → n < cap → b < 256 → KeptM N (child_leaf N cap n b free)
  unfolding child_leaf
  child-kept N n b free ln lb = go (find_place N cap n b) (find-inside N cap b n ln lb)
    where
      go : (q : Option Place) → Inside cap q → KeptM N (made_at N cap b free q)
      go (Some (Found s c)) i = (within_none, omega (arith, i.child))
      go (Some (Missing s)) i = fresh_kept N s b free i.slot
      go None i = (within_none, omega arith)

  module _ (N Y : List ℕ) (octets : (k : ℕ) → get_or Y k 0 < 256) where
    aim_kept : (root free : ℕ) → root < cap → KeptA N (leaf_for N cap Y root free)
    unfolding leaf_for
    aim_kept root free l = go (descend_to N cap root Y) (descend-inside N cap Y octets root l)
      where
        fresh : (k : ℕ) (m : Made) → KeptM N m → KeptA N (aim_made k m)
        fresh k (made N' (Ok g)) e = e
        fresh k (made N' (Err why)) e = e

        go : (q : Option Reach) → ReachInside cap (length Y) q → KeptA N (aim_at N cap Y free q)
        go (Some (Leaf at)) i = (within_none, omega arith)
        go (Some (Gap at)) i = fresh (at.level + 1) (fresh_leaf N cap at.slot (get_or Y at.level 0) free) (fresh_kept N at.slot (get_or Y at.level 0) free i.1)
        go None i = (within_none, omega arith)

-- ---- both tables, of cap nodes, and pages inside lo .. hi
module _ (cap lo hi : ℕ) where
  abbrev KeptP : List ℕ → List ℕ → Pushed → Type 0
  KeptP N P (pushed N' P' t) = Both cap lo hi N P N' P'

  abbrev pub Kept : List ℕ → List ℕ → After → Type 0
  Kept N P (after N' P' g) = Both cap lo hi N P N' P'

  abbrev pub KeptF : List ℕ → List ℕ → Filled → Type 0
  KeptF N P (filled N' P' g) = Both cap lo hi N P N' P'

-- the links of a block's pages lie from base on
module _ (cap pcap base lo hi : ℕ) (low : lo ≤ base) (high : base + pcap ≤ hi) where
  push_kept : (N P : List ℕ) (n p : ℕ) → n < cap → p < pcap → KeptP cap lo hi N P (push_page N P cap base n p)
  unfolding push_page longer
  push_kept N P n p ln lp = go (kind_of N cap n)
    where
      go : (q : Kind) → KeptP cap lo hi N P (push_at N P cap base n p q)
      go (kind.Leaf first) = (node-set cap N (state_at cap n) _ (omega arith), within-set P (base + p) _ (omega arith) (omega arith))
      go kind.Inner = (within_none, within_none)
      go kind.Free = (within_none, within_none)

  put-kept : (N P : List ℕ) (n b p free : ℕ) → n < cap → b < 256 → p < pcap → Kept cap lo hi N P (put_leaf_m N P cap base n b p free)
  unfolding put_leaf_m
  put-kept N P n b p free ln lb lp = go (child_leaf N cap n b free) (child-kept cap N n b free ln lb)
    where
      into : (N' : List ℕ) (c next : ℕ) → Within 0 (node_words cap) N N' → (q : Pushed) → KeptP cap lo hi N' P q → Kept cap lo hi N P (put_done c next q)
      into N' c next e (pushed N'' P'' (Ok u)) h = (within_both e h.0, h.1)
      into N' c next e (pushed N'' P'' (Err why)) h = (within_both e h.0, h.1)

      go : (m : Made) → KeptM cap N m → Kept cap lo hi N P (put_into P cap base p m)
      go (made N' (Ok g)) e = into N' g.node g.free e.0 (push_page N' P cap base g.node p) (push_kept N' P g.node p (omega (arith, e.1)) lp)
      go (made N' (Err why)) e = (e.0, within_none)

  -- one change after another
  onto : (N P N' P' : List ℕ) → Within 0 (node_words cap) N N' → Within lo hi P P' → (a : After) → Kept cap lo hi N' P' a → Kept cap lo hi N P a
  onto N P N' P' e f (after N'' P'' g) h = (within_both e h.0, within_both f h.1)

  module _ (S : List ℕ) where
    split-kept : (v : Level) (n : ℕ) → n < cap → ((p : ℕ) → page_byte S v p < 256) → (f : ℕ) (N P : List ℕ) (l free : ℕ) →
        Kept cap lo hi N P (split_from S v cap pcap base n N P l free f)
    unfolding split_from
    split-kept v n ln bytes zero N P l free = (within_none, within_none)
    split-kept v n ln bytes (suc f) N P l free =
        go (eqb l 0) refl (ltb pcap l) refl (put_leaf_m N P cap base n (page_byte S v (l - 1)) (l - 1) free)
        (λ h. put-kept N P n (page_byte S v (l - 1)) (l - 1) free ln (bytes (l - 1)) h)
        (λ N' P' free'. split-kept v n ln bytes f N' P' (get_or P (base + (l - 1)) 0) free')
      where
        go : (t : Bool) → eqb l 0 ≡ t → (u : Bool) → ltb pcap l ≡ u → (a : After) → (l - 1 < pcap → Kept cap lo hi N P a)
            → ((N' P' : List ℕ) (free' : ℕ) → Kept cap lo hi N' P' (split_from S v cap pcap base n N' P' (get_or P (base + (l - 1)) 0) free' f))
            → Kept cap lo hi N P (cond t (after N P (Ok (grown n free))) (cond u (after N P (Err stop.Broken))
            (on_put (λ N' P' free'. split_from S v cap pcap base n N' P' (get_or P (base + (l - 1)) 0) free' f) a)))
        go true e u m a h ih = (within_none, within_none)
        go false e true m a h ih = (within_none, within_none)
        go false e false m (after N' P' (Ok g)) h ih =
            let k = h (omega (arith, eqb-false l 0 e, ltb-false pcap l m)) in
            onto N P N' P' k.0 k.1 (split_from S v cap pcap base n N' P' (get_or P (base + (l - 1)) 0) g.free f) (ih N' P' g.free)
        go false e false m (after N' P' (Err why)) h ih = h (omega (arith, eqb-false l 0 e, ltb-false pcap l m))

    module _ (τ : List ℕ) (r : Rows) (rows : RowTable pcap r S) where
      by-kept : (N P : List ℕ) (k n p free : ℕ) → n < cap → (q : Bool) → Kept cap lo hi N P (grow_by S τ r cap pcap base N P k n p free q)
      unfolding split_leaf
      by-kept N P k n p free ln true =
          onto N P (open_leaf N cap n) P (node-set cap N (state_at cap n) _ (omega arith)) within_none
          (split_from S (level_at r k) cap pcap base n (open_leaf N cap n) P (p + 1) free (pcap + 1))
          (split-kept (level_at r k) n ln (λ q. byte_small pcap (level_at r k) S q (level-table pcap r S k rows)) (pcap + 1) (open_leaf N cap n) P (p + 1) free)
      by-kept N P k n p free ln false = (within_none, within_none)

      grow-kept : (N P : List ℕ) (k n p free : ℕ) → n < cap → p < pcap → Kept cap lo hi N P (grow_leaf S τ r cap pcap base N P k n p free)
      unfolding grow_leaf
      grow-kept N P k n p free ln lp = go (push_page N P cap base n p) (push_kept N P n p ln lp)
        where
          go : (q : Pushed) → KeptP cap lo hi N P q → Kept cap lo hi N P (grow_into S τ r cap pcap base k n p free q)
          go (pushed N' P' (Err why)) h = h
          go (pushed N' P' (Ok u)) h =
              onto N P N' P' h.0 h.1 (grow_by S τ r cap pcap base N' P' k n p free (too_long τ r N' cap k n))
              (by-kept N' P' k n p free ln (too_long τ r N' cap k n))

      insert-kept : (N P Y : List ℕ) → ((k : ℕ) → get_or Y k 0 < 256) → (root p free : ℕ) → root < cap → p < pcap →
          Kept cap lo hi N P (insert_page S τ r cap pcap base N P Y root p free)
      unfolding insert_page
      insert-kept N P Y octets root p free lr lp = go (leaf_for N cap Y root free) (aim_kept cap N Y octets root free lr)
        where
          go : (q : Aimed) → KeptA cap N q → Kept cap lo hi N P (insert_at S τ r cap pcap base P p q)
          go (aimed N' (Ok t)) e =
              onto N P N' P e.0 within_none (grow_leaf S τ r cap pcap base N' P t.level t.leaf p t.free) (grow-kept N' P t.level t.leaf p t.free (omega (arith, e.1)) lp)
          go (aimed N' (Err why)) e = (e.0, within_none)

-- ---- the blocks of an add
module _ (s : Settings) (S x : List ℕ) (p : ℕ) (page : p < s.pages)
    (octets : (j k : ℕ) → get_or (bytes_of_sketch s j x) k 0 < 256)
    (rows : (j : ℕ) → j < s.blocks → RowTable s.pages (rows_of s j) S) where
  abbrev KeptAll : List ℕ → List ℕ → Filled → Type 0
  KeptAll = KeptF s.nodes (links_at s.pages) (pages_length s)

  pub block-kept : (j : ℕ) → j < s.blocks → j < s.nodes → (N P : List ℕ) (free : ℕ) → Kept s.nodes (links_at s.pages) (pages_length s) N P (insert_block s S x p j N P free)
  unfolding insert_block
  block-kept j l root N P free =
      insert-kept s.nodes s.pages (next_at s.pages j) (links_at s.pages) (pages_length s) (omega (arith, link-behind s.pages j 0)) (links-high s j l)
      S s.thresholds (rows_of s j) (rows j l) N P (bytes_of_sketch s j x) (octets j) j p free root page

  from-kept : s.blocks ≤ s.nodes → (k j : ℕ) → j + k ≤ s.blocks → (N P : List ℕ) (free : ℕ) → KeptAll N P (insert_from s S x p k j N P free)
  unfolding insert_from
  from-kept roots zero j l N P free = (within_none, within_none)
  from-kept roots (suc k) j l N P free =
      go (insert_block s S x p j N P free) (block-kept j (omega arith) (omega arith) N P free) (λ N' P' free'. from-kept roots k (suc j) (omega arith) N' P' free')
    where
      more : (N' P' : List ℕ) → Both s.nodes (links_at s.pages) (pages_length s) N P N' P' → (a : Filled) → KeptAll N' P' a → KeptAll N P a
      more N' P' e (filled N'' P'' i) h = (within_both e.0 h.0, within_both e.1 h.1)

      go : (a : After) → Kept s.nodes (links_at s.pages) (pages_length s) N P a
          → ((N' P' : List ℕ) (free' : ℕ) → KeptAll N' P' (insert_from s S x p k (suc j) N' P' free'))
          → KeptAll N P (on_insert (λ N' P' free'. insert_from s S x p k (suc j) N' P' free') a)
      go (after N' P' (Ok g)) h ih = more N' P' h (insert_from s S x p k (suc j) N' P' g.free) (ih N' P' g.free)
      go (after N' P' (Err why)) h ih = h

  pub all-kept : s.blocks ≤ s.nodes → (N P : List ℕ) (free : ℕ) → KeptAll N P (insert_all s S x p N P free)
  unfolding insert_all
  all-kept roots N P free = from-kept roots s.blocks 0 (omega arith) N P free
