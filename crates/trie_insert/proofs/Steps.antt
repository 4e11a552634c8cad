-- The models, one step at a time.
use Prim.Native.Nat.{ℕ, ◌+◌, ◌-◌, ◌<◌, ◌≤◌}
use mathlib.Core.Path.{◌≡◌, refl, ap, ◌∙◌, sym}
use mathlib.Core.List.{List}
use Rattle.std.specs.Prelude.{Result, Ok, Err, Option, Some, None}
use mathlib.Core.Bool.{Bool, true, false, cond, false≢true}
use native.Mathlib.Omega.{arith}
use borrow.Author.Tests.{le-ltb, lt-ltb, eq-eqb, ne_eqb, ltb-true, ltb-false}
use lib.Dec.{ltb, eqb}
use lib.ListN.{get_or}
use Rattle.layout.specs.States.{kind_of, count_of}
use Rattle.layout.specs.declared.nodes.Kind.{Kind}
use Rattle.layout.specs.declared.nodes.Kind.TheVariants as kind
use Rattle.blocks.specs.declared.Level.{Level}
use Rattle.blocks.specs.declared.Rows.{Rows}
use Rattle.trie.specs.declared.leaf.Grown.{Grown}
use Rattle.trie.specs.declared.Stop.{Stop}
use Rattle.trie.specs.declared.Stop.TheVariants as stop
use Rattle.blocks.specs.Tables.{RowTable}
use Rattle.blocks.specs.Packed.{page_byte, level_at}
use Rattle.trie.specs.Model.{made, grown, fresh_leaf, child_leaf}
use Rattle.children.proofs.Steps.{suc-pred}
use Rattle.trie.specs.declared.path.Reached.{Reached}
use Rattle.trie.specs.declared.path.Reach.{Reach}
use Rattle.trie.specs.declared.path.Reach.TheVariants.{Leaf, Gap}
use Rattle.trie.specs.Descend.{descend_to}
use Rattle.trie_insert.specs.declared.insert.Target.{Target}
use Rattle.trie_insert.specs.Pages.{push_nodes, push_pages, pushed, push_page, After, after, put_leaf_m}
use Rattle.trie_insert.specs.Split.{on_put, split_from, open_leaf, too_long, split_leaf, grow_by, grow_into, grow_leaf}
use Rattle.trie_insert.specs.Insert.{aimed, ready, target_in, aim_made, aim_at, leaf_for, insert_at, insert_page}

-- `push_page`, by each way
module _ (N P : List ℕ) (cap base n p : ℕ) (q : Kind) (e : q ≡ kind_of N cap n) where
  pub push-inner : q ≡ kind.Inner → pushed N P (Err stop.Broken) ≡ push_page N P cap base n p
  unfolding push_page
  push-inner z = rw (← e, z) refl

  pub push-free : q ≡ kind.Free → pushed N P (Err stop.Broken) ≡ push_page N P cap base n p
  unfolding push_page
  push-free z = rw (← e, z) refl

  pub push-done : (first : ℕ) → q ≡ kind.Leaf first → (ns : List ℕ) → ns ≡ push_nodes N cap n p → pushed ns (push_pages P base p first) (Ok tt) ≡ push_page N P cap base n p
  unfolding push_page
  push-done first z ns w = rw (← e, z, w) refl

-- `put_leaf_m`, by each way
module _ (N P : List ℕ) (cap base n b p free : ℕ) (ns : List ℕ) (g : Result Grown Stop) (e : made ns g ≡ child_leaf N cap n b free) where
  module _ (h : Grown) (q : g ≡ Ok h) (ns' ps' : List ℕ) (done : Result (Unit {0}) Stop) (u : pushed ns' ps' done ≡ push_page ns P cap base h.node p) where
    pub put-done : done ≡ Ok tt → after ns' ps' (Ok h) ≡ put_leaf_m N P cap base n b p free
    unfolding put_leaf_m
    put-done z = rw (← e, q, ← u, z) refl

    pub put-nowhere : (why : Stop) → done ≡ Err why → after ns' ps' (Err why) ≡ put_leaf_m N P cap base n b p free
    unfolding put_leaf_m
    put-nowhere why z = rw (← e, q, ← u, z) refl

  pub put-stops : (why : Stop) → g ≡ Err why → after ns P (Err why) ≡ put_leaf_m N P cap base n b p free
  unfolding put_leaf_m
  put-stops why q = rw (← e, q) refl

-- `split_from` at each way out of a turn. R is what the walk comes to in the end
module _ (S : List ℕ) (v : Level) (cap pcap base n : ℕ) (N P : List ℕ) (l free f : ℕ) (R : After) (inv : split_from S v cap pcap base n N P l free f ≡ R) where
  pub split-out : f ≡ 0 → after N P (Err stop.Broken) ≡ R
  unfolding split_from
  split-out e = rw e at inv

  module _ (h : f ≡ 0 → ⊥) where
    split_step :
        cond (eqb l 0) (after N P (Ok (grown n free)))
        (cond (ltb pcap l) (after N P (Err stop.Broken))
        (on_put (λ N' P' free'. split_from S v cap pcap base n N' P' (get_or P (base + (l - 1)) 0) free' (f - 1))
        (put_leaf_m N P cap base n (page_byte S v (l - 1)) (l - 1) free))) ≡ R
    unfolding split_from
    split_step = ap (split_from S v cap pcap base n N P l free) (sym (suc-pred f h)) ∙ inv

    pub split-end : l ≡ 0 → after N P (Ok (grown n free)) ≡ R
    split-end e = rw (eq-eqb l 0 e) at split_step

    module _ (e : l ≡ 0 → ⊥) where
      pub split-broken : pcap ≤ l - 1 → after N P (Err stop.Broken) ≡ R
      split-broken m = rw (ne_eqb l 0 e, lt-ltb pcap l (omega arith)) at split_step

      module _ (m : l - 1 < pcap) (ns ps : List ℕ) (y : ℕ) (g : Result Grown Stop) (b : y ≡ page_byte S v (l - 1)) (u : after ns ps g ≡ put_leaf_m N P cap base n y (l - 1) free) where
        split-go : on_put (λ N' P' free'. split_from S v cap pcap base n N' P' (get_or P (base + (l - 1)) 0) free' (f - 1)) (after ns ps g) ≡ R
        split-go =
            ap (on_put (λ N' P' free'. split_from S v cap pcap base n N' P' (get_or P (base + (l - 1)) 0) free' (f - 1))) (u ∙ ap (λ (z : ℕ). put_leaf_m N P cap base n z (l - 1) free) b) ∙
            rw (ne_eqb l 0 e, le-ltb pcap l (omega arith)) at split_step

        pub split-next : (h : Grown) (k : ℕ) → k ≡ f - 1 → g ≡ Ok h → split_from S v cap pcap base n ns ps (get_or P (base + (l - 1)) 0) h.free k ≡ R
        split-next h k z q = rw z (rw q at split-go)

        pub split-stops : (why : Stop) → g ≡ Err why → after ns ps (Err why) ≡ R
        split-stops why q = rw q at split-go

-- `too_long`, by each way
module _ (τ : List ℕ) (r : Rows) (N : List ℕ) (cap k n : ℕ) where
  pub long-deep : r.bytes ≤ k → false ≡ too_long τ r N cap k n
  unfolding too_long
  long-deep h = rw (le-ltb k r.bytes h) refl

  pub long-count : k < r.bytes → (count : ℕ) → count ≡ count_of N cap n → ltb (get_or τ k 0) count ≡ too_long τ r N cap k n
  unfolding too_long
  long-count h count e = rw (lt-ltb k r.bytes h, e) refl

  pub long-below : (pcap : ℕ) (S : List ℕ) (b : Bool) → b ≡ too_long τ r N cap k n → b ≡ true → RowTable pcap r S → k < 64
  long-below pcap S b e q t = go (ltb k r.bytes) refl
    where
      go : (b : Bool) → ltb k r.bytes ≡ b → k < 64
      go true h = omega (arith, ltb-true k r.bytes h, t.short)
      go false h = absurd (false≢true (long-deep (ltb-false k r.bytes h) ∙ sym e ∙ q))

-- `grow_leaf`, by each way
module _ (S τ : List ℕ) (r : Rows) (cap pcap base : ℕ) (N P : List ℕ) (k n p free : ℕ) (ns ps : List ℕ) (done : Result (Unit {0}) Stop) (e : pushed ns ps done ≡ push_page N P cap base n p) where
  grow-step : grow_into S τ r cap pcap base k n p free (pushed ns ps done) ≡ grow_leaf S τ r cap pcap base N P k n p free
  unfolding grow_leaf
  grow-step = ap (grow_into S τ r cap pcap base k n p free) e

  pub grow-none : (why : Stop) → done ≡ Err why → after ns ps (Err why) ≡ grow_leaf S τ r cap pcap base N P k n p free
  grow-none why d = rw d at grow-step

  module _ (d : done ≡ Ok tt) (g : Bool) (q : g ≡ too_long τ r ns cap k n) where
    grow-by : grow_by S τ r cap pcap base ns ps k n p free g ≡ grow_leaf S τ r cap pcap base N P k n p free
    grow-by = ap (grow_by S τ r cap pcap base ns ps k n p free) q ∙ rw d at grow-step

    pub grow-short : g ≡ false → after ns ps (Ok (grown n free)) ≡ grow_leaf S τ r cap pcap base N P k n p free
    grow-short z = rw z at grow-by

    pub grow-split : g ≡ true → (ns' ps' : List ℕ) (a : Result Grown Stop) → after ns' ps' a ≡ split_leaf S r cap pcap base ns ps k n (p + 1) free → after ns' ps' a ≡ grow_leaf S τ r cap pcap base N P k n p free
    grow-split z ns' ps' a u = u ∙ rw z at grow-by

-- `split_leaf`, from its parts
pub split-leaf : (S : List ℕ) (r : Rows) (cap pcap base : ℕ) (N P : List ℕ) (k n l free : ℕ) (v : Level) (ns ns' ps' : List ℕ) (a : Result Grown Stop) →
    v ≡ level_at r k → ns ≡ open_leaf N cap n → after ns' ps' a ≡ split_from S v cap pcap base n ns P l free (pcap + 1) → after ns' ps' a ≡ split_leaf S r cap pcap base N P k n l free
unfolding split_leaf
split-leaf S r cap pcap base N P k n l free v ns ns' ps' a e o u = rw (← e, ← o) u

-- `leaf_for`, by each way
module _ (N : List ℕ) (cap : ℕ) (Y : List ℕ) (root free : ℕ) (x : Option Reach) (e : x ≡ descend_to N cap root Y) where
  aim-step : aim_at N cap Y free x ≡ leaf_for N cap Y root free
  unfolding leaf_for
  aim-step = ap (aim_at N cap Y free) e

  pub aim-leaf : (at : Reached) → x ≡ Some (Leaf at) → aimed N (Ok (ready at.node at.level free)) ≡ leaf_for N cap Y root free
  aim-leaf at q = rw q at aim-step

  pub aim-nowhere : x ≡ None → aimed N (Err stop.Broken) ≡ leaf_for N cap Y root free
  aim-nowhere q = rw q at aim-step

  module _ (at : Reached) (q : x ≡ Some (Gap at)) (ns : List ℕ) (g : Result Grown Stop) (u : made ns g ≡ fresh_leaf N cap at.slot (get_or Y at.level 0) free) where
    aim-gap : aim_made (at.level + 1) (made ns g) ≡ leaf_for N cap Y root free
    aim-gap = ap (aim_made (at.level + 1)) u ∙ rw q at aim-step

    pub aim-made : (h : Grown) → g ≡ Ok h → aimed ns (Ok (ready h.node (at.level + 1) h.free)) ≡ leaf_for N cap Y root free
    aim-made h z = rw z at aim-gap

    pub aim-stops : (why : Stop) → g ≡ Err why → aimed ns (Err why) ≡ leaf_for N cap Y root free
    aim-stops why z = rw z at aim-gap

-- the bound that a match tells
pub target-in : (cap : ℕ) (x : Result Target Stop) (t : Target) → x ≡ Ok t → target_in x ≤ cap → t.leaf < cap
target-in cap x t e h = rw e at h

-- `insert_page`, by each way
module _ (S τ : List ℕ) (r : Rows) (cap pcap base : ℕ) (N P Y : List ℕ) (root p free : ℕ) (ns : List ℕ) (x : Result Target Stop) (e : aimed ns x ≡ leaf_for N cap Y root free) where
  insert-step : insert_at S τ r cap pcap base P p (aimed ns x) ≡ insert_page S τ r cap pcap base N P Y root p free
  unfolding insert_page
  insert-step = ap (insert_at S τ r cap pcap base P p) e

  pub insert-grow : (t : Target) → x ≡ Ok t → (ns' ps' : List ℕ) (a : Result Grown Stop) → after ns' ps' a ≡ grow_leaf S τ r cap pcap base ns P t.level t.leaf p t.free →
      after ns' ps' a ≡ insert_page S τ r cap pcap base N P Y root p free
  insert-grow t q ns' ps' a u = u ∙ rw q at insert-step

  pub insert-stops : (why : Stop) → x ≡ Err why → after ns P (Err why) ≡ insert_page S τ r cap pcap base N P Y root p free
  insert-stops why q = rw q at insert-step
