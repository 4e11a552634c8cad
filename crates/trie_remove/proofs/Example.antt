-- A small state, computed: the laws' hypotheses can be met. Three nodes, an inner root over two leaves of a page each; page 1 is taken out.
use Rattle.std.specs.Prelude.{Some}
use Prim.Native.Nat.{ℕ, zero, suc, ◌+◌, ◌≤◌, ◌<◌}
use native.Mathlib.Omega.{arith}
use mathlib.Core.Path.{◌≡◌, refl}
use mathlib.Core.Bool.{Bool, true, false, cond, not, ◌&&◌}
use mathlib.Core.List.{List, [], ◌∷◌, ◌++◌}
use borrow.Author.Tests.{eqb-true, not-true}
use lib.Dec.{eqb, lit<, lit≤}
use lib.ListN.{get_or, replicate}
use Rattle.meaning.specs.Lists.{all, any, count, from, upto}
use Rattle.meaning.specs.Sketch.{per_byte, symbols_at, packable}
use Rattle.meaning.specs.Trie.{byte_at, pages_in}
use Rattle.layout.specs.States.{kind_of, count_of, shorter}
use Rattle.children.specs.Heap.{Cells, hit, node_claims, page_claims, nil, node, page, ◌⊕◌}
use Rattle.children.specs.Order.{bare}
use Rattle.children.specs.Places.{place_from, find_place}
use Rattle.children.specs.Phys.{Phys, no_kid, kid, tree, heads_from, cells, State, leaf_p, inner_p}
use Rattle.trie_laws.specs.Sound.{filled, sound_trie}
use Rattle.meaning.proofs.Lists.{and_first, and_second, count-append, eqb_comm}
use Rattle.trie_laws.proofs.Lists.{holds, fails, truth, any_none}
use Rattle.trie.specs.Descend.{step_to, descend, descend_to, passed_at}
use Rattle.trie.proofs.Arrival.{Leads, sound-leads}
use Rattle.trie_remove.specs.Take.{take_from, take_page}
use Rattle.trie.specs.Model.{free_child}
use Rattle.trie_remove.specs.Prune.{prune_up}
use Rattle.trie_remove.specs.Remove.{shorten_leaf, remove_at, remove_page, gone}
use Rattle.trie_remove.proofs.Removal.{RemoveDone, remove-right}

-- ---- cells at different addresses claim no word twice
abbrev pub nodes_of : Cells → List ℕ
nodes_of nil = []
nodes_of (node a v) = a ∷ []
nodes_of (page a v) = []
nodes_of (xs ⊕ ys) = nodes_of xs ++ nodes_of ys

abbrev pub pages_of : Cells → List ℕ
pages_of nil = []
pages_of (node a v) = []
pages_of (page a v) = a ∷ []
pages_of (xs ⊕ ys) = pages_of xs ++ pages_of ys

hit-count : (a b : ℕ) → hit b a ≡ count (eqb a) (b ∷ [])
unfolding hit count
hit-count a b = rw (eqb_comm b a) (go (eqb a b))
  where
    go : (q : Bool) → cond {A = ℕ} q 1 0 ≡ cond q 1 0 + 0
    go true = refl
    go false = refl

pub node-claims : (xs : Cells) (a : ℕ) → node_claims xs a ≡ count (eqb a) (nodes_of xs)
unfolding count
node-claims nil a = refl
node-claims (node b v) a = hit-count a b
node-claims (page b v) a = refl
node-claims (xs ⊕ ys) a = omega (arith, count-append (eqb a) (nodes_of xs) (nodes_of ys), node-claims xs a, node-claims ys a)

pub page-claims : (xs : Cells) (a : ℕ) → page_claims xs a ≡ count (eqb a) (pages_of xs)
unfolding count
page-claims nil a = refl
page-claims (node b v) a = refl
page-claims (page b v) a = hit-count a b
page-claims (xs ⊕ ys) a = omega (arith, count-append (eqb a) (pages_of xs) (pages_of ys), page-claims xs a, page-claims ys a)

-- no number twice
abbrev pub once : List ℕ → Bool
once [] = true
once (x ∷ xs) = not (any (eqb x) xs) && once xs

pub once-count : (a : ℕ) (xs : List ℕ) → once xs ≡ true → count (eqb a) xs ≤ 1
unfolding count
once-count a [] h = omega arith
once-count a (x ∷ xs) h = elim (truth (eqb a x)) [
  | holds e ↦ rw e (omega (arith, rw (← (eqb-true a x e)) at (any_none (eqb x) xs (not-true (any (eqb x) xs) (and_first (not (any (eqb x) xs)) (once xs) h)))))
  | fails e ↦ rw e (omega (arith, once-count a xs (and_second (not (any (eqb x) xs)) (once xs) h)))
]

-- ---- the tables
abbrev bytes_of : ℕ → List ℕ
bytes_of x = (x + 1) ∷ []

abbrev N : List ℕ
N = 0 ∷ 524291 ∷ 1048576 ∷ 65536 ∷ 65537 ∷ 65538 ∷ 2 ∷ replicate 23 0

abbrev P : List ℕ
P = 0 ∷ 0 ∷ []

abbrev t : Phys
t = inner_p 0 (kid 1 (leaf_p 1 (0 ∷ [])) (kid 2 (leaf_p 2 (1 ∷ [])) no_kid))

state : State 3 2 0 N P 0 t [] nil
unfolding heads_from any
state =
    record {
      node_table = record { long = lit≤ tt; small = lit≤ tt };
      page_table = record { long = lit≤ tt; small = lit≤ tt };
      heap = record {
        holds = ((refl, (search, (refl, (search, (refl, (search, tt)))))), (tt, tt));
        nodes = λ a. rw (node-claims (cells 3 0 t ⊕ nil ⊕ nil) a) (once-count a (nodes_of (cells 3 0 t ⊕ nil ⊕ nil)) refl);
        pages = λ a. rw (page-claims (cells 3 0 t ⊕ nil ⊕ nil) a) (once-count a (pages_of (cells 3 0 t ⊕ nil ⊕ nil)) refl);
      };
      sound = search arith;
      chain = refl;
      below = tt;
    }

-- page 1 stands in it, on its bytes' path
sound : sound_trie bytes_of 8 1 1 0 (tree t) ≡ true
unfolding sound_trie pages_in filled all packable symbols_at per_byte byte_at
sound = refl

stands : any (eqb 1) (pages_in (tree t)) ≡ true
unfolding any pages_in
stands = refl

leads : Leads bytes_of 1 (tree t) (2 ∷ [])
unfolding byte_at
leads = sound-leads bytes_of 8 1 1 (tree t) (2 ∷ []) sound (λ k l. refl) octets
  where
    octets : (k : ℕ) → get_or (2 ∷ []) k 0 < 256
    octets zero = lit< tt
    octets (suc k) = lit< tt

-- it is taken out, and its leaf, node 2, is freed; the root has another child
done : RemoveDone 3 2 0 bytes_of 1 N P t [] nil (remove_page N P 3 2 0 0 (2 ∷ []) 1 0)
done = remove-right bytes_of 1 state leads 8 1 1 sound stands

computed : remove_page N P 3 2 0 0 (2 ∷ []) 1 0 ≡ gone (0 ∷ 524288 ∷ 0 ∷ 65536 ∷ 65537 ∷ 0 ∷ 2 ∷ replicate 23 0) P (Some 3)
unfolding remove_page remove_at shorten_leaf prune_up bare all upto from free_child kind_of take_page descend_to descend step_to passed_at find_place place_from
computed = refl

-- ---- page 0 alone in node 2, below node 1 and the root: both are freed, and the root is an empty leaf
chain : remove_page (0 ∷ 524288 ∷ 1048576 ∷ 65536 ∷ 65536 ∷ 65537 ∷ 2 ∷ replicate 7 0 ++ 3 ∷ replicate 15 0) (0 ∷ []) 3 1 0 0 (1 ∷ 2 ∷ []) 0 0 ≡
    gone (0 ∷ 3 ∷ 0 ∷ 131072 ∷ replicate 26 0) (0 ∷ []) (Some 2)
unfolding remove_page remove_at shorten_leaf prune_up bare all upto from free_child kind_of take_page descend_to descend step_to passed_at find_place place_from
chain = refl

-- ---- pages 2, 1 and 0 in the root, a leaf: whichever is taken out, two are left
abbrev three : List ℕ
three = 0 ∷ 196611 ∷ replicate 8 0

first_out : remove_page three (0 ∷ 1 ∷ 2 ∷ []) 1 3 0 0 [] 2 0 ≡ gone (0 ∷ 131074 ∷ replicate 8 0) (0 ∷ 1 ∷ 2 ∷ []) (Some 0)
unfolding remove_page remove_at shorten_leaf shorter count_of kind_of take_page descend_to descend step_to passed_at
first_out = refl

inside-out : remove_page three (0 ∷ 1 ∷ 2 ∷ []) 1 3 0 0 [] 1 0 ≡ gone (0 ∷ 131075 ∷ replicate 8 0) (0 ∷ 1 ∷ 1 ∷ []) (Some 0)
unfolding remove_page remove_at shorten_leaf shorter count_of kind_of take_page take_from descend_to descend step_to passed_at
inside-out = refl

last_out : remove_page three (0 ∷ 1 ∷ 2 ∷ []) 1 3 0 0 [] 0 0 ≡ gone (0 ∷ 131075 ∷ replicate 8 0) (0 ∷ 0 ∷ 2 ∷ []) (Some 0)
unfolding remove_page remove_at shorten_leaf shorter count_of kind_of take_page take_from descend_to descend step_to passed_at
last_out = refl

-- on damaged tables, where the number was 0, it stays 0
damaged : remove_page (0 ∷ 3 ∷ replicate 8 0) (0 ∷ 1 ∷ 2 ∷ []) 1 3 0 0 [] 2 0 ≡ gone (0 ∷ 2 ∷ replicate 8 0) (0 ∷ 1 ∷ 2 ∷ []) (Some 0)
unfolding remove_page remove_at shorten_leaf shorter count_of kind_of take_page descend_to descend step_to passed_at
damaged = refl
