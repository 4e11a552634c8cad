-- What a write keeps. No structure is named here: every operation on the tables goes by these laws.
use Prim.Native.Nat.{ℕ, ◌<◌, ◌≤◌}
use mathlib.Core.Path.{◌≡◌, refl, ◌∙◌, sym}
use mathlib.Core.List.{List}
use native.Mathlib.Omega.{arith}
use borrow.Author.Tests.{eq-eqb, ne_eqb}
use lib.ListN.{length, set}
use lib.Seq.{get_or-set_same, get_or-set_other}
use Rattle.children.specs.Heap.{Cells, hit, node_claims, page_claims, Holds, Heap, nil, node, page, ◌⊕◌}
use Rattle.layout.specs.Tables.{NodeTable, PageTable}

pub hit_other : {a b : ℕ} → (a ≡ b → ⊥) → hit b a ≡ 0
unfolding hit
hit_other {a} {b} e = rw (ne_eqb b a (λ q. e (sym q)))

pub hit_same : {a b : ℕ} → a ≡ b → hit b a ≡ 1
unfolding hit
hit_same {a} {b} e = rw (eq-eqb b a (sym e))

-- each claim of the second is one of the first: the same cells in another order, or fewer
pub record Less (xs ys : Cells) : Type 0 where
  pub holds : (N P : List ℕ) → Holds xs N P → Holds ys N P
  pub nodes : (a : ℕ) → node_claims ys a ≤ node_claims xs a
  pub pages : (a : ℕ) → page_claims ys a ≤ page_claims xs a

pub less : {xs ys : Cells} {N P : List ℕ} → Less xs ys → Heap N P xs → Heap N P ys
less {N} {P} l h =
    record {
      holds = l.holds N P h.holds;
      nodes = λ a. omega (arith, l.nodes a, h.nodes a);
      pages = λ a. omega (arith, l.pages a, h.pages a);
    }

pub less-right : {xs ys : Cells} (zs : Cells) → Less xs ys → Less (zs ⊕ xs) (zs ⊕ ys)
less-right zs l =
    record {
      holds = λ N P h. (h.0, l.holds N P h.1);
      nodes = λ a. omega (arith, l.nodes a);
      pages = λ a. omega (arith, l.pages a);
    }

-- the same cells in another order
pub record Same (xs ys : Cells) : Type 0 where
  pub to : Less xs ys
  pub back : Less ys xs

pub same-assoc : (xs ys zs : Cells) → Same ((xs ⊕ ys) ⊕ zs) (xs ⊕ ys ⊕ zs)
same-assoc xs ys zs =
    record {
      to = record { holds = λ N P h. search; nodes = λ a. omega arith; pages = λ a. omega arith };
      back = record { holds = λ N P h. search; nodes = λ a. omega arith; pages = λ a. omega arith };
    }

pub same-swap : (xs ys zs : Cells) → Same (xs ⊕ ys ⊕ zs) (ys ⊕ xs ⊕ zs)
same-swap xs ys zs =
    record {
      to = record { holds = λ N P h. search; nodes = λ a. omega arith; pages = λ a. omega arith };
      back = record { holds = λ N P h. search; nodes = λ a. omega arith; pages = λ a. omega arith };
    }

-- cells that do not claim a word stay when it is written
node-frame : (N P : List ℕ) (a w : ℕ) (r : Cells) → node_claims r a ≡ 0 → Holds r N P → Holds r (set N a w) P
node-frame N P a w nil z h = tt
node-frame N P a w (node b v) z h = get_or-set_other N a b w 0 (λ e. omega (arith, hit_same (sym e))) ∙ h
node-frame N P a w (page b v) z h = h
node-frame N P a w (x ⊕ y) z h = (node-frame N P a w x (omega arith) h.0, node-frame N P a w y (omega arith) h.1)

page-frame : (N P : List ℕ) (a w : ℕ) (r : Cells) → page_claims r a ≡ 0 → Holds r N P → Holds r N (set P a w)
page-frame N P a w nil z h = tt
page-frame N P a w (node b v) z h = h
page-frame N P a w (page b v) z h = get_or-set_other P a b w 0 (λ e. omega (arith, hit_same (sym e))) ∙ h
page-frame N P a w (x ⊕ y) z h = (page-frame N P a w x (omega arith) h.0, page-frame N P a w y (omega arith) h.1)

-- a word of the node table, or of the page table, written anew
pub node-write : {N P : List ℕ} {a v : ℕ} {r : Cells} (w : ℕ) → Heap N P (node a v ⊕ r) → a < length N → Heap (set N a w) P (node a w ⊕ r)
node-write {N} {P} {a} {v} {r} w h l =
    record {
      holds = (get_or-set_same N a w 0 l, node-frame N P a w r (omega (arith, h.nodes a, hit_same {a = a} refl)) h.holds.1);
      nodes = h.nodes;
      pages = h.pages;
    }

pub page-write : {N P : List ℕ} {a v : ℕ} {r : Cells} (w : ℕ) → Heap N P (page a v ⊕ r) → a < length P → Heap N (set P a w) (page a w ⊕ r)
page-write {N} {P} {a} {v} {r} w h l =
    record {
      holds = (get_or-set_same P a w 0 l, page-frame N P a w r (omega (arith, h.pages a, hit_same {a = a} refl)) h.holds.1);
      nodes = h.nodes;
      pages = h.pages;
    }

-- a table keeps its length
pub nodes-kept : {cap : ℕ} {N N' : List ℕ} → length N' ≡ length N → NodeTable cap N → NodeTable cap N'
nodes-kept e t = record { long = omega (arith, t.long); small = t.small }

pub pages-kept : {pcap base : ℕ} {P P' : List ℕ} → length P' ≡ length P → PageTable pcap base P → PageTable pcap base P'
pages-kept e t = record { long = omega (arith, t.long); small = t.small }
