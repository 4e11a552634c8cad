-- The tables determine the trie at a root.
use Prim.Native.Nat.{ℕ, suc, ◌+◌, ◌≤◌}
use native.Mathlib.Omega.{arith}
use mathlib.Core.Path.{◌≡◌, refl, sym, ap, ap₂, ◌∙◌}
use mathlib.Core.List.{List, [], ◌∷◌}
use lib.ListN.{get_or}
use Rattle.layout.specs.Nodes.{most_nodes}
use Rattle.layout.specs.Pages.{most_pages}
use Rattle.layout.specs.States.{kind_of}
use Rattle.layout.specs.declared.nodes.Kind.TheVariants.{Inner, Leaf}
use Rattle.layout.proofs.States.{inner-kind}
use Rattle.children.specs.Heap.{Holds}
use Rattle.children.specs.Phys.{Phys, Kids, leaf_p, inner_p, no_kid, kid, root, first, page_cells, cells, Sound}
use Rattle.children.proofs.Leaves.{held-kind}
use Rattle.children.proofs.Alike.{Alike, alike-node, alike_end, alike-start, same-root, same_byte, left-tree, right-tree, alike_next}

-- the pages of a leaf, by its first one
pub same-pages : (base : ℕ) (N P : List ℕ) (ps qs : List ℕ) → Holds (page_cells base ps) N P → Holds (page_cells base qs) N P → first ps ≡ first qs → ps ≡ qs
same-pages base N P [] [] h g e = refl
same-pages base N P [] (q ∷ qs) h g e = absurd (omega arith)
same-pages base N P (p ∷ ps) [] h g e = absurd (omega arith)
same-pages base N P (p ∷ ps) (q ∷ qs) h g e =
    let here : p ≡ q = omega arith in
    ap₂ (λ x xs. x ∷ xs) here (same-pages base N P ps qs h.1 g.1 (sym h.0 ∙ ap (λ x. get_or P (base + x) 0) here ∙ g.0))

module _ (cap pcap base : ℕ) (N P : List ℕ) (small : cap ≤ most_nodes) (few : pcap ≤ most_pages) where
  mutual
    pub same-trie : (t u : Phys) → Holds (cells cap base t) N P → Holds (cells cap base u) N P → Sound cap pcap t → Sound cap pcap u → root t ≡ root u → t ≡ u
    same-trie (leaf_p n ps) (leaf_p m qs) h g a b e =
        let is : Leaf (first ps) ≡ Leaf (first qs) = sym (held-kind N cap n ps h.0 a.1 few) ∙ ap (kind_of N cap) e ∙ held-kind N cap m qs g.0 b.1 few in
        let same : first ps ≡ first qs = cc in
        ap₂ leaf_p e (same-pages base N P ps qs h.1.1 g.1.1 same)
    same-trie (leaf_p n ps) (inner_p m js) h g a b e =
        let is : Leaf (first ps) ≡ Inner = sym (held-kind N cap n ps h.0 a.1 few) ∙ ap (kind_of N cap) e ∙ inner-kind N cap m g.0 in
        let z : ◌≡◌ {A = ℕ} 0 1 = cc in absurd (omega arith)
    same-trie (inner_p n ks) (leaf_p m qs) h g a b e =
        let is : Inner ≡ Leaf (first qs) = sym (inner-kind N cap n h.0) ∙ ap (kind_of N cap) e ∙ held-kind N cap m qs g.0 b.1 few in
        let z : ◌≡◌ {A = ℕ} 0 1 = cc in absurd (omega arith)
    same-trie (inner_p n ks) (inner_p m js) h g a b e = ap₂ inner_p e (same-kids ks js 0 0 (alike-node cap pcap base small N P ks js n m e h.1 g.1 a.1 b.1))

    same-kids : (ks js : Kids) (lo lo' : ℕ) → Alike cap pcap base small N P ks js lo lo' → ks ≡ js
    same-kids no_kid no_kid lo lo' a = refl
    same-kids no_kid (kid c u js) lo lo' a = absurd (alike_end cap pcap base small N P a)
    same-kids (kid c t ks) no_kid lo lo' a = absurd (alike-start cap pcap base small N P a)
    same-kids (kid c t ks) (kid d u js) lo lo' a =
        let bytes : c ≡ d = same_byte cap pcap base small N P a in
        let trees : t ≡ u =
        same-trie t u (left-tree cap pcap base small N P a) (right-tree cap pcap base small N P a) a.left_sound.2 a.right_sound.2 (same-root cap pcap base small N P a) in
        let rest : ks ≡ js = same-kids ks js (suc c) (suc d) (alike_next cap pcap base small N P a) in
        λ i. kid (bytes i) (trees i) (rest i)
