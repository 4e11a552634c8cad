-- Nodes and leaves that lie in the tables as the test meets them: what a node is, and a leaf's pages, all live and on the path.
use Rattle.std.specs.Prelude.{Some}
use Prim.Native.Nat.{ℕ, zero, suc, ◌+◌, ◌-◌, ◌≤◌, ◌<◌}
use native.Mathlib.Omega.{arith}
use native.Mathlib.Nat.{add-zero, zero-add}
use mathlib.Core.Path.{◌≡◌, refl, sym, ap, ◌∙◌}
use mathlib.Core.Bool.{true, ◌&&◌}
use mathlib.Core.List.{List, [], ◌∷◌, ◌++◌}
use native.Mathlib.Decide.{ℕ_discrete}
use lib.Dec.{eqb}
use lib.ListN.{length, get_or, set, replicate, length-set, length-append, get_or-append}
use lib.Seq.{get_or-set_same, get_or-set_other, get_or-append_seam}
use borrow.Author.Tests.{eq-eqb, ne_eqb, le-ltb}
use Rattle.meaning.specs.Lists.{all, from, upto}
use Rattle.meaning.specs.Trie.{byte_at}
use Rattle.layout.specs.States.{count_of}
use Rattle.layout.proofs.States.{inner-kind as stated-inner}
use Rattle.layout.specs.Pages.{is_live, most_pages}
use Rattle.blocks.specs.declared.Rows.{Rows}
use Rattle.children.specs.Heap.{Holds}
use Rattle.children.specs.Phys.{Kids, leaf_p, inner_p, first, page_cells, cells, Below}
use Rattle.blocks.specs.Packed.{page_byte, level_at}
use Rattle.trie_laws.specs.Path.{follows}
use Rattle.children.proofs.Bare.{held-bare}
use Rattle.children.proofs.Leaves.{held-kind, held-count}
use Rattle.meaning.proofs.Lists.{and_intro, and_first, and_second}
use Rattle.node_check.specs.declared.leaf.Kind.TheVariants.{Inner, Leaf}
use Rattle.node_check.specs.Leaf.{kind_of, on_path, test_pages, test_leaf}

-- ---- what a node is
module _ (N P : List ℕ) (cap base x : ℕ) where
  pub leaf-kind : {pcap : ℕ} (ps : List ℕ) → Holds (cells cap base (leaf_p x ps)) N P → Below pcap ps → pcap ≤ most_pages → kind_of N cap x ≡ Some (Leaf (first ps))
  unfolding kind_of
  leaf-kind ps h b small = rw (held-kind N cap x ps h.0 b small, held-bare N P cap x h.1.0) refl

  pub inner-kind : (ks : Kids) → Holds (cells cap base (inner_p x ks)) N P → kind_of N cap x ≡ Some Inner
  unfolding kind_of
  inner-kind ks h = rw (stated-inner N cap x h.0) refl

-- ---- the path
-- an array that begins with the bytes ys
pub record Leads (path ys : List ℕ) : Type 0 where
  pub long : length path ≡ 64
  pub same : (i : ℕ) → i < length ys → get_or path i 0 ≡ get_or ys i 0

pub leads-none : Leads (replicate 64 0) []
leads-none = record { long = refl; same = λ i l. absurd (omega arith) }

pub leads-more : (path ys : List ℕ) (c : ℕ) → length ys < 64 → Leads path ys → Leads (set path (length ys) c) (ys ++ c ∷ [])
leads-more path ys c l p = record { long = length-set path (length ys) c ∙ p.long; same = λ i m. go i m (ℕ_discrete i (length ys)) }
  where
    go : (i : ℕ) → i < length (ys ++ c ∷ []) → Dec (i ≡ length ys) → get_or (set path (length ys) c) i 0 ≡ get_or (ys ++ c ∷ []) i 0
    go i m (yes e) =
        rw e (get_or-set_same path (length ys) c 0 (omega (arith, p.long)) ∙ sym (get_or-append_seam ys c [] 0))
    go i m (no n) =
        let k : i < length ys = omega (arith, length-append ys (c ∷ [])) in
        get_or-set_other path (length ys) i c 0 n ∙ p.same i k ∙ sym (get_or-append ys (c ∷ []) 0 i k)

-- and without its last byte
pub leads-less : (path ys : List ℕ) (c : ℕ) → Leads path (ys ++ c ∷ []) → Leads path ys
leads-less path ys c p = record {
  long = p.long;
  same = λ i m. p.same i (omega (arith, length-append ys (c ∷ []))) ∙ get_or-append ys (c ∷ []) 0 i m;
}

-- ---- the pages of a leaf

-- bytes by two readings
path-follows : (bytes_of : ℕ → List ℕ) (q : ℕ → ℕ) (path : List ℕ) (p : ℕ) (ys : List ℕ) (k : ℕ)
    → ((i : ℕ) → i < length ys → byte_at bytes_of (k + i) p ≡ q (k + i)) → ((i : ℕ) → i < length ys → get_or path (k + i) 0 ≡ get_or ys i 0)
    → all (λ i. eqb (q i) (get_or path i 0)) (from k (length ys)) ≡ follows bytes_of k ys p
unfolding all from follows
path-follows bytes_of q path p [] k h g = refl
path-follows bytes_of q path p (y ∷ ys) k h g =
    let h0 : byte_at bytes_of k p ≡ q k = rw (add-zero k) at (h 0 (omega arith)) in
    let g0 : get_or path k 0 ≡ y = rw (add-zero k) at (g 0 (omega arith)) in
    rw (h0, g0)
    (ap (λ t. eqb (q k) y && t)
    (path-follows bytes_of q path p ys (suc k)
    (λ i l. let e : suc k + i ≡ k + suc i = omega arith in rw e (h (suc i) (omega arith)))
    (λ i l. let e : suc k + i ≡ k + suc i = omega arith in rw e (g (suc i) (omega arith)))))

module _ (P S : List ℕ) (pcap base : ℕ) (r : Rows) (path : List ℕ) where
  -- the pages follow the bytes that led here
  pub on-path : (bytes_of : ℕ → List ℕ) (ys : List ℕ) → ((p k : ℕ) → p < pcap → k < r.bytes → byte_at bytes_of k p ≡ page_byte S (level_at r k) p)
      → Leads path ys → length ys ≤ r.bytes → (ps : List ℕ) → Below pcap ps → all (follows bytes_of 0 ys) ps ≡ true
      → all (on_path S r path (length ys)) ps ≡ true
  unfolding all on_path upto
  on-path bytes_of ys reads leads l [] b h = refl
  on-path bytes_of ys reads leads l (p ∷ ps) b h =
      and_intro (on_path S r path (length ys) p) (all (on_path S r path (length ys)) ps)
      (path-follows bytes_of (λ i. page_byte S (level_at r i) p) path p ys 0
      (λ i m. reads p (0 + i) b.0 (omega arith))
      (λ i m. rw (zero-add i) (leads.same i m))
      ∙ and_first (follows bytes_of 0 ys p) (all (follows bytes_of 0 ys) ps) h)
      (on-path bytes_of ys reads leads l ps b.1 (and_second (follows bytes_of 0 ys p) (all (follows bytes_of 0 ys) ps) h))

  pages-tested : (N : List ℕ) (d : ℕ) (ps : List ℕ) (f : ℕ) → Holds (page_cells base ps) N P → Below pcap ps → all (is_live P) ps ≡ true
      → all (on_path S r path d) ps ≡ true → length ps ≤ f → test_pages P S pcap base r path d (first ps) f ≡ Some (f - length ps)
  unfolding test_pages all
  pages-tested N d [] zero h b live on l = refl
  pages-tested N d [] (suc f) h b live on l = ap Some (let e : suc f ≡ suc f - 0 = omega arith in e)
  pages-tested N d (p ∷ ps) zero h b live on l = absurd (omega arith)
  pages-tested N d (p ∷ ps) (suc f) h b live on l =
      let back : p + 1 - 1 ≡ p = omega arith in
      rw (
        ne_eqb (p + 1) 0 (omega arith),
        le-ltb pcap (p + 1) (omega (arith, b.0)),
        back,
        and_first (is_live P p) (all (is_live P) ps) live,
        and_first (on_path S r path d p) (all (on_path S r path d) ps) on,
        h.0,
      )
      (pages-tested N d ps f h.1 b.1 (and_second (is_live P p) (all (is_live P) ps) live)
      (and_second (on_path S r path d p) (all (on_path S r path d) ps) on) (omega arith)
      ∙ ap Some (let e : f - length ps ≡ suc f - suc (length ps) = omega arith in e))

  -- as many as the number that stands in the leaf
  pub leaf-tested : (N : List ℕ) (cap x d : ℕ) (ps : List ℕ) (f : ℕ) → Holds (cells cap base (leaf_p x ps)) N P → Below pcap ps → pcap ≤ most_pages
      → all (is_live P) ps ≡ true → all (on_path S r path d) ps ≡ true → length ps ≤ f
      → test_leaf P S pcap base r path d (first ps) (count_of N cap x) f ≡ Some (f - length ps)
  unfolding test_leaf
  leaf-tested N cap x d ps f h b small live on l =
      rw (
        held-count N cap x ps h.0 b small,
        pages-tested N d ps f h.1.1 b live on l,
        eq-eqb (f - length ps + length ps) f (omega arith),
      ) refl
