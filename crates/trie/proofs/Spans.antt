-- Chains: how `span_from` walks the free nodes, and that a leaf has no more pages than there are.
use Prim.Native.Nat.{ℕ, zero, suc, ◌+◌, ◌-◌, ◌<◌, ◌≤◌}
use mathlib.Core.Path.{◌≡◌, refl, ◌∙◌, sym}
use mathlib.Core.List.{List, [], ◌∷◌}
use mathlib.Core.Bool.{cond}
use native.Mathlib.Omega.{arith}
use borrow.Author.Tests.{le-leb, lt-leb}
use lib.Dec.{leb, leb-suc-suc}
use native.Mathlib.Decide.{ℕ_discrete}
use lib.ListN.{length, get_or}
use Rattle.std.specs.Prelude.{Result, Ok, Err}
use Rattle.trie.specs.declared.Stop.{Stop}
use Rattle.trie.specs.declared.Stop.TheVariants.{Full}
use Rattle.children.specs.Heap.{Cells, hit, page_claims, Holds}
use Rattle.trie.specs.Model.{span_from}
use Rattle.children.specs.Phys.{first, page_cells, free_cells, Below, State, leaf_p}
use Rattle.children.proofs.Frame.{hit_other, hit_same}
use Rattle.trie.proofs.Steps.{span-out, span-end, span-next}

-- ---- the free nodes
abbrev pub span_of : ℕ → ℕ → Result (Unit {0}) Stop
span_of f n = cond (leb f n) (Ok tt) (Err Full)

pub free-span : (N P : List ℕ) (cap : ℕ) (fs : List ℕ) (l n : ℕ) → Holds (free_cells cap fs) N P → Below cap fs → l ≡ first fs → span_from N cap l n ≡ span_of n (length fs)
free-span N P cap fs l zero h b e = rw (le-leb 0 (length fs) (omega arith)) (sym (span-out N cap l 0 _ refl refl))
free-span N P cap [] l (suc n) h b e = rw (lt-leb (suc n) 0 (omega arith)) (sym (span-end N cap l (suc n) _ refl (omega arith) e))
free-span N P cap (f ∷ fs) l (suc n) h b e =
    let q : l - 1 ≡ f = omega arith in
    let z : suc n - 1 ≡ n = omega arith in
    let w = span-next N cap l (suc n) _ refl (omega arith) (omega arith) (omega (arith, b.0)) _ refl in
    sym w ∙ rw (q, z, leb-suc-suc n (length fs)) (free-span N P cap fs (get_or N f 0) n h.1.1.1 b.1 h.0)

-- ---- the pages of a leaf: each links to the next, from base on
abbrev pub Linked : List ℕ → ℕ → List ℕ → Type 0
Linked T base [] = Unit {0}
Linked T base (x ∷ xs) = (get_or T (base + x) 0 ≡ first xs) × Linked T base xs

pub pages-linked : (N P : List ℕ) (base : ℕ) (ps : List ℕ) → Holds (page_cells base ps) N P → Linked P base ps
pages-linked N P base [] h = tt
pages-linked N P base (p ∷ ps) h = (h.0, pages-linked N P base ps h.1)

-- a sum over the numbers below m
unfoldable pub sum_to : ℕ → (ℕ → ℕ) → ℕ
sum_to zero f = 0
sum_to (suc m) f = f m + sum_to m f

pub sum-most : (m : ℕ) (f : ℕ → ℕ) → ((a : ℕ) → f a ≤ 1) → sum_to m f ≤ m
unfolding sum_to
sum-most zero f h = omega arith
sum-most (suc m) f h = omega (arith, h m, sum-most m f h)

pub sum-add : (m : ℕ) (f g : ℕ → ℕ) → sum_to m (λ a. f a + g a) ≡ sum_to m f + sum_to m g
unfolding sum_to
sum-add zero f g = refl
sum-add (suc m) f g = omega (arith, sum-add m f g)

pub sum-none : (m : ℕ) (f : ℕ → ℕ) → ((a : ℕ) → a < m → f a ≡ 0) → sum_to m f ≡ 0
unfolding sum_to
sum-none zero f h = refl
sum-none (suc m) f h = omega (arith, h m (omega arith), sum-none m f (λ a l. h a (omega arith)))

pub sum-hit : (m base p : ℕ) → p < m → sum_to m (λ a. hit (base + p) (base + a)) ≡ 1
unfolding sum_to
sum-hit zero base p l = absurd (omega arith)
sum-hit (suc m) base p l = go (sum-hit m base p) (ℕ_discrete p m)
  where
    go : (p < m → sum_to m (λ a. hit (base + p) (base + a)) ≡ 1) → Dec (p ≡ m) → hit (base + p) (base + m) + sum_to m (λ a. hit (base + p) (base + a)) ≡ 1
    go more (yes e) =
        omega (arith, hit_same {a = base + m} {b = base + p} (omega arith), sum-none m (λ a. hit (base + p) (base + a)) (λ a k. hit_other {a = base + a} {b = base + p} (λ q. omega arith)))
    go more (no e) = omega (arith, hit_other {a = base + m} {b = base + p} (λ q. e (omega arith)), more (omega arith))

-- pages below pcap that are claimed at most once each are no more than pcap
sum-pages : (base m : ℕ) (ps : List ℕ) → Below m ps → sum_to m (λ a. page_claims (page_cells base ps) (base + a)) ≡ length ps
sum-pages base m [] b = sum-none m (λ a. 0) (λ a l. refl)
sum-pages base m (p ∷ ps) b =
    sum-add m (λ a. hit (base + p) (base + a)) (λ a. page_claims (page_cells base ps) (base + a)) ∙ omega (arith, sum-hit m base p b.0, sum-pages base m ps b.1)

pub pages-most : (base pcap : ℕ) (ps : List ℕ) → Below pcap ps → ((a : ℕ) → page_claims (page_cells base ps) a ≤ 1) → length ps ≤ pcap
pages-most base pcap ps b h =
    omega (arith, sum-pages base pcap ps b, sum-most pcap (λ a. page_claims (page_cells base ps) (base + a)) (λ a. h (base + a)))

pub leaf-most : {cap pcap base : ℕ} {N P : List ℕ} {free n : ℕ} {ps fs : List ℕ} {G : Cells} → State cap pcap base N P free (leaf_p n ps) fs G → length ps ≤ pcap
leaf-most {pcap} {base} {ps} st = pages-most base pcap ps st.sound.1 (λ a. omega (arith, st.heap.pages a))
