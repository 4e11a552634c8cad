-- `take_page` takes a page out of the chain of a list that holds it, once: the other pages stay as they are, and the page's link is left over.
use Rattle.std.specs.Prelude.{Ok}
use Prim.Native.Nat.{ℕ, suc, ◌+◌, ◌-◌, ◌<◌, ◌≤◌}
use native.Mathlib.Omega.{arith}
use mathlib.Core.Path.{◌≡◌, refl, ap, ◌∙◌, sym}
use mathlib.Core.Bool.{true, false, false≢true}
use mathlib.Core.List.{List, [], ◌∷◌}
use borrow.Author.Tests.{eq-eqb, eqb-true, eqb-false, ltb-true}
use lib.Dec.{eqb}
use lib.ListN.{length, get_or, set, length-set}
use Rattle.meaning.specs.Lists.{any, count}
use Rattle.meaning.specs.Trie.{without}
use Rattle.children.specs.Heap.{Cells, Heap, page, ◌⊕◌}
use Rattle.layout.specs.Tables.{PageTable}
use Rattle.children.specs.Phys.{first, page_cells, Below}
use Rattle.children.proofs.Leaves.{first_below}
use Rattle.children.proofs.Frame.{Less, less, page-write, hit_same}
use Rattle.meaning.proofs.Lists.{eqb_comm}
use Rattle.trie_laws.proofs.Lists.{holds, fails, truth, any-count}
use Rattle.children.proofs.Claims.{page-claims, below_all}
use Rattle.trie_laws.proofs.Distinct.{distinct-once, distinct-below}
use Rattle.trie_remove.specs.Take.{Took, take_from, take_page, took}
use Rattle.trie_remove.proofs.Steps.{first_out, not_first, take-here, take_on}

-- ---- each page of a chain stands in it once, so it has no more pages than there are
chain-short : (base : ℕ) (ps : List ℕ) {N P : List ℕ} {R : Cells} (m : ℕ) → Below m ps → Heap N P (page_cells base ps ⊕ R) → length ps ≤ m
chain-short base ps m l h =
    omega (arith, distinct-once (λ y. false) ps (λ y. omega (arith, h.pages (base + y), page-claims base y ps)), distinct-below m (λ y. false) ps (below_all m ps l))

-- ---- a list without a page
module _ (p : ℕ) where
  without-none : (ps : List ℕ) → count (eqb p) ps ≡ 0 → without p ps ≡ ps
  unfolding without count
  without-none [] h = refl
  without-none (x ∷ ps) h = elim (truth (eqb x p)) [
    | holds e ↦ absurd (omega (arith, rw (eqb_comm p x ∙ e) at h))
    | fails e ↦ rw e (ap (λ (l : List ℕ). x ∷ l) (without-none ps (omega arith)))
  ]

  without_other : (x : ℕ) (ps : List ℕ) → eqb x p ≡ false → without p (x ∷ ps) ≡ x ∷ without p ps
  unfolding without
  without_other x ps e = rw e refl

  without-this : (ps : List ℕ) → count (eqb p) ps ≡ 0 → without p (p ∷ ps) ≡ ps
  unfolding without
  without-this ps h = rw (eq-eqb p p refl) (without-none ps h)

  any-other : (x : ℕ) (ps : List ℕ) → eqb x p ≡ false → any (eqb p) (x ∷ ps) ≡ true → any (eqb p) ps ≡ true
  unfolding any
  any-other x ps e h = rw (eqb_comm p x ∙ e) at h

  without-length : (ps : List ℕ) → length (without p ps) + count (eqb p) ps ≡ length ps
  unfolding without count
  without-length [] = refl
  without-length (x ∷ ps) = elim (truth (eqb x p)) [
    | holds e ↦ rw (e, eqb_comm p x ∙ e) (omega (arith, without-length ps))
    | fails e ↦ rw (e, eqb_comm p x ∙ e) (omega (arith, without-length ps))
  ]

  -- a page of a chain stands in it once, so without it the chain is shorter by one
  pub one_less : (base : ℕ) (ps : List ℕ) {N P : List ℕ} {R : Cells} → Heap N P (page_cells base ps ⊕ R) → any (eqb p) ps ≡ true → length ps ≡ suc (length (without p ps))
  one_less base ps h m =
      omega (arith, without-length ps, h.pages (base + p), page-claims base p ps, ltb-true 0 (count (eqb p) ps) (sym (any-count (eqb p) ps) ∙ m))

-- ---- behind the first page
record BehindDone (N P : List ℕ) (base p a : ℕ) (ps : List ℕ) (R : Cells) (o : Took) : Type 0 where
  pages_to : List ℕ
  link_to : ℕ
  is : o ≡ took pages_to (Ok a)
  heap : Heap N pages_to (page_cells base (without p ps) ⊕ page (base + p) link_to ⊕ R)
  length : length pages_to ≡ length P

-- the cells of a chain, the first page's by itself
module _ (base x y : ℕ) (rs : List ℕ) (R : Cells) where
  apart : Less (page_cells base (x ∷ y ∷ rs) ⊕ R) (page (base + x) (y + 1) ⊕ page (base + y) (first rs) ⊕ page_cells base rs ⊕ R)
  apart = record { holds = λ N P h. search; nodes = λ a. omega arith; pages = λ a. omega arith }

  joined : Less (page (base + x) (first rs) ⊕ page (base + y) (first rs) ⊕ page_cells base rs ⊕ R) (page_cells base (x ∷ rs) ⊕ page (base + y) (first rs) ⊕ R)
  joined = record { holds = λ N P h. search; nodes = λ a. omega arith; pages = λ a. omega arith }

  tail : Less (page_cells base (x ∷ y ∷ rs) ⊕ R) (page_cells base (y ∷ rs) ⊕ page (base + x) (y + 1) ⊕ R)
  tail = record { holds = λ N P h. search; nodes = λ a. omega arith; pages = λ a. omega arith }

  whole : (G : Cells) → Less (page_cells base (y ∷ rs) ⊕ G ⊕ page (base + x) (y + 1) ⊕ R) (page_cells base (x ∷ y ∷ rs) ⊕ G ⊕ R)
  whole G = record { holds = λ N P h. search; nodes = λ a. omega arith; pages = λ a. omega arith }

pred : (x : ℕ) → x + 1 - 1 ≡ x
pred x = omega arith

module _ (pcap base p a : ℕ) (N P : List ℕ) (t : PageTable pcap base P) (x f : ℕ) (l : x < pcap) (e : eqb x p ≡ false) (z : 0 < f) where
  -- it is the next one
  behind-here : (rs : List ℕ) {R : Cells} → Heap N P (page_cells base (x ∷ p ∷ rs) ⊕ R) → BehindDone N P base p a (x ∷ p ∷ rs) R (take_from P pcap base p a (x + 1) f)
  behind-here rs {R} h =
      let g = less (apart base x p rs R) h in
      let v : get_or P (base + p) 0 ≡ first rs = g.holds.1.0 in
      let o : count (eqb p) rs ≡ 0 = omega (arith, g.pages (base + p), page-claims base p rs, hit_same {a = base + p} {b = base + p} refl) in
      let w : without p (x ∷ p ∷ rs) ≡ x ∷ rs = without_other p x (p ∷ rs) e ∙ ap (λ (ys : List ℕ). x ∷ ys) (without-this p rs o) in
      record {
        pages_to = set P (base + x) (first rs);
        link_to = first rs;
        is = sym (rw (pred x, v) at (take-here P pcap base p a (x + 1) f (take_from P pcap base p a (x + 1) f) refl (omega arith) (omega arith) (omega arith) (rw (pred x) g.holds.0)));
        heap = rw w (less (joined base x p rs R) (page-write (first rs) g (omega (arith, t.long))));
        length = simp length-set;
      }

  -- it stands further on
  behind-on : (y : ℕ) (rs : List ℕ) {R : Cells} → eqb y p ≡ false → get_or P (base + x) 0 ≡ y + 1 →
      BehindDone N P base p a (y ∷ rs) (page (base + x) (y + 1) ⊕ R) (take_from P pcap base p a (y + 1) (f - 1)) → BehindDone N P base p a (x ∷ y ∷ rs) R (take_from P pcap base p a (x + 1) f)
  behind-on y rs {R} i r d =
      let w : without p (x ∷ y ∷ rs) ≡ x ∷ y ∷ without p rs = without_other p x (y ∷ rs) e ∙ ap (λ (ys : List ℕ). x ∷ ys) (without_other p y rs i) in
      let q : get_or P (base + (x + 1 - 1)) 0 ≡ y + 1 = rw (pred x) r in
      let n : y ≡ p → ⊥ = eqb-false y p i in
      record {
        pages_to = d.pages_to;
        link_to = d.link_to;
        is = sym (rw q at (take_on P pcap base p a (x + 1) f (take_from P pcap base p a (x + 1) f) refl (omega arith) (omega arith) (omega arith) (λ j. n (omega arith)))) ∙ d.is;
        heap = rw w (less (whole base x y (without p rs) R (page (base + p) d.link_to)) (rw (without_other p y rs i) at d.heap));
        length = d.length;
      }

module _ (pcap base p a : ℕ) {N P : List ℕ} (t : PageTable pcap base P) where
  behind : (qs : List ℕ) (x f : ℕ) {R : Cells} → Heap N P (page_cells base (x ∷ qs) ⊕ R) → Below pcap (x ∷ qs) → eqb x p ≡ false → any (eqb p) qs ≡ true → length qs ≤ f →
      BehindDone N P base p a (x ∷ qs) R (take_from P pcap base p a (x + 1) f)
  unfolding any
  behind [] x f h l e m z = absurd (false≢true m)
  behind (y ∷ rs) x f {R} h l e m z = elim (truth (eqb y p)) [
    | holds i ↦
        let q : y ≡ p = eqb-true y p i in
        rw q (behind-here pcap base p a N P t x f l.0 e (omega arith) rs (rw q at h))
    | fails i ↦
        behind-on pcap base p a N P t x f l.0 e (omega arith) y rs i h.holds.0.0
        (behind rs y (f - 1) (less (tail base x y rs R) h) l.1 i (any-other p y rs i m) (omega arith))
  ]

-- ---- the law
-- what taking page p out of the chain of ps comes to
pub record TakeDone (N P : List ℕ) (base p : ℕ) (ps : List ℕ) (R : Cells) (o : Took) : Type 0 where
  pub pages_to : List ℕ
  pub link_to : ℕ
  pub is : o ≡ took pages_to (Ok (first (without p ps)))
  pub heap : Heap N pages_to (page_cells base (without p ps) ⊕ page (base + p) link_to ⊕ R)
  pub length : length pages_to ≡ length P

module _ (pcap base p : ℕ) {N P : List ℕ} (t : PageTable pcap base P) where
  take-first : (qs : List ℕ) {R : Cells} → Heap N P (page_cells base (p ∷ qs) ⊕ R) → Below pcap (p ∷ qs) → TakeDone N P base p (p ∷ qs) R (take_page P pcap base (p + 1) p)
  take-first qs h l =
      let v : get_or P (base + p) 0 ≡ first qs = h.holds.0.0 in
      let o : count (eqb p) qs ≡ 0 = omega (arith, h.pages (base + p), page-claims base p qs, hit_same {a = base + p} {b = base + p} refl) in
      let w : without p (p ∷ qs) ≡ qs = without-this p qs o in
      record {
        pages_to = P;
        link_to = first qs;
        is = rw w (sym (rw v at (first_out P pcap base (p + 1) p refl (omega (arith, first_below pcap qs l.1)))));
        heap = rw w (less (record { holds = λ N P h. search; nodes = λ a. omega arith; pages = λ a. omega arith }) h);
        length = refl;
      }

  pub take-right : (ps : List ℕ) {R : Cells} → Heap N P (page_cells base ps ⊕ R) → Below pcap ps → any (eqb p) ps ≡ true → TakeDone N P base p ps R (take_page P pcap base (first ps) p)
  unfolding any
  take-right [] h l m = absurd (false≢true m)
  take-right (x ∷ qs) h l m = elim (truth (eqb x p)) [
    | holds i ↦ let q : x ≡ p = eqb-true x p i in rw q (take-first qs (rw q at h) (rw q at l))
    | fails i ↦
        let n : x ≡ p → ⊥ = eqb-false x p i in
        let d = behind pcap base p (x + 1) t qs x pcap h l i (any-other p x qs i m) (omega (arith, chain-short base (x ∷ qs) pcap l h)) in
        record {
          pages_to = d.pages_to;
          link_to = d.link_to;
          is = rw (without_other p x qs i) (sym (not_first P pcap base (x + 1) p (take_from P pcap base p (x + 1) (x + 1) pcap) (λ j. n (omega arith)) refl) ∙ d.is);
          heap = d.heap;
          length = d.length;
        }
  ]
