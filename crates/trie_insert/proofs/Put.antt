-- On a state with an inner node all of whose children are leaves, `put_leaf_m` is `put_leaf`, if there are free nodes enough.
use Prim.Native.Nat.{ℕ, ◌+◌, ◌<◌, ◌≤◌}
use mathlib.Core.Path.{◌≡◌, refl, ap, ◌∙◌, sym, subst}
use Rattle.std.specs.Prelude.{Ok, Some}
use mathlib.Core.List.{List, [], ◌∷◌}
use native.Mathlib.Omega.{arith}
use lib.ListN.{length, get_or}
use Rattle.meaning.specs.Trie.{leaf, Children, child, push, put_leaf, nodes, nodes_in}
use Rattle.layout.specs.Nodes.{most_nodes}
use Rattle.children.specs.declared.place.Place.TheVariants.{Found, Missing}
use Rattle.children.specs.Heap.{Cells, page, ◌⊕◌}
use Rattle.children.specs.Places.{find_place}
use Rattle.trie.specs.Model.{grown, link_leaf, made, child_leaf}
use Rattle.children.specs.Phys.{Phys, Kids, children_of, first, Sound, State, leaf_p, inner_p}
use Rattle.children.proofs.Frame.{same-swap}
use Rattle.children.proofs.Abstract.{Leaves}
use Rattle.trie.proofs.Steps.{child-found, child-made}
use Rattle.children.proofs.Held.{Held, gap, held, onto, answer}
use Rattle.children.proofs.Spot.{SpotK}
use Rattle.children.proofs.Spots.{spot-sound}
use Rattle.trie.proofs.Context.{Context, whole, inside, enter, leave, beside}
use Rattle.trie.proofs.Fresh.{fresh-state, fresh-is}
use Rattle.trie_insert.specs.Pages.{push_nodes, push_pages, push_page, After, put_leaf_m, pushed, after}
use Rattle.trie_insert.proofs.Abstract.{put-skips, put-here, put-new}
use Rattle.trie_insert.proofs.Steps.{put-done}
use Rattle.trie_insert.proofs.Push.{push_ok, push-state}

-- what `put_leaf_m` comes to
pub record PutDone (cap pcap base n b p : ℕ) (ks : Kids) (fs : List ℕ) (G : Cells) (a : After) : Type 0 where
  pub nodes_to : List ℕ
  pub pages_to : List ℕ
  pub child : ℕ
  pub free_to : ℕ
  pub kids_to : Kids
  pub frees_to : List ℕ
  pub is : a ≡ after nodes_to pages_to (Ok (grown child free_to))
  pub state : State cap pcap base nodes_to pages_to free_to (inner_p n kids_to) frees_to G
  pub grown : children_of kids_to ≡ put_leaf b p (children_of ks)
  pub count : nodes_in (children_of kids_to) + length frees_to ≡ nodes_in (children_of ks) + length fs

module _ (cap pcap base : ℕ) (small : cap ≤ most_nodes) (n b p : ℕ) (ks : Kids) (s : SpotK cap pcap base small ks n b) where
  -- into a child that is there
  module _ {N P : List ℕ} {free c v : ℕ} {qs fs : List ℕ} {G : Cells} (lp : p < pcap)
      (st : State cap pcap base N P free (inner_p n (s.put (held (leaf_p c qs)))) fs (page (base + p) v ⊕ G)) (gc : Sound cap pcap (leaf_p c qs)) where
    C : Context cap pcap base small (λ k. b) 0 n 1 c
    C = inside cap pcap base small (λ k. b) (whole cap pcap base small (λ k. b) 0 n) ks s c st.sound.0

    at_leaf : State cap pcap base N P free (leaf_p c qs) fs (page (base + p) v ⊕ C.rest ⊕ G)
    unfolding C inside whole
    at_leaf = beside (same-swap C.rest (page (base + p) v) G).to (enter cap pcap base small (λ k. b) C (leaf_p c qs) refl st gc)

    pub child-push : State cap pcap base (push_nodes N cap c p) (push_pages P base p (first qs)) free (inner_p n (s.put (held (leaf_p c (p ∷ qs))))) fs G
    unfolding C inside whole
    child-push = leave cap pcap base small (λ k. b) C (leaf_p c (p ∷ qs)) refl (push-state at_leaf lp)

    pub child-ok : push_page N P cap base c p ≡ pushed (push_nodes N cap c p) (push_pages P base p (first qs)) (Ok tt)
    child-ok = push_ok at_leaf lp

  abbrev K : Children
  K = s.later

  children-here : (x : Held) → s.there ≡ x → children_of ks ≡ s.before (onto b x K)
  children-here x e = ap children_of (sym s.whole) ∙ s.children s.there ∙ ap (λ (y : Held). s.before (onto b y K)) e

  gap-children : s.there ≡ gap → put_leaf b p (children_of ks) ≡ s.before (child b (leaf (p ∷ [])) K)
  gap-children h = ap (put_leaf b p) (children-here gap h) ∙ s.skip (put_leaf b p) (put-skips b p) K ∙ ap s.before (put-new b p K s.above)

  place : {N P : List ℕ} {free : ℕ} {fs : List ℕ} {G : Cells} → State cap pcap base N P free (inner_p n ks) fs G → (x : Held) → s.there ≡ x → find_place N cap n b ≡ answer x s.slot
  place {N} {P} st x e = s.find N P st.heap.holds.0.1 ∙ ap (λ (y : Held). answer y s.slot) e

  module _ {N P : List ℕ} {free v : ℕ} {fs : List ℕ} {G : Cells} (lp : p < pcap) (st : State cap pcap base N P free (inner_p n ks) fs (page (base + p) v ⊕ G)) where
    -- the byte's child is there
    put-found : (u : Phys) → s.there ≡ held u → Leaves (children_of ks) → PutDone cap pcap base n b p ks fs G (put_leaf_m N P cap base n b p free)
    unfolding push nodes
    put-found (inner_p m ds) e l = absurd (s.leaves _ (rw (children-here (held (inner_p m ds)) e) at l))
    put-found (leaf_p c qs) e l =
        let x : Held = held (leaf_p c qs) in
        let y : Held = held (leaf_p c (p ∷ qs)) in
        let g : Sound cap pcap (leaf_p c qs) = spot-sound cap pcap base small s (leaf_p c qs) e in
        let i : s.put x ≡ ks = ap s.put (sym e) ∙ s.whole in
        let t : State cap pcap base N P free (inner_p n (s.put x)) fs (page (base + p) v ⊕ G) =
        subst (λ (z : Kids). State cap pcap base N P free (inner_p n z) fs (page (base + p) v ⊕ G)) (sym i) st in
        let d : made N (Ok (grown c free)) ≡ child_leaf N cap n b free = child-found N cap n b free (Some (Found s.slot c)) (sym (place st x e)) s.slot c refl in
        let k : children_of ks ≡ s.before (child b (leaf qs) K) = children-here x e in
        record {
          nodes_to = push_nodes N cap c p;
          pages_to = push_pages P base p (first qs);
          child = c;
          free_to = free;
          kids_to = s.put y;
          frees_to = fs;
          is = sym (put-done N P cap base n b p free N (Ok (grown c free)) d (grown c free) refl (push_nodes N cap c p) (push_pages P base p (first qs)) (Ok tt) (sym (child-ok lp t g)) refl);
          state = child-push lp t g;
          grown = s.children y ∙ ap s.before (sym (put-here b p (leaf qs) K)) ∙ sym (s.skip (put_leaf b p) (put-skips b p) (child b (leaf qs) K)) ∙ ap (put_leaf b p) (sym k);
          count = rw (k, s.children y) (omega (arith, s.count (child b (leaf (p ∷ qs)) K) (child b (leaf qs) K)));
        }

    -- it is missing, and made of the first free node
    put-made : (fs : List ℕ) → State cap pcap base N P free (inner_p n ks) fs (page (base + p) v ⊕ G) → s.there ≡ gap → nodes_in (put_leaf b p (children_of ks)) ≤ nodes_in (children_of ks) + length fs →
        PutDone cap pcap base n b p ks fs G (put_leaf_m N P cap base n b p free)
    unfolding nodes
    put-made [] st h l = absurd (omega (arith, s.count (child b (leaf (p ∷ [])) K) K, rw (gap-children h, children-here gap h) at l))
    put-made (f ∷ fs) st h l =
        let y : Held = held (leaf_p f (p ∷ [])) in
        let N1 : List ℕ = link_leaf N cap s.slot f b in
        let t = fresh-state cap pcap base small st s h in
        let lf : f < cap = st.below.0 in
        let d : made N1 (Ok (grown f (get_or N f 0))) ≡ child_leaf N cap n b free = child-made N cap n b free (Some (Missing s.slot)) (sym (place st gap h)) N1 (Ok (grown f (get_or N f 0))) s.slot refl (sym (fresh-is cap pcap base small st s h)) in
        record {
          nodes_to = push_nodes N1 cap f p;
          pages_to = push_pages P base p 0;
          child = f;
          free_to = get_or N f 0;
          kids_to = s.put y;
          frees_to = fs;
          is = sym (put-done N P cap base n b p free N1 (Ok (grown f (get_or N f 0))) d (grown f (get_or N f 0)) refl (push_nodes N1 cap f p) (push_pages P base p 0) (Ok tt) (sym (child-ok lp t (lf, tt))) refl);
          state = child-push lp t (lf, tt);
          grown = s.children y ∙ sym (gap-children h);
          count = rw (children-here gap h, s.children y) (omega (arith, s.count (child b (leaf (p ∷ [])) K) K));
        }

    -- with free nodes enough
    pub put_right : Leaves (children_of ks) → nodes_in (put_leaf b p (children_of ks)) ≤ nodes_in (children_of ks) + length fs → PutDone cap pcap base n b p ks fs G (put_leaf_m N P cap base n b p free)
    put_right l m = go s.there refl
      where
        go : (x : Held) → s.there ≡ x → PutDone cap pcap base n b p ks fs G (put_leaf_m N P cap base n b p free)
        go (held u) h = put-found u h l
        go gap h = put-made fs st h m
