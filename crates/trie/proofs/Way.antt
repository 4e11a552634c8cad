-- The way from the root of a trie to what stands where some bytes of a page lead: what is put there instead is put there in the abstract trie.
use Prim.Native.Nat.{ℕ, suc, ◌≤◌}
use native.Mathlib.Nat.{zero-add}
use mathlib.Core.Path.{◌≡◌, refl, ap, ◌∙◌, sym, subst}
use mathlib.Core.Bool.{true}
use mathlib.Core.List.{List}
use Rattle.meaning.specs.Trie.{byte_at}
use Rattle.layout.specs.Nodes.{most_nodes}
use Rattle.children.specs.Heap.{Cells, ◌⊕◌}
use Rattle.children.specs.Phys.{Phys, Kids, root, tree, Sound, State, inner_p}
use Rattle.children.proofs.Held.{Held, held}
use Rattle.children.proofs.Spot.{SpotK}
use Rattle.trie.proofs.Context.{Context, whole, inside, enter, leave}
use Rattle.trie_laws.specs.Path.{has_below, below, set_below, has_path, subtree, replace, path_of}
use Rattle.trie.proofs.Paths.{path-next, sub-next, rep_next}
use Rattle.children.proofs.Spots.{spot-sound, spot-has, spot-child, spot-set}

module _ (cap pcap base : ℕ) (small : cap ≤ most_nodes) (bytes_of : ℕ → List ℕ) (p : ℕ) where
  -- u stands in t at the end of k bytes of page p
  pub record Way (t : Phys) (k : ℕ) (u : Phys) : Type 0 where
    pub context : Context cap pcap base small (λ j. byte_at bytes_of j p) 0 (root t) k (root u)
    pub is : context.put u ≡ t
    pub sound : Sound cap pcap u
    pub path : has_path (path_of bytes_of 0 p k) (tree t) ≡ true
    pub sub : subtree (path_of bytes_of 0 p k) (tree t) ≡ tree u
    pub rep : (v : Phys) → tree (context.put v) ≡ replace (path_of bytes_of 0 p k) (tree t) (tree v)

  pub start : (t : Phys) → Sound cap pcap t → Way t 0 t
  unfolding whole has_path subtree replace path_of
  start t g = record { context = whole cap pcap base small (λ j. byte_at bytes_of j p) 0 (root t); is = refl; sound = g; path = refl; sub = refl; rep = λ v. refl }

  -- on to the child of the next byte
  module _ {t : Phys} {k n : ℕ} {ks : Kids} (w : Way t k (inner_p n ks)) (s : SpotK cap pcap base small ks n (byte_at bytes_of k p)) (u : Phys) (e : s.there ≡ held u) where
    pub onward : Way t (suc k) u
    unfolding inside has_below below set_below
    onward =
        record {
          context = inside cap pcap base small (λ j. byte_at bytes_of j p) w.context ks s (root u) w.sound.0;
          is = ap (λ (x : Held). w.context.put (inner_p n (s.put x))) (sym e) ∙ ap (λ (x : Kids). w.context.put (inner_p n x)) s.whole ∙ w.is;
          sound = spot-sound cap pcap base small s u e;
          path = path-next bytes_of p k 0 (tree t) w.path (rw (zero-add k, w.sub) (spot-has cap pcap base small s u e));
          sub = sub-next bytes_of p k 0 (tree t) ∙ rw (zero-add k, w.sub) (spot-child cap pcap base small s u e);
          rep = λ v. w.rep (inner_p n (s.put (held v))) ∙ rw (spot-set cap pcap base small s u e v) (sym (rep_next bytes_of p k 0 (tree t) (tree v) ∙ rw (zero-add k, w.sub) refl));
        }

    pub onward-put : (v : Phys) → onward.context.put v ≡ w.context.put (inner_p n (s.put (held v)))
    unfolding onward inside
    onward-put v = refl

  -- a state of the whole is one of what stands there, and back
  module _ {t : Phys} {k : ℕ} {u : Phys} (w : Way t k u) {N P : List ℕ} {free : ℕ} {fs : List ℕ} {G : Cells} where
    pub go-in : State cap pcap base N P free t fs G → State cap pcap base N P free u fs (w.context.rest ⊕ G)
    go-in st = enter cap pcap base small (λ j. byte_at bytes_of j p) w.context u refl (subst (λ (x : Phys). State cap pcap base N P free x fs G) (sym w.is) st) w.sound

    pub go-out : (v : Phys) → root v ≡ root u → State cap pcap base N P free v fs (w.context.rest ⊕ G) → State cap pcap base N P free (w.context.put v) fs G
    go-out v e st = leave cap pcap base small (λ j. byte_at bytes_of j p) w.context v e st
