-- The children of an inner node, by the place of a byte among them: with a child there, and without.
use Prim.Native.Nat.{ℕ, ◌≤◌}
use native.Mathlib.Omega.{arith}
use mathlib.Core.Path.{◌≡◌, refl, ap, ◌∙◌, sym}
use mathlib.Core.Bool.{Bool, true, false, cond}
use borrow.Author.Tests.{lt-ltb, le-ltb, ne_eqb}
use Rattle.meaning.specs.Trie.{Tree, Children, none, child}
use Rattle.layout.specs.Nodes.{most_nodes}
use Rattle.children.specs.Phys.{Phys, Kids, tree, children_of, Sound}
use Rattle.children.proofs.Abstract.{Skips, Above}
use Rattle.children.proofs.Held.{gap, held}
use Rattle.children.proofs.Spot.{SpotK}
use Rattle.trie_laws.specs.Path.{has, child_by, set_child, drop_child, put_child}
use Rattle.trie_laws.proofs.Lists.{holds, fails, truth}
use Rattle.trie_laws.proofs.Nodes.{nodes-some}
use Rattle.trie_laws.proofs.Children.{has-put, child-put, set-put, drop-put, drop-nodes}

-- ---- a child put among others, and a child taken out where it is there
put-skips : (b : ℕ) (u : Tree) → Skips b (put_child b u)
unfolding put_child
put-skips b u c t cs l = rw (lt-ltb c b l) refl

put-above : (b : ℕ) (u : Tree) (cs : Children) → Above b cs → put_child b u cs ≡ child b u cs
unfolding put_child
put-above b u none l = refl
put-above b u (child c t cs) l = rw (le-ltb c b (omega arith)) refl

has_above : (b : ℕ) (cs : Children) → Above b cs → has b cs ≡ false
unfolding has
has_above b none l = refl
has_above b (child c t cs) l = rw (le-ltb c b (omega arith)) (ne_eqb c b (omega arith))

out : ℕ → Children → Children
out b cs = cond (has b cs) (drop_child b cs) cs

out-skips : (b : ℕ) → Skips b (out b)
unfolding out has drop_child
out-skips b c t cs l = rw (lt-ltb c b l) (go (has b cs))
  where
    go : (q : Bool) → cond q (child c t (drop_child b cs)) (child c t cs) ≡ child c t (cond q (drop_child b cs) cs)
    go true = refl
    go false = refl

-- children that stay as they are have no such child
out_none : (b : ℕ) (cs : Children) → out b cs ≡ cs → has b cs ≡ false
unfolding out
out_none b cs e = elim (truth (has b cs)) [
  | holds h ↦
      let d : drop_child b cs ≡ cs = rw h at e in
      absurd (omega (arith, rw d at (drop-nodes b cs h), nodes-some (child_by b cs)))
  | fails h ↦ h
]

-- ---- at the place of byte b in a node
module _ (cap pcap base : ℕ) (small : cap ≤ most_nodes) {ks : Kids} {n b : ℕ} (s : SpotK cap pcap base small ks n b) where
  -- the children with a child there, by those without
  pub with-child : (v : Phys) → children_of (s.put (held v)) ≡ put_child b (tree v) (children_of (s.put gap))
  with-child v =
      s.children (held v) ∙ ap s.before (sym (put-above b (tree v) s.later s.above)) ∙ sym (s.skip (put_child b (tree v)) (put-skips b (tree v)) s.later)
      ∙ ap (put_child b (tree v)) (sym (s.children gap))

  -- a child is there
  module _ (u : Phys) (e : s.there ≡ held u) where
    with-this : children_of ks ≡ put_child b (tree u) (children_of (s.put gap))
    with-this = ap children_of (sym s.whole ∙ ap s.put e) ∙ with-child u

    pub spot-sound : Sound cap pcap u
    spot-sound = rw e at s.sound_there

    pub spot-has : has b (children_of ks) ≡ true
    spot-has = ap (has b) with-this ∙ has-put b (tree u) (children_of (s.put gap))

    pub spot-child : child_by b (children_of ks) ≡ tree u
    spot-child = ap (child_by b) with-this ∙ child-put b (tree u) (children_of (s.put gap))

    pub spot-set : (v : Phys) → children_of (s.put (held v)) ≡ set_child b (tree v) (children_of ks)
    spot-set v = with-child v ∙ sym (ap (set_child b (tree v)) with-this ∙ set-put b (tree v) (tree u) (children_of (s.put gap)))

    pub spot-drop : children_of (s.put gap) ≡ drop_child b (children_of ks)
    spot-drop = sym (ap (drop_child b) with-this ∙ drop-put b (tree u) (children_of (s.put gap)))

  -- none is there
  module _ (e : s.there ≡ gap) where
    pub spot-same : s.put gap ≡ ks
    spot-same = ap s.put (sym e) ∙ s.whole

    pub spot-none : has b (children_of ks) ≡ false
    unfolding out
    spot-none =
        ap (λ (js : Kids). has b (children_of js)) (sym spot-same) ∙ ap (has b) (s.children gap)
        ∙ out_none b (s.before s.later) (s.skip (out b) (out-skips b) s.later ∙ ap s.before (rw (has_above b s.later s.above) refl))
