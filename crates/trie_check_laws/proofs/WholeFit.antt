-- How many nodes and pages the parts of a trie have, and that each part is in order where the whole is.
use Prim.Native.Nat.{ℕ, suc, ◌+◌, ◌<◌}
use native.Mathlib.Omega.{arith}
use mathlib.Core.Path.{◌≡◌, refl, sym, ◌∙◌}
use mathlib.Core.Bool.{Bool, true, ◌&&◌}
use mathlib.Core.List.{List, [], ◌∷◌, ◌++◌}
use lib.Dec.{ltb, leb}
use lib.ListN.{length, length-append}
use borrow.Author.Tests.{ltb-true}
use Rattle.meaning.specs.Lists.{all}
use Rattle.meaning.specs.Sketch.{packable}
use Rattle.meaning.specs.Trie.{Children, child, nodes, nodes_in, pages_in, pages_among}
use Rattle.children.specs.Phys.{Phys, Kids, leaf_p, inner_p, no_kid, kid, tree, children_of}
use Rattle.trie_laws.specs.Sound.{filled}
use Rattle.trie_laws.specs.Path.{follows}
use Rattle.trie_laws.specs.Walk.{sound_walk, walk_from}
use Rattle.meaning.proofs.Lists.{all_append, and_first, and_second}

-- ---- counts
abbrev mutual
  pub size : Phys → ℕ
  size (leaf_p n ps) = 1
  size (inner_p n ks) = 1 + size_among ks

  pub size_among : Kids → ℕ
  size_among no_kid = 0
  size_among (kid c t ks) = size t + size_among ks

abbrev mutual
  pub load : Phys → ℕ
  load (leaf_p n ps) = length ps
  load (inner_p n ks) = load_among ks

  pub load_among : Kids → ℕ
  load_among no_kid = 0
  load_among (kid c t ks) = load t + load_among ks

mutual
  unfolding nodes nodes_in

  pub size-nodes : (t : Phys) → size t ≡ nodes (tree t)
  size-nodes (leaf_p n ps) = refl
  size-nodes (inner_p n ks) = omega (arith, size-children ks)

  size-children : (ks : Kids) → size_among ks ≡ nodes_in (children_of ks)
  size-children no_kid = refl
  size-children (kid c t ks) = omega (arith, size-nodes t, size-children ks)

mutual
  unfolding pages_in pages_among

  pub load-pages : (t : Phys) → load t ≡ length (pages_in (tree t))
  load-pages (leaf_p n ps) = refl
  load-pages (inner_p n ks) = load-children ks

  load-children : (ks : Kids) → load_among ks ≡ length (pages_among (children_of ks))
  load-children no_kid = refl
  load-children (kid c t ks) = omega (arith, load-pages t, load-children ks, length-append (pages_in (tree t)) (pages_among (children_of ks)))

-- ---- order
module _ (bytes_of : ℕ → List ℕ) (live : ℕ → Bool) (b n len : ℕ) where
  -- below the bytes ys: pages that follow them and are live, bytes that packing can give, no empty child
  abbrev mutual
    pub Fit : Phys → List ℕ → Type 0
    Fit (leaf_p x ps) ys = (all (follows bytes_of 0 ys) ps ≡ true) × (all live ps ≡ true)
    Fit (inner_p x ks) ys = (length ys < len) × FitAmong ks ys

    pub FitAmong : Kids → List ℕ → Type 0
    FitAmong no_kid ys = Unit {0}
    FitAmong (kid c t ks) ys = (packable b n (length ys) c ≡ true) × (filled (tree t) ≡ true) × Fit t (ys ++ c ∷ []) × FitAmong ks ys

  -- the children from some byte on
  record Rest (cs : Children) (ys : List ℕ) : Type 0 where
    lo : ℕ
    walked : walk_from bytes_of b n len (length ys) ys lo cs ≡ true
    alive : all live (pages_among cs) ≡ true

  -- the tests of a child
  record Child (c : ℕ) (t : Phys) (cs : Children) (ys : List ℕ) : Type 0 where
    packs : packable b n (length ys) c ≡ true
    full : filled (tree t) ≡ true
    sound : sound_walk bytes_of b n len (length (ys ++ c ∷ [])) (ys ++ c ∷ []) (tree t) ≡ true
    alive : all live (pages_in (tree t)) ≡ true
    rest : Rest cs ys

  child-tests : (c : ℕ) (t : Phys) (cs : Children) (ys : List ℕ) → Rest (child c (tree t) cs) ys → Child c t cs ys
  unfolding walk_from pages_among
  child-tests c t cs ys r =
      let one : length (ys ++ c ∷ []) ≡ suc (length ys) = omega (arith, length-append ys (c ∷ [])) in
      let down : Bool = sound_walk bytes_of b n len (suc (length ys)) (ys ++ c ∷ []) (tree t) in
      let on : Bool = walk_from bytes_of b n len (length ys) ys (suc c) cs in
      let w1 = and_second (leb r.lo c) (packable b n (length ys) c && (filled (tree t) && (down && on))) r.walked in
      let w2 = and_second (packable b n (length ys) c) (filled (tree t) && (down && on)) w1 in
      let w3 = and_second (filled (tree t)) (down && on) w2 in
      let a = sym (all_append live (pages_in (tree t)) (pages_among cs)) ∙ r.alive in
      record {
        packs = and_first (packable b n (length ys) c) (filled (tree t) && (down && on)) w1;
        full = and_first (filled (tree t)) (down && on) w2;
        sound = rw one (and_first down on w3);
        alive = and_first (all live (pages_in (tree t))) (all live (pages_among cs)) a;
        rest = record { lo = suc c; walked = and_second down on w3; alive = and_second (all live (pages_in (tree t))) (all live (pages_among cs)) a };
      }

  mutual
    unfolding sound_walk pages_in

    pub fit : (t : Phys) (ys : List ℕ) → sound_walk bytes_of b n len (length ys) ys (tree t) ≡ true → all live (pages_in (tree t)) ≡ true → Fit t ys
    fit (leaf_p x ps) ys h a = (h, a)
    fit (inner_p x ks) ys h a =
        let on : Bool = walk_from bytes_of b n len (length ys) ys 0 (children_of ks) in (
          ltb-true (length ys) len (and_first (ltb (length ys) len) on h),
          fit-children ks ys (record { lo = 0; walked = and_second (ltb (length ys) len) on h; alive = a }),
        )

    fit-children : (ks : Kids) (ys : List ℕ) → Rest (children_of ks) ys → FitAmong ks ys
    fit-children no_kid ys r = tt
    fit-children (kid c t ks) ys r =
        let d : Child c t (children_of ks) ys = child-tests c t (children_of ks) ys r in
        (d.packs, d.full, fit t (ys ++ c ∷ []) d.sound d.alive, fit-children ks ys d.rest)
