-- The nodes within a radius: how many they are, by their paths, of which each stands once, and at most one a level at radius 0.
use Prim.Native.Nat.{ℕ, suc, ◌+◌, ◌-◌, ◌*◌, ◌^◌, ◌≤◌, ◌<◌}
use native.Mathlib.Omega.{arith}
use native.Mathlib.Decide.{ℕ_discrete}
use mathlib.Core.Path.{◌≡◌, refl, ap, ap₂, ◌∙◌}
use mathlib.Core.Bool.{Bool, true, false, cond, ◌&&◌}
use mathlib.Core.List.{List, [], ◌∷◌, map}
use lib.Dec.{eqb, leb}
use lib.Bits.{bit_xor}
use lib.ListN.{length, get_or, take, length-append, length-map}
use borrow.Author.Tests.{leb-true, leb-false, le-leb, lt-leb, ne_eqb}
use Rattle.meaning.specs.Lists.{count}
use Rattle.meaning.specs.Sketch.{per_byte, byte_distance}
use Rattle.meaning.specs.Trie.{Tree, leaf, inner, Children, none, child, nodes, nodes_in}
use Rattle.meaning.proofs.Lists.{count-append}
use Rattle.sketch_laws.specs.Packed.{sum_pairs, packed_distance}
use Rattle.children.specs.Phys.{Phys, Kids, leaf_p, inner_p, no_kid, kid, tree, children_of}
use Rattle.trie_laws.specs.Sound.{sound_trie, sound_from}
use Rattle.trie_laws.specs.Path.{has, child_by, has_below, below, has_path}
use Rattle.trie_laws.proofs.Lists.{less, same, more, compared, count_none}
use Rattle.trie_laws.proofs.Sound.{SoundChild, inner-parts, child-parts}
use Rattle.walk_laws.specs.Near.{near, near_k, near_nodes, near_nodes_in, paths_in, paths_among, path_near, same_path}
use Rattle.walk_laws.proofs.Apart.{counted, apart}
use Rattle.walk_laws.proofs.Fit.{packable-below}

module _ (b : ℕ) where
  -- ---- their number
  cond-length : (q : Bool) (xs : List ℕ) (n : ℕ) → length xs ≡ n → length (cond q xs []) ≡ cond q n 0
  cond-length true xs n e = e
  cond-length false xs n e = refl

  mutual
    unfolding near near_k near_nodes near_nodes_in

    pub near-count : (t : Phys) (r : ℕ) (ys : List ℕ) → length (near b r t ys) ≡ near_nodes b r (tree t) ys
    near-count (leaf_p x ps) r ys = refl
    near-count (inner_p x ks) r ys = ap suc (count-kids ks r ys)

    count-kids : (ks : Kids) (r : ℕ) (ys : List ℕ) → length (near_k b r ks ys) ≡ near_nodes_in b r (children_of ks) ys
    count-kids no_kid r ys = refl
    count-kids (kid c t ks) r [] = refl
    count-kids (kid c t ks) r (y ∷ ys) =
        let d : ℕ = byte_distance b (bit_xor c y) in
        omega (
          arith,
          length-append (cond (leb d r) (near b (r - d) t ys) []) (near_k b r ks (y ∷ ys)),
          cond-length (leb d r) (near b (r - d) t ys) (near_nodes b (r - d) (tree t) ys) (near-count t (r - d) ys),
          count-kids ks r (y ∷ ys),
        )

  -- at most all
  cond-le : (q : Bool) (m n : ℕ) → m ≤ n → cond q m 0 ≤ n
  cond-le true m n l = l
  cond-le false m n l = omega arith

  mutual
    unfolding near_nodes near_nodes_in nodes nodes_in

    pub near_le : (t : Tree) (r : ℕ) (ys : List ℕ) → near_nodes b r t ys ≤ nodes t
    near_le (leaf ps) r ys = omega arith
    near_le (inner cs) r ys = omega (arith, near-le-in cs r ys)

    near-le-in : (cs : Children) (r : ℕ) (ys : List ℕ) → near_nodes_in b r cs ys ≤ nodes_in cs
    near-le-in none r ys = omega arith
    near-le-in (child c t cs) r [] = omega arith
    near-le-in (child c t cs) r (y ∷ ys) =
        let d : ℕ = byte_distance b (bit_xor c y) in
        omega (arith, cond-le (leb d r) (near_nodes b (r - d) t ys) (nodes t) (near_le t (r - d) ys), near-le-in cs r (y ∷ ys))

-- ---- by their paths
count_map : {A B : Type 0} (p : B → Bool) (q : A → Bool) (f : A → B) → ((x : A) → p (f x) ≡ q x) → (xs : List A) → count p (map f xs) ≡ count q xs
unfolding count
count_map p q f e [] = refl
count_map p q f e (x ∷ xs) = ap₂ (λ (t : Bool) (n : ℕ). cond t 1 0 + n) (e x) (count_map p q f e xs)

leb-less : (d k r : ℕ) → d ≤ r → leb (d + k) r ≡ leb k (r - d)
leb-less d k r l = go (leb k (r - d)) refl
  where
    go : (q : Bool) → leb k (r - d) ≡ q → leb (d + k) r ≡ q
    go true e = le-leb (d + k) r (omega (arith, leb-true k (r - d) e))
    go false e = lt-leb (d + k) r (omega (arith, leb-false k (r - d) e))

module _ (b : ℕ) where
  -- the paths that begin with a child's byte
  child-paths : (c y r : ℕ) (ys : List ℕ) (ps : List (List ℕ))
      → count (path_near b r (y ∷ ys)) (map (λ zs. c ∷ zs) ps)
      ≡ cond (leb (byte_distance b (bit_xor c y)) r) (count (path_near b (r - byte_distance b (bit_xor c y)) ys) ps) 0
  unfolding packed_distance sum_pairs
  child-paths c y r ys ps = go (leb d r) refl
    where
      d : ℕ
      d = byte_distance b (bit_xor c y)

      go : (q : Bool) → leb d r ≡ q
          → count (path_near b r (y ∷ ys)) (map (λ zs. c ∷ zs) ps) ≡ cond q (count (path_near b (r - d) ys) ps) 0
      go true e =
          count_map (path_near b r (y ∷ ys)) (path_near b (r - d) ys) (λ zs. c ∷ zs)
          (λ zs. leb-less d (packed_distance b zs (take (length zs) ys)) r (leb-true d r e)) ps
      go false e =
          count_map (path_near b r (y ∷ ys)) (λ zs. false) (λ zs. c ∷ zs)
          (λ zs. lt-leb (d + packed_distance b zs (take (length zs) ys)) r (omega (arith, leb-false d r e))) ps
          ∙ count_none (λ zs. false) ps (λ zs. refl)

  root-near : (r : ℕ) (ys : List ℕ) → path_near b r ys [] ≡ true
  unfolding packed_distance sum_pairs
  root-near r ys = le-leb 0 r (omega arith)

module _ (bytes_of : ℕ → List ℕ) (b n len : ℕ) where
  mutual
    unfolding near_nodes near_nodes_in paths_in paths_among count

    paths-at : (t : Tree) (k r : ℕ) (ys : List ℕ) → k + length ys ≡ len → sound_trie bytes_of b n len k t ≡ true
        → near_nodes b r t ys ≡ count (path_near b r ys) (paths_in t)
    paths-at (leaf ps) k r ys e h = omega (arith, counted (path_near b r ys []) (root-near b r ys))
    paths-at (inner cs) k r ys e h =
        let s = inner-parts bytes_of b n len k cs h in
        omega (arith, counted (path_near b r ys []) (root-near b r ys), paths-under cs k 0 r ys e s.level s.children_b)

    paths-under : (cs : Children) (k lo r : ℕ) (ys : List ℕ) → k + length ys ≡ len → k < len → sound_from bytes_of b n len k lo cs ≡ true
        → near_nodes_in b r cs ys ≡ count (path_near b r ys) (paths_among cs)
    paths-under none k lo r ys e l h = refl
    paths-under (child c t cs) k lo r [] e l h = absurd (omega arith)
    paths-under (child c t cs) k lo r (y ∷ ys) e l h =
        let d : ℕ = byte_distance b (bit_xor c y) in
        let s = child-parts bytes_of b n len k lo c t cs h in
        omega (
          arith,
          count-append (path_near b r (y ∷ ys)) (map (λ zs. c ∷ zs) (paths_in t)) (paths_among cs),
          child-paths b c y r ys (paths_in t),
          ap (λ m. cond (leb d r) m 0) (paths-at t (suc k) (r - d) ys (omega arith) s.here.sub),
          paths-under cs k (suc c) r (y ∷ ys) e l s.rest,
        )

-- they are exactly those whose path is within r of the query's bytes on it
pub near-path : (bytes_of : ℕ → List ℕ) (b n : ℕ) (t : Tree) (r : ℕ) (ys : List ℕ) → sound_trie bytes_of b n (length ys) 0 t ≡ true
    → near_nodes b r t ys ≡ count (path_near b r ys) (paths_in t)
near-path bytes_of b n t r ys h = paths-at bytes_of b n (length ys) t 0 r ys (omega arith) h

-- ---- the paths: one for each node, in a sound trie each once
mutual
  unfolding paths_in paths_among nodes nodes_in

  pub paths-nodes : (t : Tree) → length (paths_in t) ≡ nodes t
  paths-nodes (leaf ps) = refl
  paths-nodes (inner cs) = ap suc (paths-among cs)

  paths-among : (cs : Children) → length (paths_among cs) ≡ nodes_in cs
  paths-among none = refl
  paths-among (child c t cs) =
      omega
      (arith, length-append (map (λ zs. c ∷ zs) (paths_in t)) (paths_among cs), length-map (paths_in t) (λ (zs : List ℕ). c ∷ zs), paths-nodes t, paths-among cs)

head-paths : (z c : ℕ) (zs : List ℕ) (ps : List (List ℕ))
    → count (same_path (z ∷ zs)) (map (λ xs. c ∷ xs) ps) ≡ cond (eqb z c) (count (same_path zs) ps) 0
unfolding same_path
head-paths z c zs ps = go (eqb z c) refl
  where
    go : (q : Bool) → eqb z c ≡ q → count (same_path (z ∷ zs)) (map (λ xs. c ∷ xs) ps) ≡ cond q (count (same_path zs) ps) 0
    go true e = count_map (same_path (z ∷ zs)) (same_path zs) (λ xs. c ∷ xs) (λ xs. rw e refl) ps
    go false e =
        count_map (same_path (z ∷ zs)) (λ xs. false) (λ xs. c ∷ xs) (λ xs. rw e refl) ps ∙ count_none (λ xs. false) ps (λ xs. refl)

-- a child's path is not the root's
none-empty : (cs : Children) → count (same_path []) (paths_among cs) ≡ 0
unfolding paths_among same_path count
none-empty none = refl
none-empty (child c t cs) =
    omega (
      arith,
      count-append (same_path []) (map (λ zs. c ∷ zs) (paths_in t)) (paths_among cs),
      count_map (same_path []) (λ xs. false) (λ xs. c ∷ xs) (λ xs. refl) (paths_in t),
      count_none (λ (xs : List ℕ). false) (paths_in t) (λ xs. refl),
      none-empty cs,
    )

split-paths : (z c : ℕ) (zs : List ℕ) (t : Tree) (cs : Children)
    → count (same_path (z ∷ zs)) (paths_among (child c t cs)) ≡ cond (eqb z c) (count (same_path zs) (paths_in t)) 0 + count (same_path (z ∷ zs)) (paths_among cs)
unfolding paths_among
split-paths z c zs t cs =
    count-append (same_path (z ∷ zs)) (map (λ xs. c ∷ xs) (paths_in t)) (paths_among cs)
    ∙ ap (λ m. m + count (same_path (z ∷ zs)) (paths_among cs)) (head-paths z c zs (paths_in t))

module _ (bytes_of : ℕ → List ℕ) (b n len : ℕ) where
  once-past : (cs : Children) (k lo z : ℕ) (zs : List ℕ) → sound_from bytes_of b n len k lo cs ≡ true → z < lo
      → count (same_path (z ∷ zs)) (paths_among cs) ≡ 0
  unfolding paths_among count
  once-past none k lo z zs h l = refl
  once-past (child c t cs) k lo z zs h l =
      let s = child-parts bytes_of b n len k lo c t cs h in
      let up : lo ≤ c = s.rising in
      split-paths z c zs t cs
      ∙ rw (ne_eqb z c (omega arith)) (omega (arith, once-past cs k (suc c) z zs s.rest (omega arith)))

  once-child : (c : ℕ) (t : Tree) (cs : Children) (k z : ℕ) (zs : List ℕ) → sound_from bytes_of b n len k (suc c) cs ≡ true
      → count (same_path zs) (paths_in t) ≡ cond (has_path zs t) 1 0
      → count (same_path (z ∷ zs)) (paths_among cs) ≡ cond (has z cs && has_path zs (child_by z cs)) 1 0
      → count (same_path (z ∷ zs)) (paths_among (child c t cs)) ≡ cond (has z (child c t cs) && has_path zs (child_by z (child c t cs))) 1 0
  unfolding has child_by
  once-child c t cs k z zs s here rest =
      split-paths z c zs t cs
      ∙ elim (compared z c) [
        | less l q ↦ rw (q.eq, q.gt, q.qe) (omega (arith, once-past cs k (suc c) z zs s (omega arith)))
        | same l q ↦ rw (q.eq, q.gt, q.qe) (omega (arith, here, once-past cs k (suc c) z zs s (omega arith)))
        | more l q ↦ rw (q.eq, q.gt) (omega (arith, rest))
      ]

  mutual
    unfolding paths_in paths_among same_path count has_path has_below below has child_by

    pub paths-once : (t : Tree) (k : ℕ) (zs : List ℕ) → sound_trie bytes_of b n len k t ≡ true
        → count (same_path zs) (paths_in t) ≡ cond (has_path zs t) 1 0
    paths-once (leaf ps) k [] h = refl
    paths-once (leaf ps) k (z ∷ zs) h = refl
    paths-once (inner cs) k [] h = omega (arith, none-empty cs)
    paths-once (inner cs) k (z ∷ zs) h = omega (arith, once-among cs k 0 z zs (inner-parts bytes_of b n len k cs h).children_b)

    once-among : (cs : Children) (k lo z : ℕ) (zs : List ℕ) → sound_from bytes_of b n len k lo cs ≡ true
        → count (same_path (z ∷ zs)) (paths_among cs) ≡ cond (has z cs && has_path zs (child_by z cs)) 1 0
    once-among none k lo z zs h = refl
    once-among (child c t cs) k lo z zs h =
        let s = child-parts bytes_of b n len k lo c t cs h in
        once-child c t cs k z zs s.rest (paths-once t (suc k) zs s.here.sub) (once-among cs k (suc c) z zs s.rest)

-- ---- at radius 0
module _ (bytes_of : ℕ → List ℕ) (b n len : ℕ) where
  -- none past the query's byte
  zero-past : (cs : Children) (k lo y : ℕ) (ys : List ℕ) → y < 2 ^ (b * per_byte b) → sound_from bytes_of b n len k lo cs ≡ true → y < lo
      → near_nodes_in b 0 cs (y ∷ ys) ≡ 0
  unfolding near_nodes_in
  zero-past none k lo y ys q h l = refl
  zero-past (child c t cs) k lo y ys q h l =
      let s = child-parts bytes_of b n len k lo c t cs h in
      let up : lo ≤ c = s.rising in
      rw (lt-leb (byte_distance b (bit_xor c y)) 0 (apart b c y (packable-below b n k c s.here.packing) q (λ e. absurd (omega arith))))
      (omega (arith, zero-past cs k (suc c) y ys q s.rest (omega arith)))

  zero-child : (c : ℕ) (t : Tree) (cs : Children) (k lo y : ℕ) (ys : List ℕ) → y < 2 ^ (b * per_byte b) → SoundChild bytes_of b n len k lo c t cs
      → near_nodes b 0 t ys ≤ length ys + 1 → near_nodes_in b 0 cs (y ∷ ys) ≤ length (y ∷ ys)
      → near_nodes_in b 0 (child c t cs) (y ∷ ys) ≤ length (y ∷ ys)
  unfolding near_nodes_in
  zero-child c t cs k lo y ys q s below rest = go (leb d 0) refl (ℕ_discrete c y)
    where
      d : ℕ
      d = byte_distance b (bit_xor c y)

      none_left : 0 - d ≡ 0
      none_left = omega arith

      go : (p : Bool) → leb d 0 ≡ p → Dec (c ≡ y) → cond p (near_nodes b (0 - d) t ys) 0 + near_nodes_in b 0 cs (y ∷ ys) ≤ length (y ∷ ys)
      go false e x = omega (arith, rest)
      go true e (yes z) =
          omega (arith, below, ap (λ r. near_nodes b r t ys) none_left, zero-past cs k (suc c) y ys q s.rest (omega arith))
      go true e (no z) = absurd (omega (arith, leb-true d 0 e, apart b c y (packable-below b n k c s.here.packing) q z))

  mutual
    unfolding near_nodes near_nodes_in

    -- at most the query's bytes and the root
    pub near-zero : (t : Tree) (k : ℕ) (ys : List ℕ) → ((i : ℕ) → get_or ys i 0 < 2 ^ (b * per_byte b)) → sound_trie bytes_of b n len k t ≡ true
        → near_nodes b 0 t ys ≤ length ys + 1
    near-zero (leaf ps) k ys q h = omega arith
    near-zero (inner cs) k ys q h = omega (arith, zero-under cs k 0 ys q (inner-parts bytes_of b n len k cs h).children_b)

    zero-under : (cs : Children) (k lo : ℕ) (ys : List ℕ) → ((i : ℕ) → get_or ys i 0 < 2 ^ (b * per_byte b))
        → sound_from bytes_of b n len k lo cs ≡ true → near_nodes_in b 0 cs ys ≤ length ys
    zero-under none k lo ys q h = omega arith
    zero-under (child c t cs) k lo [] q h = omega arith
    zero-under (child c t cs) k lo (y ∷ ys) q h =
        let s = child-parts bytes_of b n len k lo c t cs h in
        zero-child c t cs k lo y ys (q 0) s (near-zero t (suc k) ys (λ i. q (suc i)) s.here.sub)
        (zero-under cs k (suc c) (y ∷ ys) q s.rest)
