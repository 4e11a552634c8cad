-- What a walk asks of the capacities, and of a trie: inner nodes above the last level, and bytes of z symbols. A sound trie is such.
use Prim.Native.Nat.{ℕ, suc, ◌-◌, ◌*◌, ◌^◌, ◌≤◌, ◌<◌}
use native.Mathlib.Omega.{arith}
use native.Mathlib.Nat.{min-le_left, mul-le-mul_left, lt_of_lt_of_le}
use lib.Pow.{pow_mono}
use mathlib.Core.Path.{◌≡◌, refl, ◌∙◌}
use mathlib.Core.Logic.{◌≢◌}
use mathlib.Core.Bool.{true}
use mathlib.Core.List.{List, [], ◌∷◌}
use lib.Bits.{bit_xor}
use borrow.Author.Tests.{ltb-true, lt-leb}
use Rattle.meaning.specs.Sketch.{per_byte, symbols_at, packable, byte_distance}
use Rattle.meaning.specs.Trie.{met_in}
use Rattle.layout.specs.Nodes.{most_nodes}
use Rattle.layout.specs.Pages.{most_pages}
use Rattle.children.specs.Phys.{Phys, Kids, leaf_p, inner_p, no_kid, kid, tree, children_of, SoundK}
use Rattle.trie_laws.specs.Sound.{sound_trie, sound_from}
use Rattle.trie_laws.proofs.Sound.{inner-parts, child-parts}
use Rattle.sketch_laws.proofs.Packing.{per-byte-le}
use Rattle.walk_laws.specs.Near.{near_k}
use Rattle.walk_laws.proofs.Apart.{apart}

-- capacities within the limits
abbrev pub Small : ℕ → ℕ → Type 0
Small cap pcap = (cap ≤ most_nodes) × (pcap ≤ most_pages)

module _ (b len : ℕ) where
  abbrev mutual
    -- a node at level k
    pub Fit : Phys → ℕ → Type 0
    Fit (leaf_p n ps) k = Unit {0}
    Fit (inner_p n ks) k = (k < len) × FitK ks k

    pub FitK : Kids → ℕ → Type 0
    FitK no_kid k = Unit {0}
    FitK (kid c t ks) k = (c < 2 ^ (b * per_byte b)) × Fit t (suc k) × FitK ks k

-- ---- a sound trie
pub packable-below : (b n k c : ℕ) → packable b n k c ≡ true → c < 2 ^ (b * per_byte b)
unfolding packable symbols_at
packable-below b n k c h =
    lt_of_lt_of_le (ltb-true c (2 ^ (b * symbols_at b n k)) h)
    (pow_mono {i = b * symbols_at b n k} {j = b * per_byte b} (mul-le-mul_left b (min-le_left (per_byte b) (n - k * per_byte b))))

pub byte_small : (b : ℕ) → 2 ^ (b * per_byte b) ≤ 256
byte_small b = pow_mono {i = b * per_byte b} {j = 8} (omega (arith, per-byte-le b))

module _ (bytes_of : ℕ → List ℕ) (b n len : ℕ) where
  mutual
    pub fit : (t : Phys) (k : ℕ) → sound_trie bytes_of b n len k (tree t) ≡ true → Fit b len t k
    fit (leaf_p x ps) k h = tt
    fit (inner_p x ks) k h = let s = inner-parts bytes_of b n len k (children_of ks) h in (s.level, fit-kids ks k 0 s.children_b)

    fit-kids : (ks : Kids) (k lo : ℕ) → sound_from bytes_of b n len k lo (children_of ks) ≡ true → FitK b len ks k
    fit-kids no_kid k lo h = tt
    fit-kids (kid c t ks) k lo h =
        let s = child-parts bytes_of b n len k lo c (tree t) (children_of ks) h in
        (packable-below b n k c s.here.packing, fit t (suc k) s.here.sub, fit-kids ks k (suc c) s.rest)

-- ---- children of other bytes than the query's, at radius 0
module _ (b y : ℕ) (ys : List ℕ) (query : y < 2 ^ (b * per_byte b)) where
  -- one
  module _ (c : ℕ) (t : Phys) (ks : Kids) (l : c < 2 ^ (b * per_byte b)) (n : c ≢ y) where
    pub apart-met : met_in b 0 (children_of (kid c t ks)) (y ∷ ys) ≡ met_in b 0 (children_of ks) (y ∷ ys)
    unfolding met_in
    apart-met = rw (lt-leb (byte_distance b (bit_xor c y)) 0 (apart b c y l query n))

    pub apart-near : near_k b 0 (kid c t ks) (y ∷ ys) ≡ near_k b 0 ks (y ∷ ys)
    unfolding near_k
    apart-near = rw (lt-leb (byte_distance b (bit_xor c y)) 0 (apart b c y l query n))

  -- all that are past it
  module _ (cap pcap len : ℕ) where
    pub unmet : (ks : Kids) (lo k : ℕ) → SoundK cap pcap ks lo → FitK b len ks k → y < lo → met_in b 0 (children_of ks) (y ∷ ys) ≡ []
    unfolding met_in
    unmet no_kid lo k s u l = refl
    unmet (kid c t ks) lo k s u l =
        let past : y < c = omega (arith, s.0) in
        apart-met c t ks u.0 (omega arith) ∙ unmet ks (suc c) k s.3 u.2 (omega arith)

    pub none-near : (ks : Kids) (lo k : ℕ) → SoundK cap pcap ks lo → FitK b len ks k → y < lo → near_k b 0 ks (y ∷ ys) ≡ []
    unfolding near_k
    none-near no_kid lo k s u l = refl
    none-near (kid c t ks) lo k s u l =
        let past : y < c = omega (arith, s.0) in
        apart-near c t ks u.0 (omega arith) ∙ none-near ks (suc c) k s.3 u.2 (omega arith)
