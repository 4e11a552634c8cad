-- The walk of a trie within a radius is complete: it meets each page whose bytes are within that radius of the query's.
use Prim.Native.Nat.{ℕ, suc, ◌+◌, ◌-◌, ◌/◌, ◌≤◌, ◌<◌}
use native.Mathlib.Omega.{arith}
use mathlib.Core.Path.{◌≡◌, sym, ap, ◌∙◌}
use mathlib.Core.Bool.{true, cond, false≢true}
use mathlib.Core.List.{List, [], ◌∷◌}
use lib.Dec.{eqb, leb}
use lib.Bits.{bit_xor}
use lib.ListN.{length, get_or, drop}
use lib.Seq.{drop-cons}
use borrow.Author.Tests.{le-leb, eqb-true}
use Rattle.meaning.specs.Lists.{all, any}
use Rattle.meaning.specs.Sketch.{distance, in_range, packed_length, pack, byte_distance, block_length, block}
use Rattle.meaning.specs.Trie.{Tree, leaf, inner, Children, none, child, byte_at, met, met_in, pages_in, pages_among}
use Rattle.meaning.proofs.Lists.{all-each}
use Rattle.sketch_laws.specs.Packed.{packed_distance}
use Rattle.sketch_laws.specs.Paths.{OnPath, OnPathUnder, Shallow, ShallowUnder}
use Rattle.sketch_laws.proofs.Prefix.{packed-drop}
use Rattle.sketch_laws.proofs.Blocks.{block-packed, near-packed}
use Rattle.sketch_laws.proofs.Lists.{in_both, in-cond}

-- ---- what is met is in the trie
mutual
  unfolding met met_in pages_in pages_among any

  pub met-in : (b r p : ℕ) (t : Tree) (ys : List ℕ) → any (eqb p) (met b r t ys) ≡ true → any (eqb p) (pages_in t) ≡ true
  met-in b r p (leaf ps) ys h = h
  met-in b r p (inner cs) ys h = met-under b r p cs ys h

  pub met-under : (b r p : ℕ) (cs : Children) (ys : List ℕ) → any (eqb p) (met_in b r cs ys) ≡ true → any (eqb p) (pages_among cs) ≡ true
  met-under b r p none ys h = h
  met-under b r p (child c t cs) [] h = absurd (false≢true h)
  met-under b r p (child c t cs) (y ∷ ys) h =
      let d : ℕ = byte_distance b (bit_xor c y) in
      in_both p (cond (leb d r) (met b (r - d) t ys) []) (met_in b r cs (y ∷ ys)) (pages_in t) (pages_among cs)
      (λ g. met-in b (r - d) p t ys (in-cond p (leb d r) (met b (r - d) t ys) g))
      (met-under b r p cs (y ∷ ys))
      h

-- ---- a page that is near is met
module _ (bytes_of : ℕ → List ℕ) where
  -- a page within r from level k on, and below the child with byte c, is from the next level on within what c leaves of r
  near-below : (b r k c p : ℕ) (us ys : List ℕ) → k < length ys → length (bytes_of p) ≡ length ys
      → all (λ u. eqb (byte_at bytes_of k u) c) us ≡ true → any (eqb p) us ≡ true → packed_distance b (drop k (bytes_of p)) (drop k ys) ≤ r
      → byte_distance b (bit_xor c (get_or ys k 0)) + packed_distance b (drop (suc k) (bytes_of p)) (drop (suc k) ys) ≤ r
  unfolding byte_at
  near-below b r k c p us ys l e a i n =
      let path : get_or (bytes_of p) k 0 ≡ c = eqb-true (get_or (bytes_of p) k 0) c (all-each (λ u. eqb (byte_at bytes_of k u) c) us a p i) in
      rw path at (rw (packed-drop b k (bytes_of p) ys (omega arith) l) at n)

  mutual
    unfolding met met_in pages_in pages_among any

    pub met-near : (b r k p : ℕ) (t : Tree) (ys : List ℕ) → OnPath bytes_of k t → Shallow (length ys) k t → length (bytes_of p) ≡ length ys
        → any (eqb p) (pages_in t) ≡ true → packed_distance b (drop k (bytes_of p)) (drop k ys) ≤ r → any (eqb p) (met b r t (drop k ys)) ≡ true
    met-near b r k p (leaf ps) ys o w e i n = i
    met-near b r k p (inner cs) ys o w e i n = met-near-under b r k p cs ys o w.0 w.1 e i n

    pub met-near-under : (b r k p : ℕ) (cs : Children) (ys : List ℕ) → OnPathUnder bytes_of k cs → k < length ys → ShallowUnder (length ys) k cs
        → length (bytes_of p) ≡ length ys → any (eqb p) (pages_among cs) ≡ true → packed_distance b (drop k (bytes_of p)) (drop k ys) ≤ r
        → any (eqb p) (met_in b r cs (drop k ys)) ≡ true
    met-near-under b r k p none ys o l w e i n = absurd (false≢true i)
    met-near-under b r k p (child c t cs) ys o l w e i n =
        let y : ℕ = get_or ys k 0 in
        let rest : List ℕ = drop (suc k) ys in
        let d : ℕ = byte_distance b (bit_xor c y) in
        rw (drop-cons ys k 0 l)
        (in_both p (pages_in t) (pages_among cs) (cond (leb d r) (met b (r - d) t rest) []) (met_in b r cs (y ∷ rest))
        (λ g.
        let near : d + packed_distance b (drop (suc k) (bytes_of p)) rest ≤ r = near-below b r k c p (pages_in t) ys l e o.0 g n in
        rw (le-leb d r (omega arith)) (met-near b (r - d) (suc k) p t ys o.1 w.0 e g (omega arith)))
        (λ g. rw (drop-cons ys k 0 l) at (met-near-under b r k p cs ys o.2 l w.1 e g n))
        i)

  -- a page with the sketch xs is met in the trie of block j by a query ys whose block j is within r of its own
  pub met-block : (b m q r j p : ℕ) (xs ys : List ℕ) (t : Tree) → j < q → length xs ≡ m → length ys ≡ m
      → bytes_of p ≡ pack b (block m q j xs) → OnPath bytes_of 0 t → Shallow (packed_length b (block_length m q j)) 0 t
      → any (eqb p) (pages_in t) ≡ true → packed_distance b (pack b (block m q j xs)) (pack b (block m q j ys)) ≤ r
      → any (eqb p) (met b r t (pack b (block m q j ys))) ≡ true
  met-block b m q r j p xs ys t l e f same path shallow there near =
      met-near b r 0 p t (pack b (block m q j ys)) path
      (rw (block-packed m q b j ys l f) shallow)
      (ap length same ∙ block-packed m q b j xs l e ∙ sym (block-packed m q b j ys l f))
      there
      (rw same near)

-- ---- a page with the sketch xs, within r of the query ys, is met within r / q in some block's trie
-- trie j and bytes_of j are the trie and the packed bytes of block j
pub met-somewhere : (b m q r p : ℕ) (xs ys : List ℕ) (bytes_of : ℕ → ℕ → List ℕ) (trie : ℕ → Tree)
    → 0 < b → b ≤ 8 → 0 < q → length xs ≡ m → length ys ≡ m → in_range b xs ≡ true → in_range b ys ≡ true
    → ((j : ℕ) → j < q → bytes_of j p ≡ pack b (block m q j xs))
    → ((j : ℕ) → j < q → OnPath (bytes_of j) 0 (trie j))
    → ((j : ℕ) → j < q → Shallow (packed_length b (block_length m q j)) 0 (trie j))
    → ((j : ℕ) → j < q → any (eqb p) (pages_in (trie j)) ≡ true)
    → distance xs ys ≤ r
    → (j : ℕ) × (j < q) × (any (eqb p) (met b (r / q) (trie j) (pack b (block m q j ys))) ≡ true)
met-somewhere b m q r p xs ys bytes_of trie lo hi h e f x y same path shallow there near = meets (near-packed b m q r xs ys lo hi h e f x y near)
  where
    meets : (j : ℕ) × (j < q) × (packed_distance b (pack b (block m q j xs)) (pack b (block m q j ys)) ≤ r / q)
        → (j : ℕ) × (j < q) × (any (eqb p) (met b (r / q) (trie j) (pack b (block m q j ys))) ≡ true)
    meets s =
        let j : ℕ = s.0 in
        let l : j < q = s.1 in
        (j, l, met-block (bytes_of j) b m q (r / q) j p xs ys (trie j) l e f (same j l) (path j l) (shallow j l) (there j l) s.2)
