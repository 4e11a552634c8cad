-- A walk meets no more pages than a trie has; and of the tries of all blocks, what each of them meets.
use Prim.Native.Nat.{ℕ, zero, suc, ◌+◌, ◌-◌, ◌/◌, ◌≤◌, ◌<◌}
use native.Mathlib.Omega.{arith}
use native.Mathlib.Nat.{add-zero}
use mathlib.Core.Path.{◌≡◌}
use mathlib.Core.Bool.{Bool, true, false, cond}
use mathlib.Core.List.{List, [], ◌∷◌}
use lib.Bits.{bit_xor}
use lib.Dec.{leb, eqb}
use lib.ListN.{length, get_or, length-append}
use Rattle.meaning.specs.Lists.{any}
use Rattle.meaning.specs.Sketch.{byte_distance}
use Rattle.meaning.specs.Trie.{Tree, leaf, inner, Children, none, child, met, met_in, pages_in, pages_among}
use Rattle.meaning.specs.Ledger.{Settings}
use Rattle.meaning.specs.Forest.{bytes_of_sketch, met_from}
use Rattle.sketch_laws.proofs.Lists.{in-first, in-second}
use Rattle.trie_laws.proofs.Path.{shift}

cond-most : (t : Bool) (ps : List ℕ) (n : ℕ) → length ps ≤ n → length (cond t ps []) ≤ n
cond-most true ps n h = h
cond-most false ps n h = omega arith

module _ (b : ℕ) where
  mutual
    unfolding met met_in pages_in pages_among

    pub met-most : (t : Tree) (r : ℕ) (ys : List ℕ) → length (met b r t ys) ≤ length (pages_in t)
    met-most (leaf ps) r ys = omega arith
    met-most (inner cs) r ys = met-among cs r ys

    met-among : (cs : Children) (r : ℕ) (ys : List ℕ) → length (met_in b r cs ys) ≤ length (pages_among cs)
    met-among none r ys = omega arith
    met-among (child c t cs) r [] = omega arith
    met-among (child c t cs) r (y ∷ ys) =
        let d : ℕ = byte_distance b (bit_xor c y) in
        let here : List ℕ = cond (leb d r) (met b (r - d) t ys) [] in
        omega (
          arith,
          length-append here (met_in b r cs (y ∷ ys)),
          length-append (pages_in t) (pages_among cs),
          cond-most (leb d r) (met b (r - d) t ys) (length (pages_in t)) (met-most t (r - d) ys),
          met-among cs r (y ∷ ys),
        )

-- a page that some block's walk meets
module _ (s : Settings) (radius : ℕ) (x : List ℕ) (p : ℕ) where
  pub met-from : (F : List Tree) (j i : ℕ) (d : Tree) → i < length F
      → any (eqb p) (met s.bits (radius / s.blocks) (get_or F i d) (bytes_of_sketch s (j + i) x)) ≡ true
      → any (eqb p) (met_from s radius x j F) ≡ true
  unfolding met_from
  met-from [] j i d l h = absurd (omega arith)
  met-from (t ∷ F) j zero d l h =
      in-first p (met s.bits (radius / s.blocks) t (bytes_of_sketch s j x)) (met_from s radius x (suc j) F) (rw (add-zero j) at h)
  met-from (t ∷ F) j (suc i) d l h =
      in-second p (met s.bits (radius / s.blocks) t (bytes_of_sketch s j x)) (met_from s radius x (suc j) F)
      (met-from F (suc j) i d (omega arith) (rw (shift j i) at h))
