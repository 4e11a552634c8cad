-- The pages of each leaf that a walk gives, in order: with nothing of the radius left an inner node gives one leaf, which may have none.
use Prim.Native.Nat.{ℕ, ◌-◌}
use mathlib.Core.Path.{◌≡◌, refl, sym, ap, ap₂, ◌∙◌}
use mathlib.Core.Bool.{Bool, true, false, cond}
use mathlib.Core.List.{List, [], ◌∷◌, ◌++◌, append-nil, append_assoc, flatten}
use lib.Bits.{bit_xor}
use lib.Dec.{leb, eqb}
use borrow.Author.Tests.{eq-eqb, ne_eqb}
use Rattle.meaning.specs.Sketch.{byte_distance}
use Rattle.meaning.specs.Trie.{Tree, leaf, inner, Children, none, child, met, met_in}
use Rattle.children.specs.Held.{Held}

unfoldable mutual
  pub lists : ℕ → ℕ → Tree → List ℕ → List (List ℕ)
  lists b r (leaf ps) ys = ps ∷ []
  lists b r (inner cs) ys = cond (eqb r 0) (met_in b r cs ys ∷ []) (lists_in b r cs ys)

  pub lists_in : ℕ → ℕ → Children → List ℕ → List (List ℕ)
  lists_in b r none ys = []
  lists_in b r (child c t cs) [] = []
  lists_in b r (child c t cs) (y ∷ ys) =
      cond (leb (byte_distance b (bit_xor c y)) r) (lists b (r - byte_distance b (bit_xor c y)) t ys) [] ++ lists_in b r cs (y ∷ ys)

-- ---- together they are the pages met
flatten-append : (xs ys : List (List ℕ)) → flatten (xs ++ ys) ≡ flatten xs ++ flatten ys
unfolding flatten
flatten-append [] ys = refl
flatten-append (x ∷ xs) ys = ap (λ zs. x ++ zs) (flatten-append xs ys) ∙ sym (append_assoc x (flatten xs) (flatten ys))

module _ (b : ℕ) where
  some-met : (q : Bool) (xs : List (List ℕ)) (ps : List ℕ) → flatten xs ≡ ps → flatten (cond q xs []) ≡ cond q ps []
  unfolding flatten
  some-met true xs ps e = e
  some-met false xs ps e = refl

  mutual
    unfolding lists lists_in met met_in flatten

    pub lists-met : (t : Tree) (r : ℕ) (ys : List ℕ) → flatten (lists b r t ys) ≡ met b r t ys
    lists-met (leaf ps) r ys = append-nil ps
    lists-met (inner cs) r ys = go (eqb r 0) (lists-met-in cs r ys)
      where
        go : (q : Bool) → flatten (lists_in b r cs ys) ≡ met_in b r cs ys → flatten (cond q (met_in b r cs ys ∷ []) (lists_in b r cs ys)) ≡ met_in b r cs ys
        go true h = append-nil (met_in b r cs ys)
        go false h = h

    lists-met-in : (cs : Children) (r : ℕ) (ys : List ℕ) → flatten (lists_in b r cs ys) ≡ met_in b r cs ys
    lists-met-in none r ys = refl
    lists-met-in (child c t cs) r [] = refl
    lists-met-in (child c t cs) r (y ∷ ys) =
        let d : ℕ = byte_distance b (bit_xor c y) in
        flatten-append (cond (leb d r) (lists b (r - d) t ys) []) (lists_in b r cs (y ∷ ys))
        ∙ ap₂ ◌++◌ (some-met (leb d r) (lists b (r - d) t ys) (met b (r - d) t ys) (lists-met t (r - d) ys)) (lists-met-in cs r (y ∷ ys))

  -- at radius 0 one leaf
  pub lists-none : (t : Tree) (r : ℕ) (ys : List ℕ) → r ≡ 0 → lists b r t ys ≡ met b 0 t ys ∷ []
  unfolding lists met
  lists-none (leaf ps) r ys z = refl
  lists-none (inner cs) r ys z = rw (eq-eqb r 0 z) (ap (λ k. met_in b k cs ys ∷ []) z)

  pub lists-some : (cs : Children) (r : ℕ) (ys : List ℕ) → (r ≡ 0 → ⊥) → lists b r (inner cs) ys ≡ lists_in b r cs ys
  unfolding lists
  lists-some cs r ys n = rw (ne_eqb r 0 n)

-- ---- they lie in the tables
module _ (base pcap : ℕ) (N P : List ℕ) where
  pub held-append : (xs ys : List (List ℕ)) → Held base pcap xs N P → Held base pcap ys N P → Held base pcap (xs ++ ys) N P
  held-append [] ys h g = g
  held-append (x ∷ xs) ys h g = (h.0, h.1, held-append xs ys h.2 g)

  pub held-some : (q : Bool) (xs : List (List ℕ)) → Held base pcap xs N P → Held base pcap (cond q xs []) N P
  held-some true xs h = h
  held-some false xs h = tt
