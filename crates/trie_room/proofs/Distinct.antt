-- On tables that hold a leaf's pages, `distinct_bytes` counts the children that the leaf gets.
use Rattle.std.specs.Prelude.{Some}
use Prim.Native.Nat.{ℕ, ◌+◌, ◌-◌, ◌≤◌}
use native.Mathlib.Omega.{arith}
use mathlib.Core.Path.{◌≡◌, refl, ap, ◌∙◌}
use mathlib.Core.Bool.{true}
use mathlib.Core.List.{List, [], ◌∷◌, map}
use lib.Dec.{eqb}
use lib.ListN.{length}
use borrow.Author.Tests.{eq-eqb}
use Rattle.meaning.specs.Lists.{any}
use Rattle.meaning.specs.Trie.{byte_at}
use Rattle.blocks.specs.declared.Level.{Level}
use Rattle.blocks.specs.Packed.{page_byte}
use Rattle.children.specs.Phys.{first, Below}
use Rattle.trie.proofs.Spans.{Linked}
use Rattle.trie_laws.specs.Needed.{distinct}
use Rattle.meaning.proofs.Lists.{or-first, or-second}
use Rattle.leaf_bytes.specs.Chains.{whole, ahead, chain_from}
use Rattle.leaf_bytes.specs.Bytes.{distinct_bytes}
use Rattle.leaf_bytes.proofs.Count.{chain-none, chain_next}

-- a chain that lies in a table
chain-whole : (T : List ℕ) (base cap : ℕ) (xs : List ℕ) (f : ℕ) → Linked T base xs → Below cap xs → length xs ≤ f → chain_from T base cap (first xs) f ≡ whole xs
chain-whole T base cap [] f h b l = chain-none T base cap 0 f refl
chain-whole T base cap (x ∷ xs) f h b l =
    let e : x + 1 - 1 ≡ x = omega arith in
    chain_next T base cap (x + 1) f (λ z. omega arith) (λ z. omega arith) (omega (arith, b.0))
    ∙ rw (e, h.0) (ap (ahead x) (chain-whole T base cap xs (f - 1) h.1 b.1 (omega arith)))

-- two readings that agree on the pages
map-agree : (f g : ℕ → ℕ) (ps : List ℕ) → ((x : ℕ) → any (eqb x) ps ≡ true → f x ≡ g x) → map f ps ≡ map g ps
unfolding any
map-agree f g [] h = refl
map-agree f g (p ∷ ps) h =
    rw (h p (or-first (eqb p p) (any (eqb p) ps) (eq-eqb p p refl)), map-agree f g ps (λ x m. h x (or-second (eqb x p) (any (eqb x) ps) m)))

pub distinct-right : (bytes_of : ℕ → List ℕ) (P S : List ℕ) (pcap base k p : ℕ) (v : Level) (ps : List ℕ) → Linked P base ps → Below pcap ps → length ps ≤ pcap →
    ((x : ℕ) → any (eqb x) ps ≡ true → byte_at bytes_of k x ≡ page_byte S v x) →
    distinct_bytes P S pcap base v (first ps) (byte_at bytes_of k p) ≡ Some (distinct bytes_of k (p ∷ ps))
unfolding distinct_bytes distinct
distinct-right bytes_of P S pcap base k p v ps h b l e =
    rw (chain-whole P base pcap ps pcap h b l, map-agree (byte_at bytes_of k) (page_byte S v) ps e)
