-- The tries of all blocks stay sound when a page is added to each or dropped from each.
use Prim.Native.Nat.{ℕ, zero, suc, ◌+◌, ◌≤◌, ◌<◌}
use native.Mathlib.Omega.{arith}
use native.Mathlib.Nat.{add-zero}
use mathlib.Core.Path.{◌≡◌, refl, sym, ◌∙◌}
use mathlib.Core.Bool.{Bool, true, false, cond}
use mathlib.Core.List.{List, [], ◌∷◌}
use lib.Dec.{eqb}
use lib.ListN.{length, get_or, replicate}
use borrow.Author.Tests.{eq-eqb}
use Rattle.meaning.specs.Lists.{count}
use Rattle.meaning.specs.Sketch.{block_length}
use Rattle.meaning.specs.Trie.{Tree, fresh, insert, remove, pages_in}
use Rattle.meaning.specs.Ledger.{Settings}
use Rattle.meaning.specs.Forest.{block_bytes, each_from}
use Rattle.trie_laws.specs.Sound.{Stands, with_page, without_page}
use Rattle.trie_laws.specs.Block.{packs_in, SoundBlock, EachFrom}
use Rattle.trie_laws.proofs.Path.{shift}
use Rattle.trie_laws.proofs.Pages.{stands-any, stands-all, insert-stands, remove-stands}
use Rattle.trie_laws.proofs.Keeps.{fresh-sound, insert-sound, remove-sound}
use Rattle.trie_laws.proofs.Agree.{insert-agree, remove-agree, sound-agree}

with-new : (p : ℕ) (live : ℕ → Bool) → with_page p live p ≡ true
with-new p live = rw (eq-eqb p p refl) refl

with-old : (p : ℕ) (live : ℕ → Bool) (x : ℕ) → live x ≡ true → with_page p live x ≡ true
with-old p live x h = rw h (go (eqb x p))
  where
    go : (q : Bool) → cond q true true ≡ true
    go true = refl
    go false = refl

-- ---- one block
pub fresh-block : (s : Settings) (bytes : ℕ → ℕ → List ℕ) (j : ℕ) → SoundBlock s bytes (λ x. false) j fresh
unfolding Stands fresh pages_in count
fresh-block s bytes j = record { sound = fresh-sound (bytes j) s.bits (block_length s.symbols s.blocks j) (block_bytes s j) 0; stands = λ x. refl }

module _ (s : Settings) (bytes : ℕ → ℕ → List ℕ) (live : ℕ → Bool) (j : ℕ) (t : Tree) (h : SoundBlock s bytes live j t) where
  -- the rows of other pages may change
  pub agree-block : (later : ℕ → ℕ → List ℕ) → ((x : ℕ) → live x ≡ true → bytes j x ≡ later j x) → SoundBlock s later live j t
  agree-block later e = record {
    sound = sym (sound-agree (bytes j) (later j) s.bits (block_length s.symbols s.blocks j) (block_bytes s j) 0 t
        (λ x m. e x (sym (stands-any live t h.stands x) ∙ m))) ∙ h.sound;
    stands = h.stands;
  }

  pub insert-block : (thresholds : List ℕ) (p : ℕ) → live p ≡ false → ((x : ℕ) → with_page p live x ≡ true → packs_in s bytes j x ≡ true) →
      SoundBlock s bytes (with_page p live) j (insert (bytes j) (block_bytes s j) thresholds 0 p t)
  insert-block thresholds p a e = record {
    sound = insert-sound (bytes j) s.bits (block_length s.symbols s.blocks j) (block_bytes s j) thresholds 0 p t (e p (with-new p live))
        (stands-all live t h.stands (packs_in s bytes j) (λ x m. e x (with-old p live x m))) h.sound;
    stands = insert-stands live t h.stands (bytes j) (block_bytes s j) thresholds 0 p a;
  }

  pub remove-block : (p : ℕ) → SoundBlock s bytes (without_page p live) j (remove (bytes j) 0 p t)
  remove-block p = record {
    sound = remove-sound (bytes j) s.bits (block_length s.symbols s.blocks j) (block_bytes s j) 0 p t h.sound;
    stands = remove-stands live t h.stands (bytes j) s.bits (block_length s.symbols s.blocks j) (block_bytes s j) 0 p h.sound;
  }

-- ---- each block
module _ (P : ℕ → Tree → Type 0) where
  pub each-get : (j : ℕ) (F : List Tree) (i : ℕ) (d : Tree) → i < length F → EachFrom P j F → P (j + i) (get_or F i d)
  each-get j [] i d l h = absurd (omega arith)
  each-get j (t ∷ F) zero d l h = rw (add-zero j) h.0
  each-get j (t ∷ F) (suc i) d l h = rw (shift j i) (each-get (suc j) F i d (omega arith) h.1)

  pub each_same : (q : ℕ) (t : Tree) (j : ℕ) → ((i : ℕ) → P i t) → EachFrom P j (replicate q t)
  each_same zero t j e = tt
  each_same (suc q) t j e = (e j, each_same q t (suc j) e)

  -- of blocks below m
  module _ (m : ℕ) where
    pub each_map : (Q : ℕ → Tree → Type 0) → ((j : ℕ) (t : Tree) → j < m → P j t → Q j t) →
        (j : ℕ) (F : List Tree) → j + length F ≤ m → EachFrom P j F → EachFrom Q j F
    each_map Q e j [] l h = tt
    each_map Q e j (t ∷ F) l h = (e j t (omega arith) h.0, each_map Q e (suc j) F (omega arith) h.1)

    pub each_keeps : (Q : ℕ → Tree → Type 0) (f : ℕ → Tree → Tree) → ((j : ℕ) (t : Tree) → j < m → P j t → Q j (f j t)) →
        (j : ℕ) (F : List Tree) → j + length F ≤ m → EachFrom P j F → EachFrom Q j (each_from f j F)
    unfolding each_from
    each_keeps Q f e j [] l h = tt
    each_keeps Q f e j (t ∷ F) l h = (e j t (omega arith) h.0, each_keeps Q f e (suc j) F (omega arith) h.1)

    pub each-agree : (f g : ℕ → Tree → Tree) → ((j : ℕ) (t : Tree) → j < m → P j t → f j t ≡ g j t) →
        (j : ℕ) (F : List Tree) → j + length F ≤ m → EachFrom P j F → each_from f j F ≡ each_from g j F
    unfolding each_from
    each-agree f g e j [] l h = refl
    each-agree f g e j (t ∷ F) l h = rw (e j t (omega arith) h.0, each-agree f g e (suc j) F (omega arith) h.1) refl

module _ (s : Settings) (bytes : ℕ → ℕ → List ℕ) where
  pub fresh-forest : (q : ℕ) → EachFrom (SoundBlock s bytes (λ x. false)) 0 (replicate q fresh)
  fresh-forest q = each_same (SoundBlock s bytes (λ x. false)) q fresh 0 (fresh-block s bytes)

  -- what is written to the rows of other pages changes nothing
  pub agree-forest : (live : ℕ → Bool) (F : List Tree) → EachFrom (SoundBlock s bytes live) 0 F →
      (later : ℕ → ℕ → List ℕ) → ((j x : ℕ) → j < length F → live x ≡ true → bytes j x ≡ later j x) → EachFrom (SoundBlock s later live) 0 F
  agree-forest live F h later e =
      each_map (SoundBlock s bytes live) (length F) (SoundBlock s later live) (λ j t l b. agree-block s bytes live j t b later (λ x. e j x l)) 0 F (omega arith) h

  module _ (live : ℕ → Bool) (F : List Tree) (h : EachFrom (SoundBlock s bytes live) 0 F) (p : ℕ) where
    -- the page's row is written, then the page is put into each trie
    pub insert-forest : (later : ℕ → ℕ → List ℕ) (thresholds : List ℕ) → live p ≡ false →
        ((j x : ℕ) → j < length F → live x ≡ true → bytes j x ≡ later j x) →
        ((j x : ℕ) → j < length F → with_page p live x ≡ true → packs_in s later j x ≡ true) →
        EachFrom (SoundBlock s later (with_page p live)) 0 (each_from (λ j. insert (later j) (block_bytes s j) thresholds 0 p) 0 F)
    insert-forest later thresholds a e f =
        each_keeps (SoundBlock s bytes live) (length F) (SoundBlock s later (with_page p live)) (λ j. insert (later j) (block_bytes s j) thresholds 0 p)
        (λ j t l b. insert-block s later live j t (agree-block s bytes live j t b later (λ x. e j x l)) thresholds p a (λ x. f j x l))
        0 F (omega arith) h

    pub remove-forest : EachFrom (SoundBlock s bytes (without_page p live)) 0 (each_from (λ j. remove (bytes j) 0 p) 0 F)
    remove-forest =
        each_keeps (SoundBlock s bytes live) (length F) (SoundBlock s bytes (without_page p live)) (λ j. remove (bytes j) 0 p)
        (λ j t l b. remove-block s bytes live j t b p) 0 F (omega arith) h

    -- other readings of the bytes that agree give the same tries
    pub insert-same : (later : ℕ → ℕ → List ℕ) (thresholds : List ℕ) → ((j : ℕ) → j < length F → bytes j p ≡ later j p) →
        ((j x : ℕ) → j < length F → live x ≡ true → bytes j x ≡ later j x) →
        each_from (λ j. insert (bytes j) (block_bytes s j) thresholds 0 p) 0 F ≡ each_from (λ j. insert (later j) (block_bytes s j) thresholds 0 p) 0 F
    insert-same later thresholds e f =
        each-agree (SoundBlock s bytes live) (length F) (λ j. insert (bytes j) (block_bytes s j) thresholds 0 p) (λ j. insert (later j) (block_bytes s j) thresholds 0 p)
        (λ j t l b. insert-agree (bytes j) (later j) (block_bytes s j) thresholds 0 p t (e j l) (λ x m. f j x l (sym (stands-any live t b.stands x) ∙ m)))
        0 F (omega arith) h

    pub remove-same : (later : ℕ → ℕ → List ℕ) → ((j : ℕ) → j < length F → bytes j p ≡ later j p) →
        each_from (λ j. remove (bytes j) 0 p) 0 F ≡ each_from (λ j. remove (later j) 0 p) 0 F
    remove-same later e =
        each-agree (SoundBlock s bytes live) (length F) (λ j. remove (bytes j) 0 p) (λ j. remove (later j) 0 p)
        (λ j t l b. remove-agree (bytes j) (later j) 0 p t (e j l)) 0 F (omega arith) h
