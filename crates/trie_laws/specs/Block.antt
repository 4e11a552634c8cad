-- The tries of all blocks of a store: sound over the pages' packed bytes, with the live pages.
use Rattle.std.specs.Prelude.{ℕ, suc, ◌≡◌, Bool, true, List, [], ◌∷◌}
use Rattle.meaning.specs.Sketch.{block_length}
use Rattle.meaning.specs.Trie.{Tree}
use Rattle.meaning.specs.Ledger.{Settings}
use Rattle.meaning.specs.Forest.{block_bytes}
use Rattle.trie_laws.specs.Sound.{packs, sound_trie, Stands}

-- `bytes j p` are the packed bytes of page p in block j
module _ (s : Settings) (bytes : ℕ → ℕ → List ℕ) where
  -- they are such that packing can give
  abbrev pub packs_in : ℕ → ℕ → Bool
  packs_in j p = packs (bytes j) s.bits (block_length s.symbols s.blocks j) (block_bytes s j) p

  -- the trie of block j
  pub record SoundBlock (live : ℕ → Bool) (j : ℕ) (t : Tree) : Type 0 where
    pub sound : sound_trie (bytes j) s.bits (block_length s.symbols s.blocks j) (block_bytes s j) 0 t ≡ true
    pub stands : Stands live t

-- a property of the tries of blocks j, j + 1, ..
abbrev pub EachFrom : (ℕ → Tree → Type 0) → ℕ → List Tree → Type 0
EachFrom P j [] = Unit {0}
EachFrom P j (t ∷ F) = P j t × EachFrom P (suc j) F
