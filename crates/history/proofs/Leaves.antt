-- After every history each leaf's number is that of its pages (document 02, F-6).
use Prim.Native.Nat.{ℕ, suc, ◌≤◌}
use mathlib.Core.List.{List, [], ◌∷◌}
use Rattle.meaning.specs.Trie.{Tree}
use Rattle.meaning.specs.Ledger.{Event, ledger}
use Rattle.meaning.specs.Forest.{forest}
use Rattle.layout.specs.Pages.{most_pages, next_at}
use Rattle.layout.proofs.Limits.{bounds}
use Rattle.children.specs.Heap.{Holds}
use Rattle.children.specs.Phys.{Phys, Kids, leaf_p, inner_p, no_kid, kid, cells, linked_cells}
use Rattle.children.specs.Phys.{Sound as SoundNodes, SoundK}
use Rattle.children.proofs.Leaves.{held-count}
use Rattle.promises.specs.Tables.{Tables, given}
use Rattle.promises.specs.Sound.{Sound, Rooted, tries_cells}
use Rattle.history.specs.History.{History}
use Rattle.history.specs.Leaves.{Numbered, NumberedKids, AllNumbered}
use Rattle.history.proofs.Represents.{given_eq}
use Rattle.history.proofs.Main.{represents, theorem}

module _ (N P : List ℕ) (cap pcap : ℕ) (small : pcap ≤ most_pages) where
  mutual
    numbered : (base : ℕ) (t : Phys) → Holds (cells cap base t) N P → SoundNodes cap pcap t → Numbered N cap t
    numbered base (leaf_p x ps) h s = held-count N cap x ps h.0 s.1 small
    numbered base (inner_p x ks) h s = numbered-kids base ks 0 h.1.1 s.1

    numbered-kids : (base : ℕ) (ks : Kids) (lo : ℕ) → Holds (linked_cells cap base ks) N P → SoundK cap pcap ks lo → NumberedKids N cap ks
    numbered-kids base no_kid lo h s = tt
    numbered-kids base (kid b t ks) lo h s = (numbered base t h.1.0 s.2, numbered-kids base ks (suc b) h.1.1 s.3)

  all-numbered : (j : ℕ) (ts : List Phys) → Holds (tries_cells cap pcap j ts) N P → Rooted cap pcap j ts → AllNumbered N cap ts
  all-numbered j [] h r = tt
  all-numbered j (t ∷ ts) h r = (numbered (next_at pcap j) t h.0 r.1, all-numbered (suc j) ts h.1 r.2)

-- on a sound store
pub sound-numbered : (T : Tables) (F : List Tree) → (given T).pages ≤ most_pages → (s : Sound T F) → AllNumbered T.nodes (given T).nodes s.tries
sound-numbered T F small s =
    all-numbered T.nodes T.pages (given T).nodes (given T).pages small 0 s.tries s.holding.words.holds.0 s.holding.roots

-- and so after every history
pub leaves-numbered : {es : List Event} {T : Tables} (h : History es T) → AllNumbered T.nodes (given T).nodes (theorem h).sound.tries
leaves-numbered {es} {T} h =
    let W = represents h in
    let small : (given T).pages ≤ most_pages = rw (given_eq T (ledger es) W.tables) (bounds (ledger es).settings W.tables.limits).header.pages-most in
    sound-numbered T (forest es) small (theorem h).sound
