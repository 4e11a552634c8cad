-- An add keeps the store sound: on a sound store with the tries F, where no question refuses the add, `insert_all` is not stopped, and the
-- tables with its nodes and pages, the free link, the page live in its class, and its signature and row written are sound, with the tries that
-- `forest_after` gives.
use Rattle.std.specs.Prelude.{Some, None}
use Prim.Native.Nat.{ℕ, ◌+◌, ◌-◌, ◌<◌}
use native.Mathlib.Decide.{ℕ_discrete}
use native.Mathlib.Omega.{arith}
use mathlib.Core.Path.{◌≡◌, refl, sym, ap, ◌∙◌, fun_ext}
use mathlib.Core.Bool.{Bool, true, false, ◌&&◌}
use mathlib.Core.Logic.{◌≢◌, by_cases}
use mathlib.Core.List.{List}
use borrow.Author.Tests.{eqb-true, eqb-false, ltb-true, lt-ltb}
use lib.Dec.{ltb, eqb}
use lib.ListN.{length, get_or, set, length-map}
use lib.Seq.{get_or-set_same}
use Rattle.meaning.specs.Trie.{Tree}
use Rattle.meaning.specs.Ledger.{Settings, add}
use Rattle.meaning.specs.Forest.{each_from, forest_after}
use Rattle.meaning.proofs.Lists.{and_first}
use Rattle.layout.specs.Settings.{free_at, settings_of}
use Rattle.layout.specs.Pages.{is_live, class_of, signature_at}
use Rattle.layout.specs.Signature.{signature}
use Rattle.layout.proofs.Words.{live_written, class-written, signature-written, live-written-other, class-written-other, signature-written-other}
use Rattle.layout.proofs.Written.{settings-set}
use Rattle.children.specs.Phys.{tree}
use Rattle.trie_laws.specs.Sound.{with_page as with_live}
use Rattle.trie_laws.specs.Block.{SoundBlock, EachFrom}
use Rattle.trie_laws.proofs.Lists.{holds, fails, truth}
use Rattle.trie_laws.proofs.Forest.{each-length}
use Rattle.promises.specs.Tables.{Tables, given, page_class, page_row, rows_of}
use Rattle.promises.specs.Answers.{number}
use Rattle.promises.specs.Sound.{Holding, Sound, SoundPage, live_page, page_bytes}
use Rattle.promises.proofs.Stores.{tries-count, entries-kept}
use Rattle.add_laws.specs.Insert.{filled, insert_all}
use Rattle.add_laws.specs.Add.{row_added, page_written, page_added}
use Rattle.add_laws.proofs.Grows.{inserts}
use Rattle.add_laws.proofs.KeepsAsked.{Accepted, accepted}
use Rattle.add_laws.proofs.KeepsBytes.{written-bytes, written-reads, written-blocks, forest-read, mine-row, other_row}
use Rattle.add_laws.proofs.KeepsGrown.{Placed, placed, sketches-long}

pub record InsertedSound (T : Tables) (F : List Tree) (p c : ℕ) (x : List ℕ) : Type 0 where
  pub nodes : List ℕ
  pub pages : List ℕ
  pub link : ℕ
  pub is : insert_all (given T) (row_added T p c x) x p T.nodes T.pages (get_or T.settings free_at 0) ≡ filled nodes pages (Some link)
  pub sound : Sound (page_added T p c x nodes pages link) (forest_after (given T) (rows_of T) (add p c x) F)

module _ (T : Tables) (F : List Tree) (sound : Sound T F) (p c : ℕ) (x : List ℕ) (a : Accepted T F p c x) (G : Placed T F p c x) where
  abbrev s : Settings
  s = given T

  abbrev T' : Tables
  T' = page_added T p c x G.nodes_to G.pages_to G.link

  given-same : settings_of (set T.settings free_at G.link) ≡ s
  given-same = settings-set T.settings free_at G.link (omega arith)

  abbrev g : ℕ
  g = signature s.bits x

  -- ---- the live pages
  live-new : live_page T' p ≡ true
  unfolding live_page
  live-new = rw (given-same, lt-ltb p s.pages a.page) (live_written s.pages G.pages_to p a.page G.long c g)

  live-old : (q : ℕ) → q ≢ p → live_page T' q ≡ live_page T q
  unfolding live_page is_live
  live-old q d = rw given-same (go (ltb q s.pages) refl)
    where
      go : (t : Bool) → ltb q s.pages ≡ t → t && is_live (page_written T p c x G.pages_to) q ≡ t && is_live T.pages q
      go true e =
          let l : q < s.pages = ltb-true q s.pages e in
          live-written-other s.pages G.pages_to p a.page G.long c g q l d ∙ ap (λ w. ltb 0 w) (G.kept q (omega arith))
      go false e = refl

  live_same : live_page T' ≡ with_live p (live_page T)
  live_same = fun_ext (λ q. elim (truth (eqb q p)) [
    | holds e ↦ rw e (ap (live_page T') (eqb-true q p e) ∙ live-new)
    | fails e ↦ rw e (live-old q (eqb-false q p e))
  ])

  -- ---- their rows, classes and signatures
  abbrev bytes : ℕ → ℕ → List ℕ
  bytes = written-bytes T p x F sound a.dead a.count a.range (sketches-long T F sound p c x a) a.page

  bytes_same : page_bytes T' ≡ bytes
  unfolding page_bytes page_row
  bytes_same = fun_ext (λ j. fun_ext (λ q. rw given-same refl))

  page-new : SoundPage T' p
  unfolding page_class page_row
  page-new = let row = mine-row T p x F sound a.dead a.count a.range (sketches-long T F sound p c x a) a.page in record {
    class = rw (class-written s.pages G.pages_to p a.page G.long c g) a.class;
    symbols = rw (given-same, row) a.range;
    signature = rw (given-same, row) (signature-written s.pages G.pages_to p a.page G.long c g);
  }

  page-old : (q : ℕ) → q ≢ p → live_page T q ≡ true → SoundPage T' q
  unfolding page_class page_row live_page class_of signature_at
  page-old q d live =
      let l : q < s.pages = ltb-true q s.pages (and_first (ltb q s.pages) (is_live T.pages q) live) in
      let class : class_of (page_written T p c x G.pages_to) q ≡ class_of T.pages q =
      class-written-other s.pages G.pages_to p a.page G.long c g q l d ∙ ap (λ (w : ℕ). w - 1) (G.kept q (omega arith)) in
      let stored : signature_at (page_written T p c x G.pages_to) s.pages q ≡ signature_at T.pages s.pages q =
      signature-written-other s.pages G.pages_to p a.page G.long c g q l d ∙ G.kept (s.pages + q) (omega arith) in
      let row = other_row T p x F sound a.dead a.count a.range (sketches-long T F sound p c x a) a.page q d in
      record {
        class = rw class (sound.pages q live).class;
        symbols = rw (given-same, row) (sound.pages q live).symbols;
        signature = rw (given-same, row) (stored ∙ (sound.pages q live).signature);
      }

  pages-sound : (q : ℕ) → live_page T' q ≡ true → SoundPage T' q
  pages-sound q live =
      by_cases (ℕ_discrete q p)
      (λ e. rw e page-new)
      (λ d. page-old q d (sym (live-old q d) ∙ live))

  -- ---- the tries
  forest-bytes : each_from (inserts s bytes p) 0 F ≡ forest_after s (rows_of T) (add p c x) F
  forest-bytes =
      forest-read T p x F sound c a.dead bytes
      (written-reads T p x F sound a.dead a.count a.range (sketches-long T F sound p c x a) a.page)

  count-after : length G.to ≡ s.blocks
  count-after =
      sym (length-map G.to tree) ∙ ap length (G.forest ∙ sym forest-bytes) ∙ each-length (inserts s bytes p) 0 F ∙ tries-count T F sound

  holding : Holding T' G.to G.free
  holding = record {
    words = rw given-same G.words;
    blocks = rw given-same count-after;
    roots = rw given-same G.roots;
    chain = get_or-set_same T.settings free_at G.link 0 (omega (arith, a.opened.long)) ∙ G.chain;
    below = rw given-same G.below;
    all = rw given-same G.all;
  }

  blocks : EachFrom (SoundBlock (given T') (page_bytes T') (live_page T')) 0 (forest_after s (rows_of T) (add p c x) F)
  blocks =
      rw (given-same, bytes_same, live_same, ← forest-bytes)
      (written-blocks T p x F sound a.dead a.count a.range (sketches-long T F sound p c x a) a.page (omega (arith, tries-count T F sound)))

  sound-after : Sound T' (forest_after s (rows_of T) (add p c x) F)
  sound-after = record {
    tries = G.to;
    free = G.free;
    holding = holding;
    forest = G.forest;
    blocks = blocks;
    pages = pages-sound;
    entries = entries-kept T F sound G.link;
  }

pub insert-sound : (T : Tables) (F : List Tree) (p c : ℕ) (x : List ℕ) → Sound T F → number T F (add p c x) ≡ 0 → InsertedSound T F p c x
insert-sound T F p c x sound e =
    let a = accepted T p c x F e in
    let G = placed T F sound p c x a in
    record { nodes = G.nodes_to; pages = G.pages_to; link = G.link; is = G.is; sound = sound-after T F sound p c x a G }

-- of the tables that `insert_all` gives
module _ (T : Tables) (F : List Tree) (p c : ℕ) (x : List ℕ) (sound : Sound T F) (e : number T F (add p c x) ≡ 0) (N P : List ℕ) where
  pub filled-sound : (link : ℕ) → insert_all (given T) (row_added T p c x) x p T.nodes T.pages (get_or T.settings free_at 0) ≡ filled N P (Some link)
      → Sound (page_added T p c x N P link) (forest_after (given T) (rows_of T) (add p c x) F)
  filled-sound link f =
      let I = insert-sound T F p c x sound e in
      let same : filled I.nodes I.pages (Some I.link) ≡ filled N P (Some link) = sym I.is ∙ f in
      let n : I.nodes ≡ N = cc in
      let q : I.pages ≡ P = cc in
      let l : I.link ≡ link = cc in
      rw (n, q, l) at I.sound

  pub never-stopped : insert_all (given T) (row_added T p c x) x p T.nodes T.pages (get_or T.settings free_at 0) ≡ filled N P None → ⊥
  never-stopped f =
      let I = insert-sound T F p c x sound e in
      let same : filled I.nodes I.pages (Some I.link) ≡ filled N P None = sym I.is ∙ f in
      let r : Some I.link ≡ None = cc in
      let z : ◌≡◌ {A = ℕ} 0 1 = cc in
      omega arith
