-- What the tests of all windows of nodes say: no node stands twice in the tries.
use Prim.Native.Nat.{ℕ, zero, suc, ◌+◌, ◌*◌, ◌/◌, ◌%◌, ◌≤◌, ◌<◌}
use native.Mathlib.Omega.{arith}
use native.Mathlib.Nat.{mul-le-mul_right, div-add-mod', mod-lt, div-lt_iff_lt-mul}
use native.Mathlib.Decide.{dec_lt}
use mathlib.Core.Path.{◌≡◌, refl, sym, ap, ap₂, ◌∙◌}
use mathlib.Core.Logic.{by_cases}
use mathlib.Core.Bool.{Bool, true, false, cond}
use mathlib.Core.List.{List, map as each}
use borrow.Author.Tests.{ltb-false}
use lib.Dec.{ltb}
use lib.ListN.{length}
use Rattle.meaning.specs.Ledger.{Settings}
use Rattle.meaning.specs.Forest.{total_nodes}
use Rattle.layout.specs.Header.{header_of}
use Rattle.layout.specs.Tables.{Lent}
use Rattle.words.specs.Bits.{flag, zeroed}
use Rattle.words.proofs.Flags.{length-zeroed, flag-zeroed}
use Rattle.children.specs.Phys.{Phys, tree}
use Rattle.trie_check_laws.specs.Found.{one}
use Rattle.children.proofs.Tests.{passed as taken}
use Rattle.check_tries.specs.Windows.{Passed, passed, on_yes, window_at, blocks_from, block_given, test_window, windows_from, test_windows}
use Rattle.check_tries.proofs.Tries.{Each, uses_all, InPlace, passed-no, blocks-right, blocks-whole, same-tries}

one-most : (q : Bool) → one q ≤ 1
one-most true = omega arith
one-most false = omega arith

module _ (s : Settings) (N P S : List ℕ) (live : ℕ) (lent : Lent (header_of s) N P S) (words left : ℕ) where
  abbrev size : ℕ
  size = 32 * words

  -- the tries that the test of a window has found
  pub record Seen (from : ℕ) : Type 0 where
    pub tries : List Phys
    pub many : length tries ≡ s.blocks
    pub all : Each (InPlace s N P S live) 0 tries
    pub once : (n : ℕ) → n < 32 * words → uses_all tries (from + n) ≤ 1
    pub total : total_nodes (each tree tries) ≡ left

  window-right : (from : ℕ) (map map' : List ℕ) → words ≤ length map → test_window s N P S words left live from map ≡ passed map' true → Seen from × (length map' ≡ length map)
  unfolding test_window
  window-right from map map' long e =
      let same : length (zeroed map 0 words) ≡ length map = length-zeroed map 0 words (omega arith) in
      let r = blocks-right s N P S live lent (window_at from size) s.blocks 0 (omega arith) (zeroed map 0 words) map' left (omega arith) e in (
        record {
          tries = r.tries;
          many = r.many;
          all = r.all;
          once = λ n l. omega (arith, r.marked.marks n l, one-most (flag map' 0 n));
          total = r.total;
        },
        r.marked.long ∙ same,
      )

  pub windows-right : (f k : ℕ) (map map' : List ℕ) → words ≤ length map → windows_from s N P S words left live f k map ≡ passed map' true →
      (i : ℕ) → k ≤ i → i < k + f → i * (32 * words) < s.nodes → Seen (i * (32 * words))
  unfolding windows_from
  windows-right zero k map map' long e i l m inside = absurd (omega arith)
  windows-right (suc f) k map map' long e i l m inside =
      go (ltb (k * size) s.nodes) refl e (λ long₁ e₁ l₁ m₁. windows-right f (suc k) map₁ map' long₁ e₁ i l₁ m₁ inside)
    where
      r : Passed
      r = test_window s N P S words left live (k * size) map

      map₁ : List ℕ
      map₁ = r.map

      go : (q : Bool) → ltb (k * size) s.nodes ≡ q →
          cond q (on_yes (λ map₂. windows_from s N P S words left live f (suc k) map₂) r) (passed map true) ≡ passed map' true →
          (words ≤ length map₁ → windows_from s N P S words left live f (suc k) map₁ ≡ passed map' true → suc k ≤ i → i < suc k + f → Seen (i * size)) →
          Seen (i * size)
      go false out e later = absurd (omega (arith, ltb-false (k * size) s.nodes out, mul-le-mul_right size l))
      go true out e later =
          let t = taken (passed map₁ false) (passed map' true) (passed-no s N P S live lent (window_at 0 0) map₁ map') r.answer _ e in
          let here = window-right (k * size) map map₁ long (ap (passed map₁) t.0) in
          by_cases (dec_lt k i)
          (λ d. later (omega (arith, here.1)) t.1 (omega arith) (omega arith))
          (λ d. let same : i ≡ k = omega arith in rw same here.0)

  -- ---- the tries of all windows are the same
  pub record All : Type 0 where
    pub tries : List Phys
    pub many : length tries ≡ s.blocks
    pub all : Each (InPlace s N P S live) 0 tries
    pub once : (x : ℕ) → x < s.nodes → uses_all tries x ≤ 1
    pub total : total_nodes (each tree tries) ≡ left

  pub all_right : (map map' : List ℕ) → words ≤ length map → s.nodes ≤ 8 * (32 * words) → test_windows s N P S words left live map ≡ passed map' true → All
  unfolding test_windows
  all_right map map' long enough e = record { tries = first.tries; many = first.many; all = first.all; once = once; total = first.total }
    where
      seen : (i : ℕ) → i < 8 → i * size < s.nodes → Seen (i * size)
      seen i l inside = windows-right 8 0 map map' long e i (omega arith) (omega arith) inside

      first : Seen (0 * size)
      first = seen 0 (omega arith) (omega (arith, lent.limits.blocks-least, lent.limits.nodes-least))

      once : (x : ℕ) → x < s.nodes → uses_all first.tries x ≤ 1
      once x l =
          let some : 0 < size = omega (arith, lent.limits.blocks-least, lent.limits.nodes-least) in
          let parts : x / size * size + x % size ≡ x = div-add-mod' x size in
          let few : x / size < 8 = (div-lt_iff_lt-mul some).1 (omega arith) in
          let there = seen (x / size) few (omega arith) in
          let same : there.tries ≡ first.tries =
          same-tries s N P S live lent.limits.nodes-most lent.limits.pages-most 0 there.tries first.tries (there.many ∙ sym first.many) there.all first.all in
          rw (same, parts) at (there.once (x % size) (mod-lt x some))

  -- ---- tries in which no node stands twice
  module _ (ts : List Phys) (many : length ts ≡ s.blocks) (all : Each (InPlace s N P S live) 0 ts) (total : total_nodes (each tree ts) ≡ left)
      (fits : left ≤ s.nodes) (once : (x : ℕ) → uses_all ts x ≤ 1) where
    window-whole : (from : ℕ) (map : List ℕ) → words ≤ length map →
        (map' : List ℕ) × (test_window s N P S words left live from map ≡ passed map' true) × (length map' ≡ length map)
    unfolding test_window
    window-whole from map long =
        let same : length (zeroed map 0 words) ≡ length map = length-zeroed map 0 words (omega arith) in
        let r = blocks-whole s N P S live lent (window_at from size) ts 0 (zeroed map 0 words) (omega arith) (omega arith) all (omega arith)
        (λ n l. rw (flag-zeroed map 0 words (omega arith) n (omega arith)) (omega (arith, once (from + n)))) in
        let g = block_given s N P S (window_at from size) in
        (r.0, ap₂ (λ k n. blocks_from g live k 0 (zeroed map 0 words) n) (sym many) (sym total) ∙ r.1, r.2 ∙ same)

    pub windows-whole : (f k : ℕ) (map : List ℕ) → words ≤ length map → (map' : List ℕ) × (windows_from s N P S words left live f k map ≡ passed map' true)
    unfolding windows_from
    windows-whole zero k map long = (map, refl)
    windows-whole (suc f) k map long =
        let r = window-whole (k * size) map long in
        go r.0 r.1 (windows-whole f (suc k) r.0 (omega (arith, r.2))) (ltb (k * size) s.nodes) refl
      where
        go : (map₁ : List ℕ) → test_window s N P S words left live (k * size) map ≡ passed map₁ true →
            ((map' : List ℕ) × (windows_from s N P S words left live f (suc k) map₁ ≡ passed map' true)) →
            (q : Bool) → ltb (k * size) s.nodes ≡ q → (map' : List ℕ) × (windows_from s N P S words left live (suc f) k map ≡ passed map' true)
        go map₁ e r true q = (r.0, rw (q, e) r.1)
        go map₁ e r false q = (map, rw q refl)
