-- A check keeps its promise.
use Rattle.std.specs.Prelude.{Ok, Err}
use Prim.Native.Nat.{ℕ, zero, suc, ◌+◌, ◌-◌, ◌*◌, ◌≤◌}
use native.Mathlib.Omega.{arith}
use native.Mathlib.Nat.{zero-add}
use mathlib.Core.Path.{◌≡◌, refl, sym, ap, ◌∙◌, fun_ext}
use mathlib.Core.Bool.{Bool, true, false, ◌&&◌}
use mathlib.Core.List.{List, ◌++◌}
use borrow.Author.Tests.{ne_eqb}
use lib.ListN.{length, get_or, take, drop, replicate, length-replicate}
use lib.Seq.{length-take-le, drop-append-add, drop-drop}
use Rattle.meaning.specs.Lists.{onto}
use Rattle.meaning.proofs.Lists.{and_first, and_second, and_intro}
use Rattle.meaning.specs.Trie.{Tree}
use Rattle.meaning.specs.Ledger.{Settings}
use Rattle.meaning.specs.Forest.{block_bytes}
use Rattle.words.specs.Bits.{zeroed}
use Rattle.layout.specs.declared.Numbers.{Numbers}
use Rattle.layout.specs.Header.{header_of, bare}
use Rattle.layout.specs.Lengths.{working_length}
use Rattle.layout.specs.Settings.{free_at}
use Rattle.layout.specs.Working.{map_words}
use Rattle.layout.proofs.Sizes.{same-lengths, nodes-mapped}
use Rattle.rights.specs.Entries.{all_current}
use Rattle.promises.specs.Tables.{Tables, given}
use Rattle.entry.specs.Entry.{entry}
use Rattle.promises.specs.Sound.{Sound}
use Rattle.promises.specs.Readings.{working_left, CheckPromise}
use Rattle.blocks.specs.RowBytes.{rows_of}
use Rattle.check_tables.specs.Pages.{page_fits, test_pages}
use Rattle.check_tables.specs.Free.{test_free}
use Rattle.check_tries.specs.Windows.{Passed, passed, on_left, block_given, test_window, windows_from, test_windows}
use Rattle.check_store.specs.Store.{test_store}
use Rattle.check_store.proofs.Admitted.{Admitted, admitted, rejected, first-number, words-fit, working-long}
use Rattle.check_store.proofs.Right.{store-right}
use Rattle.check_store.proofs.Whole.{store-whole}

-- ---- the test does not hang on the thresholds
module _ (s : Settings) (N P S : List ℕ) (words : ℕ) where
  abbrev b : Settings
  b = bare (header_of s)

  window-bare : (left live from : ℕ) (map : List ℕ) → test_window b N P S words left live from map ≡ test_window s N P S words left live from map
  unfolding test_window block_given rows_of block_bytes
  window-bare left live from map = refl

  windows-bare : (left live f k : ℕ) (map : List ℕ) → windows_from b N P S words left live f k map ≡ windows_from s N P S words left live f k map
  unfolding windows_from
  windows-bare left live zero k map = refl
  windows-bare left live (suc f) k map =
      rw (window-bare left live (k * (32 * words)) map, windows-bare left live f (suc k) (test_window s N P S words left live (k * (32 * words)) map).map) refl

  all-bare : (left live : ℕ) (map : List ℕ) → test_windows b N P S words left live map ≡ test_windows s N P S words left live map
  unfolding test_windows
  all-bare left live map = windows-bare left live 8 0 map

  store-bare : (free : ℕ) (map : List ℕ) → test_store b N P S free words map ≡ test_store s N P S free words map
  unfolding test_store test_pages page_fits
  store-bare free map =
      ap (λ (go : ℕ → ℕ → Passed). on_left map (λ live. on_left map (λ left. go live left) (test_free N s.nodes free)) (test_pages s P S))
      (fun_ext (λ live. fun_ext (λ left. all-bare left live map)))

-- ---- refused
module _ (T : Tables) where
  pub check-refused : (n : ℕ) → entry T ≡ Err n → CheckPromise T n false T.working
  unfolding working_left
  check-refused n e =
      let r = rejected T n e in record {
        answers = r.answers;
        refused = λ z. refl;
        right = λ z. absurd (r.some (sym r.answers ∙ z));
        whole = λ z. absurd (r.some (sym r.answers ∙ z));
        working-left = rw (first-number T, ne_eqb _ 0 r.some) refl;
      }

  -- ---- carried out
  module _ (h : Numbers) (e : entry T ≡ Ok h) (words : ℕ) (w : words ≡ map_words (bare h)) where
    abbrev a : Admitted T h
    a = admitted T h e

    abbrev part : List ℕ
    part = take words T.working

    part-long : length part ≡ words
    part-long = length-take-le words T.working (omega (arith, words-fit T h a, working-long T h a))

    abbrev free : ℕ
    free = get_or T.settings free_at 0

    -- the test, by the settings
    tested : test_store (bare h) T.nodes T.pages T.sketches free (length part) part ≡ test_store (given T) T.nodes T.pages T.sketches free (length part) part
    tested =
        ap (λ g. test_store (bare g) T.nodes T.pages T.sketches free (length part) part) (sym a.header)
        ∙ store-bare (given T) T.nodes T.pages T.sketches (length part) free part

    enough : (given T).nodes ≤ 8 * (32 * length part)
    enough = omega (arith, part-long, nodes-mapped (given T), (same-lengths (given T) h a.header).map)

    module _ (link : ℕ) (l : link ≡ get_or T.settings free_at 0) (map' : List ℕ) (r : Bool)
        (answer : passed map' r ≡ test_store (bare h) T.nodes T.pages T.sketches link (length part) part)
        (current : Bool) (entries : current ≡ all_current T.settings) where
      test : passed map' r ≡ test_store (bare h) T.nodes T.pages T.sketches free (length part) part
      test = answer ∙ ap (λ f. test_store (bare h) T.nodes T.pages T.sketches f (length part) part) l

      says-right : r && current ≡ true → (F : List Tree) × Sound T F
      says-right z =
          store-right T a.lent (length part) part map' (omega arith) enough (sym entries ∙ and_second r current z)
          (sym tested ∙ sym test ∙ ap (passed map') (and_first r current z))

      says-whole : (F : List Tree) → Sound T F → r && current ≡ true
      says-whole F s =
          and_intro r current
          (ap (λ (p : Passed). p.answer) (test ∙ tested ∙ (store-whole T F s a.lent (length part) part (omega arith)).1))
          (entries ∙ s.entries)

      -- the needed part of the working table
      module _ (kept : length map' ≡ words) (needed : ℕ) (n : needed ≡ working_length (bare h)) where
        left : zeroed (map' ++ drop words T.working) 0 needed ≡ onto (replicate (working_length (given T)) 0) T.working
        unfolding zeroed onto
        left =
            let more : needed ≡ length map' + (needed - words) = omega (arith, words-fit T h a) in
            let back : words + (needed - words) ≡ needed = omega (arith, words-fit T h a) in
            let same : needed ≡ working_length (given T) = n ∙ (same-lengths (given T) h a.header).working in
            let rest : drop needed (map' ++ drop words T.working) ≡ drop needed T.working =
            ap (λ k. drop k (map' ++ drop words T.working)) more
            ∙ drop-append-add map' (drop words T.working) (needed - words)
            ∙ drop-drop (needed - words) words T.working
            ∙ ap (λ k. drop k T.working) back in
            ap (λ xs. replicate needed 0 ++ xs) (ap (λ k. drop k (map' ++ drop words T.working)) (zero-add needed) ∙ rest)
            ∙ rw (length-replicate {A = ℕ} (working_length (given T)) 0, ← same) refl

        pub check_done : (ws : List ℕ) → ws ≡ zeroed (map' ++ drop words T.working) 0 needed → CheckPromise T 0 (r && current) ws
        unfolding working_left
        check_done ws z = record {
          answers = sym a.answers;
          refused = λ o. absurd (o refl);
          right = λ o. says-right;
          whole = λ o. says-whole;
          working-left = rw (first-number T, a.answers) (z ∙ left);
        }
