-- The steps of the tests of a leaf, by what a turn's tests say.
use Rattle.std.specs.Prelude.{Some, None}
use Prim.Native.Nat.{ℕ, zero, suc, ◌+◌, ◌-◌, ◌<◌, ◌≤◌}
use native.Mathlib.Omega.{arith}
use mathlib.Core.Path.{◌≡◌, refl, ap, ◌∙◌}
use mathlib.Core.Bool.{Bool, true, false}
use mathlib.Core.List.{List}
use lib.Dec.{eqb}
use lib.ListN.{get_or}
use borrow.Author.Tests.{le-ltb, lt-ltb, eq-eqb, ne_eqb}
use Rattle.meaning.proofs.Stacks.{suc-pred}
use Rattle.layout.specs.Pages.{is_live}
use Rattle.blocks.specs.declared.Level.{Level}
use Rattle.blocks.specs.declared.Rows.{Rows}
use Rattle.blocks.specs.Packed.{page_byte, level_at}
use Rattle.node_check.specs.Leaf.{on_path, test_pages}

-- byte k of page p is that of the path
abbrev pub match_at : List ℕ → Rows → List ℕ → ℕ → ℕ → Bool
match_at S r path p k = eqb (page_byte S (level_at r k) p) (get_or path k 0)

module _ (S : List ℕ) (r : Rows) (path : List ℕ) (p k : ℕ) (v : Level) (byte : ℕ) (e : v ≡ level_at r k) (f : byte ≡ page_byte S v p) where
  pub match-fails : (byte ≡ get_or path k 0 → ⊥) → match_at S r path p k ≡ false
  match-fails h = rw (← e, ← f) (ne_eqb byte (get_or path k 0) h)

  pub match-passes : byte ≡ get_or path k 0 → match_at S r path p k ≡ true
  match-passes h = rw (← e, ← f) (eq-eqb byte (get_or path k 0) h)

module _ (P S : List ℕ) (pcap base : ℕ) (r : Rows) (path : List ℕ) (d : ℕ) where
  pub pages-end : (link f : ℕ) → link ≡ 0 → test_pages P S pcap base r path d link f ≡ Some f
  unfolding test_pages
  pages-end link zero e = rw (eq-eqb link 0 e)
  pages-end link (suc f) e = rw (eq-eqb link 0 e)

  pub pages-spent : (link f : ℕ) → 0 < link → f ≡ 0 → test_pages P S pcap base r path d link f ≡ None
  unfolding test_pages
  pages-spent link zero n e = rw (ne_eqb link 0 (omega arith))
  pages-spent link (suc f) n e = absurd (omega arith)

  pub pages-outside : (link f : ℕ) → pcap < link → test_pages P S pcap base r path d link f ≡ None
  unfolding test_pages
  pages-outside link zero o = rw (ne_eqb link 0 (omega arith))
  pages-outside link (suc f) o = rw (ne_eqb link 0 (omega arith), lt-ltb pcap link o)

  module _ (link f : ℕ) (n : 0 < link) (m : 0 < f) (l : link ≤ pcap) where
    pub pages-dead : is_live P (link - 1) ≡ false → test_pages P S pcap base r path d link f ≡ None
    unfolding test_pages
    pages-dead e = ap (test_pages P S pcap base r path d link) (suc-pred f m) ∙ rw (ne_eqb link 0 (omega arith), le-ltb pcap link l, e) refl

    pub pages-astray : is_live P (link - 1) ≡ true → on_path S r path d (link - 1) ≡ false → test_pages P S pcap base r path d link f ≡ None
    unfolding test_pages
    pages-astray e g = ap (test_pages P S pcap base r path d link) (suc-pred f m) ∙ rw (ne_eqb link 0 (omega arith), le-ltb pcap link l, e, g) refl

    pub pages-next : is_live P (link - 1) ≡ true → on_path S r path d (link - 1) ≡ true
        → test_pages P S pcap base r path d link f ≡ test_pages P S pcap base r path d (get_or P (base + (link - 1)) 0) (f - 1)
    unfolding test_pages
    pages-next e g = ap (test_pages P S pcap base r path d link) (suc-pred f m) ∙ rw (ne_eqb link 0 (omega arith), le-ltb pcap link l, e, g) refl
