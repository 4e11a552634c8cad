-- Question 4: the test of an opening's numbers and its thresholds, and the bounds that it stands for.
use Prim.Native.Nat.{ℕ, ◌<◌}
use native.Mathlib.Omega.{arith}
use mathlib.Core.Path.{◌≡◌, refl}
use mathlib.Core.Bool.{Bool, true, ◌&&◌, and-true}
use borrow.Author.Tests.{lt-ltb, ltb-true, leb-true, eqb-true}
use lib.Dec.{ltb}
use lib.ListN.{length, get_or}
use Rattle.meaning.specs.Lists.{all}
use Rattle.meaning.specs.Ledger.{Settings}
use Rattle.meaning.specs.SketchCalls.{sketch_limits}
use Rattle.meaning.specs.Questions.{in_limits}
use Rattle.meaning.proofs.Lists.{and_first, and_second}
use Rattle.layout.specs.declared.Numbers.{Numbers}
use Rattle.layout.specs.Header.{header_of}
use Rattle.layout.specs.Limits.{limits_of, HeaderLimits, Bounds}
use Rattle.layout.proofs.Tests.{all-at, at_all}

-- a number of 16 bits
abbrev pub short : ℕ → Bool
short t = ltb t 65536

abbrev pub limits_on : Numbers → ℕ → Bool
limits_on h count = limits_of h.b h.m h.q h.pages h.nodes count

pub in-limits : (s : Settings) → in_limits s ≡ limits_on (header_of s) (length s.thresholds) && all short s.thresholds
unfolding in_limits limits_of
in-limits s = refl

module _ (h : Numbers) where
  pub header-limits : (count : ℕ) → limits_on h count ≡ true → HeaderLimits h
  unfolding limits_of sketch_limits
  header-limits count e = record {
    bits-least = ltb-true 0 h.b (search (and_first, and_second));
    bits_most = leb-true h.b 8 (search (and_first, and_second));
    symbols-least = ltb-true 0 h.m (search (and_first, and_second));
    symbols-most = leb-true h.m 64 (search (and_first, and_second));
    blocks-least = ltb-true 0 h.q (search (and_first, and_second));
    blocks-most = leb-true h.q 8 (search (and_first, and_second));
    blocks-fit = leb-true h.q h.m (search (and_first, and_second));
    pages-least = ltb-true 0 h.pages (search (and_first, and_second));
    pages-most = omega (arith, ltb-true h.pages 65536 (search (and_first, and_second)));
    nodes-least = leb-true h.q h.nodes (search (and_first, and_second));
    nodes-most = leb-true h.nodes 262144 (search (and_first, and_second));
  }

pub bounds : (s : Settings) → in_limits s ≡ true → Bounds s
unfolding in_limits limits_of
bounds s e = record {
  header = header-limits (header_of s) (length s.thresholds) (search and_first);
  count = eqb-true (length s.thresholds) 64 (search (and_first, and_second));
  below = λ k. ltb-true (get_or s.thresholds k 0) 65536 (all-at short s.thresholds k 0 (search (and_first, and_second)) refl);
}

-- thresholds that are lent as numbers of 16 bits
pub limits-lent : (s : Settings) → ((k : ℕ) → get_or s.thresholds k 0 < 65536) → in_limits s ≡ limits_on (header_of s) (length s.thresholds)
limits-lent s below =
    rw (in-limits, at_all short s.thresholds 0 (λ k. lt-ltb (get_or s.thresholds k 0) 65536 (below k)))
    (and-true (limits_on (header_of s) (length s.thresholds)))
