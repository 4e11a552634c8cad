-- Five pages of two symbols and a query 1 2 with radius 1. Page 0 is not live, page 1 is at distance 1, page 2 at distance 2, page 3 of
-- a closed class; page 4 is the query itself, but a wrong signature is stored for it. Page 1 alone passes. The hypotheses of the test hold here.
use mathlib.Core.Path.{◌≡◌, refl}
use mathlib.Core.Bool.{true, false}
use mathlib.Core.List.{List, [], ◌∷◌, map}
use Prim.Native.Nat.{ℕ}
use native.Mathlib.Omega.{arith}
use Rattle.meaning.specs.Lists.{count, from, upto, sum}
use Rattle.meaning.specs.Sketch.{distance, per_byte, packed_length, pack_byte, pack_bytes, pack, group, byte_distance}
use Rattle.words.specs.Bits.{bit}
use Rattle.layout.specs.Lengths.{pages_length, sketches_length}
use Rattle.layout.specs.Limits.{HeaderLimits}
use Rattle.layout.specs.Pages.{is_live, class_of, signature_at, row_of}
use Rattle.layout.specs.Signature.{folded_byte, folded, signature}
use Rattle.rights.specs.Open.{is_open}
use Rattle.signature.specs.Distance.{signature_distance}
use Rattle.hits.specs.declared.Probe.{Probe}
use Rattle.hits.specs.Hit.{Test, Fitting, is_hit, is_near, passes}
use Rattle.hits.specs.Probes.{probe_of, Prepared, test_by}

abbrev pub query : List ℕ
query = 1 ∷ 2 ∷ []

pub in-limits : HeaderLimits (record { b = 2; m = 2; q = 1; pages = 5; nodes = 1 })
in-limits = record {
  bits-least = omega arith;
  bits_most = omega arith;
  symbols-least = omega arith;
  symbols-most = omega arith;
  blocks-least = omega arith;
  blocks-most = omega arith;
  blocks-fit = omega arith;
  pages-least = omega arith;
  pages-most = omega arith;
  nodes-least = omega arith;
  nodes-most = omega arith;
}

abbrev pub probe : Probe
probe = probe_of (record { b = 2; m = 2; q = 1; pages = 5; nodes = 1; limits = in-limits }) (record { low = 32; high = 0 }) query 1

prepared : Prepared query probe
prepared = refl

-- page words, signatures, links
abbrev asked : Test
asked =
    test_by
    (0 ∷ 6 ∷ 6 ∷ 7 ∷ 6 ∷ 9 ∷ 13 ∷ 0 ∷ 9 ∷ 6 ∷ 0 ∷ 0 ∷ 0 ∷ 0 ∷ 0 ∷ [])
    (1 ∷ 2 ∷ 1 ∷ 3 ∷ 0 ∷ 0 ∷ 1 ∷ 2 ∷ 1 ∷ 2 ∷ [])
    query
    probe

fitting : Fitting asked
unfolding pages_length sketches_length
fitting = record {
  limits = in-limits;
  pages = omega arith;
  sketches = omega arith;
  query = refl;
}

passing : map (passes asked) (upto 5) ≡ false ∷ true ∷ false ∷ false ∷ false ∷ []
unfolding passes is_hit is_near is_live class_of signature_at row_of is_open bit distance signature folded folded_byte pack pack_bytes pack_byte packed_length per_byte signature_distance byte_distance group sum count upto from
passing = refl

-- page 4 is a hit, which its signature hides
hidden : is_hit asked 4 ≡ true
unfolding is_hit is_live class_of row_of is_open bit distance
hidden = refl
