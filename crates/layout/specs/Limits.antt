-- Question 4 of an opening: as a test of its numbers, and as bounds on them.
use Rattle.std.specs.Prelude.{ℕ, ◌≤◌, ◌<◌, ◌≡◌, Bool, ◌&&◌, ltb, leb, eqb, length, get_or}
use Rattle.meaning.specs.Ledger.{Settings}
use Rattle.meaning.specs.SketchCalls.{sketch_limits}
use Rattle.layout.specs.declared.Numbers.{Numbers}
use Rattle.layout.specs.Header.{header_of}
use Rattle.layout.specs.Nodes.{most_nodes}
use Rattle.layout.specs.Pages.{most_pages}

-- 4 with the count of the thresholds: that each has 16 bits is left out
unfoldable pub limits_of : ℕ → ℕ → ℕ → ℕ → ℕ → ℕ → Bool
limits_of b m q P N count =
    sketch_limits b m
    && (ltb 0 q && leb q 8 && leb q m)
    && (ltb 0 P && ltb P 65536)
    && (leb q N && leb N most_nodes)
    && eqb count 64

-- a header that passes 4
pub record HeaderLimits (h : Numbers) : Type 0 where
  pub bits-least : 1 ≤ h.b
  pub bits_most : h.b ≤ 8
  pub symbols-least : 1 ≤ h.m
  pub symbols-most : h.m ≤ 64
  pub blocks-least : 1 ≤ h.q
  pub blocks-most : h.q ≤ 8
  pub blocks-fit : h.q ≤ h.m
  pub pages-least : 1 ≤ h.pages
  pub pages-most : h.pages ≤ most_pages
  pub nodes-least : h.q ≤ h.nodes
  pub nodes-most : h.nodes ≤ most_nodes

-- settings that pass 4
pub record Bounds (s : Settings) : Type 0 where
  pub header : HeaderLimits (header_of s)
  pub count : length s.thresholds ≡ 64
  pub below : (k : ℕ) → get_or s.thresholds k 0 < 65536
