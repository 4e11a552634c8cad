-- The lengths of the tables: by the header as by the settings, and within the limits of document 01.
use Prim.Native.Nat.{ℕ, ◌+◌, ◌*◌, ◌^◌, ◌≤◌, ◌<◌}
use native.Mathlib.Omega.{arith}
use native.Mathlib.Nat.{mul-le-mul, mul-le-mul_right, lt_of_le_of_lt, mul_comm}
use mathlib.Core.Path.{◌≡◌, sym, ap}
use lib.Dec.{lit<}
use Rattle.meaning.specs.Ledger.{Settings}
use Rattle.layout.specs.declared.Numbers.{Numbers}
use Rattle.layout.specs.Settings.{settings_length}
use Rattle.layout.specs.Header.{header_of, bare}
use Rattle.layout.specs.Limits.{HeaderLimits}
use Rattle.layout.specs.Working.{map_words, summary_words}
use Rattle.layout.specs.Lengths.{nodes_length, pages_length, sketches_length, working_length}

-- a product of two numbers of 16 bits, or of 2^16 itself, fits a word of the machine
pub product-fits : {a b : ℕ} → a ≤ 65536 → b ≤ 65536 → a * b < 2 ^ 64
product-fits ha hb = lt_of_le_of_lt (mul-le-mul ha hb) (lit< tt)

-- no length hangs on the thresholds
pub record SameLengths (s : Settings) (h : Numbers) : Type 0 where
  pub nodes : nodes_length (bare h) ≡ nodes_length s
  pub pages : pages_length (bare h) ≡ pages_length s
  pub sketches : sketches_length (bare h) ≡ sketches_length s
  pub map : map_words (bare h) ≡ map_words s
  pub summary : summary_words (bare h) ≡ summary_words s
  pub working : working_length (bare h) ≡ working_length s

pub same-lengths : (s : Settings) (h : Numbers) → header_of s ≡ h → SameLengths s h
unfolding nodes_length pages_length sketches_length working_length map_words summary_words
same-lengths s h e = record {
  nodes = ap (λ g. nodes_length (bare g)) (sym e);
  pages = ap (λ g. pages_length (bare g)) (sym e);
  sketches = ap (λ g. sketches_length (bare g)) (sym e);
  map = ap (λ g. map_words (bare g)) (sym e);
  summary = ap (λ g. summary_words (bare g)) (sym e);
  working = ap (λ g. working_length (bare g)) (sym e);
}

-- the maps of the working table
module _ (s : Settings) (l : HeaderLimits (header_of s)) where
  pub map-most : map_words s ≤ 2048
  unfolding map_words
  map-most = omega arith

  pub summary-most : summary_words s ≤ 64
  unfolding summary_words
  summary-most = omega (arith, map-most)

-- each page has a bit, and each word of the first map; eight passes have a bit for each node
pub pages-mapped : (s : Settings) → s.pages ≤ 32 * map_words s
unfolding map_words
pages-mapped s = omega arith

pub nodes-mapped : (s : Settings) → s.nodes ≤ 8 * (32 * map_words s)
unfolding map_words
nodes-mapped s = omega arith

-- the limits of document 01: 12 words a node, 4 + q a page, m bytes a page, 2,048 words and 8 for each node and page, 1,024 words of settings
pub nodes-limit : (s : Settings) → nodes_length s ≤ 12 * s.nodes
unfolding nodes_length
nodes-limit s = omega arith

pub pages-limit : (s : Settings) → pages_length s ≤ (4 + s.blocks) * s.pages
unfolding pages_length
pages-limit s = mul-le-mul_right s.pages (omega arith)

pub sketches-limit : (s : Settings) → sketches_length s ≡ s.symbols * s.pages
unfolding sketches_length
sketches-limit s = mul_comm s.pages s.symbols

pub working-limit : (s : Settings) → working_length s ≤ 2048 + 8 * (s.nodes + s.pages)
unfolding working_length summary_words map_words
working-limit s = omega arith

pub settings-limit : settings_length ≤ 1024
settings-limit = omega arith
