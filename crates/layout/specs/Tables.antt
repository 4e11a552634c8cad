-- The tables are long enough for their capacities, and the capacities small enough for links.
use Rattle.std.specs.Prelude.{ℕ, ◌+◌, ◌≤◌, ◌≡◌, true, List, length}
use Rattle.meaning.specs.Sketch.{in_range}
use Rattle.layout.specs.declared.Numbers.{Numbers}
use Rattle.layout.specs.Header.{bare}
use Rattle.layout.specs.Nodes.{node_words, most_nodes}
use Rattle.layout.specs.Pages.{most_pages}
use Rattle.layout.specs.Limits.{HeaderLimits}
use Rattle.layout.specs.Lengths.{nodes_length, pages_length, sketches_length}

-- a table of cap nodes
pub record NodeTable (cap : ℕ) (N : List ℕ) : Type 0 where
  pub long : node_words cap ≤ length N
  pub small : cap ≤ most_nodes

-- a table with the links of pcap pages, from base on
pub record PageTable (pcap base : ℕ) (P : List ℕ) : Type 0 where
  pub long : base + pcap ≤ length P
  pub small : pcap ≤ most_pages

-- the header of an opening, and tables that are long enough for it
pub record Lent (h : Numbers) (nodes pages sketches : List ℕ) : Type 0 where
  pub limits : HeaderLimits h
  pub nodes-long : nodes_length (bare h) ≤ length nodes
  pub pages-long : pages_length (bare h) ≤ length pages
  pub sketches-long : sketches_length (bare h) ≤ length sketches

-- a sketch of that opening
pub record Fits (h : Numbers) (x : List ℕ) : Type 0 where
  pub count : length x ≡ h.m
  pub range : in_range h.b x ≡ true
