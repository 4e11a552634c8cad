-- 7, 10 and 11 of a search. 5 and 6 are those of every call that takes all the tables (crate `entry`).
use Rattle.std.specs.Prelude.{ℕ, ◌&&◌, List, [], ◌∷◌, ltb, leb, eqb, length}
use Rattle.meaning.specs.Refusal.{Question, ask}
use Rattle.meaning.specs.Sketch.{in_range}
use Rattle.layout.specs.declared.Numbers.{Numbers}

unfoldable pub query_asked : Numbers → ℕ → ℕ → List ℕ → List Question
query_asked h reader radius x =
    ask 7 (ltb reader 256 && leb radius 64)
    ∷ ask 10 (eqb (length x) h.m)
    ∷ ask 11 (in_range h.b x)
    ∷ []
