-- What the leaves ask of their settings: their callers have put question 4 before.
use Rattle.std.specs.Prelude.{ℕ, ◌<◌, ◌≤◌}

-- b bits a symbol. A clause and no type of its own: b comes as a u32 from C and as a usize in the header, so that each call would make
-- the type anew, by the same proof that the clause asks for.
abbrev pub Bits : ℕ → Type 0
Bits b = (0 < b) × (b ≤ 8)
