-- The test of the free chain. N is the node table, of cap nodes.
use Rattle.std.specs.Prelude.{ℕ, zero, suc, ◌-◌, Bool, cond, ◌&&◌, List, ltb, eqb, get_or, Option, Some, None}
use Rattle.layout.specs.Nodes.{state_at, free_state}
use Rattle.layout.specs.States.{next_free}
use Rattle.children.specs.Order.{bare}

-- node x is free, and its heads are 0
unfoldable pub is_free : List ℕ → ℕ → ℕ → Bool
is_free N cap x = eqb (get_or N (state_at cap x) 0) free_state && bare N cap x

-- the free nodes from a link on, at most f of them: what is left of f. What stands above the link of a free node is 0
unfoldable pub free_from : List ℕ → ℕ → ℕ → ℕ → Option ℕ
free_from N cap link zero = cond (eqb link 0) (Some 0) None
free_from N cap link (suc f) =
    cond (eqb link 0) (Some (suc f))
    (cond (ltb cap link) None
    (cond (is_free N cap (link - 1)) (free_from N cap (next_free N (link - 1)) f) None))

-- how many nodes are not free
unfoldable pub test_free : List ℕ → ℕ → ℕ → Option ℕ
test_free N cap link = free_from N cap link cap
