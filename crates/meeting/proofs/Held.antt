-- The pages of chains that lie in the tables are met, each once for each chain that it stands in.
use Prim.Native.Nat.{ℕ, zero, suc, ◌+◌, ◌-◌, ◌≤◌}
use native.Mathlib.Omega.{arith}
use mathlib.Core.Path.{◌≡◌, refl, sym, ap, ◌∙◌}
use mathlib.Core.List.{List, [], ◌∷◌, ◌++◌, map, flatten}
use lib.ListN.{length, get_or, length-append}
use Rattle.children.specs.Heap.{Holds}
use Rattle.children.specs.Phys.{first, page_cells, Below}
use Rattle.meeting.specs.declared.Chain.{Chain}
use Rattle.meeting.specs.Meets.{Meets, met, after, and_then, chain_of, chains_of, chain}
use Rattle.children.specs.Held.{Held}
use Rattle.meeting.specs.Held.{HeldChains}
use Rattle.meeting.proofs.Links.{chain-ended, chain_more}

module _ (N P : List ℕ) (cap : ℕ) where
  pub chain_held : (base : ℕ) (ps : List ℕ) (f : ℕ) → Holds (page_cells base ps) N P → Below cap ps → length ps ≤ f
      → chain_of P cap base (first ps) f ≡ met ps (f - length ps)
  chain_held base [] f h b l = let all : f ≡ f - 0 = omega arith in chain-ended P cap base f ∙ ap (met []) all
  chain_held base (p ∷ ps) zero h b l = absurd (omega arith)
  chain_held base (p ∷ ps) (suc f) (here, h) (lies, b) l =
      let page : p + 1 - 1 ≡ p = omega arith in
      let left : suc f - suc (length ps) ≡ f - length ps = omega arith in
      chain_more P cap base (p + 1) f (omega arith) (omega arith)
      ∙ ap (λ q. after (q ∷ []) (chain_of P cap base (get_or P (base + q) 0) f)) page
      ∙ ap (λ k. after (p ∷ []) (chain_of P cap base k f)) here
      ∙ ap (after (p ∷ [])) (chain_held base ps f h b (omega arith))
      ∙ ap (met (p ∷ ps)) (sym left)

  pub chains-held : (cs : List Chain) (lists : List (List ℕ)) (total : ℕ) → HeldChains N P cap cs lists → length (flatten lists) ≤ total
      → chains_of P cap total cs ≡ met (flatten lists) (total - length (flatten lists))
  unfolding chains_of flatten
  chains-held [] [] total h l = let all : total ≡ total - 0 = omega arith in ap (met []) all
  chains-held [] (ps ∷ lists) total h l = absurd h
  chains-held (c ∷ cs) [] total h l = absurd h
  chains-held (c ∷ cs) (ps ∷ lists) total ((e, holds, below), h) l =
      let sum : length (ps ++ flatten lists) ≡ length ps + length (flatten lists) = length-append ps (flatten lists) in
      let left : total - length ps - length (flatten lists) ≡ total - length (ps ++ flatten lists) = omega arith in
      let rest : ℕ → Meets = λ k. chains_of P cap k cs in
      ap (λ k. and_then (chain_of P cap c.base k total) rest) e
      ∙ ap (λ m. and_then m rest) (chain_held c.base ps total holds below (omega arith))
      ∙ ap (after ps) (chains-held cs lists (total - length ps) h (omega arith))
      ∙ ap (met (ps ++ flatten lists)) left

  -- from one base
  at_base : (base : ℕ) (lists : List (List ℕ)) → Held base cap lists N P → HeldChains N P cap (map (chain base) (map first lists)) lists
  at_base base [] h = tt
  at_base base (ps ∷ lists) (holds, below, later) = ((refl, holds, below), at_base base lists later)

  pub chains-at : (base : ℕ) (lists : List (List ℕ)) (total : ℕ) → Held base cap lists N P → length (flatten lists) ≤ total
      → chains_of P cap total (map (chain base) (map first lists)) ≡ met (flatten lists) (total - length (flatten lists))
  chains-at base lists total h = chains-held (map (chain base) (map first lists)) lists total (at_base base lists h)
