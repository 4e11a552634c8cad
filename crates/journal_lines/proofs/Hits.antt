-- A hit stored, the others still to come; two lists of one length, from a place on; and the end of the hits.
use Prim.Native.Nat.{ℕ, ◌+◌, ◌<◌, ◌≤◌}
use mathlib.Core.Path.{◌≡◌, sym, ap, ap₂, ◌∙◌}
use mathlib.Core.List.{List, [], ◌∷◌, ◌++◌, append_assoc}
use native.Mathlib.Numerals.{add-one}
use lib.ListN.{length, drop, get_or, length-append, drop_of_length-le}
use lib.Seq.{sets, drop-cons}
use Rattle.meaning.specs.Journal.{decimal, field, hits}
use Rattle.journal_lines.proofs.Digits.{sets-append}

-- the bytes of a hit
abbrev pub hit : ℕ → ℕ → List ℕ
hit p d = field p ++ (58 ∷ decimal d)

hits_more : (p d : ℕ) (ps ds : List ℕ) → hits (p ∷ ps) (d ∷ ds) ≡ hit p d ++ hits ps ds
unfolding hits
hits_more p d ps ds = sym (append_assoc (field p) (58 ∷ decimal d) (hits ps ds))

from-here : (xs : List ℕ) (i : ℕ) → i < length xs → drop i xs ≡ get_or xs i 0 ∷ drop (i + 1) xs
from-here xs i h = drop-cons xs i 0 h ∙ ap (λ (k : ℕ). get_or xs i 0 ∷ drop k xs) (sym (add-one i))

module _ (ps ds : List ℕ) (i : ℕ) where
  -- the hits from a place on
  abbrev pub hits_from : List ℕ
  hits_from = hits (drop i ps) (drop i ds)

  module _ (h : i < length ps) (k : i < length ds) where
    hits-here : hits_from ≡ hit (get_or ps i 0) (get_or ds i 0) ++ hits (drop (i + 1) ps) (drop (i + 1) ds)
    hits-here = ap₂ hits (from-here ps i h) (from-here ds i k) ∙ hits_more (get_or ps i 0) (get_or ds i 0) (drop (i + 1) ps) (drop (i + 1) ds)

    module _ {p d j : ℕ} (e : p ≡ get_or ps i 0) (f : d ≡ get_or ds i 0) (one : j ≡ i + 1) where
      this-hit : hits_from ≡ hit p d ++ hits (drop j ps) (drop j ds)
      this-hit = rw (e, f, one) hits-here

      pub hit-stored : (l : List ℕ) (at : ℕ) {last : List ℕ} {to : ℕ} → last ≡ sets l at (hit p d) → to ≡ at + length (hit p d)
          → sets last to (hits (drop j ps) (drop j ds)) ≡ sets l at hits_from
      hit-stored l at g h =
          let rest = hits (drop j ps) (drop j ds) in
          ap₂ (λ (a : List ℕ) (b : ℕ). sets a b rest) g h ∙ (sym (sets-append l at (hit p d) rest) ∙ ap (sets l at) (sym this-hit))

      pub hits-long : length hits_from ≡ length (hit p d) + length (hits (drop j ps) (drop j ds))
      hits-long = ap length this-hit ∙ length-append (hit p d) (hits (drop j ps) (drop j ds))

  pub hits-end : length ps ≤ i → hits_from ≡ 10 ∷ []
  unfolding hits
  hits-end h = ap (λ (xs : List ℕ). hits xs (drop i ds)) (drop_of_length-le ps {i = i} h)
