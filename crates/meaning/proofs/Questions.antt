-- The questions of an add and of a search, in their order, and blank sketches among them (document 02, F-1).
use Prim.Native.Nat.{ℕ, zero, suc}
use mathlib.Core.Path.{◌≡◌, refl}
use mathlib.Core.Bool.{Bool, true, false}
use mathlib.Core.List.{List, [], ◌∷◌, map}
use lib.Dec.{eqb}
use lib.ListN.{length, replicate}
use borrow.Author.Tests.{eqb-true}
use Rattle.meaning.specs.Lists.{all}
use Rattle.meaning.specs.Refusal.{first_no}
use Rattle.meaning.specs.Sketch.{in_range, blank}
use Rattle.meaning.specs.Output.{Output, output, has_room}
use Rattle.meaning.specs.Ledger.{search, Call, add, reading}
use Rattle.meaning.specs.Questions.{View, asked}
use Rattle.meaning.proofs.Lists.{and_first, and_second}

-- ---- a blank sketch is zeros and nothing else

pub only-zeros : (x : List ℕ) → blank x ≡ true → x ≡ replicate (length x) 0
unfolding blank all
only-zeros [] h = refl
only-zeros (x ∷ xs) h = rw (eqb-true x 0 (and_first (eqb x 0) (blank xs) h), ← only-zeros xs (and_second (eqb x 0) (blank xs) h)) refl

pub zeros-blank : (n : ℕ) → blank (replicate n 0) ≡ true
unfolding blank all
zeros-blank zero = refl
zeros-blank (suc n) = zeros-blank n

-- ---- the numbers of the questions, for whatever they are judged by

pub of-add : (v : View) (p c : ℕ) (x : List ℕ) → map (λ q. q.number) (asked v (add p c x)) ≡ 7 ∷ 8 ∷ 9 ∷ 10 ∷ 11 ∷ 15 ∷ 12 ∷ []
unfolding asked
of-add v p c x = refl

pub of-search : (v : View) (r d : ℕ) (x : List ℕ) (o : Output) → map (λ q. q.number) (asked v (reading (search r d x o))) ≡ 7 ∷ 10 ∷ 11 ∷ 13 ∷ []
unfolding asked
of-search v r d x o = refl

-- ---- examples

-- b 2 and m 4; page 5 is live, and the tries have room or not
abbrev view : Bool → View
view roomy = record {
  bits = 2;
  symbols = 4;
  pages = 8;
  live = λ p. eqb p 5;
  shown = λ reader p. false;
  found = λ reader radius x. 0;
  room = λ p c x. roomy;
}

abbrev given : Bool → Call → ℕ
given roomy c = first_no (asked (view roomy) c)

abbrev zeros : List ℕ
zeros = 0 ∷ 0 ∷ 0 ∷ 0 ∷ []

pub record BlankPages : Type 0 where
  -- with room for it and without
  pub refused : given true (add 0 3 zeros) ≡ 15
  pub before-12 : given false (add 0 3 zeros) ≡ 15
  -- one symbol that is not 0, be it the last, is enough
  pub last-symbol : given true (add 0 3 (0 ∷ 0 ∷ 0 ∷ 1 ∷ [])) ≡ 0
  pub no_room : given false (add 0 3 (0 ∷ 0 ∷ 0 ∷ 1 ∷ [])) ≡ 12
  -- 7 to 10 come first; a symbol out of range is 11's
  pub high-class : given true (add 0 64 zeros) ≡ 7
  pub high-page : given true (add 8 3 zeros) ≡ 8
  pub live-page : given true (add 5 3 zeros) ≡ 9
  pub short : given true (add 0 3 (0 ∷ 0 ∷ 0 ∷ [])) ≡ 10
  pub high-symbol : given true (add 0 3 (0 ∷ 0 ∷ 0 ∷ 4 ∷ [])) ≡ 11
  -- a query of zeros is legal
  pub query : given true (reading (search 5 2 zeros (output [] []))) ≡ 0

pub blank-pages : BlankPages
unfolding asked first_no all in_range blank has_room
blank-pages = record {
  refused = refl;
  before-12 = refl;
  last-symbol = refl;
  no_room = refl;
  high-class = refl;
  high-page = refl;
  live-page = refl;
  short = refl;
  high-symbol = refl;
  query = refl;
}
