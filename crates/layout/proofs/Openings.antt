-- The answer to 5 and 6: what it tells a call.
use Rattle.std.specs.Prelude.{Result, Ok, Err}
use Prim.Native.Nat.{ℕ, ◌≤◌}
use native.Mathlib.Omega.{arith}
use mathlib.Core.Path.{◌≡◌, refl, sym}
use mathlib.Core.Bool.{Bool, true, false, cond, ◌&&◌}
use mathlib.Core.List.{List, ◌∷◌}
use borrow.Author.Tests.{le-leb, leb-true}
use lib.Dec.{leb, eqb}
use lib.ListN.{length, get_or}
use Rattle.meaning.specs.Refusal.{Question, ask, first_no}
use Rattle.meaning.specs.Questions.{in_limits}
use Rattle.meaning.proofs.Lists.{and_second}
use Rattle.layout.specs.declared.Numbers.{Numbers}
use Rattle.layout.specs.Settings.{mark, settings_length, settings_of, shows_opening}
use Rattle.layout.specs.Header.{header_of, opening_of, pick, tables_first}
use Rattle.layout.specs.Limits.{HeaderLimits, Bounds}
use Rattle.layout.proofs.Limits.{bounds}

pub record Shows (ws : List ℕ) (h : Numbers) : Type 0 where
  pub long : settings_length ≤ length ws
  pub shows : shows_opening ws ≡ true
  pub header : header_of (settings_of ws) ≡ h
  pub limits : HeaderLimits h
  pub bounds : Bounds (settings_of ws)

pub apart : (h : Numbers) (n : ℕ) → Err n ≡ Ok h → ⊥
apart h n e = let z : ◌≡◌ {A = ℕ} 0 1 = cc in omega arith

-- the answer by its two tests
answer : List ℕ → Bool → Bool → Result Numbers ℕ
answer ws long shows = pick long (pick shows (Ok (header_of (settings_of ws))) (Err 6)) (Err 5)

module _ (ws : List ℕ) where
  pub shown : (h : Numbers) → opening_of ws ≡ Ok h → Shows ws h
  unfolding opening_of answer
  shown h e = go (leb settings_length (length ws)) refl (shows_opening ws) refl e
    where
      go : (l : Bool) → leb settings_length (length ws) ≡ l → (t : Bool) → shows_opening ws ≡ t → answer ws l t ≡ Ok h → Shows ws h
      go true l true t e =
          let same : header_of (settings_of ws) ≡ h = cc in
          let b : Bounds (settings_of ws) = bounds (settings_of ws) (and_second (eqb (get_or ws 0 0) mark) (in_limits (settings_of ws)) (unfold shows_opening in t)) in
          record { long = leb-true settings_length (length ws) l; shows = t; header = same; limits = rw same at b.header; bounds = b }
      go true l false t e = absurd (apart h 6 e)
      go false l t u e = absurd (apart h 5 e)

  pub shows : settings_length ≤ length ws → shows_opening ws ≡ true → opening_of ws ≡ Ok (header_of (settings_of ws))
  unfolding opening_of
  shows long e = rw (le-leb settings_length (length ws) long, e)

  -- 5 and 6 of a call, by the answer
  module _ (fit : Bool) (qs : List Question) where
    pub shown-number : (h : Numbers) → opening_of ws ≡ Ok h → first_no (tables_first ws fit qs) ≡ cond fit (first_no qs) 6
    unfolding first_no
    shown-number h e =
        let s = shown h e in
        rw (le-leb settings_length (length ws) s.long, s.shows)

    pub refused-number : (n : ℕ) → opening_of ws ≡ Err n → first_no (tables_first ws fit qs) ≡ n
    unfolding opening_of first_no answer
    refused-number n e = go (leb settings_length (length ws)) (shows_opening ws) e
      where
        go : (l t : Bool) → answer ws l t ≡ Err n → first_no (ask 5 l ∷ ask 6 (t && fit) ∷ qs) ≡ n
        go true true e = absurd (apart (header_of (settings_of ws)) n (sym e))
        go true false e = cc
        go false t e = cc

  pub refused-range : (n : ℕ) → opening_of ws ≡ Err n → (5 ≤ n) × (n ≤ 6)
  unfolding opening_of answer
  refused-range n e = go (leb settings_length (length ws)) (shows_opening ws) e
    where
      go : (l t : Bool) → answer ws l t ≡ Err n → (5 ≤ n) × (n ≤ 6)
      go true true e = absurd (apart (header_of (settings_of ws)) n (sym e))
      go true false e = let z : 6 ≡ n = cc in omega arith
      go false t e = let z : 5 ≡ n = cc in omega arith
