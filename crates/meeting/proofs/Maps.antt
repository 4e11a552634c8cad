-- What the maps say after pages are met: page by page, and together.
use Rattle.std.specs.Prelude.{Some, None}
use Prim.Native.Nat.{ℕ, ◌+◌, ◌*◌, ◌/◌, ◌<◌, ◌≤◌}
use native.Mathlib.Omega.{arith}
use native.Mathlib.Nat.{add-zero, zero-add}
use mathlib.Core.Path.{◌≡◌, refl, sym, ap, subst, ◌∙◌}
use mathlib.Core.Bool.{Bool, true, false, cond, false≢true, ◌&&◌, ◌||◌, or-false}
use mathlib.Core.List.{List, [], ◌∷◌, ◌++◌}
use lib.Dec.{eqb}
use mir.Val.{bool_byte}
use lib.ListN.{length, get_or, set}
use borrow.Author.Tests.{eqb-true}
use Rattle.meaning.specs.Lists.{any, keep, upto}
use Rattle.meaning.proofs.Lists.{any_append}
use Rattle.words.specs.Bits.{flag, zeroed}
use Rattle.words.proofs.Rising.{rising-same}
use Rattle.marks.specs.Marks.{summary_of, Room, marked, fresh, list_of, Counts}
use Rattle.marks.proofs.Marked.{marked-length, marked-behind, marked-flag, marked-count, marked-counts, marked-summarised}
use Rattle.marks.proofs.Pages.{rising-over, rising-keep}
use Rattle.hits.specs.Hit.{Test, far, passes, verdict}
use Rattle.hits.proofs.Hit.{verdict-within, verdict-beyond}
use Rattle.meeting.specs.Mets.{Kept, Met}
use Rattle.meeting.specs.Turns.{Turned}

-- ---- what is kept
kept_same : (words : ℕ) (map : List ℕ) → Kept words map map
kept_same words map = record { long = refl; behind = refl }

pub kept_on : {words : ℕ} {a b c : List ℕ} → Kept words a b → Kept words b c → Kept words a c
kept_on k l = record { long = l.long ∙ k.long; behind = l.behind ∙ k.behind }

pub kept-room : {words : ℕ} {before after : List ℕ} → Kept words before after → Room before words → Room after words
kept-room k r = record { most = r.most; long = omega (arith, r.long, k.long) }

-- clearing gives what clearing before gave
pub kept-cleared : {words : ℕ} {before after : List ℕ} → Kept words before after
    → zeroed after 0 (words + summary_of words) ≡ zeroed before 0 (words + summary_of words)
unfolding zeroed
kept-cleared {words} k = rw (zero-add (words + summary_of words), k.behind)

module _ (hit : ℕ → Bool) (words : ℕ) where
  -- ---- no page, and more pages
  pub met-none : (map : List ℕ) → Met hit words map [] map
  unfolding any
  met-none map = record { kept = kept_same words map; flags = λ k h. sym (or-false (flag map 0 k)); summarised = λ s. s }

  together : (f p q h : Bool) → (f || (p && h)) || (q && h) ≡ f || ((p || q) && h)
  together true p q h = refl
  together false true true true = refl
  together false true true false = refl
  together false true false true = refl
  together false true false false = refl
  together false false q h = refl

  pub met-on : {a b c ps qs : List ℕ} → Met hit words a ps b → Met hit words b qs c → Met hit words a (ps ++ qs) c
  met-on {a} {b} {c} {ps} {qs} m n = record {
    kept = kept_on m.kept n.kept;
    flags = λ k h.
        n.flags k h
        ∙ ap (λ t. t || (any (eqb k) qs && hit k)) (m.flags k h)
        ∙ together (flag a 0 k) (any (eqb k) ps) (any (eqb k) qs) (hit k)
        ∙ ap (λ t. flag a 0 k || (t && hit k)) (sym (any_append (eqb k) ps qs));
    summarised = λ s. n.summarised (m.summarised s);
  }

  -- only which pages are met counts
  pub met-same : {before ps qs after : List ℕ} → ((k : ℕ) → any (eqb k) ps ≡ any (eqb k) qs) → Met hit words before ps after → Met hit words before qs after
  met-same {before} same m = record {
    kept = m.kept;
    flags = λ k h. m.flags k h ∙ ap (λ t. flag before 0 k || (t && hit k)) (same k);
    summarised = m.summarised;
  }

  -- ---- one page
  module _ (map : List ℕ) (p : ℕ) (inside : p / 32 < words) (room : Room map words) where
    left_out : hit p ≡ false → Met hit words map (p ∷ []) map
    unfolding any
    left_out e = record {
      kept = kept_same words map;
      flags = λ k h. sym (none (flag map 0 k) (eqb k p) (hit k) (λ q. ap hit (eqb-true k p q) ∙ e));
      summarised = λ s. s;
    }
      where
        none : (f q t : Bool) → (q ≡ true → t ≡ false) → f || ((q || false) && t) ≡ f
        none true q t e = refl
        none false true t e = e refl
        none false false t e = refl

    put-in : hit p ≡ true → Met hit words map (p ∷ []) (marked map words p)
    unfolding any
    put-in e = record {
      kept = record { long = marked-length map words p; behind = marked-behind map words p inside };
      flags = λ k h. marked-flag map words p inside room k h ∙ ap (λ t. flag map 0 k || t) (all (eqb k p) (hit k) (λ q. ap hit (eqb-true k p q) ∙ e));
      summarised = marked-summarised map words p inside room;
    }
      where
        all : (q t : Bool) → (q ≡ true → t ≡ true) → q ≡ (q || false) && t
        all true t e = sym (e refl)
        all false t e = refl

    -- a page that is marked already need not be tested
    again : flag map 0 p ≡ true → Met hit words map (p ∷ []) map
    unfolding any
    again e = record {
      kept = kept_same words map;
      flags = λ k h. sym (there (flag map 0 k) (eqb k p) (hit k) (λ q. ap (flag map 0) (eqb-true k p q) ∙ e));
      summarised = λ s. s;
    }
      where
        there : (f q t : Bool) → (q ≡ true → f ≡ true) → f || ((q || false) && t) ≡ f
        there true q t e = refl
        there false true t e = absurd (false≢true (e refl))
        there false false t e = refl

  -- ---- what is listed then
  -- from a map without marks: the pages met that are hits, all below the capacity, once each and rising
  module _ (cap : ℕ) (fits : cap ≤ words * 32) (below : (p : ℕ) → cap ≤ p → hit p ≡ false)
      {before ps after : List ℕ} (clear : (k : ℕ) → k < words * 32 → flag before 0 k ≡ false) (m : Met hit words before ps after) where
    pub met-listed : list_of after words ≡ keep (λ p. any (eqb p) ps && hit p) (upto cap)
    unfolding list_of upto
    met-listed =
        rising-same (flag after 0) (λ p. any (eqb p) ps && hit p) 0 (words * 32)
        (λ k l h. m.flags k (omega arith) ∙ ap (λ t. t || (any (eqb k) ps && hit k)) (clear k (omega arith)))
        ∙ rising-over (λ p. any (eqb p) ps && hit p) cap (words * 32) fits (λ p l h. ap (λ t. any (eqb p) ps && t) (below p l) ∙ none (any (eqb p) ps))
        ∙ rising-keep (λ p. any (eqb p) ps && hit p) 0 cap
      where
        none : (t : Bool) → t && false ≡ false
        none true = refl
        none false = refl

-- ---- a test as a number
pub as-number : (t : Bool) → bool_byte t ≡ cond t 1 0
as-number true = refl
as-number false = refl

-- ---- one page, as the code has it
module _ (t : Test) (words : ℕ) (map : List ℕ) (p : ℕ) (inside : p / 32 < words) (room : Room map words) (counts : List ℕ) (c : Counts (far t) map words counts) where
  pub turned-again : flag map 0 p ≡ true → Turned t words map p map counts 0
  turned-again e = record { met = again (passes t) words map p inside room e; new = sym (add-zero (length (list_of map words))); counted = c }

  pub turned-out : verdict t p ≡ None → Turned t words map p map counts 0
  turned-out e =
      record { met = left_out (passes t) words map p inside room (verdict-beyond t p e); new = sym (add-zero (length (list_of map words))); counted = c }

  module _ (d : ℕ) (within : verdict t p ≡ Some d) where
    hit : (passes t p ≡ true) × (d ≡ far t p)
    hit = verdict-within t p d within

    pub turned-in : flag map 0 p ≡ false → far t p < 65 → (after : List ℕ) (r : ℕ) → after ≡ marked map words p → r ≡ fresh map p
        → Turned t words map p after (set counts d (get_or counts d 0 + 1)) r
    turned-in new most after r f g = record {
      met = subst (Met (passes t) words map (p ∷ [])) (sym f) (put-in (passes t) words map p inside room hit.0);
      new = ap (λ l. length (list_of l words)) f ∙ marked-count map words p inside room ∙ ap (λ n. length (list_of map words) + n) (sym g);
      counted = rw (f, hit.1) (marked-counts map words p inside room (far t) counts c new most);
    }
