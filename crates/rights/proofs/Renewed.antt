-- Entries written anew: what that leaves of the table, and which classes are open afterwards.
use Prim.Native.Nat.{ℕ, zero, suc, ◌+◌, ◌*◌, ◌≤◌, ◌<◌}
use native.Mathlib.Omega.{arith}
use native.Mathlib.Decide.{ℕ_discrete}
use mathlib.Core.Path.{◌≡◌, refl, sym, ap, ◌∙◌}
use mathlib.Core.Logic.{◌≢◌}
use mathlib.Core.Bool.{Bool, true, false, cond, ◌&&◌, true≢false}
use mathlib.Core.List.{List}
use lib.Dec.{ltb}
use lib.ListN.{length, take, drop}
use borrow.Author.Tests.{lt-ltb}
use Rattle.meaning.proofs.Lists.{any-upto}
use Rattle.words.specs.Bits.{with_flag}
use Rattle.words.proofs.Flags.{length-with, flag-with-same, flag-with-other, take-with, drop-with}
use Rattle.layout.specs.Settings.{settings_length, members_at, grants_at, entries_at, free_at}
use Rattle.layout.proofs.Entries.{entry_length, entry-front, entry-rest, low_same, high_same, low-other, high-other}
use Rattle.rights.specs.Register.{is_member, is_granted, recorded, opens}
use Rattle.rights.specs.Open.{is_open, open_classes, entry_of}
use Rattle.rights.specs.Entries.{renewed, class_renewed}
use Rattle.rights.proofs.Register.{flag_same}
use Rattle.rights.proofs.Open.{open-recorded, is-open-opens}

-- ---- of the table only entries are written

pub record Renewed (ws ws' : List ℕ) : Type 0 where
  pub long : length ws' ≡ length ws
  -- the header and the records
  pub front : take entries_at ws' ≡ take entries_at ws
  -- the free link, and what is behind the table
  pub rest : drop free_at ws' ≡ drop free_at ws

-- what the records say
pub recorded-same : (m : ℕ) → entries_at ≤ m → (ws ws' : List ℕ) → take m ws' ≡ take m ws → (r c : ℕ) → r < 256 → c < 64
    → recorded ws' r c ≡ recorded ws r c
unfolding recorded is_member is_granted
recorded-same m h ws ws' e r c hr hc =
    any-upto (λ g. is_member ws' r g && is_granted ws' g c) (λ g. is_member ws r g && is_granted ws g c) 32
    (λ g l. rw (flag_same m ws ws' e members_at (r * 32 + g) (omega arith), flag_same m ws ws' e grants_at (g * 64 + c) (omega arith)))

-- ---- one reader's entry

module _ (ws : List ℕ) (r : ℕ) where
  pub entry-renewed : r < 256 → Renewed ws (renewed ws r)
  unfolding renewed
  entry-renewed h = record {
    long = entry_length ws r (open_classes ws r).low (open_classes ws r).high;
    front = entry-front ws r (open_classes ws r).low (open_classes ws r).high;
    rest = entry-rest ws r (open_classes ws r).low (open_classes ws r).high h;
  }

  pub written : settings_length ≤ length ws → r < 256 → entry_of (renewed ws r) r ≡ open_classes ws r
  unfolding entry_of renewed
  written long h = λ i. record {
    low = low_same ws r (open_classes ws r).low (open_classes ws r).high long h i;
    high = high_same ws r (open_classes ws r).low (open_classes ws r).high long h i;
  }

  pub opens-renewed : settings_length ≤ length ws → r < 256 → (c : ℕ) → c < 64 → opens (renewed ws r) r c ≡ recorded ws r c
  opens-renewed long h c hc = sym (is-open-opens (renewed ws r) r c) ∙ ap (λ k. is_open k c) (written long h) ∙ open-recorded ws r c hc

  -- the others' stay
  kept : (s : ℕ) → s ≢ r → entry_of (renewed ws r) s ≡ entry_of ws s
  unfolding entry_of renewed
  kept s other = λ i. record {
    low = low-other ws r (open_classes ws r).low (open_classes ws r).high s other i;
    high = high-other ws r (open_classes ws r).low (open_classes ws r).high s other i;
  }

  pub opens-other : (s : ℕ) → s ≢ r → (c : ℕ) → opens (renewed ws r) s c ≡ opens ws s c
  opens-other s other c = sym (is-open-opens (renewed ws r) s c) ∙ ap (λ k. is_open k c) (kept s other) ∙ is-open-opens ws s c

-- ---- one class in the entries of a group's members

module _ (ws : List ℕ) (g c : ℕ) (hc : c < 64) where
  pub class-renewed : (n : ℕ) → n ≤ 256 → Renewed ws (class_renewed ws g c n)
  unfolding class_renewed
  class-renewed zero h = record { long = refl; front = refl; rest = refl }
  class-renewed (suc n) h = go (class-renewed n (omega arith)) (is_member ws n g)
    where
      X : List ℕ
      X = class_renewed ws g c n

      go : Renewed ws X → (t : Bool) → Renewed ws (cond t (with_flag X entries_at (n * 64 + c) (recorded ws n c)) X)
      go k true = record {
        long = length-with X entries_at (n * 64 + c) (recorded ws n c) ∙ k.long;
        front = take-with X entries_at (n * 64 + c) (recorded ws n c) entries_at (omega arith) ∙ k.front;
        rest = drop-with X entries_at (n * 64 + c) (recorded ws n c) free_at (omega arith) ∙ k.rest;
      }
      go k false = k

  -- a flag that is written for no member
  pub opens-class-other : (r d : ℕ) → ((n : ℕ) → is_member ws n g ≡ true → r * 64 + d ≢ n * 64 + c) → (n : ℕ)
      → opens (class_renewed ws g c n) r d ≡ opens ws r d
  unfolding class_renewed opens
  opens-class-other r d apart zero = refl
  opens-class-other r d apart (suc n) = go (opens-class-other r d apart n) (is_member ws n g) refl
    where
      X : List ℕ
      X = class_renewed ws g c n

      go : opens X r d ≡ opens ws r d → (t : Bool) → is_member ws n g ≡ t
          → opens (cond t (with_flag X entries_at (n * 64 + c) (recorded ws n c)) X) r d ≡ opens ws r d
      go k true e =
          ap (λ (t : Bool). ltb d 64 && t) (flag-with-other X entries_at (n * 64 + c) (recorded ws n c) (r * 64 + d) (apart n e)) ∙ k
      go k false e = k

  -- a member's
  module _ (long : settings_length ≤ length ws) (r : ℕ) (member : is_member ws r g ≡ true) where
    pub opens-class : (n : ℕ) → n ≤ 256 → r < n → opens (class_renewed ws g c n) r c ≡ recorded ws r c
    unfolding class_renewed opens
    opens-class zero h l = absurd (omega arith)
    opens-class (suc n) h l = go (λ k. opens-class n (omega arith) k) (ℕ_discrete r n) (is_member ws n g) refl
      where
        X : List ℕ
        X = class_renewed ws g c n

        go : (r < n → opens X r c ≡ recorded ws r c) → Dec (r ≡ n) → (t : Bool) → is_member ws n g ≡ t
            → opens (cond t (with_flag X entries_at (n * 64 + c) (recorded ws n c)) X) r c ≡ recorded ws r c
        go before (yes e) true m =
            rw (← e, lt-ltb c 64 hc)
            (flag-with-same (class_renewed ws g c r) entries_at (r * 64 + c) (recorded ws r c) (omega (arith, (class-renewed r (omega arith)).long)))
        go before (yes e) false m = absurd (true≢false (sym member ∙ ap (λ (k : ℕ). is_member ws k g) e ∙ m))
        go before (no d) true m =
            ap (λ (t : Bool). ltb c 64 && t) (flag-with-other X entries_at (n * 64 + c) (recorded ws n c) (r * 64 + c) (λ e. d (omega arith)))
            ∙ before (omega arith)
        go before (no d) false m = before (omega arith)
