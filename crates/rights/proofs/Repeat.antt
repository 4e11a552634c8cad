-- A change of the register may repeat: the second time changes nothing.
use Prim.Native.Nat.{ℕ, zero, suc, ◌+◌, ◌*◌, ◌≤◌, ◌<◌}
use native.Mathlib.Omega.{arith}
use mathlib.Core.Path.{◌≡◌, refl, sym, ap, ◌∙◌}
use mathlib.Core.Bool.{Bool, true, false, cond}
use mathlib.Core.List.{List, [], ◌∷◌, ◌++◌}
use lib.Dec.{ltb}
use lib.ListN.{length, get_or, take}
use borrow.Author.Tests.{lt-ltb, ltb-true}
use Rattle.meaning.specs.Rights.{Change, join, leave, grant, revoke, change_in_range}
use Rattle.meaning.proofs.Lists.{and_first, and_second}
use Rattle.words.specs.Bits.{bit, rising, bits_of, flag, with_flag}
use Rattle.words.proofs.Flags.{flag-with-same, with-own}
use Rattle.layout.specs.Settings.{settings_length, members_at, grants_at, entries_at}
use Rattle.layout.specs.Entries.{with_entry}
use Rattle.layout.proofs.Entries.{entry-own}
use Rattle.rights.specs.declared.Classes.{Classes}
use Rattle.rights.specs.Register.{is_member, with_member, with_grant, recorded, opens}
use Rattle.rights.specs.Open.{with_group, with_groups, open_classes, entry_of}
use Rattle.rights.specs.Entries.{renewed, class_renewed, registered}
use Rattle.rights.proofs.Register.{word_same, flag_same, member-length, grant-length}
use Rattle.rights.proofs.Renewed.{recorded-same, entry-renewed, written, class-renewed, opens-class}

-- ---- the set from the records, in another table with the same records

module _ (ws ws' : List ℕ) (e : take entries_at ws' ≡ take entries_at ws) where
  group-same : (k : Classes) (g : ℕ) → g < 32 → with_group ws' k g ≡ with_group ws k g
  unfolding with_group
  group-same k g h = rw (word_same entries_at ws ws' e (grants_at + 2 * g) (omega arith), word_same entries_at ws ws' e (grants_at + 2 * g + 1) (omega arith))

  groups-same : (p : ℕ → Bool) (k : Classes) (g n : ℕ) → g + n ≤ 32 → with_groups ws' k (rising p g n) ≡ with_groups ws k (rising p g n)
  unfolding with_groups rising
  groups-same p k g zero h = refl
  groups-same p k g (suc n) h = go (λ j. groups-same p j (suc g) n (omega arith)) (p g)
    where
      go : ((j : Classes) → with_groups ws' j (rising p (suc g) n) ≡ with_groups ws j (rising p (suc g) n)) → (t : Bool)
          → with_groups ws' k (cond t (g ∷ []) [] ++ rising p (suc g) n) ≡ with_groups ws k (cond t (g ∷ []) [] ++ rising p (suc g) n)
      go later true = later (with_group ws' k g) ∙ ap (λ (j : Classes). with_groups ws j (rising p (suc g) n)) (group-same k g (omega arith))
      go later false = later k

  classes-same : (r : ℕ) → r < 256 → open_classes ws' r ≡ open_classes ws r
  unfolding open_classes bits_of
  classes-same r h =
      rw (word_same entries_at ws ws' e (members_at + r) (omega arith))
      (groups-same (bit (get_or ws (members_at + r) 0)) (record { low = 0; high = 0 }) 0 32 (omega arith))

-- ---- what stands as the records have it is written anew as it stands

entry-stays : (ws : List ℕ) (r : ℕ) → open_classes ws r ≡ entry_of ws r → renewed ws r ≡ ws
unfolding renewed entry_of
entry-stays ws r e = ap (λ (k : Classes). with_entry ws r k.low k.high) e ∙ entry-own ws r

class-stays : (ws : List ℕ) (g c n : ℕ) → ((r : ℕ) → r < n → is_member ws r g ≡ true → flag ws entries_at (r * 64 + c) ≡ recorded ws r c)
    → class_renewed ws g c n ≡ ws
unfolding class_renewed
class-stays ws g c zero same = refl
class-stays ws g c (suc n) same = go (class-stays ws g c n (λ r h. same r (omega arith))) (is_member ws n g) refl
  where
    go : class_renewed ws g c n ≡ ws → (t : Bool) → is_member ws n g ≡ t
        → cond t (with_flag (class_renewed ws g c n) entries_at (n * 64 + c) (recorded ws n c)) (class_renewed ws g c n) ≡ ws
    go e true m = rw e (with-own ws entries_at (n * 64 + c) (recorded ws n c) (same n (omega arith) m))
    go e false m = e

-- ---- a membership is written or struck again

module _ (ws : List ℕ) (long : settings_length ≤ length ws) (r g : ℕ) (v : Bool) (hr : r < 256) (hg : g < 32) where
  abbrev W : List ℕ
  W = with_member ws r g v

  abbrev X : List ℕ
  X = renewed W r

  member-front : take entries_at X ≡ take entries_at W
  member-front = (entry-renewed W r hr).front

  member-there : flag X members_at (r * 32 + g) ≡ v
  member-there = flag_same entries_at W X member-front members_at (r * 32 + g) (omega arith) ∙ flag-with-same ws members_at (r * 32 + g) v (omega arith)

  member-again : renewed (with_member X r g v) r ≡ X
  member-again =
      ap (λ (l : List ℕ). renewed l r) (with-own X members_at (r * 32 + g) v member-there)
      ∙ entry-stays X r (classes-same W X member-front r hr ∙ sym (written W r (omega (arith, member-length ws r g v)) hr))

-- ---- a grant is written or struck again

module _ (ws : List ℕ) (long : settings_length ≤ length ws) (g c : ℕ) (v : Bool) (hg : g < 32) (hc : c < 64) where
  abbrev G : List ℕ
  G = with_grant ws g c v

  abbrev Y : List ℕ
  Y = class_renewed G g c 256

  grant-front : take entries_at Y ≡ take entries_at G
  grant-front = (class-renewed G g c hc 256 (omega arith)).front

  grant-there : flag Y grants_at (g * 64 + c) ≡ v
  grant-there = flag_same entries_at G Y grant-front grants_at (g * 64 + c) (omega arith) ∙ flag-with-same ws grants_at (g * 64 + c) v (omega arith)

  member-same : (r : ℕ) → r < 256 → is_member Y r g ≡ is_member G r g
  unfolding is_member
  member-same r h = flag_same entries_at G Y grant-front members_at (r * 32 + g) (omega arith)

  -- a class below 64 is open by its flag alone
  flag-opens : (r : ℕ) → opens Y r c ≡ flag Y entries_at (r * 64 + c)
  unfolding opens
  flag-opens r = rw (lt-ltb c 64 hc)

  class-there : (r : ℕ) → r < 256 → is_member Y r g ≡ true → flag Y entries_at (r * 64 + c) ≡ recorded Y r c
  class-there r h m =
      sym (flag-opens r)
      ∙ opens-class G g c hc (omega (arith, grant-length ws g c v)) r (sym (member-same r h) ∙ m) 256 (omega arith) h
      ∙ sym (recorded-same entries_at (omega arith) G Y grant-front r c h hc)

  grant-again : class_renewed (with_grant Y g c v) g c 256 ≡ Y
  grant-again =
      ap (λ (l : List ℕ). class_renewed l g c 256) (with-own Y grants_at (g * 64 + c) v grant-there)
      ∙ class-stays Y g c 256 class-there

-- ---- a change whose numbers are in range

pub registered-again : (ws : List ℕ) → settings_length ≤ length ws → (c : Change) → change_in_range c ≡ true
    → registered c (registered c ws) ≡ registered c ws
unfolding registered
registered-again ws long (join r g) i =
    member-again ws long r g true (ltb-true r 256 (and_first (ltb r 256) (ltb g 32) i)) (ltb-true g 32 (and_second (ltb r 256) (ltb g 32) i))
registered-again ws long (leave r g) i =
    member-again ws long r g false (ltb-true r 256 (and_first (ltb r 256) (ltb g 32) i)) (ltb-true g 32 (and_second (ltb r 256) (ltb g 32) i))
registered-again ws long (grant g c) i =
    grant-again ws long g c true (ltb-true g 32 (and_first (ltb g 32) (ltb c 64) i)) (ltb-true c 64 (and_second (ltb g 32) (ltb c 64) i))
registered-again ws long (revoke g c) i =
    grant-again ws long g c false (ltb-true g 32 (and_first (ltb g 32) (ltb c 64) i)) (ltb-true c 64 (and_second (ltb g 32) (ltb c 64) i))
