-- No entry is stale: what that says class by class, and that every change of the register keeps it.
use Prim.Native.Nat.{ℕ, ◌+◌, ◌*◌, ◌≤◌, ◌<◌}
use native.Mathlib.Omega.{arith}
use native.Mathlib.Decide.{ℕ_discrete}
use mathlib.Core.Path.{◌≡◌, refl, sym, ap, ◌∙◌}
use mathlib.Core.Logic.{◌≢◌, by_cases}
use mathlib.Core.Bool.{Bool, true, false, ◌&&◌, not, true≢false}
use mathlib.Core.List.{List}
use lib.Dec.{ltb, eqb}
use lib.ListN.{length, take}
use borrow.Author.Tests.{ltb-true, not-true, eq-eqb, ne_eqb}
use Rattle.meaning.specs.Lists.{any, upto}
use Rattle.meaning.specs.Rights.{Change, join, leave, grant, revoke, change_in_range}
use Rattle.meaning.proofs.Lists.{and_first, and_second, any-upto, upto_all, all-upto}
use Rattle.words.proofs.Flags.{flag-with-same, flag-with-other, flag-with-apart}
use Rattle.layout.specs.Settings.{settings_length, members_at, grants_at, entries_at, free_at}
use Rattle.rights.specs.Register.{is_member, is_granted, with_member, with_grant, recorded, opens}
use Rattle.rights.specs.Entries.{renewed, class_renewed, registered, same, is_current, all_current}
use Rattle.rights.proofs.Register.{flag_same, member-length, grant-length}
use Rattle.rights.proofs.Renewed.{recorded-same, entry-renewed, opens-renewed, opens-other, class-renewed, opens-class-other, opens-class}

same_true : (s t : Bool) → same s t ≡ true → s ≡ t
same_true true t e = sym e
same_true false t e = sym (not-true t e)

same_self : (s t : Bool) → s ≡ t → same s t ≡ true
same_self true t e = sym e
same_self false t e = ap not (sym e)

-- ---- class by class

pub current-class : (ws : List ℕ) (r : ℕ) → is_current ws r ≡ true → (c : ℕ) → c < 64 → opens ws r c ≡ recorded ws r c
unfolding is_current
current-class ws r e c hc =
    same_true (opens ws r c) (recorded ws r c) (upto_all (λ d. same (opens ws r d) (recorded ws r d)) 64 e c hc)

pub current-at : (ws : List ℕ) → all_current ws ≡ true → (r c : ℕ) → r < 256 → c < 64 → opens ws r c ≡ recorded ws r c
unfolding all_current
current-at ws e r c hr hc = current-class ws r (upto_all (is_current ws) 256 e r hr) c hc

pub entry-current : (ws : List ℕ) (r : ℕ) → ((c : ℕ) → c < 64 → opens ws r c ≡ recorded ws r c) → is_current ws r ≡ true
unfolding is_current
entry-current ws r h =
    all-upto (λ c. same (opens ws r c) (recorded ws r c)) 64 (λ c hc. same_self (opens ws r c) (recorded ws r c) (h c hc))

pub all-current : (ws : List ℕ) → ((r c : ℕ) → r < 256 → c < 64 → opens ws r c ≡ recorded ws r c) → all_current ws ≡ true
unfolding all_current
all-current ws h = all-upto (is_current ws) 256 (λ r hr. entry-current ws r (λ c. h r c hr))

-- ---- the words from the free link on are no part of it

opens-same : (ws ws' : List ℕ) → take free_at ws' ≡ take free_at ws → (r c : ℕ) → r < 256 → c < 64 → opens ws' r c ≡ opens ws r c
unfolding opens
opens-same ws ws' e r c hr hc = rw (flag_same free_at ws ws' e entries_at (r * 64 + c) (omega arith))

pub current-same : (ws ws' : List ℕ) → take free_at ws' ≡ take free_at ws → all_current ws ≡ true → all_current ws' ≡ true
current-same ws ws' e current =
    all-current ws'
    (λ r c hr hc.
    opens-same ws ws' e r c hr hc ∙ current-at ws current r c hr hc ∙ sym (recorded-same free_at (omega arith) ws ws' e r c hr hc))

-- ---- a membership is written or struck

module _ (ws : List ℕ) (r g : ℕ) (v : Bool) (hr : r < 256) (hg : g < 32) where
  abbrev W : List ℕ
  W = with_member ws r g v

  member-opens : (s c : ℕ) → opens W s c ≡ opens ws s c
  unfolding opens
  member-opens s c = rw (flag-with-apart ws members_at (r * 32 + g) v entries_at (s * 64 + c) (λ e. omega arith))

  -- to another reader the records open what they did
  member-recorded : (s c : ℕ) → s ≢ r → c < 64 → recorded W s c ≡ recorded ws s c
  unfolding recorded is_member is_granted
  member-recorded s c other hc =
      any-upto (λ k. is_member W s k && is_granted W k c) (λ k. is_member ws s k && is_granted ws k c) 32
      (λ k l. rw (
        flag-with-other ws members_at (r * 32 + g) v (s * 32 + k) (λ e. other (omega arith)),
        flag-with-apart ws members_at (r * 32 + g) v grants_at (k * 64 + c) (λ e. omega arith),
      ))

  module _ (long : settings_length ≤ length ws) (current : all_current ws ≡ true) where
    member-current : all_current (renewed W r) ≡ true
    member-current = all-current (renewed W r) (λ s c hs hc. at s c hs hc ∙ sym (recorded-same entries_at (omega arith) W (renewed W r) (entry-renewed W r hr).front s c hs hc))
      where
        at : (s c : ℕ) → s < 256 → c < 64 → opens (renewed W r) s c ≡ recorded W s c
        at s c hs hc =
            by_cases (ℕ_discrete s r)
            (λ e. rw e (opens-renewed W r (omega (arith, member-length ws r g v)) hr c hc))
            (λ d. opens-other W r s d c ∙ member-opens s c ∙ current-at ws current s c hs hc ∙ sym (member-recorded s c d hc))

-- ---- a grant is written or struck

module _ (ws : List ℕ) (g c : ℕ) (v : Bool) (hg : g < 32) (hc : c < 64) where
  abbrev G : List ℕ
  G = with_grant ws g c v

  grant-opens : (s d : ℕ) → opens G s d ≡ opens ws s d
  unfolding opens
  grant-opens s d = rw (flag-with-apart ws grants_at (g * 64 + c) v entries_at (s * 64 + d) (λ e. omega arith))

  grant-member : (s k : ℕ) → s < 256 → k < 32 → is_member G s k ≡ is_member ws s k
  unfolding is_member
  grant-member s k hs hk = flag-with-apart ws grants_at (g * 64 + c) v members_at (s * 32 + k) (λ e. omega arith)

  grant-other : (k d : ℕ) → k ≢ g → d < 64 → is_granted G k d ≡ is_granted ws k d
  unfolding is_granted
  grant-other k d n hd = flag-with-other ws grants_at (g * 64 + c) v (k * 64 + d) (λ e. n (omega arith))

  -- the records open what they did: another class, and to a reader who is no member any class
  class-recorded : (s d : ℕ) → d ≢ c → s < 256 → d < 64 → recorded G s d ≡ recorded ws s d
  unfolding recorded is_granted
  class-recorded s d other hs hd =
      any-upto (λ k. is_member G s k && is_granted G k d) (λ k. is_member ws s k && is_granted ws k d) 32
      (λ k l. rw (grant-member s k hs l, flag-with-other ws grants_at (g * 64 + c) v (k * 64 + d) (λ e. other (omega arith))))

  alien-recorded : (s d : ℕ) → is_member G s g ≡ false → s < 256 → d < 64 → recorded G s d ≡ recorded ws s d
  unfolding recorded
  alien-recorded s d out hs hd =
      any-upto (λ k. is_member G s k && is_granted G k d) (λ k. is_member ws s k && is_granted ws k d) 32
      (λ k l. by_cases (ℕ_discrete k g)
      (λ e. rw (e, out, sym (grant-member s g hs hg) ∙ out))
      (λ n. rw (grant-member s k hs l, grant-other k d n hd)))

  module _ (long : settings_length ≤ length ws) (current : all_current ws ≡ true) where
    abbrev X : List ℕ
    X = class_renewed G g c 256

    grant-current : all_current X ≡ true
    grant-current = all-current X (λ s d hs hd. at s d hs hd ∙ sym (recorded-same entries_at (omega arith) G X (class-renewed G g c hc 256 (omega arith)).front s d hs hd))
      where
        -- an entry's flag that no member's class is
        kept : (s d : ℕ) → s < 256 → d < 64 → ((n : ℕ) → is_member G n g ≡ true → s * 64 + d ≢ n * 64 + c) → recorded G s d ≡ recorded ws s d
            → opens X s d ≡ recorded G s d
        kept s d hs hd apart as_before = opens-class-other G g c hc s d apart 256 ∙ grant-opens s d ∙ current-at ws current s d hs hd ∙ sym as_before

        of-class : (s : ℕ) → s < 256 → (t : Bool) → is_member G s g ≡ t → opens X s c ≡ recorded G s c
        of-class s hs true e = opens-class G g c hc (omega (arith, grant-length ws g c v)) s e 256 (omega arith) hs
        of-class s hs false e =
            kept s c hs hc
            (λ n m q. let z : n ≡ s = omega arith in true≢false (sym m ∙ ap (λ (k : ℕ). is_member G k g) z ∙ e))
            (alien-recorded s c e hs hc)

        at : (s d : ℕ) → s < 256 → d < 64 → opens X s d ≡ recorded G s d
        at s d hs hd =
            by_cases (ℕ_discrete d c)
            (λ e. rw e (of-class s hs (is_member G s g) refl))
            (λ n. kept s d hs hd (λ k m q. n (omega arith)) (class-recorded s d n hs hd))

-- ---- a change whose numbers are in range: all entries are current if they were before

pub stays-current : (ws : List ℕ) → settings_length ≤ length ws → all_current ws ≡ true → (c : Change) → change_in_range c ≡ true
    → all_current (registered c ws) ≡ true
unfolding registered
stays-current ws long current (join r g) i =
    member-current ws r g true (ltb-true r 256 (and_first (ltb r 256) (ltb g 32) i)) (ltb-true g 32 (and_second (ltb r 256) (ltb g 32) i)) long current
stays-current ws long current (leave r g) i =
    member-current ws r g false (ltb-true r 256 (and_first (ltb r 256) (ltb g 32) i)) (ltb-true g 32 (and_second (ltb r 256) (ltb g 32) i)) long current
stays-current ws long current (grant g c) i =
    grant-current ws g c true (ltb-true g 32 (and_first (ltb g 32) (ltb c 64) i)) (ltb-true c 64 (and_second (ltb g 32) (ltb c 64) i)) long current
stays-current ws long current (revoke g c) i =
    grant-current ws g c false (ltb-true g 32 (and_first (ltb g 32) (ltb c 64) i)) (ltb-true c 64 (and_second (ltb g 32) (ltb c 64) i)) long current

-- ---- a revoke, on any tables: each of the group's members has the class from then on exactly by another of his groups

struck : (ws : List ℕ) (g c : ℕ) → g < 32 → c < 64 → settings_length ≤ length ws → is_granted (with_grant ws g c false) g c ≡ false
unfolding is_granted
struck ws g c hg hc long = flag-with-same ws grants_at (g * 64 + c) false (omega arith)

pub revoke-reaches : (ws : List ℕ) → settings_length ≤ length ws → (g c r : ℕ) → g < 32 → c < 64 → r < 256 → is_member ws r g ≡ true
    → opens (registered (revoke g c) ws) r c ≡ any (λ k. not (eqb k g) && (is_member ws r k && is_granted ws k c)) (upto 32)
unfolding registered recorded
revoke-reaches ws long g c r hg hc hr m =
    opens-class W g c hc (omega (arith, grant-length ws g c false)) r (grant-member ws g c false hg hc r g hr hg ∙ m) 256 (omega arith) hr
    ∙ any-upto (λ k. is_member W r k && is_granted W k c) (λ k. not (eqb k g) && (is_member ws r k && is_granted ws k c)) 32
    (λ k l. by_cases (ℕ_discrete k g)
    (λ e. rw (e, eq-eqb g g refl, struck ws g c hg hc long, grant-member ws g c false hg hc r g hr hg, m))
    (λ n. rw (ne_eqb k g n, grant-member ws g c false hg hc r k hr l, grant-other ws g c false hg hc k c n hc)))
  where
    W : List ℕ
    W = with_grant ws g c false
