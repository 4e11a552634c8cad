-- The table and the ledger's register: a flag of the records is set exactly where its pair stands, no entry is stale, and every change
-- keeps that.
use mathlib.Core.Path.{◌≡◌, refl, sym, ap, ◌∙◌}
use mathlib.Core.Bool.{Bool, true, false, cond, ◌&&◌, ◌||◌, not, and-false, true≢false}
use mathlib.Core.Logic.{◌≢◌}
use mathlib.Core.List.{List, [], ◌∷◌}
use Prim.Native.Nat.{ℕ, ◌+◌, ◌*◌, ◌/◌, ◌%◌, ◌≤◌, ◌<◌}
use native.Mathlib.Omega.{arith}
use lib.Dec.{ltb, eqb}
use lib.ListN.{length, get_or, take}
use borrow.Author.Tests.{eqb-true, ltb-true}
use Rattle.meaning.specs.Lists.{any, keep, from, upto}
use Rattle.meaning.specs.Rights.{Pair, pair, same_pair, stands, write, strike, Register, no_rights, open_to, Change, join, leave, grant, revoke, change_in_range, changed}
use Rattle.meaning.proofs.Lists.{and_first, and_second, any-upto}
use Rattle.words.specs.Bits.{flag, with_flag}
use Rattle.words.proofs.Bits.{bit-zero}
use Rattle.words.proofs.Flags.{flag-with-apart}
use Rattle.layout.specs.Settings.{settings_length, members_at, grants_at, entries_at, free_at}
use Rattle.rights.specs.Register.{is_member, is_granted, with_member, with_grant, recorded, opens}
use Rattle.rights.specs.Entries.{renewed, class_renewed, registered, all_current}
use Rattle.rights.proofs.Register.{flag_same, flag-put}
use Rattle.rights.proofs.Renewed.{Renewed, entry-renewed, class-renewed}
use Rattle.rights.proofs.Rest.{Beside, registered-beside}
use Rattle.rights.proofs.Kept.{current-at, all-current, current-same, stays-current}

-- ---- pairs

pub same-pair : (p q : Pair) → same_pair p q ≡ true → p ≡ q
unfolding same_pair
same-pair p q e = go (eqb p.from q.from) refl (eqb p.to q.to) refl e
  where
    go : (s : Bool) → eqb p.from q.from ≡ s → (t : Bool) → eqb p.to q.to ≡ t → s && t ≡ true → p ≡ q
    go true a true b e = λ i. record { from = eqb-true p.from q.from a i; to = eqb-true p.to q.to b i }
    go true a false b e = absurd (true≢false (sym e))
    go false a t b e = absurd (true≢false (sym e))

-- which pairs stand after one is written, and after one is struck
pub stands-write : (q : Pair) (ps : List Pair) (p : Pair) → stands p (write q ps) ≡ cond (same_pair p q) true (stands p ps)
unfolding stands write any
stands-write q ps p = go (stands q ps) refl (same_pair p q) refl
  where
    go : (t : Bool) → stands q ps ≡ t → (s : Bool) → same_pair p q ≡ s → stands p (cond t ps (q ∷ ps)) ≡ cond s true (stands p ps)
    go true e true d = rw (same-pair p q d) e
    go true e false d = refl
    go false e true d = rw d
    go false e false d = rw d

pub stands-strike : (q : Pair) (ps : List Pair) (p : Pair) → stands p (strike q ps) ≡ cond (same_pair p q) false (stands p ps)
unfolding stands strike any keep
stands-strike q [] p = go (same_pair p q)
  where
    go : (t : Bool) → false ≡ cond t false false
    go true = refl
    go false = refl
stands-strike q (r ∷ ps) p = go (stands-strike q ps p) (same_pair q r) refl (same_pair p q) refl
  where
    go : stands p (strike q ps) ≡ cond (same_pair p q) false (stands p ps) → (t : Bool) → same_pair q r ≡ t → (s : Bool) → same_pair p q ≡ s
        → any (same_pair p) (cond (not t) (r ∷ strike q ps) (strike q ps)) ≡ cond s false (same_pair p r || any (same_pair p) ps)
    go ih true e true d = ih ∙ rw d
    go ih true e false d = ih ∙ rw (d, ← same-pair q r e, d)
    go ih false e true d =
        let f : same_pair p r ≡ false = ap (λ (z : Pair). same_pair z r) (same-pair p q d) ∙ e in
        rw f (ih ∙ rw d)
    go ih false e false d = ap (λ (b : Bool). same_pair p r || b) (ih ∙ rw d)

-- ---- a run of flags shows pairs: row a, place b, w places a row

abbrev pub Flags : List ℕ → ℕ → ℕ → ℕ → List Pair → Type 0
Flags ws base rows w ps = (a b : ℕ) → a < rows → b < w → flag ws base (a * w + b) ≡ stands (pair a b) ps

module _ (ws : List ℕ) (base rows w : ℕ) (ps : List Pair) (f : Flags ws base rows w ps) where
  -- after a write to one of these flags
  pub flags-put : (ps' : List Pair) (a b : ℕ) (v : Bool) → b < w → base + (a * w + b) / 32 < length ws
      → ((p : Pair) → stands p ps' ≡ cond (same_pair p (pair a b)) v (stands p ps))
      → Flags (with_flag ws base (a * w + b) v) base rows w ps'
  flags-put ps' a b v h l e c d hc hd = rw (flag-put ws base w a b v c d h hd l, f c d hc hd) (sym (e (pair c d)))

  -- after a write to another word
  pub flags-keep : (base' n : ℕ) (v : Bool) → ((c d : ℕ) → c < rows → d < w → base + (c * w + d) / 32 ≢ base' + n / 32)
      → Flags (with_flag ws base' n v) base rows w ps
  flags-keep base' n v h c d hc hd = flag-with-apart ws base' n v base (c * w + d) (h c d hc hd) ∙ f c d hc hd

  -- in another table with the same beginning
  pub flags-same : (m : ℕ) (ws' : List ℕ) → take m ws' ≡ take m ws → ((c d : ℕ) → c < rows → d < w → base + (c * w + d) / 32 < m)
      → Flags ws' base rows w ps
  flags-same m ws' e h c d hc hd = flag_same m ws ws' e base (c * w + d) (h c d hc hd) ∙ f c d hc hd

-- ---- the table holds a register: the records show its pairs, and no entry is stale

pub record Holds (ws : List ℕ) (R : Register) : Type 0 where
  pub members : Flags ws members_at 256 32 R.members
  pub grants : Flags ws grants_at 32 64 R.grants
  pub entries : all_current ws ≡ true

-- no rights: the words of the register are 0
module _ (ws : List ℕ) (zeros : (i : ℕ) → members_at ≤ i → i < free_at → get_or ws i 0 ≡ 0) where
  no_flag : (base n : ℕ) → members_at ≤ base + n / 32 → base + n / 32 < free_at → flag ws base n ≡ false
  unfolding flag
  no_flag base n a b = rw (zeros (base + n / 32) a b) (bit-zero (n % 32))

  none_open : (r c : ℕ) → r < 256 → c < 64 → opens ws r c ≡ false
  unfolding opens
  none_open r c hr hc = rw (no_flag entries_at (r * 64 + c) (omega arith) (omega arith)) (and-false (ltb c 64))

  none-recorded : (r c : ℕ) → r < 256 → recorded ws r c ≡ false
  unfolding recorded is_member upto from any
  none-recorded r c hr =
      any-upto (λ g. is_member ws r g && is_granted ws g c) (λ g. false) 32
      (λ g l. rw (no_flag members_at (r * 32 + g) (omega arith) (omega arith)))

  pub holds-none : Holds ws no_rights
  unfolding stands any
  holds-none = record {
    members = λ a b ha hb. no_flag members_at (a * 32 + b) (omega arith) (omega arith);
    grants = λ a b ha hb. no_flag grants_at (a * 64 + b) (omega arith) (omega arith);
    entries = all-current ws (λ r c hr hc. none_open r c hr hc ∙ sym (none-recorded r c hr));
  }

-- a table with another register: all else is as it was
pub record Changed (ws ws' : List ℕ) (R : Register) : Type 0 where
  pub holds : Holds ws' R
  pub beside : Beside ws ws'

-- entries written anew behind records that show a register
holds-renewed : (W X : List ℕ) (R : Register) → Flags W members_at 256 32 R.members → Flags W grants_at 32 64 R.grants → Renewed W X
    → all_current X ≡ true → Holds X R
holds-renewed W X R members grants k current = record {
  members = flags-same W members_at 256 32 R.members members entries_at X k.front (λ a b ha hb. omega arith);
  grants = flags-same W grants_at 32 64 R.grants grants entries_at X k.front (λ a b ha hb. omega arith);
  entries = current;
}

module _ (ws : List ℕ) (R : Register) (h : Holds ws R) where
  pub member-stands : (r g : ℕ) → r < 256 → g < 32 → is_member ws r g ≡ stands (pair r g) R.members
  unfolding is_member
  member-stands r g hr hg = h.members r g hr hg

  pub grant-stands : (g c : ℕ) → g < 32 → c < 64 → is_granted ws g c ≡ stands (pair g c) R.grants
  unfolding is_granted
  grant-stands g c hg hc = h.grants g c hg hc

  holds-recorded : (r c : ℕ) → r < 256 → c < 64 → recorded ws r c ≡ open_to R r c
  unfolding recorded open_to
  holds-recorded r c hr hc =
      any-upto (λ g. is_member ws r g && is_granted ws g c) (λ g. stands (pair r g) R.members && stands (pair g c) R.grants) 32
      (λ g l. rw (member-stands r g hr l, grant-stands g c l hc))

  pub holds-opens : (r c : ℕ) → r < 256 → c < 64 → opens ws r c ≡ open_to R r c
  holds-opens r c hr hc = current-at ws h.entries r c hr hc ∙ holds-recorded r c hr hc

  -- the words from the free link on are no part of it
  pub holds_same : (ws' : List ℕ) → take free_at ws' ≡ take free_at ws → Holds ws' R
  holds_same ws' e = record {
    members = flags-same ws members_at 256 32 R.members h.members free_at ws' e (λ a b ha hb. omega arith);
    grants = flags-same ws grants_at 32 64 R.grants h.grants free_at ws' e (λ a b ha hb. omega arith);
    entries = current-same ws ws' e h.entries;
  }

  module _ (l : settings_length ≤ length ws) where
    -- a membership or a grant is written or struck
    with-member : (M : List Pair) (r g : ℕ) (v : Bool) → ((p : Pair) → stands p M ≡ cond (same_pair p (pair r g)) v (stands p R.members))
        → ltb r 256 && ltb g 32 ≡ true → all_current (renewed (with_member ws r g v) r) ≡ true
        → Holds (renewed (with_member ws r g v) r) (record { members = M; grants = R.grants })
    with-member M r g v e i =
        let hr = ltb-true r 256 (and_first (ltb r 256) (ltb g 32) i) in
        let hg = ltb-true g 32 (and_second (ltb r 256) (ltb g 32) i) in
        holds-renewed (with_member ws r g v) (renewed (with_member ws r g v) r) (record { members = M; grants = R.grants })
        (flags-put ws members_at 256 32 R.members h.members M r g v hg (omega arith) e)
        (flags-keep ws grants_at 32 64 R.grants h.grants members_at (r * 32 + g) v (λ a b ha hb q. omega arith))
        (entry-renewed (with_member ws r g v) r hr)

    with-grant : (G : List Pair) (g c : ℕ) (v : Bool) → ((p : Pair) → stands p G ≡ cond (same_pair p (pair g c)) v (stands p R.grants))
        → ltb g 32 && ltb c 64 ≡ true → all_current (class_renewed (with_grant ws g c v) g c 256) ≡ true
        → Holds (class_renewed (with_grant ws g c v) g c 256) (record { members = R.members; grants = G })
    with-grant G g c v e i =
        let hg = ltb-true g 32 (and_first (ltb g 32) (ltb c 64) i) in
        let hc = ltb-true c 64 (and_second (ltb g 32) (ltb c 64) i) in
        holds-renewed (with_grant ws g c v) (class_renewed (with_grant ws g c v) g c 256) (record { members = R.members; grants = G })
        (flags-keep ws members_at 256 32 R.members h.members grants_at (g * 64 + c) v (λ a b ha hb q. omega arith))
        (flags-put ws grants_at 32 64 R.grants h.grants G g c v hc (omega arith) e)
        (class-renewed (with_grant ws g c v) g c hc 256 (omega arith))

    written : (c : Change) → change_in_range c ≡ true → all_current (registered c ws) ≡ true → Holds (registered c ws) (changed c R)
    unfolding registered changed
    written (join r g) = with-member _ r g true (stands-write (pair r g) R.members)
    written (leave r g) = with-member _ r g false (stands-strike (pair r g) R.members)
    written (grant g c) = with-grant _ g c true (stands-write (pair g c) R.grants)
    written (revoke g c) = with-grant _ g c false (stands-strike (pair g c) R.grants)

    -- a change whose numbers are in range
    pub made : (c : Change) → change_in_range c ≡ true → Changed ws (registered c ws) (changed c R)
    made c i = record { holds = written c i (stays-current ws l h.entries c i); beside = registered-beside ws c i }
