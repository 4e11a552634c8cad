-- Which classes are in the set that the records give a reader, and in that of his entry.
use mathlib.Core.Path.{◌≡◌, refl, sym, ◌∙◌}
use mathlib.Core.Bool.{Bool, true, false, cond, ◌&&◌, ◌||◌, or_assoc, or-false}
use mathlib.Core.Logic.{◌≢◌}
use mathlib.Core.List.{List, [], ◌∷◌}
use Prim.Native.Nat.{ℕ, ◌+◌, ◌*◌, ◌/◌, ◌%◌, ◌^◌, ◌≤◌, ◌<◌}
use native.Mathlib.Omega.{arith}
use lib.Dec.{ltb}
use lib.ListN.{get_or}
use borrow.Author.Tests.{lt-ltb, ltb-true, ltb-false}
use Rattle.meaning.specs.Lists.{any, upto}
use Rattle.meaning.proofs.Lists.{any-upto}
use Rattle.words.specs.Bits.{bit, with_bit, rising, bits_of, lowest, flag}
use Rattle.words.proofs.Bits.{bit-zero, bit-or, bits-step, bits-of-zero}
use Rattle.words.proofs.Flags.{flag-bit}
use Rattle.layout.specs.Settings.{members_at, grants_at, entries_at}
use Rattle.layout.specs.Entries.{low_at, high_at, low_of, high_of}
use Rattle.rights.specs.declared.Classes.{Classes}
use Rattle.rights.specs.Register.{is_member, is_granted, recorded, opens}
use Rattle.rights.specs.Open.{is_open, with_group, with_groups, open_classes, entry_of}
use Rattle.rights.proofs.Any.{any-rising}

-- ---- one group

open-with-group : (ws : List ℕ) (k : Classes) (g c : ℕ) → c < 64 → is_open (with_group ws k g) c ≡ is_open k c || is_granted ws g c
unfolding is_open with_group is_granted flag
open-with-group ws k g c h =
    let m : (g * 64 + c) % 32 ≡ c % 32 = omega arith in
    rw (lt-ltb c 64 h, m) (go (ltb c 32) refl)
  where
    go : (t : Bool) → ltb c 32 ≡ t → bit (cond t (with_group ws k g).low (with_group ws k g).high) (c % 32)
        ≡ bit (cond t k.low k.high) (c % 32) || bit (get_or ws (grants_at + (g * 64 + c) / 32) 0) (c % 32)
    go true e =
        let l : c < 32 = ltb-true c 32 e in
        let w : grants_at + (g * 64 + c) / 32 ≡ grants_at + 2 * g = omega arith in
        rw w (bit-or k.low (get_or ws (grants_at + 2 * g) 0) (c % 32))
    go false e =
        let l : 32 ≤ c = ltb-false c 32 e in
        let w : grants_at + (g * 64 + c) / 32 ≡ grants_at + 2 * g + 1 = omega arith in
        rw w (bit-or k.high (get_or ws (grants_at + 2 * g + 1) 0) (c % 32))

-- ---- a list of groups

open-with-groups : (ws : List ℕ) (k : Classes) (gs : List ℕ) (c : ℕ) → c < 64
    → is_open (with_groups ws k gs) c ≡ is_open k c || any (λ g. is_granted ws g c) gs
unfolding with_groups any
open-with-groups ws k [] c h = sym (or-false (is_open k c))
open-with-groups ws k (g ∷ gs) c h =
    open-with-groups ws (with_group ws k g) gs c h
    ∙ rw (open-with-group ws k g c h) (or_assoc (is_open k c) (is_granted ws g c) (any (λ g. is_granted ws g c) gs))

-- the groups of a word, one by one
pub groups_none : (ws : List ℕ) (k : Classes) → with_groups ws k (bits_of 0) ≡ k
unfolding with_groups
groups_none ws k = rw bits-of-zero

pub groups-step : (ws : List ℕ) (k : Classes) (w : ℕ) → w ≢ 0 → w < 2 ^ 32
    → with_groups ws k (bits_of w) ≡ with_groups ws (with_group ws k (lowest w)) (bits_of (with_bit w (lowest w) false))
unfolding with_groups
groups-step ws k w some fits = rw (bits-step w some fits)

-- ---- a reader

none_open : (c : ℕ) → is_open (record { low = 0; high = 0 }) c ≡ false
unfolding is_open
none_open c = go (ltb c 64) (ltb c 32)
  where
    go : (s t : Bool) → s && bit (cond t 0 0) (c % 32) ≡ false
    go true true = bit-zero (c % 32)
    go true false = bit-zero (c % 32)
    go false t = refl

-- the set from the records holds exactly the classes that they open to the reader
pub open-recorded : (ws : List ℕ) (r c : ℕ) → c < 64 → is_open (open_classes ws r) c ≡ recorded ws r c
unfolding open_classes bits_of is_member recorded upto
open-recorded ws r c h =
    open-with-groups ws (record { low = 0; high = 0 }) (rising (bit (get_or ws (members_at + r) 0)) 0 32) c h
    ∙ rw (none_open c) (any-rising (bit (get_or ws (members_at + r) 0)) (λ g. is_granted ws g c) 0 32)
    ∙ any-upto (λ g. bit (get_or ws (members_at + r) 0) g && is_granted ws g c) (λ g. is_member ws r g && is_granted ws g c) 32
    (λ g l. rw (flag-bit ws members_at r g l))

-- that of the entry holds those that are open to him
pub is-open-opens : (ws : List ℕ) (r c : ℕ) → is_open (entry_of ws r) c ≡ opens ws r c
unfolding is_open entry_of low_of high_of opens flag
is-open-opens ws r c = go (ltb c 64) refl (ltb c 32) refl
  where
    go : (s : Bool) → ltb c 64 ≡ s → (t : Bool) → ltb c 32 ≡ t → s && bit (cond t (get_or ws (low_at r) 0) (get_or ws (high_at r) 0)) (c % 32)
        ≡ s && bit (get_or ws (entries_at + (r * 64 + c) / 32) 0) ((r * 64 + c) % 32)
    go false a t b = refl
    go true a true b =
        let l : c < 32 = ltb-true c 32 b in
        let w : entries_at + (r * 64 + c) / 32 ≡ low_at r = omega arith in
        let k : (r * 64 + c) % 32 ≡ c % 32 = omega arith in
        rw (w, k)
    go true a false b =
        let m : c < 64 = ltb-true c 64 a in
        let l : 32 ≤ c = ltb-false c 32 b in
        let w : entries_at + (r * 64 + c) / 32 ≡ high_at r = omega arith in
        let k : (r * 64 + c) % 32 ≡ c % 32 = omega arith in
        rw (w, k)
