-- What a change of the register leaves of the table, sound or not: all but records and entries.
use Prim.Native.Nat.{ℕ, ◌+◌, ◌*◌, ◌/◌, ◌≤◌, ◌<◌}
use native.Mathlib.Omega.{arith}
use mathlib.Core.Path.{◌≡◌, sym, ap, ◌∙◌}
use mathlib.Core.Bool.{Bool, true, false, ◌&&◌}
use mathlib.Core.List.{List}
use lib.Dec.{ltb}
use lib.ListN.{length, get_or, take, drop}
use lib.Seq.{take-take, get_or-drop}
use borrow.Author.Tests.{ltb-true}
use Rattle.meaning.specs.Rights.{Change, join, leave, grant, revoke, change_in_range}
use Rattle.meaning.proofs.Lists.{and_first, and_second}
use Rattle.words.specs.Bits.{with_flag}
use Rattle.words.proofs.Flags.{length-with, take-with, drop-with}
use Rattle.layout.specs.Settings.{members_at, grants_at, entries_at, free_at}
use Rattle.rights.specs.Register.{with_member, with_grant}
use Rattle.rights.specs.Entries.{renewed, class_renewed, registered}
use Rattle.rights.proofs.Renewed.{Renewed, entry-renewed, class-renewed}

pub record Beside (ws ws' : List ℕ) : Type 0 where
  pub long : length ws' ≡ length ws
  pub header : take members_at ws' ≡ take members_at ws
  -- the free link, and what is behind the table
  pub rest : drop free_at ws' ≡ drop free_at ws

pub beside-free : (ws ws' : List ℕ) → Beside ws ws' → get_or ws' free_at 0 ≡ get_or ws free_at 0
beside-free ws ws' b = sym (get_or-drop free_at ws' 0 0) ∙ ap (λ (l : List ℕ). get_or l 0 0) b.rest ∙ get_or-drop free_at ws 0 0

-- a flag is written; then entries
flag-beside : (ws : List ℕ) (base n : ℕ) (v : Bool) → members_at ≤ base + n / 32 → base + n / 32 < free_at → Beside ws (with_flag ws base n v)
flag-beside ws base n v a b = record {
  long = length-with ws base n v;
  header = take-with ws base n v members_at a;
  rest = drop-with ws base n v free_at b;
}

then-renewed : (ws W X : List ℕ) → Beside ws W → Renewed W X → Beside ws X
then-renewed ws W X b k = record {
  long = k.long ∙ b.long;
  header =
      sym (take-take members_at entries_at X (omega arith))
      ∙ ap (λ (l : List ℕ). take members_at l) k.front
      ∙ take-take members_at entries_at W (omega arith)
      ∙ b.header;
  rest = k.rest ∙ b.rest;
}

module _ (ws : List ℕ) where
  of-member : (r g : ℕ) (v : Bool) → ltb r 256 && ltb g 32 ≡ true → Beside ws (renewed (with_member ws r g v) r)
  of-member r g v i =
      let hr = ltb-true r 256 (and_first (ltb r 256) (ltb g 32) i) in
      let hg = ltb-true g 32 (and_second (ltb r 256) (ltb g 32) i) in
      then-renewed ws (with_member ws r g v) (renewed (with_member ws r g v) r)
      (flag-beside ws members_at (r * 32 + g) v (omega arith) (omega arith)) (entry-renewed (with_member ws r g v) r hr)

  of-grant : (g c : ℕ) (v : Bool) → ltb g 32 && ltb c 64 ≡ true → Beside ws (class_renewed (with_grant ws g c v) g c 256)
  of-grant g c v i =
      let hg = ltb-true g 32 (and_first (ltb g 32) (ltb c 64) i) in
      let hc = ltb-true c 64 (and_second (ltb g 32) (ltb c 64) i) in
      then-renewed ws (with_grant ws g c v) (class_renewed (with_grant ws g c v) g c 256)
      (flag-beside ws grants_at (g * 64 + c) v (omega arith) (omega arith)) (class-renewed (with_grant ws g c v) g c hc 256 (omega arith))

  pub registered-beside : (c : Change) → change_in_range c ≡ true → Beside ws (registered c ws)
  unfolding registered
  registered-beside (join r g) = of-member r g true
  registered-beside (leave r g) = of-member r g false
  registered-beside (grant g c) = of-grant g c true
  registered-beside (revoke g c) = of-grant g c false
