-- The blocks before block j: their bytes in the table, their descents at their roots, and the leaves that these led to.
use Prim.Native.Nat.{ℕ, zero, suc, ◌+◌, ◌-◌, ◌*◌, ◌≤◌, ◌<◌}
use native.Mathlib.Omega.{arith}
use native.Mathlib.Decide.{ℕ_discrete}
use native.Mathlib.Nat.{add-zero}
use mathlib.Core.Path.{◌≡◌, refl, sym, ap, ap₂, subst, ◌∙◌}
use mathlib.Core.List.{List, ◌++◌}
use lib.ListN.{length, get_or, set, take, drop, length-append, length-drop, length-set, get_or-append}
use lib.Seq.{length-take-le, get_or-take, get_or-append-add, take_all, drop-cons}
use Rattle.meaning.specs.Lists.{onto}
use Rattle.meaning.specs.Sketch.{pack, block}
use Rattle.meaning.specs.Forest.{bytes_of_sketch}
use Rattle.layout.specs.declared.Numbers.{Numbers}
use Rattle.layout.specs.Header.{bare}
use Rattle.layout.specs.Limits.{HeaderLimits}
use Rattle.descent.specs.declared.Cursor.{Cursor}
use Rattle.descent.specs.declared.Descents.{Descents}
use Rattle.descent.specs.Cursor.{Inside, AllInside, ended, arrive, descended, drawn, drawn_all, left_of, Descended, leaf_of, AllLeaves}
use Rattle.meaning.proofs.Each.{each-put}
use Rattle.descent.proofs.Steps.{inside-arrive}
use Rattle.block_leaves.specs.Leaves.{block_size, Packed, Started, leaf_in, drawn_in, drawn_from, Leaves}
use Rattle.block_leaves.proofs.Sizes.{bytes-length, size-most, size-some}
use Rattle.block_leaves.proofs.Shift.{Alike, alike-arrive, alike-descended, alike-leaf, alike-drawn}

module _ (h : Numbers) (x : List ℕ) where
  abbrev bytes_of : ℕ → List ℕ
  bytes_of j = bytes_of_sketch (bare h) j x

  -- ---- packed
  pub record PackedTo (out : List ℕ) (j : ℕ) : Type 0 where
    pub most : j ≤ h.q
    pub long : length out ≡ 512
    pub each : (i k : ℕ) → i < j → k < length (bytes_of i) → get_or out (64 * i + k) 0 ≡ get_or (bytes_of i) k 0

  pub packed_all : {out : List ℕ} {j : ℕ} → PackedTo out j → h.q ≤ j → Packed h x out
  packed_all p end = record { long = p.long; each = λ i k l m. p.each i k (omega (arith, p.most)) m }

  module _ (limits : HeaderLimits h) (count : length x ≡ h.m) {out : List ℕ} {j : ℕ} (p : PackedTo out j) (more : j < h.q) where
    pub packed-fits : block_size h j ≤ length (take (512 - 64 * j) (drop (64 * j) out))
    packed-fits =
        rw (take_all (512 - 64 * j) (drop (64 * j) out) (omega (arith, length-drop (64 * j) out, p.long)))
        (omega (arith, length-drop (64 * j) out, p.long, size-most h limits j more, limits.blocks-most))

    abbrev before : List ℕ
    before = take (64 * j) out

    before-long : length before ≡ 64 * j
    before-long = length-take-le (64 * j) out (omega (arith, p.long, limits.blocks-most))

    pub packed-next : (part : List ℕ) → part ≡ onto (pack h.b (block h.m h.q j x)) (take (512 - 64 * j) (drop (64 * j) out))
        → PackedTo (before ++ (part ++ drop (512 - 64 * j) (drop (64 * j) out))) (j + 1)
    unfolding onto bytes_of_sketch
    packed-next part e = record { most = omega arith; long = long; each = each }
      where
        rest : List ℕ
        rest = drop (512 - 64 * j) (drop (64 * j) out)

        room : List ℕ
        room = take (512 - 64 * j) (drop (64 * j) out)

        room-long : length room ≡ 512 - 64 * j
        room-long = length-take-le (512 - 64 * j) (drop (64 * j) out) (omega (arith, length-drop (64 * j) out, p.long))

        size : length (bytes_of j) ≡ block_size h j
        size = bytes-length h x count j more

        part-long : length part ≡ 512 - 64 * j
        part-long =
            ap length e
            ∙ omega (
              arith,
              length-append (bytes_of j) (drop (length (bytes_of j)) room),
              length-drop (length (bytes_of j)) room,
              room-long,
              size,
              size-most h limits j more,
              p.long,
              limits.blocks-most,
            )

        long : length (before ++ (part ++ rest)) ≡ 512
        long =
            omega (
              arith,
              length-append before (part ++ rest),
              length-append part rest,
              before-long,
              part-long,
              length-drop (512 - 64 * j) (drop (64 * j) out),
              length-drop (64 * j) out,
              p.long,
            )

        here : (k : ℕ) → k < length (bytes_of j) → get_or (before ++ (part ++ rest)) (64 * j + k) 0 ≡ get_or (bytes_of j) k 0
        here k m =
            ap (λ n. get_or (before ++ (part ++ rest)) (n + k) 0) (sym before-long)
            ∙ get_or-append-add before (part ++ rest) k 0
            ∙ get_or-append part rest 0 k (omega (arith, part-long, size, size-most h limits j more, p.long, limits.blocks-most))
            ∙ ap (λ l. get_or l k 0) e
            ∙ get_or-append (bytes_of j) (drop (length (bytes_of j)) room) 0 k m

        each : (i k : ℕ) → i < j + 1 → k < length (bytes_of i) → get_or (before ++ (part ++ rest)) (64 * i + k) 0 ≡ get_or (bytes_of i) k 0
        each i k l m = go (ℕ_discrete i j)
          where
            go : Dec (i ≡ j) → get_or (before ++ (part ++ rest)) (64 * i + k) 0 ≡ get_or (bytes_of i) k 0
            go (yes f) = rw f (here k (rw f at m))
            go (no f) =
                let low : i < h.q = omega arith in
                let inside : 64 * i + k < 64 * j = omega (arith, bytes-length h x count i low, size-most h limits i low) in
                get_or-append before (part ++ rest) 0 (64 * i + k) (omega (arith, before-long))
                ∙ get_or-take (64 * j) out (64 * i + k) 0 inside
                ∙ p.each i k (omega arith) m

-- ---- started
module _ (h : Numbers) (N bytes : List ℕ) where
  abbrev start_of : ℕ → Cursor
  start_of j = arrive N h.nodes bytes j (64 * j) (64 * j + (block_size h j - 1))

  pub record StartedTo (cs : List Cursor) (j : ℕ) : Type 0 where
    pub most : j ≤ h.q
    pub long : length cs ≡ 16
    pub each : (i : ℕ) → i < j → get_or cs i (ended 0) ≡ start_of i

  pub started_none : (cs : List Cursor) → length cs ≡ 16 → StartedTo cs 0
  started_none cs e = record { most = omega arith; long = e; each = λ i l. absurd (omega arith) }

  pub started-next : {cs : List Cursor} {j : ℕ} → StartedTo cs j → j < h.q → h.q ≤ 8 → (c : Cursor) → c ≡ start_of j → StartedTo (set cs j c) (j + 1)
  started-next {cs} {j} s more few c e = record {
    most = omega arith;
    long = length-set cs j c ∙ s.long;
    each = each-put (λ i d. d ≡ start_of i) (ended 0) cs j c (omega (arith, s.long)) e s.each;
  }

  pub started-all : {cs : List Cursor} {j : ℕ} → StartedTo cs j → h.q ≤ j → Started h N bytes cs
  started-all s end = record { long = s.long; each = λ i l. s.each i (omega (arith, s.most)) }

  pub started-inside : {cs : List Cursor} → Started h N bytes cs → HeaderLimits h → length bytes ≡ 512 → AllInside bytes cs h.q
  started-inside s limits long = record {
    long = s.long;
    few = omega (arith, limits.blocks-most);
    each = λ j l.
        subst (Inside bytes) (sym (s.each j l))
        (inside-arrive N h.nodes bytes j (64 * j) (64 * j + (block_size h j - 1))
        (omega (arith, size-most h limits j l, limits.blocks-most)));
  }

-- ---- led to their leaves
module _ (h : Numbers) (N x bytes : List ℕ) (limits : HeaderLimits h) (count : length x ≡ h.m) (p : Packed h x bytes)
    (cs : List Cursor) (s : Started h N bytes cs) where
  module _ (j : ℕ) (l : j < h.q) where
    abbrev ys : List ℕ
    ys = bytes_of_sketch (bare h) j x

    size : length ys ≡ block_size h j
    size = bytes-length h x count j l

    same : (k : ℕ) → k ≤ length ys - 1 → get_or bytes (64 * j + k) 0 ≡ get_or ys k 0
    same k m = p.each j k l (omega (arith, size, size-some h limits j l))

    begun : get_or cs j (ended 0) ≡ arrive N h.nodes bytes j (64 * j + 0) (64 * j + (length ys - 1))
    begun = s.each j l ∙ ap₂ (λ m n. arrive N h.nodes bytes j m (64 * j + (n - 1))) (sym (add-zero (64 * j))) (sym size)

    -- it begins as over the block's own bytes
    alike : Alike N h.nodes bytes ys (64 * j) (length ys - 1) same (arrive N h.nodes ys j 0 (length ys - 1)) (get_or cs j (ended 0))
    alike = rw begun (alike-arrive N h.nodes bytes ys (64 * j) (length ys - 1) same j 0)

    led : leaf_of (descended N h.nodes bytes h.nodes (get_or cs j (ended 0))) ≡ leaf_in h N x j
    unfolding leaf_in
    led =
        alike-leaf N h.nodes bytes ys (64 * j) (length ys - 1) same _ _
        (alike-descended N h.nodes bytes ys (64 * j) (length ys - 1) same h.nodes _ _ alike)

    drawn-led : drawn N h.nodes bytes h.nodes (get_or cs j (ended 0)) ≡ drawn_in h N x j
    unfolding drawn_in
    drawn-led = alike-drawn N h.nodes bytes ys (64 * j) (length ys - 1) same h.nodes _ _ alike

  drawn-from : (k j : ℕ) → j + k ≡ h.q → drawn_all N h.nodes bytes (take k (drop j cs)) ≡ drawn_from h N x k j
  unfolding drawn_all drawn_from
  drawn-from zero j e = refl
  drawn-from (suc k) j e =
      ap (λ c. drawn_all N h.nodes bytes (take (suc k) c)) (drop-cons cs j (ended 0) (omega (arith, s.long, limits.blocks-most)))
      ∙ ap₂ ◌+◌ (drawn-led j (omega arith)) (drawn-from k (suc j) (omega arith))

  pub leaves_all : {firsts : List ℕ} {budget : ℕ} (found : Descents) → Descended N h.nodes bytes cs h.q budget found
      → AllLeaves 8 found.cursors h.q firsts → Leaves h N x budget record { firsts = firsts; left = found.left }
  leaves_all {budget = budget} found d t = record {
    left = d.left ∙ ap (left_of budget) (drawn-from h.q 0 (omega arith));
    each = λ k e i l. t.each i l ∙ ap leaf_of (d.each k e i l) ∙ led i l;
  }
