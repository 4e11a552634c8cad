-- The frames in a stack.
use Prim.Native.Nat.{ℕ, zero, suc, ◌+◌, ◌-◌, ◌<◌}
use native.Mathlib.Omega.{arith}
use mathlib.Core.Path.{◌≡◌, refl, sym, ap, ◌∙◌}
use mathlib.Core.List.{List, [], ◌∷◌}
use lib.ListN.{length, set}
use Rattle.meaning.proofs.Stacks.{suc-pred, above, above-length, above-put}
use Rattle.children.specs.Cursors.{all_of}
use Rattle.walk_steps.specs.declared.frame.Frame.{Frame}
use Rattle.walk_steps.specs.Turn.{entered}
use Rattle.walk_steps.specs.Stack.{no_frame, frame_at, frames, Within}

module _ (stack : List Frame) where
  by-above : (n : ℕ) → frames stack n ≡ above no_frame stack n
  unfolding frames above
  by-above zero = refl
  by-above (suc n) = ap (λ fs. frame_at stack n ∷ fs) (by-above n)

  pub frames-length : (n : ℕ) → length (frames stack n) ≡ n
  frames-length n = ap length (by-above n) ∙ above-length no_frame stack n

  pub frames-none : (n : ℕ) → n ≡ 0 → frames stack n ≡ []
  unfolding frames
  frames-none n e = rw e refl

  -- the frame below level n
  pub frames-take : (n : ℕ) → 0 < n → frames stack n ≡ frame_at stack (n - 1) ∷ frames stack (n - 1)
  unfolding frames
  frames-take n l = ap (frames stack) (suc-pred n l)

-- a frame put at a level
pub frames-put : (stack : List Frame) (k : ℕ) (f : Frame) → k < length stack → frames (set stack k f) (k + 1) ≡ f ∷ frames stack k
frames-put stack k f l = by-above (set stack k f) (k + 1) ∙ above-put no_frame stack k f l ∙ ap (λ fs. f ∷ fs) (sym (by-above stack k))

-- ---- the frame of a node that is entered
pub entered-within : (nodes : List ℕ) (cap x radius : ℕ) → x < cap → Within cap (entered nodes cap x radius)
unfolding all_of
entered-within nodes cap x radius l = omega arith
