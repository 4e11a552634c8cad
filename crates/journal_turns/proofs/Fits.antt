-- The program's tables are long enough for every opening that passes 4: its I is accepted, or refused by 4.
use Prim.Native.Nat.{ℕ, ◌+◌, ◌*◌}
use mathlib.Core.Path.{◌≡◌, refl, ◌∙◌}
use mathlib.Core.Bool.{Bool, true, false, cond, ◌&&◌}
use mathlib.Core.Logic.{◌⊎◌, inl, inr}
use mathlib.Core.List.{[]}
use native.Mathlib.Omega.{arith}
use lib.ListN.{length, replicate}
use borrow.Author.Tests.{le-leb}
use Rattle.meaning.specs.Output.{Output}
use Rattle.meaning.specs.Refusal.{first_no}
use Rattle.meaning.specs.Ledger.{Settings, opening, settings_given}
use Rattle.meaning.specs.Questions.{in_limits, asked}
use Rattle.meaning.specs.Journal.{opens, call_of}
use Rattle.layout.specs.Settings.{settings_length}
use Rattle.layout.specs.Limits.{Bounds}
use Rattle.layout.specs.Lengths.{nodes_length, pages_length, sketches_length, working_length}
use Rattle.layout.specs.Working.{map_words, summary_words}
use Rattle.layout.proofs.Limits.{bounds}
use Rattle.promises.specs.Tables.{Tables}
use Rattle.promises.specs.Answers.{long_nodes, long_pages, long_working, long_for, long_settings, entered, number}
use Rattle.promises.specs.Relation.{Answer, Promised}
use Rattle.journal_answers.specs.Answers.{page_capacity, node_capacity, made}
use Rattle.journal_turns.specs.Runs.{nodes_lent, working_lent, Roomy}

module _ (T : Tables) (r : Roomy T) (b m q t : ℕ) where
  abbrev s : Settings
  s = settings_given b m q page_capacity node_capacity (replicate 64 t)

  long : Bounds s → long_settings T && long_for s T (opening s) ≡ true
  unfolding long_settings long_for long_nodes long_pages long_working nodes_length pages_length sketches_length working_length map_words summary_words
  long k =
      rw (
        le-leb settings_length (length T.settings) r.settings,
        le-leb nodes_lent (length T.nodes) r.nodes,
        le-leb ((2 + q) * page_capacity) (length T.pages) (omega (arith, r.pages, k.header.blocks-most)),
        le-leb (page_capacity * m) (length T.sketches) (omega (arith, r.sketches, k.header.symbols-most)),
        le-leb working_lent (length T.working) r.working,
      )

  numbers : (number T [] (opening s) ≡ 0) ⊎ (number T [] (opening s) ≡ 4)
  unfolding number entered asked first_no
  numbers = go (in_limits s) refl
    where
      go : (k : Bool) → in_limits s ≡ k
          → (◌≡◌ {A = ℕ} (cond k (cond (long_settings T && long_for s T (opening s)) 0 5) 4) 0)
          ⊎ (◌≡◌ {A = ℕ} (cond k (cond (long_settings T && long_for s T (opening s)) 0 5) 4) 4)
      go true e = inl (rw (long (bounds s e)))
      go false e = inr refl

  pub opens-or-4 : (found : Output) (a : Answer) (T' : Tables) → Promised (made found (opens b m q t)) T a T' → (a.number ≡ 0) ⊎ (a.number ≡ 4)
  unfolding call_of
  opens-or-4 found a T' p = by numbers
    where
      by : (number T [] (opening s) ≡ 0) ⊎ (number T [] (opening s) ≡ 4) → (a.number ≡ 0) ⊎ (a.number ≡ 4)
      by (inl e) = inl (p.0.answers ∙ e)
      by (inr e) = inr (p.0.answers ∙ e)
