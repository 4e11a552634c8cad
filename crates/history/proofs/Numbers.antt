-- A call that is lent a sound store gives the number that the ledger's questions give, by what it promises.
use Prim.Native.Nat.{ℕ}
use mathlib.Core.Path.{◌≡◌, refl, ◌∙◌}
use mathlib.Core.List.{List, []}
use Rattle.meaning.specs.Trie.{Tree}
use Rattle.meaning.specs.Ledger.{Ledger, Call, opening, add, drop, change, reading}
use Rattle.meaning.specs.Questions.{asked}
use Rattle.promises.specs.Tables.{Tables, page_class, page_row, rows_of, by_tables}
use Rattle.promises.specs.Answers.{long_for, long_settings, long_nodes, long_pages, shown56, entered, number}
use Rattle.promises.specs.Sound.{Sound}
use Rattle.promises.specs.Relation.{Answer, to_store, Promised}
use Rattle.promises.proofs.Readings.{law}
use Rattle.history.specs.History.{judged}
use Rattle.history.proofs.Represents.{Represents, number-eq}
use Rattle.history.proofs.Store.{sound-working}

pub record Shows (T : Tables) (L : Ledger) (F : List Tree) : Type 0 where
  pub tables : Represents T L
  pub store : Sound T F

-- ---- the tables that a call does not take count for nothing
module _ (T : Tables) (F : List Tree) where
  pub number-add : (p c : ℕ) (x : List ℕ) → number (to_store T) F (add p c x) ≡ number T F (add p c x)
  unfolding number entered shown56 long_settings long_for long_nodes long_pages asked by_tables rows_of page_class page_row
  number-add p c x = refl

  pub number-drop : (p : ℕ) → number (to_store T) F (drop p) ≡ number T F (drop p)
  unfolding number entered shown56 long_settings long_for long_nodes long_pages asked by_tables
  number-drop p = refl

-- ---- every call
module _ (T : Tables) (L : Ledger) (F : List Tree) (W : Shows T L F) where
  numbered : (c : Call) (a : Answer) (T' : Tables) → Promised c T a T' → a.number ≡ number T F c
  unfolding number entered asked shown56 long_for long_settings
  numbered (opening s) a T' p = p.0.answers
  numbered (add q c x) a T' p = (p.0.sound F (sound-working T F [] W.store)).answers ∙ number-add T F q c x
  numbered (drop q) a T' p = (p.0.sound F (sound-working T F [] W.store)).answers ∙ number-drop T F q
  numbered (change c) a T' p = p.0.answers
  numbered (reading q) a T' p = ((law q T).read a T'.working p.0).numbered F W.store

  pub numbers : (c : Call) (a : Answer) (T' : Tables) → Promised c T a T' → a.number ≡ judged T L F c
  numbers c a T' p = numbered c a T' p ∙ number-eq T L W.tables F c
