-- An accepted opening makes the invariant, whatever the tables held.
use mathlib.Core.Path.{◌≡◌, refl, sym, ◌∙◌}
use mathlib.Core.Bool.{Bool, true, false, cond, ◌&&◌, true≢false}
use mathlib.Core.List.{List, [], ◌∷◌, ◌++◌}
use Prim.Native.Nat.{ℕ, ◌+◌, ◌-◌, ◌≤◌, ◌<◌}
use native.Mathlib.Nat.{mul-le-mul_right}
use native.Mathlib.Omega.{arith}
use lib.Dec.{leb, eqb}
use lib.ListN.{length, get_or, take, replicate, length-append, length-map, length-replicate, get_or-replicate, get_or-append}
use lib.Seq.{take_at, take-append-le, get_or-append-add}
use borrow.Author.Tests.{leb-true}
use Rattle.meaning.specs.Lists.{onto, upto}
use Rattle.meaning.specs.Refusal.{first_no}
use Rattle.meaning.specs.Rights.{no_rights}
use Rattle.meaning.specs.Ledger.{Settings, Ledger, opening, accept}
use Rattle.meaning.specs.Questions.{in_limits, asked}
use Rattle.meaning.proofs.Lists.{and_first, and_second, length_from, length-onto}
use Rattle.layout.specs.Settings.{settings_length, members_at, free_at, header, register_length}
use Rattle.layout.specs.Pages.{is_live}
use Rattle.layout.specs.Lengths.{nodes_length, pages_length}
use Rattle.layout.proofs.Limits.{bounds}
use Rattle.rights.proofs.Pairs.{Holds, holds-none}
use Rattle.promises.specs.Tables.{Tables, given, rows_of}
use Rattle.promises.specs.Answers.{long_for, long_settings, long_nodes, long_pages, entered, number, free_link, fresh_settings, fresh_nodes, fresh_pages, opened}
use Rattle.promises.specs.Relation.{Answer, with_opening, Promised}
use Rattle.history.proofs.Lists.{passed, rows_none}
use Rattle.history.proofs.Represents.{Represents, AsLong, long_kept, settings-read}

-- a word of the beginning
pub onto-word : (xs table : List ℕ) (i : ℕ) → i < length xs → get_or (onto xs table) i 0 ≡ get_or xs i 0
unfolding onto
onto-word xs table i h = get_or-append xs _ 0 i h

pub zero_word : (n : ℕ) (t : List ℕ) (k : ℕ) → k < n → get_or (replicate n 0 ++ t) k 0 ≡ 0
zero_word n t k h = get_or-append (replicate n 0) t 0 k (rw (length-replicate {A = ℕ} n 0) h) ∙ get_or-replicate n k 0 0 h

module _ (s : Settings) (limits : in_limits s ≡ true) where
  pub header-length : length (header s) ≡ members_at
  unfolding header
  header-length = omega (arith, (bounds s limits).count)

  pub settings-length : length (fresh_settings s) ≡ settings_length
  unfolding fresh_settings
  settings-length = simp (length-append, header-length)

  settings-word : (k : ℕ) → k < register_length → get_or (fresh_settings s) (members_at + k) 0 ≡ 0
  unfolding fresh_settings
  settings-word k h = rw (← header-length, get_or-append-add (header s) _ k 0) (zero_word register_length (free_link s.nodes s.blocks ∷ []) k h)

  pub nodes-length : length (fresh_nodes s) ≡ nodes_length s
  unfolding fresh_nodes nodes_length upto
  nodes-length = simp (length-append, length-map, length_from, length-replicate) (omega arith)

  pages-length : length (fresh_pages s) ≡ pages_length s
  unfolding fresh_pages
  pages-length = length-replicate (pages_length s) 0

  module _ (T : Tables) (long : long_settings T && long_for s T (opening s) ≡ true) where
    as_long : AsLong T (opened s T)
    unfolding opened long_settings long_for long_nodes long_pages
    as_long =
        let h : leb settings_length (length T.settings) ≡ true = search and_first in
        let n : leb (nodes_length s) (length T.nodes) ≡ true = search (and_first, and_second) in
        let p : leb (pages_length s) (length T.pages) ≡ true = search (and_first, and_second) in
        record {
          settings = length-onto (fresh_settings s) T.settings (omega (arith, settings-length, leb-true settings_length (length T.settings) h));
          nodes = length-onto (fresh_nodes s) T.nodes (omega (arith, nodes-length, leb-true (nodes_length s) (length T.nodes) n));
          pages = length-onto (fresh_pages s) T.pages (omega (arith, pages-length, leb-true (pages_length s) (length T.pages) p));
          sketches = refl;
          working = refl;
        }

    no-right : (i : ℕ) → members_at ≤ i → i < free_at → get_or (opened s T).settings i 0 ≡ 0
    unfolding opened
    no-right i a b =
        let e : i ≡ members_at + (i - members_at) = omega arith in
        rw (e, onto-word (fresh_settings s) T.settings (members_at + (i - members_at)) (omega (arith, settings-length)), settings-word (i - members_at) (omega arith))

    pub no-rights : Holds (opened s T).settings no_rights
    no-rights = holds-none (opened s T).settings no-right

    pub no-page : (i : ℕ) → i < s.pages → is_live (opened s T).pages i ≡ false
    unfolding opened is_live fresh_pages onto pages_length
    no-page i h = let l : 1 ≤ 2 + s.blocks = omega arith in rw (zero_word (pages_length s) _ i (omega (arith, mul-le-mul_right s.pages l)))

    pub beginning : take members_at (opened s T).settings ≡ header s
    unfolding opened fresh_settings onto
    beginning =
        take-append-le members_at (fresh_settings s) _ (omega (arith, settings-length))
        ∙ take_at (header s) _ members_at header-length

    pub started : (L : Ledger) → Represents (opened s T) (accept (opening s) L)
    unfolding accept rows_of
    started L = record {
      head = beginning;
      limits = limits;
      long = long_kept s T (opened s T) as_long long;
      register = no-rights;
      rows =
          sym (rows_none (is_live (opened s T).pages) _ (given (opened s T)).pages
          (λ i h. no-page i (rw (settings-read s limits (opened s T).settings beginning) at h)));
      classes = λ i h e. absurd (true≢false (sym e ∙ no-page i h));
    }

-- ---- what an opening promises
module _ (s : Settings) (T : Tables) where
  pub entered-4-5 : number T [] (opening s) ≡ 0 → (in_limits s ≡ true) × (long_settings T && long_for s T (opening s) ≡ true)
  unfolding number entered asked first_no
  entered-4-5 e =
      let h4 = passed 4 (in_limits s) (cond (long_settings T && long_for s T (opening s)) 0 5) (omega arith) e in
      let h5 = passed 5 (long_settings T && long_for s T (opening s)) 0 (omega arith) h4.1 in
      (h4.0, h5.0)

  pub left_by : (a : Answer) (T' : Tables) → Promised (opening s) T a T' → T' ≡ cond (eqb a.number 0) (opened s T) T
  unfolding opened
  left_by a T' p = p.1 ∙ rw (p.0.settings-left, p.0.nodes-left, p.0.pages-left, p.0.answers) (go (eqb (number T [] (opening s)) 0))
    where
      go : (t : Bool) → with_opening T (cond t (opened s T).settings T.settings) (cond t (opened s T).nodes T.nodes) (cond t (opened s T).pages T.pages)
          ≡ cond t (opened s T) T
      go true = refl
      go false = refl
