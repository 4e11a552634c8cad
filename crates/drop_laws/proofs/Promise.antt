-- `drop_page` keeps the promise of a drop.
use Rattle.std.specs.Prelude.{Option, Some, None, Result, Ok, Err}
use Rattle.layout.specs.declared.Numbers.{Numbers}
use Prim.Native.Nat.{ℕ}
use native.Mathlib.Omega.{arith}
use mathlib.Core.Path.{◌≡◌, refl, sym, ap, ◌∙◌, subst}
use mathlib.Core.Logic.{◌≢◌, inl, inr}
use mathlib.Core.List.{List, []}
use lib.ListN.{get_or}
use Rattle.meaning.specs.Trie.{Tree}
use Rattle.meaning.specs.Ledger.{drop}
use Rattle.meaning.specs.Forest.{forest_after}
use Rattle.layout.specs.Pages.{links_at}
use Rattle.layout.specs.Lengths.{pages_length}
use Rattle.layout.specs.Settings.{free_at}
use Rattle.trie_remove.specs.Remove.{Gone, gone}
use Rattle.promises.specs.Tables.{Tables, given, rows_of}
use Rattle.promises.specs.Answers.{number}
use Rattle.promises.specs.Sound.{Sound}
use Rattle.promises.specs.Store.{Outcome, outcome, DropPromise}
use Rattle.entry.specs.Admission.{admission}
use Rattle.entry.proofs.Admits.{admission-refused, admission-shown}
use Rattle.store.proofs.Same.{same_tables, same-stopped}
use Rattle.drop_laws.specs.Removal.{remove_all}
use Rattle.drop_laws.specs.After.{with_tries, dropped, on_gone, on_opening, drop_page}
use Rattle.drop_laws.proofs.Inside.{GoneIn, all-within}
use Rattle.drop_laws.proofs.Admitted.{Admitted, admitted, number_same}
use Rattle.drop_laws.proofs.Rest.{tries-rest, dropped-rest, dropped-page}
use Rattle.drop_laws.proofs.Sounds.{DropSound, drop-sound}

-- a question said no
drop-refused : (T : Tables) (p n : ℕ) → number T [] (drop p) ≡ n → n ≢ 0 → DropPromise T p n T
drop-refused T p n e h =
    record {
      early = λ q. sym e;
      sound = λ F S. record { answers = sym (number_same T F p ∙ e); tries = λ z. absurd (h z) };
      page = λ z. absurd (h z);
      refused = λ q r. refl;
      stopped = λ q. same-stopped T;
      sketches = refl;
      rest = same_tables T;
      late = λ z. absurd (h (sym e ∙ z));
    }

-- the tables that a drop leaves are those that the law tells of
told : (T : Tables) (p : ℕ) (F : List Tree) (D : DropSound T p F) (N P : List ℕ) (free : ℕ) →
    gone N P (Some free) ≡ gone D.nodes_to D.pages_to (Some D.free_to) → Sound (dropped T p N P free) F
told T p F D N P free e =
    let en : N ≡ D.nodes_to = cc in
    let ep : P ≡ D.pages_to = cc in
    let ef : free ≡ D.free_to = cc in
    rw (en, ep, ef) D.sound

module _ (T : Tables) (p : ℕ) (z : number T [] (drop p) ≡ 0) (N P : List ℕ) (r : Option ℕ)
    (is : remove_all (given T) T.sketches p T.nodes T.pages (get_or T.settings free_at 0) ≡ gone N P r) where
  known : Admitted T p
  known = admitted T p z

  within : GoneIn (given T).nodes (links_at (given T).pages) (pages_length (given T)) T.nodes T.pages (gone N P r)
  within =
      subst (GoneIn (given T).nodes (links_at (given T).pages) (pages_length (given T)) T.nodes T.pages) is
      (all-within (given T) T.sketches p known.opened.lent.limits.nodes-least T.nodes T.pages (get_or T.settings free_at 0))

  -- the page left every trie
  drop-done : (free : ℕ) → r ≡ Some free → DropPromise T p 0 (dropped T p N P free)
  drop-done free e =
      record {
        early = λ h. absurd (h z);
        sound = λ F S. record {
          answers = sym (number_same T F p ∙ z);
          tries = λ q. tries F S;
        };
        page = λ q. dropped-page T N P within.0 within.1 p free known.page;
        refused = λ h. absurd (h refl);
        stopped = λ q. absurd (omega arith);
        sketches = refl;
        rest = dropped-rest T N P within.0 within.1 p free known.page;
        late = λ q. inl refl;
      }
    where
      tries : (F : List Tree) → Sound T F → Sound (dropped T p N P free) (forest_after (given T) (rows_of T) (drop p) F)
      tries F S =
          let D = drop-sound T F S p known in
          told T p (forest_after (given T) (rows_of T) (drop p) F) D N P free (ap (gone N P) (sym e) ∙ sym is ∙ D.is)

  -- a removal stopped: the store was not sound
  drop-broken : r ≡ None → DropPromise T p 14 (with_tries T N P)
  drop-broken e =
      record {
        early = λ h. absurd (h z);
        sound = λ F S. absurd (never F S);
        page = λ q. absurd (omega arith);
        refused = λ h q. absurd (q refl);
        stopped = λ q. record { settings = refl; pages = within.1.front };
        sketches = refl;
        rest = tries-rest T N P within.0 within.1;
        late = λ q. inr refl;
      }
    where
      never : (F : List Tree) → Sound T F → ⊥
      never F S =
          let D = drop-sound T F S p known in
          let both : gone N P None ≡ gone D.nodes_to D.pages_to (Some D.free_to) = ap (gone N P) (sym e) ∙ sym is ∙ D.is in
          let x : ◌≡◌ {A = ℕ} 0 1 = cc in
          omega arith

-- ---- the model by its cases
module _ (T : Tables) (p : ℕ) where
  abbrev Keeps : Outcome → Type 0
  Keeps (outcome n T') = DropPromise T p n T'

  drop_keeps : Keeps (drop_page T p)
  unfolding drop_page
  drop_keeps = go (admission T (drop p)) refl
    where
      taken : number T [] (drop p) ≡ 0 → (r : Gone) →
          remove_all (given T) T.sketches p T.nodes T.pages (get_or T.settings free_at 0) ≡ r → Keeps (on_gone T p r)
      taken z (gone N P (Some free)) e = drop-done T p z N P (Some free) e free refl
      taken z (gone N P None) e = drop-broken T p z N P None e refl

      go : (o : Result Numbers ℕ) → admission T (drop p) ≡ o → Keeps (on_opening T p o)
      go (Ok h) e = taken (admission-shown T (drop p) h e).0 (remove_all (given T) T.sketches p T.nodes T.pages (get_or T.settings free_at 0)) refl
      go (Err n) e = let t = admission-refused T (drop p) n e in drop-refused T p n t.0 t.1

  -- the two parts of the contract
  pub drop-promise : (n : ℕ) (T' : Tables) → outcome n T' ≡ drop_page T p → DropPromise T p n T' × (outcome n T' ≡ drop_page T p)
  drop-promise n T' e = (subst Keeps (sym e) drop_keeps, e)
