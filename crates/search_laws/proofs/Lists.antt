-- What a search lists: on any tables pages that it met and that it is to list, on a sound store all that it is to list.
use Prim.Native.Nat.{ℕ}
use native.Mathlib.Omega.{arith}
use mathlib.Core.Path.{◌≡◌, refl, sym, ap, ◌∙◌, subst}
use mathlib.Core.Bool.{Bool, true, false, ◌&&◌, and_assoc}
use mathlib.Core.List.{List}
use lib.Dec.{eqb}
use Rattle.meaning.specs.Lists.{any, upto}
use Rattle.meaning.specs.Sketch.{in_range}
use Rattle.meaning.specs.Trie.{Tree}
use Rattle.meaning.specs.Forest.{met_from, total_nodes}
use Rattle.meaning.proofs.Lists.{keep-from}
use Rattle.layout.specs.Lengths.{sketches_length}
use Rattle.promises.specs.Tables.{Tables, given, scan}
use Rattle.promises.specs.Sound.{Sound, live_page, page_bytes}
use Rattle.promises.specs.Readings.{listed_of}
use Rattle.promises.proofs.Stores.{live_below}
use Rattle.hits.specs.Hit.{Fitting, test_of, near_query, passes}
use Rattle.hits.proofs.Wanted.{wanted, passes-wanted, passes-sound}
use Rattle.search_laws.specs.Answer.{passing, meets}
use Rattle.search_laws.proofs.Sound.{Whole, blocks-right}
use Rattle.search_laws.proofs.Complete.{met-wanted}

module _ (T : Tables) (reader radius : ℕ) (x : List ℕ) where
  -- the pages listed of those met
  abbrev pub found_in : List ℕ → List ℕ
  found_in ps = passing (passes (test_of T reader radius x)) (given T).pages ps

  -- which they are: the signature stored for a page may hide it
  abbrev pub met_by : List ℕ → ℕ → Bool
  met_by ps p = any (eqb p) ps && near_query (test_of T reader radius x) p

  -- on any tables
  pub list-met : (ps : List ℕ) → found_in ps ≡ listed_of (met_by ps) T reader radius x
  unfolding passing listed_of upto
  list-met ps =
      keep-from (λ p. any (eqb p) ps && passes (test_of T reader radius x) p) (λ p. met_by ps p && wanted T reader radius x p) 0 (given T).pages
      (λ p l h.
      ap (λ t. any (eqb p) ps && t) (passes-wanted T reader radius x p (omega arith))
      ∙ sym (and_assoc (any (eqb p) ps) (near_query (test_of T reader radius x) p) (wanted T reader radius x p)))

  -- on a sound store
  module _ (fit : Fitting (test_of T reader radius x)) (range : in_range (given T).bits x ≡ true) (F : List Tree) (sound : Sound T F) where
    abbrev met_all : List ℕ
    met_all = met_from (given T) radius x 0 F

    -- no walk stops
    pub walks-whole : Whole (meets T reader radius x) met_all (given T).nodes (total_nodes F)
    walks-whole =
        subst (λ G. Whole (meets T reader radius x) (met_from (given T) radius x 0 G) (given T).nodes (total_nodes G)) sound.forest
        (blocks-right (given T) fit.limits T.nodes T.pages x fit.query range (page_bytes T) (live_page T) (live_below T) radius sound.tries
        sound.holding.blocks sound.holding.words.holds.0 sound.holding.roots
        (rw sound.forest sound.blocks) (omega (arith, sound.holding.all)))

    pub list_all : found_in met_all ≡ scan T reader radius x
    unfolding passing scan upto sketches_length
    list_all =
        keep-from (λ p. any (eqb p) met_all && passes (test_of T reader radius x) p) (wanted T reader radius x) 0 (given T).pages
        (λ p l h.
        ap (λ t. any (eqb p) met_all && t) (passes-sound T reader radius x fit range sound.pages p (omega arith))
        ∙ go (any (eqb p) met_all) (wanted T reader radius x p)
        (met-wanted T F sound fit.limits fit.sketches reader radius x fit.query range p (omega arith)))
      where
        go : (s t : Bool) → (t ≡ true → s ≡ true) → s && t ≡ t
        go true t e = refl
        go false true e = e refl
        go false false e = refl
