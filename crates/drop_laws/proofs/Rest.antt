-- On any tables: what a drop leaves outside the tries.
use Prim.Native.Nat.{ℕ, ◌+◌, ◌<◌}
use native.Mathlib.Omega.{arith}
use mathlib.Core.Path.{◌≡◌, refl, sym, ap, ◌∙◌}
use mathlib.Core.List.{List}
use lib.ListN.{set, length-set}
use lib.Seq.{take-set-le, drop-set-lt, take-set-lt}
use Rattle.layout.specs.Settings.{free_at}
use Rattle.layout.specs.Nodes.{node_words}
use Rattle.layout.specs.Lengths.{nodes_length, pages_length}
use Rattle.layout.specs.Pages.{without_page, links_at}
use Rattle.layout.proofs.Words.{page-inside}
use Rattle.promises.specs.Tables.{Tables, given}
use Rattle.promises.specs.Store.{SameRest, page_words}
use Rattle.store.specs.Within.{Within}
use Rattle.drop_laws.specs.After.{with_tries, dropped}

module _ (T : Tables) (N P : List ℕ) (nodes : Within 0 (node_words (given T).nodes) T.nodes N)
    (pages : Within (links_at (given T).pages) (pages_length (given T)) T.pages P) where
  pub tries-rest : SameRest T (with_tries T N P)
  unfolding nodes_length
  tries-rest = record {
    settings = refl;
    nodes = nodes.same;
    pages = pages.same;
    sketches = refl;
    working = refl;
    settings-front = refl;
    settings-rest = refl;
    nodes-rest = nodes.back;
    pages-rest = pages.back;
  }

  module _ (p free : ℕ) (page : p < (given T).pages) where
    pub dropped-rest : SameRest T (dropped T p N P free)
    unfolding nodes_length without_page
    dropped-rest = record {
      settings = length-set T.settings free_at free;
      nodes = nodes.same;
      pages = length-set P p _ ∙ pages.same;
      sketches = refl;
      working = refl;
      settings-front = take-set-le free_at T.settings free_at free (omega arith);
      settings-rest = drop-set-lt (free_at + 1) T.settings free_at free (omega arith);
      nodes-rest = nodes.back;
      pages-rest = drop-set-lt (pages_length (given T)) P p 0 (page-inside (given T) page) ∙ pages.back;
    }

    pub dropped-page : page_words T (without_page P p) ≡ page_words T (without_page T.pages p)
    unfolding without_page
    dropped-page =
        let inside : p < links_at (given T).pages = omega arith in
        take-set-lt (links_at (given T).pages) P p 0 inside
        ∙ ap (λ (l : List ℕ). set l p 0) pages.front
        ∙ sym (take-set-lt (links_at (given T).pages) T.pages p 0 inside)
