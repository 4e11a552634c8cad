-- A small store, computed: the laws' hypotheses can be met. Two blocks of a symbol each, three nodes, one page: it stands in a leaf below
-- the first root, and in the second root itself. Its class is 0, and its row is blank, as stores from before question 15 may have it: the
-- store is sound. It is dropped.
use Rattle.std.specs.Prelude.{Some}
use Prim.Native.Nat.{ℕ, zero, suc, ◌+◌, ◌-◌, ◌≤◌, ◌<◌}
use native.Mathlib.Omega.{arith}
use mathlib.Core.Path.{◌≡◌, refl, sym, ◌∙◌}
use mathlib.Core.Bool.{true, false, false≢true}
use mathlib.Core.List.{List, [], ◌∷◌, ◌++◌}
use borrow.Author.Tests.{le-ltb, ne_eqb}
use lib.Dec.{lit<}
use lib.ListN.{length, get_or, replicate, length-replicate, get_or-replicate, get_or-append}
use lib.Seq.{get_or-append-add}
use Rattle.meaning.specs.Lists.{all, any, count, from, upto, sum}
use Rattle.meaning.specs.Refusal.{first_no}
use Rattle.meaning.specs.Sketch.{in_range, pack, pack_bytes, per_byte, pack_byte, packed_length, symbols_at, packable, block, block_length, block_start}
use Rattle.meaning.specs.SketchCalls.{sketch_limits}
use Rattle.meaning.specs.Trie.{Tree, leaf, inner, none, child, byte_at, nodes, pages_in}
use Rattle.meaning.specs.Ledger.{Settings, settings_given, drop}
use Rattle.meaning.specs.Forest.{block_bytes, bytes_of_sketch, total_nodes, forest_after}
use Rattle.meaning.specs.Questions.{in_limits, asked}
use Rattle.layout.specs.Settings.{settings_of, header, shows_opening, register_length, members_at, free_at}
use Rattle.layout.specs.Lengths.{nodes_length, pages_length, sketches_length}
use Rattle.layout.specs.Pages.{is_live, class_of, signature_at, row_of}
use Rattle.layout.specs.Signature.{folded_byte, folded, signature}
use Rattle.rights.proofs.Pairs.{holds-none}
use Rattle.children.specs.Heap.{Cells, nil, ◌⊕◌}
use Rattle.layout.specs.States.{kind_of}
use Rattle.children.specs.Order.{bare}
use Rattle.children.specs.Places.{place_from, find_place}
use Rattle.children.specs.Phys.{Phys, no_kid, kid, heads_from, leaf_p, inner_p}
use Rattle.trie_laws.specs.Sound.{filled, sound_trie, Stands}
use Rattle.trie.specs.Descend.{step_to, descend, descend_to, passed_at}
use Rattle.blocks.specs.RowBytes.{reduced, row_bytes}
use Rattle.trie_remove.specs.Take.{take_page}
use Rattle.trie.specs.Model.{free_child}
use Rattle.trie_remove.specs.Prune.{prune_up}
use Rattle.trie_remove.specs.Remove.{shorten_leaf, remove_at, remove_page, gone}
use Rattle.trie_remove.proofs.Example.{nodes_of, pages_of, node-claims, page-claims, once-count}
use Rattle.promises.specs.Tables.{Tables, tables, given, by_tables, page_class, page_row, rows_of}
use Rattle.promises.specs.Answers.{number, entered, shown56, long_settings, long_for, long_nodes, long_pages}
use Rattle.promises.specs.Sound.{tries_cells, live_page, page_bytes, SoundPage, Sound}
use Rattle.drop_laws.specs.Removal.{remove_block, remove_from, remove_all}
use Rattle.drop_laws.proofs.Admitted.{admitted}
use Rattle.drop_laws.proofs.Sounds.{DropSound, drop-sound}

unfoldable given₁ : Settings
given₁ = settings_given 1 2 2 1 3 (replicate 64 1)

-- node 2 is the child of node 0 with byte 0
abbrev N : List ℕ
N = 0 ∷ 0 ∷ 0 ∷ 65536 ∷ 65537 ∷ 65537 ∷ 3 ∷ replicate 23 0

unfoldable settings : List ℕ
settings = header given₁ ++ (replicate register_length 0 ++ 0 ∷ [])

abbrev T : Tables
T = tables settings N (1 ∷ 0 ∷ 0 ∷ 0 ∷ []) (0 ∷ 0 ∷ []) []

passes : number T [] (drop 0) ≡ 0
unfolding number entered shown56 long_settings long_for long_nodes long_pages nodes_length pages_length sketches_length shows_opening in_limits sketch_limits asked by_tables is_live first_no all settings settings_of header given₁
passes = refl

abbrev tries : List Phys
tries = inner_p 0 (kid 0 (leaf_p 2 (0 ∷ [])) no_kid) ∷ leaf_p 1 (0 ∷ []) ∷ []

abbrev F : List Tree
F = inner (child 0 (leaf (0 ∷ [])) none) ∷ leaf (0 ∷ []) ∷ []

abbrev claims : Cells
claims = tries_cells 3 1 0 tries ⊕ nil

-- page 0 alone is live
live-one : (p : ℕ) → live_page T (suc p) ≡ false
unfolding live_page settings settings_of header given₁
live-one p = rw (le-ltb (suc p) 1 (omega arith)) refl

stands : (t : Tree) → pages_in t ≡ 0 ∷ [] → Stands (live_page T) t
unfolding Stands live_page is_live count settings settings_of header given₁
stands t e zero = rw e refl
stands t e (suc p) = rw (e, live-one p, ne_eqb (suc p) 0 (omega arith)) refl

page-sound : (p : ℕ) → live_page T p ≡ true → SoundPage T p
unfolding page_class class_of page_row row_of in_range all signature_at signature folded folded_byte pack pack_bytes pack_byte packed_length per_byte from upto settings settings_of header given₁
page-sound zero h = record { class = lit< tt; symbols = refl; signature = refl }
page-sound (suc p) h = absurd (false≢true (sym (live-one p) ∙ h))

-- no rights
no-right : (i : ℕ) → members_at ≤ i → i < free_at → get_or settings i 0 ≡ 0
unfolding settings header given₁
no-right i a b =
    let e : i ≡ members_at + (i - members_at) = omega arith in
    let below : i - members_at < length {A = ℕ} (replicate register_length 0) = omega (arith, length-replicate {A = ℕ} register_length 0) in
    rw e (
    get_or-append-add (header given₁) (replicate register_length 0 ++ 0 ∷ []) (i - members_at) 0
    ∙ get_or-append (replicate register_length 0) (0 ∷ []) 0 (i - members_at) below
    ∙ get_or-replicate register_length (i - members_at) 0 0 (omega arith)
    )

sound : Sound T F
unfolding heads_from any settings settings_of header given₁ total_nodes sum nodes sound_trie pages_in filled all packable symbols_at per_byte byte_at page_bytes page_row row_of bytes_of_sketch pack pack_bytes pack_byte block block_length block_start block_bytes packed_length
sound = record {
  tries = tries;
  free = [];
  holding = record {
    words = record {
      holds = (((refl, (search, (refl, (search, tt)))), ((refl, (search, (refl, tt))), tt)), tt);
      nodes = λ a. rw (node-claims claims a) (once-count a (nodes_of claims) refl);
      pages = λ a. rw (page-claims claims a) (once-count a (pages_of claims) refl);
    };
    blocks = refl;
    roots = (refl, search arith, (refl, search arith, tt));
    chain = refl;
    below = tt;
    all = refl;
  };
  forest = refl;
  blocks = (record { sound = refl; stands = stands _ refl }, (record { sound = refl; stands = stands _ refl }, tt));
  pages = page-sound;
  entries = (holds-none settings no-right).entries;
}

-- it is dropped: the leaf below the first root is freed, and both roots are empty leaves
done : DropSound T 0 (forest_after (given T) (rows_of T) (drop 0) F)
done = drop-sound T F sound 0 (admitted T 0 passes)

computed : remove_all (given T) T.sketches 0 N T.pages 0 ≡ gone (0 ∷ 0 ∷ 0 ∷ 131072 ∷ 131072 ∷ 0 ∷ 0 ∷ replicate 23 0) T.pages (Some 3)
unfolding remove_all remove_from remove_block remove_page remove_at shorten_leaf prune_up bare all upto from free_child kind_of take_page descend_to descend step_to passed_at find_place place_from settings settings_of header given₁ row_bytes reduced row_of bytes_of_sketch pack pack_bytes pack_byte packed_length per_byte block block_length block_start
computed = refl
