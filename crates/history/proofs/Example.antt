-- A small history whose tables compute, so that no hypothesis of the theorem is empty; and a page added to its tables.
use mathlib.Core.Path.{◌≡◌, refl}
use mathlib.Core.List.{List, [], ◌∷◌}
use Prim.Native.Nat.{ℕ}
use lib.ListN.{get_or, set, replicate}
use Rattle.meaning.specs.Lists.{all, any, keep, grouped, onto, from, upto, sum}
use Rattle.meaning.specs.Refusal.{first_no}
use Rattle.meaning.specs.Output.{output, nearest, listing}
use Rattle.meaning.specs.Ledger.{Settings, settings_given, Event, opening, add, change, accept, step, ledger, with_rows, with_register, put_row, called_for, listed}
use Rattle.meaning.specs.Forest.{block_bytes, forest, forest_after, each_from, total_nodes}
use Rattle.meaning.specs.Sketch.{distance, in_range, blank, per_byte, packed_length, pack_byte, pack_bytes, pack, block_length}
use Rattle.meaning.specs.Trie.{fresh, add_leaf, insert, nodes}
use Rattle.meaning.specs.Rights.{same_pair, stands, write, open_to, join, grant, changed}
use Rattle.meaning.specs.SketchCalls.{sketch_limits}
use Rattle.meaning.specs.Questions.{in_limits, asked, by_ledger}
use Rattle.words.specs.Bits.{bit, with_bit, rising, bits_of, flag, with_flag}
use Rattle.layout.specs.Settings.{header, settings_of, shows_opening}
use Rattle.layout.specs.Pages.{with_page, with_row}
use Rattle.layout.specs.Signature.{folded_byte, folded, signature}
use Rattle.layout.specs.Lengths.{nodes_length, pages_length, sketches_length, working_length}
use Rattle.layout.specs.Working.{map_words, summary_words}
use Rattle.layout.specs.Entries.{with_entry}
use Rattle.rights.specs.Register.{is_member, is_granted, recorded}
use Rattle.rights.specs.Open.{with_group, with_groups, open_classes}
use Rattle.rights.specs.Entries.{renewed, class_renewed, registered}
use Rattle.promises.specs.Tables.{Tables, with_settings}
use Rattle.promises.specs.Answers.{long_for, long_settings, long_nodes, long_pages, long_working, entered, shown56, number, free_link, fresh_settings, fresh_chain, fresh_state, fresh_nodes, fresh_pages, opened}
use Rattle.promises.specs.Calls.{OpenPromise, RightsPromise}
use Rattle.promises.specs.Store.{SameRest, PageAdded}
use Rattle.promises.specs.Relation.{to_store, number_alone}
use Rattle.history.specs.History.{event, History, begun, called, admitted, judged}
use Rattle.history.proofs.Represents.{Represents}
use Rattle.history.proofs.Steps.{adds}
use Rattle.history.proofs.Main.{represents}

s : Settings
s = settings_given 2 4 2 3 5 (replicate 64 1)

-- tables a little too long, with anything in them
held : Tables
held = record { settings = replicate 905 9; nodes = replicate 52 8; pages = replicate 13 1; sketches = replicate 12 3; working = replicate 9 7 }

first : Tables
first = opened s held

opening-promise : OpenPromise s held 0 first.settings first.nodes first.pages
unfolding s held first number entered long_settings long_for long_nodes long_pages long_working nodes_length pages_length sketches_length working_length map_words summary_words in_limits sketch_limits asked first_no all
opening-promise = record { answers = refl; settings-left = refl; nodes-left = refl; pages-left = refl }

second : List ℕ
second = registered (join 5 1) first.settings

third : List ℕ
third = registered (grant 1 3) second

join-promise : RightsPromise (join 5 1) first.settings 0 second
unfolding s held first second opened fresh_settings free_link header onto number entered shown56 long_settings long_for shows_opening settings_of in_limits sketch_limits asked first_no all
join-promise = record { answers = refl; settings-left = refl }

grant-promise : RightsPromise (grant 1 3) second 0 third
unfolding s held first second third opened fresh_settings free_link header onto number entered shown56 long_settings long_for shows_opening settings_of in_limits sketch_limits asked first_no all registered renewed with_entry with_flag with_bit bit
grant-promise = record { answers = refl; settings-left = refl }

events : List Event
events = event (change (grant 1 3)) 0 ∷ event (change (join 5 1)) 0 ∷ event (opening s) 0 ∷ []

opened-tables : Tables
opened-tables = with_settings first third

history : History events opened-tables
unfolding events opened-tables first opened
history =
    let begins = begun s held (number_alone 0) first (opening-promise, refl) refl in
    let joins = called begins (change (join 5 1)) (number_alone 0) (with_settings first second) (join-promise, refl) in
    called joins (change (grant 1 3)) (number_alone 0) (with_settings first third) (grant-promise, refl)

shown : Represents opened-tables (ledger events)
shown = (represents history).tables

-- the words of reader 5 and of group 1, and the reader's entry
words : (get_or third 75 0 ≡ 2) × (get_or third 328 0 ≡ 8) × (get_or third 400 0 ≡ 8)
unfolding s held first second third opened fresh_settings free_link header onto registered renewed with_entry class_renewed open_classes with_groups with_group recorded is_member is_granted bits_of rising flag any upto from with_flag with_bit bit
words = (refl, refl, refl)

-- a page added, whatever the words of its tries
x : List ℕ
x = 0 ∷ 1 ∷ 2 ∷ 3 ∷ []

added-tables : Tables
added-tables = record {
  settings = third;
  nodes = onto (replicate 50 6) held.nodes;
  pages = set (with_page 3 first.pages 1 3 228) 7 5;
  sketches = with_row 4 held.sketches 1 x;
  working = held.working;
}

same_rest : SameRest (to_store opened-tables) (to_store added-tables)
unfolding s x held first second third opened-tables added-tables opened fresh_settings fresh_nodes fresh_chain fresh_state fresh_pages nodes_length pages_length free_link header onto upto from settings_of with_page with_row registered renewed with_entry class_renewed open_classes with_groups with_group recorded is_member is_granted bits_of rising flag any with_flag with_bit bit
same_rest = record {
  settings = refl;
  nodes = refl;
  pages = refl;
  sketches = refl;
  working = refl;
  settings-front = refl;
  settings-rest = refl;
  nodes-rest = refl;
  pages-rest = refl;
}

added : PageAdded (to_store opened-tables) (to_store added-tables) 1 3 x
unfolding s x held first second third opened-tables added-tables opened fresh_settings fresh_pages pages_length free_link header onto settings_of with_page with_row registered renewed with_entry class_renewed open_classes with_groups with_group recorded is_member is_granted bits_of rising flag any with_flag with_bit bit signature folded folded_byte pack pack_bytes pack_byte packed_length per_byte upto from
added = record { pages = refl; sketches = refl }

accepts : judged opened-tables (ledger events) (forest events) (add 1 3 x) ≡ 0
unfolding s x events judged admitted asked by_ledger first_no in_range blank all any forest forest_after ledger step accept with_register changed put_row each_from block_bytes packed_length per_byte block_length total_nodes sum insert add_leaf nodes fresh
accepts = refl

shown-page : Represents added-tables (ledger (event (add 1 3 x) 0 ∷ events))
unfolding ledger step opened-tables added-tables first opened
shown-page = adds opened-tables (ledger events) shown added-tables same_rest refl (forest events) 1 3 x added accepts

-- a second page that is nearer to its own sketch: it stands above the first
y : List ℕ
y = 0 ∷ 1 ∷ 2 ∷ 2 ∷ []

lists : listed (ledger (event (add 2 3 y) 0 ∷ event (add 1 3 x) 0 ∷ events)) 5 1 y ≡ output (2 ∷ 1 ∷ []) (0 ∷ 1 ∷ [])
unfolding x y events ledger step accept with_rows with_register changed put_row write listed listing nearest grouped called_for keep open_to stands any same_pair upto from distance
lists = refl
