-- Once the tries are walked: what the search answers by the pages met, and by the map of those that passed.
use Rattle.std.specs.Prelude.{Option, Some}
use Prim.Native.Nat.{ℕ, ◌*◌, ◌≤◌, ◌<◌}
use native.Mathlib.Omega.{arith}
use mathlib.Core.Path.{◌≡◌, refl, sym, ap, ◌∙◌}
use mathlib.Core.Bool.{true, false, ◌&&◌}
use mathlib.Core.List.{List, []}
use lib.Dec.{ltb, leb, eqb}
use lib.ListN.{length, replicate, get_or-replicate, length-replicate}
use borrow.Author.Tests.{lt-ltb, le-leb}
use Rattle.meaning.specs.Lists.{all, any, count, upto}
use Rattle.meaning.specs.Output.{Output}
use Rattle.meaning.proofs.Lists.{and_intro, and_second}
use Rattle.meaning.proofs.Nearest.{keep_all}
use Rattle.words.specs.Bits.{flag}
use Rattle.words.proofs.Rising.{rising_none}
use Rattle.promises.specs.Readings.{Lists}
use Rattle.marks.specs.Marks.{Room, Summarised, list_of, Counts}
use Rattle.hits.specs.declared.Probe.{Probe}
use Rattle.hits.specs.Hit.{Test, far, passes}
use Rattle.hits.specs.Probes.{test_by}
use Rattle.hits.proofs.Filter.{passes-below}
use Rattle.hits.proofs.Hit.{passes-near}
use Rattle.meeting.specs.declared.Tally.{Tally}
use Rattle.meeting.specs.Meets.{Meets, met, broken}
use Rattle.meeting.specs.Mets.{Tallied, Meeting}
use Rattle.meeting.proofs.Maps.{kept-room, met-listed}
use Rattle.listing.specs.Listable.{Listable}
use Rattle.search_laws.specs.Answer.{passing, Answered}

-- no page is marked, and none is counted
pub tallied-none : (t : Test) (words : ℕ) (map : List ℕ) → list_of map words ≡ [] → Tallied t words map (replicate 65 0) 0
unfolding count
tallied-none t words map none = record {
  all = sym (ap length none);
  each = record { long = length-replicate {A = ℕ} 65 0; each = λ d h. get_or-replicate {A = ℕ} 65 d 0 0 h ∙ sym (ap (count (λ p. eqb (far t p) d)) none) };
}

pub answers-stopped : (m : Meets) (t : Test) (out : Output) → m ≡ broken → Answered m t out 14 0 out
answers-stopped m t out e =
    record { stopped = λ z. (refl, refl, refl); listed = λ ps k z. let w : ◌≡◌ {A = ℕ} 0 1 = cc in absurd (omega arith) }

answers-listed : (m : Meets) (t : Test) (out : Output) (ps : List ℕ) (k n count : ℕ) (after : Output) → m ≡ met ps k
    → Lists (far t) t.radius (passing (passes t) t.header.pages ps) out n count after → Answered m t out n count after
answers-listed m t out ps k n count after e l = record {
  stopped = λ z. let w : ◌≡◌ {A = ℕ} 0 1 = cc in absurd (omega arith);
  listed = λ qs j z. let same : ps ≡ qs = cc in rw (← same) l;
}

-- the walks ended
module _ {t : Test} {words : ℕ} {m : Meets} {map after counts : List ℕ} {a : Option Tally} (r : Meeting t words m map after counts a) (n : Tally) (e : a ≡ Some n) where
  found-summary : Summarised map words → Summarised after words
  found-summary = (r.some n e).2.summarised

  pub found-count : n.count ≡ length (list_of after words)
  found-count = (r.some n e).3.all

  found-counts : Counts (far t) after words counts
  found-counts = (r.some n e).3.each

  -- no page was marked before
  module _ (none : list_of map words ≡ []) (fits : t.header.pages ≤ words * 32) where
    unmarked : (k : ℕ) → k < words * 32 → flag map 0 k ≡ false
    unfolding list_of
    unmarked k h = rising_none (flag map 0) 0 (words * 32) none k (omega arith) (omega arith)

    -- the pages met that passed
    found-pages : list_of after words ≡ passing (passes t) t.header.pages (r.some n e).0
    unfolding passing
    found-pages = met-listed (passes t) words t.header.pages fits (passes-below t) unmarked (r.some n e).2

    -- each is below the capacity, and within the radius
    pub found-near : all (λ p. ltb p t.header.pages && leb (far t p) t.radius) (list_of after words) ≡ true
    unfolding passing
    found-near =
        rw found-pages
        (keep_all (λ p. ltb p t.header.pages && leb (far t p) t.radius) (λ p. any (eqb p) (r.some n e).0 && passes t p) near (upto t.header.pages))
      where
        near : (p : ℕ) → any (eqb p) (r.some n e).0 && passes t p ≡ true → ltb p t.header.pages && leb (far t p) t.radius ≡ true
        near p h =
            let l = passes-near t p (and_second (any (eqb p) (r.some n e).0) (passes t p) h) in
            and_intro (ltb p t.header.pages) (leb (far t p) t.radius) (lt-ltb p t.header.pages l.0) (le-leb (far t p) t.radius l.1)

    pub answers-found : (out : Output) (number count : ℕ) (left : Output)
        → Lists (far t) t.radius (list_of after words) out number count left → Answered m t out number count left
    answers-found out number count left l =
        answers-listed m t out (r.some n e).0 n.left number count left (r.some n e).1 (rw found-pages at l)

-- what was found can be listed
module _ {pages sketches x : List ℕ} {p : Probe} {words : ℕ} {map after counts : List ℕ} (room : Room map words) (bits : p.header.pages ≤ words * 32) where
  pub found-listable : {m : Meets} {a : Option Tally} (r : Meeting (test_by pages sketches x p) words m map after counts a) (n : Tally) (e : a ≡ Some n)
      → list_of map words ≡ [] → Summarised map words → Listable sketches x after counts p words
  found-listable r n e none summary = record {
    room = kept-room r.kept room;
    summarised = found-summary r n e summary;
    counts = found-counts r n e;
    near = found-near r n e none bits;
  }
