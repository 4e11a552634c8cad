-- What a turn leaves, by what was read: the facts that its calls give make a turn.
use Prim.Native.Nat.{ℕ, ◌+◌, ◌≤◌}
use mathlib.Core.Path.{◌≡◌, refl, sym, ap, ◌∙◌}
use mathlib.Core.Bool.{Bool, false, cond}
use mathlib.Core.List.{List, []}
use native.Mathlib.Omega.{arith}
use lib.ListN.{length, take, drop}
use lib.Seq.{sets, sets-eq, length-sets, take_at}
use Rattle.meaning.specs.Output.{Output}
use Rattle.meaning.specs.Journal.{refused, refusal_line}
use Rattle.refusals.specs.Refusals.{number_of}
use Rattle.refusals.specs.declared.Refusal.{Refusal}
use Rattle.promises.specs.Tables.{Tables}
use Rattle.promises.specs.Relation.{Answer}
use Rattle.journal.specs.Steps.{meant, told, Stepped}
use Rattle.journal.specs.declared.commands.Command.{Command}
use Rattle.journal.specs.declared.commands.Step.{Step}
use Rattle.journal.specs.declared.commands.Step.TheVariants.{Taken, Refused, End}
use Rattle.journal_answers.specs.Answers.{answer}
use Rattle.journal_answers.specs.Lines.{symbols_after, line_of}
use Rattle.journal_answers.proofs.Same.{same_line, same-symbols}
use Rattle.journal_calls.specs.Commands.{Executed}
use Rattle.journal_turns.specs.Turns.{State, goes_on, state, Carried, Turned, ends, refuses, carries}

pub moved_to : (m : ℕ) (bytes : List ℕ) (at : ℕ) {s t : Step Refusal} → s ≡ t → Stepped m bytes at s → Stepped m bytes at t
moved_to m bytes at e h = rw (← e) h

-- a line put at the beginning of a buffer can be read there
read_back : (l before after : List ℕ) (r : ℕ) → after ≡ sets before 0 l → r ≡ length l → r ≤ length after → take r after ≡ l
read_back l before after r e f h =
    let put = sets-eq l before 0 (omega (arith, f, h, ap length e, length-sets before 0 l)) in
    ap (take r) (e ∙ put) ∙ take_at l (drop (0 + length l) before) r (sym f)

pub take-carried : {bytes : List ℕ} {s : State} {line : List ℕ} {going : Bool} {s' : State} (c : Command) (to : ℕ) → Stepped s.symbols bytes s.at (Taken c to)
    → (a : Answer) × Carried s (meant s.symbols bytes c) to a line going s' → Turned bytes s line going s'
unfolding told
take-carried {bytes} {s} c to st x = carries (meant s.symbols bytes c) to x.0 (sym st.told-right) x.1

module _ (bytes before after : List ℕ) (T : Tables) (found : Output) (at m r : ℕ) where
  pub take_ended : Stepped m bytes at End → Turned bytes (state T found at m) (take 0 after) false (state T found at m)
  unfolding told
  take_ended st = ends (sym st.told-right) (record { wrote = refl; stops = refl; stays = refl })

  module _ (fits : r ≤ length after) where
    pub take-refused : (k : Refusal) (n : ℕ) → Stepped m bytes at (Refused k) → n ≡ number_of k → after ≡ sets before 0 (refusal_line at n) → r ≡ length (refusal_line at n)
        → Turned bytes (state T found at m) (take r after) false (state T found at m) × ((after ≡ sets before 0 (take r after)) × (r ≤ length after))
    unfolding told
    take-refused k n st is e f =
        let wrote = read_back (refusal_line at n) before after r e f fits in
        (refuses n (sym st.told-right ∙ ap refused (sym is)) (record { wrote = wrote; stops = refl; stays = refl }), (e ∙ ap (sets before 0) (sym wrote), fits))

    pub carried-out : (c : Command) (to n k : ℕ) (T' : Tables) (found' : Output) (going : Bool) (at' m' : ℕ)
        → Executed (meant m bytes c) T found n k T' found'
        → after ≡ sets before 0 (line_of at (meant 0 [] c) (answer n k found')) → r ≡ length (line_of at (meant 0 [] c) (answer n k found'))
        → going ≡ goes_on n → at' ≡ cond going to at → m' ≡ symbols_after (meant 0 [] c) m
        → ((a : Answer) × Carried (state T found at m) (meant m bytes c) to a (take r after) going (state T' found' at' m')) × ((after ≡ sets before 0 (take r after)) × (r ≤ length after))
    carried-out c to n k T' found' going at' m' x e f g o y =
        let wrote = read_back (line_of at (meant 0 [] c) (answer n k found')) before after r e f fits in (
          (
            answer n k found',
            record {
              promised = x.promised;
              output = x.output;
              wrote = wrote ∙ same_line at m bytes c (answer n k found');
              goes = g;
              reached = o ∙ ap (λ (b : Bool). cond b to at) g;
              counts = y ∙ same-symbols m m bytes c;
            },
          ),
          (e ∙ ap (sets before 0) (sym wrote), fits),
        )
