-- A flush from its start on.
use Rattle.std.proofs.Common.{◌≡◌, ℕ, List, [], ◌∷◌, ◌++◌, length, length-append, append_assoc, sym, ◌∙◌, ap, subst, arith}
use Rattle.std.proofs.lemmas.List.{append-nil}
use Rattle.fwd_outside.specs.Program.{Return, Execution}
use Rattle.fwd_outside.specs.Loop.{LoopEntry}
use Rattle.fwd_flush.specs.declared.stage.Stage.{Stage}
use Rattle.fwd_flush.specs.FlushProgram.{Progress, Delivery, not_started, starts}
use Rattle.fwd_flush.specs.Outcome.{Event, Occurrences, bytes_pushed, events_of_occurrence, events_of, events_and_calls, calls_of, IsAt, ProgressRepresents, HasLink, IsFlush, Reaches}
use Rattle.fwd_flush.proofs.Outcomes.{starts_law, goes_law}
use Rattle.fwd_flush.proofs.Links.{starts_has, goes_has}

flies : (d : Delivery) (events : List Event) (calls : List LoopEntry) (p : Progress) (turns : Occurrences) (last : Progress)
    → ProgressRepresents d events p → HasLink calls p.stage → Reaches d p turns last → ProgressRepresents d (events ++ events_and_calls turns) last × HasLink (calls ++ calls_of turns) last.stage
flies d events calls p [] last stands has went =
    rw (append-nil events, append-nil calls) (subst (λ (x : Progress). ProgressRepresents d events x × HasLink calls x.stage) (sym went) (stands, has))
flies d events calls p ((turn, es) ∷ turns) last stands has went =
    let next = went.0 in
    let stood = goes_law d turn events es p next stands went.1 in
    let had = goes_has d turn calls es p next has went.1 in
    let rest = flies d (events ++ (events_of_occurrence turn ++ events_of es)) (calls ++ es) next turns last stood had went.2 in
    (rw append_assoc at rest.0, rw append_assoc at rest.1)

no_rest : (a b c : List ℕ) → a ++ b ≡ c → length a ≡ length c → a ≡ c
no_rest a [] c is same = sym (append-nil a) ∙ is
no_rest a (x ∷ b) c is same = absurd (omega (arith, length-append a (x ∷ b), ap length is))

pub flown : (d : Delivery) (output : ℕ) (tag : List ℕ) (es : List LoopEntry) (turns : Occurrences) (first last : Progress)
    → Execution (starts d output tag not_started) es (Return first) → Reaches d first turns last → IsFlush d (events_of es ++ events_and_calls turns) (es ++ calls_of turns) last
flown d output tag es turns first last began went =
    let both = flies d (events_of es) es first turns last (starts_law d output tag es first began) (starts_has d output tag es first began) went in
    let stands = both.0 in
    record {
      answered = stands.answered;
      counted = stands.counted;
      rest = stands.rest;
      beginning = stands.beginning;
      whole = λ is.
          let all : last.taken ≡ length d.payload = subst (λ (s : Stage). IsAt d (events_of es ++ events_and_calls turns) last s) is stands.at in
          no_rest (bytes_pushed (events_of es ++ events_and_calls turns)) stands.rest d.payload stands.beginning (sym stands.counted ∙ all);
      fatal = λ is.
          let at = subst (λ (s : Stage). IsAt d (events_of es ++ events_and_calls turns) last s) is stands.at in
          (no_rest (bytes_pushed (events_of es ++ events_and_calls turns)) stands.rest d.payload stands.beginning (sym stands.counted ∙ at.0), at.1, at.2);
      link = both.1;
    }
