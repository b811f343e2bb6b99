-- What a poll made of its calls.
use Rattle.std.proofs.Common.{◌≡◌, ℕ, List, Option, Some, None, Result, Ok, Err, IsErr, IsErrAnd, option_map, ap, subst, ◌∙◌}
use Rattle.fwd_outside.specs.Program.{Return}
use Rattle.fwd_outside.specs.Log.{LogGrew, log_of_call, Leads}
use Rattle.fwd_outside.proofs.Executions.{call_unlogged, call_logged, leads_trans}
use Rattle.fwd_outside.specs.Files.{FilesLog, FilesProgram, FilesCall, FilesAnswer, Length, ReadAt, outcome}
use Rattle.fwd_outside.specs.declared.errors.FileErr.{FileErr}
use Rattle.fwd_outside.specs.declared.errors.FileErr.TheVariants.{Failed, Memory}
use Rattle.fwd_frames.specs.declared.line.Line.{Line}
use Rattle.fwd_in_tail.specs.Followed.{Followed, Polled, polled, polls, reads_on, from_place, read_before}
use Rattle.fwd_in_tail.specs.Polls.{TailView, PollsAs, ReadsLines, tail_err_of}
use Rattle.fwd_in_tail.specs.declared.tail.TailErr.{TailErr}
use Rattle.fwd_in_tail.specs.declared.tail.TailErr.TheVariants as tail_err

-- the length of a file was asked, or some of its bytes
abbrev pub Measured : FilesLog → FilesLog → List ℕ → Option (Option ℕ) → Type 0
Measured a b path answer = LogGrew a b (log_of_call {C = FilesCall} {A = FilesAnswer} (Length path) answer)

abbrev pub WasRead : FilesLog → FilesLog → List ℕ → ℕ → Option (Option (List ℕ)) → Type 0
WasRead a b path at answer = LogGrew a b (log_of_call {C = FilesCall} {A = FilesAnswer} (ReadAt path at 1048576) answer)

module _ (a b : FilesLog) (before after : TailView) (f : Followed) (path : List ℕ) (of : path ≡ before.path) where
  by_path : (answer : Option (Option ℕ)) → Measured a b path answer → Measured a b before.path answer
  by_path answer grew = subst (λ (p : List ℕ). Measured a b p answer) of grew

  -- the length couldn't be asked
  pub unmeasured : (error : FileErr) (result : Result (List Line) TailErr) → IsErr result → IsErrAnd result (λ e. e ≡ tail_err_of error)
      → Measured a b path (outcome {T = ℕ} (Err error)) → PollsAs a b before after f result
  unmeasured error (Ok found) some is grew = absurd (cc some)
  unmeasured Failed (Err e) some is grew = rw is (call_logged (Length before.path) None (reads_on before.path before.from_head f.place) (by_path (Some None) grew))
  unmeasured Memory (Err e) some is grew = rw is (polls before.path before.from_head f.place, call_unlogged (polls before.path before.from_head f.place) grew)

  module _ (c : FilesLog) (long : ℕ) (measured : Measured a b path (Some (Some long))) (again : List ℕ) (of_again : again ≡ before.path) (from : ℕ) (is_from : from ≡ from_place before.from_head long before.place) (at_place : before.place ≡ f.place) where
    abbrev at : ℕ
    at = from_place before.from_head long f.place

    abbrev go_on : Option (List ℕ) → FilesProgram (Option Polled)
    go_on bytes = Return (option_map (polled long) bytes)

    measured_first : Leads a b (polls before.path before.from_head f.place) (reads_on before.path before.from_head f.place (Some long))
    measured_first = call_logged (Length before.path) (Some long) (reads_on before.path before.from_head f.place) (by_path (Some (Some long)) measured)

    by_place : (answer : Option (Option (List ℕ))) → WasRead b c again from answer → WasRead b c before.path at answer
    by_place answer grew = subst (λ n. WasRead b c before.path n answer) (is_from ∙ ap (from_place before.from_head long) at_place) (subst (λ (p : List ℕ). WasRead b c p from answer) of_again grew)

    -- the bytes couldn't be read
    pub unread : (error : FileErr) (result : Result (List Line) TailErr) → IsErr result → IsErrAnd result (λ e. e ≡ tail_err_of error)
        → WasRead b c again from (outcome {T = List ℕ} (Err error)) → PollsAs a c before after f result
    unread error (Ok found) some is grew = absurd (cc some)
    unread Failed (Err e) some is grew = rw is (leads_trans measured_first (call_logged (ReadAt before.path at 1048576) None go_on (by_place (Some None) grew)))
    unread Memory (Err e) some is grew = rw is (reads_on before.path before.from_head f.place (Some long), leads_trans measured_first (call_unlogged (reads_on before.path before.from_head f.place (Some long)) grew))

    module _ (bytes : List ℕ) (grew : WasRead b c again from (Some (Some bytes))) where
      -- they were read
      pub was_read : Leads a c (polls before.path before.from_head f.place) (Return (Some (polled long bytes)))
      was_read = leads_trans measured_first (call_logged (ReadAt before.path at 1048576) (Some bytes) go_on (by_place (Some (Some bytes)) grew))

      -- out of memory for the lines
      pub unkept : (result : Result (List Line) TailErr) → IsErr result → IsErrAnd result (λ e. e ≡ tail_err.Memory) → PollsAs a c before after f result
      unkept (Ok found) some is = absurd (cc some)
      unkept (Err e) some is = rw is (Return (Some (polled long bytes)), was_read)

      -- the tail added them
      pub took : (slice : List ℕ) → slice ≡ bytes → (found : List Line) → ReadsLines {E = TailErr} before after from (read_before long f) slice (Ok found) → PollsAs a c before after f (Ok found)
      took slice is found reads =
          let behind : ReadsLines {E = TailErr} before after at (read_before long f) bytes (Ok found) =
          subst (λ n. ReadsLines {E = TailErr} before after n (read_before long f) bytes (Ok found)) (is_from ∙ ap (from_place before.from_head long) at_place)
          (subst (λ (s : List ℕ). ReadsLines {E = TailErr} before after from (read_before long f) s (Ok found)) is reads) in
          (polled long bytes, was_read, behind.0, behind.1)
