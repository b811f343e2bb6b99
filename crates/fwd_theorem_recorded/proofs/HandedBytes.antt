-- Links with other numbers take the same bytes.
use Rattle.std.proofs.Common.{◌≡◌, ◌⊎◌, inl, inr, ℕ, zero, suc, ◌+◌, ◌<◌, Bool, if◌then◌else◌, List, [], ◌∷◌, ◌++◌, length, Some, None, refl, sym, ap, ◌∙◌, arith, append-nil, append_assoc, length-append}
use Rattle.std.proofs.lemmas.Option.{slice_get_past}
use Rattle.fwd_outside.specs.Program.{entry}
use Rattle.fwd_outside.specs.Loop.{LoopCall, LoopAnswer, LoopEntry, Start, Wait, Dial, Push, Close, Reply, DropConn, Word}
use Rattle.fwd_outside.specs.declared.happening.Happening.{Happening}
use Rattle.fwd_script_loop.specs.LinkBytes.{taken_of, is_one_of, leads_to, dialed_by, taken_by, handed}
use Rattle.fwd_record.specs.Links.{links_by, links_in, number_of}
use Rattle.fwd_record.proofs.LinkNumbers.{number_among}
use Rattle.fwd_theorem_recorded.specs.HandedBytes.{taken_from, handed_from}
use Rattle.fwd_theorem_recorded.proofs.LoopSimulation.{renamed_calls}

-- a wait takes nothing
pub handed_wait : (outputs until paused : ℕ) (x : Happening) (targets : List ℕ) (es : List LoopEntry) → handed outputs targets (es ++ entry (Wait until paused) x ∷ []) ≡ handed outputs targets es
handed_wait outputs until paused x targets [] = refl
handed_wait outputs until paused x targets (e ∷ es) = ap (λ (l : List ℕ). taken_by outputs targets e.call e.answer ++ l) (handed_wait outputs until paused x (dialed_by targets e.call e.answer) es)

module _ (all : List ℕ) (outputs : ℕ) where
  leads_same : (links more targets : List ℕ) (link : ℕ) → all ≡ links ++ more → length targets ≡ length links → leads_to outputs targets (number_of all link) ≡ leads_to outputs targets (number_of links link)
  leads_same links more targets link split long = ap (λ (l : List ℕ). leads_to outputs targets (number_of l link)) split ∙ by (number_among links more link)
    where
      past : (number : ℕ) → length targets < number → leads_to outputs targets number ≡ leads_to outputs targets 0
      past zero above = refl
      past (suc number) above = ap (is_one_of outputs) (slice_get_past targets number (omega (arith, above)))

      by : (number_of (links ++ more) link ≡ number_of links link) ⊎ ((number_of links link ≡ 0) × (length links < number_of (links ++ more) link))
          → leads_to outputs targets (number_of (links ++ more) link) ≡ leads_to outputs targets (number_of links link)
      by (inl same) = ap (leads_to outputs targets) same
      by (inr (none, above)) = past (number_of (links ++ more) link) (omega (arith, long, above)) ∙ ap (leads_to outputs targets) (sym none)

  long_after : (links targets : List ℕ) (call : LoopCall) (answer : LoopAnswer call) → length targets ≡ length links → length (dialed_by targets call answer) ≡ length (links ++ links_by call answer)
  long_after links targets call answer long = by call answer
    where
      same : length targets ≡ length (links ++ [])
      same = long ∙ sym (ap length (append-nil links))

      by : (call : LoopCall) (answer : LoopAnswer call) → length (dialed_by targets call answer) ≡ length (links ++ links_by call answer)
      by (Dial output tag) (Some link) = length-append targets (output ∷ []) ∙ ap (λ (n : ℕ). n + 1) long ∙ sym (length-append links (link ∷ []))
      by (Dial output tag) None = same
      by (Start ends) answer = same
      by (Wait until paused) answer = same
      by (Push link bytes) answer = same
      by (Close link) answer = same
      by (Reply conn bytes) answer = same
      by (DropConn conn) answer = same
      by Word answer = same

  -- a call, and the calls after it
  call_same : (links more targets : List ℕ) (call : LoopCall) (answer : LoopAnswer call) (es : List LoopEntry) → all ≡ links ++ more → length targets ≡ length links
      → handed outputs (dialed_by targets call answer) (renamed_calls (number_of all) es) ≡ handed_from outputs (links ++ links_by call answer) (dialed_by targets call answer) es
      → handed outputs targets (renamed_calls (number_of all) (entry call answer ∷ es)) ≡ handed_from outputs links targets (entry call answer ∷ es)
  call_same links more targets (Push link bytes) answer es split long rest =
      ap (λ (b : Bool). (if b then taken_of bytes answer else []) ++ handed outputs targets (renamed_calls (number_of all) es)) (leads_same links more targets link split long)
      ∙ ap (λ (l : List ℕ). taken_from outputs links targets (Push link bytes) answer ++ l) rest
  call_same links more targets (Dial output tag) (Some link) es split long rest = rest
  call_same links more targets (Dial output tag) None es split long rest = rest
  call_same links more targets (Start ends) answer es split long rest = rest
  call_same links more targets (Wait until paused) answer es split long rest = rest
  call_same links more targets (Close link) answer es split long rest = rest
  call_same links more targets (Reply conn bytes) answer es split long rest = rest
  call_same links more targets (DropConn conn) answer es split long rest = rest
  call_same links more targets Word answer es split long rest = rest

  pub handed_same : (links targets : List ℕ) (es : List LoopEntry) → all ≡ links ++ links_in es → length targets ≡ length links → handed outputs targets (renamed_calls (number_of all) es) ≡ handed_from outputs links targets es
  handed_same links targets [] split long = refl
  handed_same links targets (e ∷ es) split long =
      call_same links (links_in (e ∷ es)) targets e.call e.answer es split long
      (handed_same (links ++ links_by e.call e.answer) (dialed_by targets e.call e.answer) es (split ∙ sym (append_assoc links (links_by e.call e.answer) (links_in es))) (long_after links targets e.call e.answer long))
