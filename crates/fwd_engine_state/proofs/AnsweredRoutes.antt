-- Routes after the answer of an output.
use Rattle.std.proofs.Common.{◌≡◌, ℕ, Bool, true, false, refl}
use Rattle.fwd_base.specs.declared.ids.OutputId.{OutputId}
use Rattle.fwd_base.specs.declared.output_options.Retries.{Retries}
use Rattle.fwd_table.specs.declared.outcome.Answer.{Answer}
use Rattle.fwd_table.specs.declared.outcome.Answer.TheVariants.{Good, Retry, Bad}
use Rattle.fwd_table.specs.declared.outcome.Outcome.{Outcome}
use Rattle.fwd_table.specs.declared.outcome.Outcome.TheVariants.{Retrying, Resolved, Last, Spent, SpentLast}
use Rattle.fwd_table.specs.Row.{Row}
use Rattle.fwd_table.specs.Outcomes.{may_retry, is_tried_again, outcome_of}
use Rattle.fwd_table.specs.Rows.{answered_by}
use Rattle.fwd_model.specs.Routes.{resolves, progress_of, uses_link}
use Rattle.fwd_engine_state.specs.FlushOutcome.{outcome_after}

-- whether an outcome is a retry
abbrev pub is_retrying : Outcome → Bool
is_retrying Retrying = true
is_retrying Resolved = false
is_retrying Last = false
is_retrying Spent = false
is_retrying SpentLast = false

after_retry : (again last : Bool) → is_retrying (outcome_of Retry again last) ≡ again
after_retry true last = refl
after_retry false true = refl
after_retry false false = refl

after_good : (again last : Bool) → is_retrying (outcome_of Good again last) ≡ false
after_good again true = refl
after_good again false = refl

after_bad : (again last : Bool) → is_retrying (outcome_of Bad again last) ≡ false
after_bad again true = refl
after_bad again false = refl

-- the outcome says whether the route is retried
pub outcome_tells : (a : Answer) (limit : Retries) (tries : ℕ) (last : Bool) → is_retrying (outcome_of a (is_tried_again a limit tries) last) ≡ is_tried_again a limit tries
outcome_tells Good limit tries last = after_good false last
outcome_tells Retry limit tries last = after_retry (may_retry limit tries) last
outcome_tells Bad limit tries last = after_bad false last

-- a row keeps its chunk
pub answered_chunk : (again : Bool) (output : OutputId) (due : ℕ) (row : Row) → (answered_by again output due row).chunk.0 ≡ row.chunk.0
answered_chunk true output due row = refl
answered_chunk false output due row = refl

-- only RETRY is retried
pub again_is_retry : (a : Answer) (limit : Retries) (tries : ℕ) → is_tried_again a limit tries ≡ true → a ≡ Retry
again_is_retry Good limit tries is = absurd (cc is)
again_is_retry Retry limit tries is = refl
again_is_retry Bad limit tries is = absurd (cc is)

-- an answer without a retry resolves the route, and leaves no attempt
pub answer_resolves : (a : Answer) (word : ℕ) → resolves (outcome_after a false word) ≡ true
answer_resolves Good word = refl
answer_resolves Retry word = refl
answer_resolves Bad word = refl

pub answer_ends : (a : Answer) (again : Bool) (word link : ℕ) → uses_link link (progress_of (outcome_after a again word)) ≡ false
answer_ends Good again word link = refl
answer_ends Retry true word link = refl
answer_ends Retry false word link = refl
answer_ends Bad again word link = refl
