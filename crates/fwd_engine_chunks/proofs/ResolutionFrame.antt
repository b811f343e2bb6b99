-- Resolving a route changes no other row, no other chunk and no number.
use Rattle.std.proofs.Common.{◌≡◌, ℕ, Bool, inl, inr, List, [], ◌∷◌, ◌++◌, length, ◌+◌, ◌≤◌, Option, Some, None, refl, sym, ◌∙◌, arith}
use Rattle.std.proofs.lemmas.Bool.{cases_Bool}
use Rattle.fwd_outside.specs.Program.{Return, Ask, bind}
use Rattle.fwd_store.specs.Store.{drops as removes, settle_for_program}
use Rattle.fwd_settings.specs.declared.settings_types.AllSettings.{AllSettings}
use Rattle.fwd_model.specs.Fact.{History, Route, OnRoute, Evicted, MarkStarted}
use Rattle.fwd_model.specs.Trace.{Action, Note}
use Rattle.fwd_model.specs.Chunks.{chunks_of, next, is_closed}
use Rattle.fwd_model.specs.ChunkStorage.{kept_of, mark_position}
use Rattle.fwd_model.specs.Settings.{output_name}
use Rattle.fwd_model.specs.Routes.{owes, rows_of}
use Rattle.fwd_model.specs.CloseActions.{loses}
use Rattle.fwd_model.specs.ResolveActions.{marks_or_removes, drops, dropped, records, marks_at, after_mark}
use Rattle.fwd_engine_chunks.specs.Evictions.{evicts}
use Rattle.fwd_engine_chunks.proofs.ActionResults.{Ends, ends_bind, ends_more, ends_disk, bind_twice}

-- rows, chunks and numbers are as before
pub record Later (s : AllSettings) (h g : History) : Type 0 where
  pub rows : rows_of s g ≡ rows_of s h
  pub chunks : chunks_of g ≡ chunks_of h
  pub number : next g ≡ next h
  pub shut : (n : ℕ) → is_closed g n ≡ is_closed h n

drops_later : (s : AllSettings) (chunk : ℕ) (h : History) → Ends (Later s h) (drops s chunk h)
unfolding drops
drops_later s chunk h = ends_disk (Later s h) (removes (kept_of s h chunk)) (dropped chunk h) each
  where
    each : (x : Option (Unit {0})) → Ends (Later s h) (dropped chunk h x)
    each (Some done) = λ _. record { rows = refl; chunks = refl; number = refl; shut = λ n. refl }
    each None = λ _. λ _. record { rows = refl; chunks = refl; number = refl; shut = λ n. refl }

records_later : (s : AllSettings) (r : Route) (h : History) → Ends (Later s h) (records s r h)
unfolding records
records_later s r h = by (mark_position (output_name s r.output) (kept_of s h r.chunk))
  where
    each : (x : Option Bool) → Ends (Later s h) (after_mark r (MarkStarted r ∷ h) x)
    each (Some done) = λ _. record { rows = refl; chunks = refl; number = refl; shut = λ n. refl }
    each None = λ _. record { rows = refl; chunks = refl; number = refl; shut = λ n. refl }

    by : (place : Option ℕ) → Ends (Later s h) (marks_at s r (kept_of s h r.chunk) place h)
    by None = record { rows = refl; chunks = refl; number = refl; shut = λ n. refl }
    by (Some place) = λ _. ends_disk (Later s h) (settle_for_program (kept_of s h r.chunk) (output_name s r.output) s.service.full) (after_mark r (MarkStarted r ∷ h)) each

pub settles_later : (s : AllSettings) (r : Route) (h : History) → Ends (Later s h) (marks_or_removes s r h)
unfolding marks_or_removes
settles_later s r h = elim (cases_Bool (owes s h r.chunk)) [
  | inl is ↦ rw is (records_later s r h)
  | inr isnt ↦ rw isnt (drops_later s r.chunk h)
]

pub gives_up_later : (s : AllSettings) (r : Route) (h : History) → Ends (Later s (OnRoute r Evicted ∷ h)) (evicts s r h)
gives_up_later s r h = λ _. settles_later s r (OnRoute r Evicted ∷ h)

-- ---- several routes

-- numbers are as before, and no chunk has closed
pub record Kept (h g : History) : Type 0 where
  pub number : next g ≡ next h
  pub shut : (n : ℕ) → is_closed g n ≡ is_closed h n

pub loses_kept : (s : AllSettings) (rs : List Route) (h : History) → Ends (Kept h) (loses s rs h)
loses_kept s [] h = record { number = refl; shut = λ n. refl }
loses_kept s (r ∷ rs) h = λ _. ends_bind (Kept h) (marks_or_removes s r (OnRoute r Evicted ∷ h)) (loses s rs)
    (ends_more (Later s (OnRoute r Evicted ∷ h)) (λ g. Ends (Kept h) (loses s rs g)) (marks_or_removes s r (OnRoute r Evicted ∷ h))
    (λ g later. ends_more (Kept g) (Kept h) (loses s rs g) (λ k kept. record { number = kept.number ∙ later.number; shut = λ n. kept.shut n ∙ later.shut n }) (loses_kept s rs g))
    (settles_later s r (OnRoute r Evicted ∷ h)))

-- some, and then others
pub loses_both : (s : AllSettings) (xs ys : List Route) (h : History) → loses s (xs ++ ys) h ≡ bind (loses s xs h) (loses s ys)
loses_both s [] ys h = refl
loses_both s (x ∷ xs) ys h =
    (λ i. Ask (Note (OnRoute x Evicted)) (λ _. bind (marks_or_removes s x (OnRoute x Evicted ∷ h)) (λ g. loses_both s xs ys g i)))
    ∙ (λ i. Ask (Note (OnRoute x Evicted)) (λ _. sym (bind_twice (marks_or_removes s x (OnRoute x Evicted ∷ h)) (loses s xs) (loses s ys)) i))

bind_end : (s : AllSettings) (p : Action History) → bind p (loses s []) ≡ p
bind_end s (Return x) = refl
bind_end s (Ask call go) = λ i. Ask call (λ answer. bind_end s (go answer) i)

-- the last route
pub loses_last : (s : AllSettings) (r : Route) (h : History) → evicts s r h ≡ loses s (r ∷ []) h
loses_last s r h = λ i. Ask (Note (OnRoute r Evicted)) (λ _. sym (bind_end s (marks_or_removes s r (OnRoute r Evicted ∷ h))) i)

pub none_left : {T : Type 0} (xs : List T) (turn turns : ℕ) → length xs + turn ≤ turns → turns ≤ turn → xs ≡ []
none_left [] turn turns within done = refl
none_left (x ∷ xs) turn turns within done = absurd (omega (arith, within, done))
