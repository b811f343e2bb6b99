-- What holds of a counted disk after one more call.
use Rattle.std.proofs.Common.{◌≡◌, ℕ, ◌+◌, ◌-◌, ◌^◌, min, Bool, true, false, if◌then◌else◌, List, [], ◌∷◌, ◌++◌, refl, sym, ◌∙◌, ap, subst, append_assoc}
use Rattle.std.proofs.lemmas.List.{append-nil}
use Rattle.fwd_outside.specs.Program.{entry}
use Rattle.fwd_outside.specs.Log.{LogGrew}
use Rattle.fwd_outside.specs.Disk.{DiskCall, DiskAnswer, DiskEntry, DiskLog}
use Rattle.fwd_outside.proofs.LogGrowth.{grew_trans}
use Rattle.fwd_record.specs.Counting.{Counting, IsCounting}
use Rattle.fwd_record.specs.Failures.{has_failed, next_number, if_failed, failed_from, number_after}

pub failed_append : (number : ℕ) (xs ys : List DiskEntry) → failed_from number (xs ++ ys) ≡ failed_from number xs ++ failed_from (number_after number xs) ys
failed_append number [] ys = refl
failed_append number (e ∷ xs) ys =
    ap (λ (l : List ℕ). if_failed number e ++ l) (failed_append (next_number number) xs ys)
    ∙ sym (append_assoc (if_failed number e) (failed_from (next_number number) xs) (failed_from (number_after (next_number number) xs) ys))

pub number_append : (number : ℕ) (xs ys : List DiskEntry) → number_after number (xs ++ ys) ≡ number_after (number_after number xs) ys
number_append number [] ys = refl
number_append number (e ∷ xs) ys = number_append (next_number number) xs ys

abbrev pub counting_at : ℕ → DiskLog → DiskLog → ℕ → List DiskEntry → ℕ → ℕ → List ℕ → Counting
counting_at name start below faults asked first next failed =
    record { name = name; start = start; below = below; faults = faults; asked = asked; first = first; next = next; failed = failed }

module _ {name : ℕ} {start old : DiskLog} {faults : ℕ} {asked : List DiskEntry} {first next : ℕ} {failed : List ℕ}
    (is : IsCounting (counting_at name start old faults asked first next failed)) (new : DiskLog) (faults2 : ℕ) where
  counted_with : (call : DiskCall) (answer : DiskAnswer call) (b : Bool) → has_failed call answer ≡ b → {more : List DiskEntry} {next2 : ℕ} {failed2 : List ℕ}
      → LogGrew old new (entry call answer ∷ []) → more ≡ asked ++ entry call answer ∷ [] → next2 ≡ min (next + 1) (2 ^ 64 - 1) → failed2 ≡ failed ++ (if b then next ∷ [] else [])
      → IsCounting (counting_at name start new faults2 more first next2 failed2)
  counted_with call answer b fails {more} {next2} {failed2} grew now stepped kept = record {
    passed = subst (λ (l : List DiskEntry). LogGrew start new l) (sym now) (grew_trans start old new asked (entry call answer ∷ []) is.passed grew);
    next = stepped ∙ ap next_number is.next ∙ sym (number_append first asked (entry call answer ∷ [])) ∙ ap (λ (l : List DiskEntry). number_after first l) (sym now);
    failed = kept ∙ ap (λ (c : Bool). failed ++ (if c then next ∷ [] else [])) (sym fails)
        ∙ ap (λ (n : ℕ). failed ++ if_failed n (entry call answer)) is.next
        ∙ ap (λ (l : List ℕ). l ++ if_failed (number_after first asked) (entry call answer)) is.failed
        ∙ ap (λ (l : List ℕ). failed_from first asked ++ l) (sym (append-nil (if_failed (number_after first asked) (entry call answer))))
        ∙ sym (failed_append first asked (entry call answer ∷ []))
        ∙ ap (λ (l : List DiskEntry). failed_from first l) (sym now);
  }

  -- a call went well
  pub call_counted : (call : DiskCall) (answer : DiskAnswer call) → has_failed call answer ≡ false → {more : List DiskEntry} {next2 : ℕ} {failed2 : List ℕ}
      → LogGrew old new (entry call answer ∷ []) → more ≡ asked ++ entry call answer ∷ [] → next2 ≡ min (next + 1) (2 ^ 64 - 1) → failed2 ≡ failed
      → IsCounting (counting_at name start new faults2 more first next2 failed2)
  call_counted call answer fails grew now stepped kept = counted_with call answer false fails grew now stepped (kept ∙ sym (append-nil failed))

  -- a call failed
  pub failure_counted : (call : DiskCall) (answer : DiskAnswer call) → has_failed call answer ≡ true → {more : List DiskEntry} {next2 : ℕ} {failed2 : List ℕ}
      → LogGrew old new (entry call answer ∷ []) → more ≡ asked ++ entry call answer ∷ [] → next2 ≡ min (next + 1) (2 ^ 64 - 1) → failed2 ≡ failed ++ next ∷ []
      → IsCounting (counting_at name start new faults2 more first next2 failed2)
  failure_counted call answer fails grew now stepped kept = counted_with call answer true fails grew now stepped kept
