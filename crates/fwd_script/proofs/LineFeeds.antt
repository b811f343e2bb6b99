-- No line that is written has a line feed, and no line is skipped.
use Rattle.std.proofs.Common.{◌≡◌, ℕ, true, false, List, ◌∷◌, ◌++◌, codes, decimal, refl, arith}
use Rattle.std.proofs.lemmas.Fmt.{decimal_is_IsNumeral}
use Rattle.fwd_outside.specs.declared.happening.Happening.{Happening}
use Rattle.fwd_outside.specs.declared.happening.Happening.TheVariants as happening
use Rattle.fwd_script.specs.declared.schedule.Cut.{Cut}
use Rattle.fwd_script.specs.declared.schedule.Stored.{Stored}
use Rattle.fwd_script.specs.declared.schedule.Planned.{Planned}
use Rattle.fwd_script.specs.declared.schedule.Planned.TheVariants.{Happens, Ticks, Changes}
use Rattle.fwd_files_mem.specs.declared.change.FileChange.TheVariants as change
use Rattle.fwd_script.specs.declared.schedule.Given.{Given}
use Rattle.fwd_script.specs.declared.schedule.Given.TheVariants as given
use Rattle.fwd_script.specs.declared.schedule.PushWord.{PushWord}
use Rattle.fwd_script.specs.declared.schedule.PushWord.TheVariants as push
use Rattle.fwd_script.specs.Keywords.{keywords}
use Rattle.fwd_script.specs.Schedule.{next_is_happening, is_passed_over}
use Rattle.fwd_script.specs.Text.{crash_text, disk_text, file_text, given_text, happening_text, octets_text, planned_text, push_text, stored_text}
use Rattle.fwd_script.specs.Writable.{GivenFits, HappeningFits, Is32, Is64, Lacks, PlannedFits, PushFits, StoredFits}
use Rattle.fwd_script.proofs.WrittenWords.{digits_lack}
use Rattle.fwd_script.proofs.Octets.{lacks_append, octets_lack}

number_lacks : (n : ℕ) → Is64 n → Lacks 10 (decimal n)
number_lacks n small = digits_lack 10 (omega arith) (decimal n) (decimal_is_IsNumeral n small).0.1

id_lacks : (n : ℕ) → Is32 n → Lacks 10 (decimal n)
id_lacks n small = number_lacks n (omega (arith, small))

two_lacks : (w a b : List ℕ) → Lacks 10 w → Lacks 10 a → Lacks 10 b → Lacks 10 (w ++ a ++ codes " " ++ b)
two_lacks w a b lacks lacks_a lacks_b = lacks_append 10 (w ++ a ++ codes " ") b (lacks_append 10 (w ++ a) (codes " ") (lacks_append 10 w a lacks lacks_a) refl) lacks_b

three_lacks : (w a b c : List ℕ) → Lacks 10 w → Lacks 10 a → Lacks 10 b → Lacks 10 c → Lacks 10 (w ++ a ++ codes " " ++ b ++ codes " " ++ c)
three_lacks w a b c lacks lacks_a lacks_b lacks_c =
    lacks_append 10 (w ++ a ++ codes " " ++ b ++ codes " ") c (lacks_append 10 (w ++ a ++ codes " " ++ b) (codes " ") (two_lacks w a b lacks lacks_a lacks_b) refl) lacks_c

happening_lacks : (h : Happening) → HappeningFits h → Lacks 10 (happening_text h)
happening_lacks (happening.Tick now) fits = number_lacks now fits
happening_lacks (happening.Joined i k) fits = two_lacks (codes "joined ") (decimal i.0) (decimal k.0) refl (id_lacks i.0 fits.0) (number_lacks k.0 fits.1)
happening_lacks (happening.Piece i k bytes) fits =
    three_lacks (codes "piece ") (decimal i.0) (decimal k.0) (octets_text bytes) refl (id_lacks i.0 fits.0) (number_lacks k.0 fits.1) (octets_lack bytes fits.4)
happening_lacks (happening.Gone i k) fits = two_lacks (codes "gone ") (decimal i.0) (decimal k.0) refl (id_lacks i.0 fits.0) (number_lacks k.0 fits.1)
happening_lacks (happening.Room k) fits = number_lacks k.0 fits
happening_lacks (happening.Back k bytes) fits = two_lacks (codes "back ") (decimal k.0) (octets_text bytes) refl (number_lacks k.0 fits.0) (octets_lack bytes fits.1)
happening_lacks (happening.Broken k) fits = number_lacks k.0 fits
happening_lacks (happening.InputEnd i) fits = id_lacks i.0 fits
happening_lacks happening.Stop fits = refl
happening_lacks happening.Failed fits = refl
happening_lacks happening.End fits = absurd fits

pub planned_lacks : (p : Planned) → PlannedFits p → Lacks 10 (planned_text p)
planned_lacks (Happens h) fits = happening_lacks h fits
planned_lacks (Ticks first step count) fits =
    three_lacks (codes "ticks ") (decimal first) (decimal step) (decimal count) refl (number_lacks first fits.0) (number_lacks step fits.1) (number_lacks count fits.2)
planned_lacks (Changes (change.Append path bytes)) fits = two_lacks (codes "append ") path (octets_text bytes) refl fits.0.no_line_feed (octets_lack bytes fits.1)
planned_lacks (Changes (change.Cut path most)) fits = two_lacks (codes "cut ") path (decimal most) refl fits.0.no_line_feed (number_lacks most fits.1)

push_lacks : (p : PushWord) → PushFits p → Lacks 10 (push_text p)
push_lacks (push.Took taken) small = number_lacks taken small
push_lacks push.Again fits = refl
push_lacks push.Broken fits = refl

pub given_lacks : (g : Given) → GivenFits g → Lacks 10 (given_text g)
given_lacks (given.Dial o true) fits = lacks_append 10 (codes "dial " ++ decimal o.0) (codes " ok") (id_lacks o.0 fits) refl
given_lacks (given.Dial o false) fits = lacks_append 10 (codes "dial " ++ decimal o.0) (codes " refused") (id_lacks o.0 fits) refl
given_lacks (given.Push o p) fits = two_lacks (codes "push ") (decimal o.0) (push_text p) refl (id_lacks o.0 fits.0) (push_lacks p fits.1)
given_lacks (given.Reply true) fits = refl
given_lacks (given.Reply false) fits = refl
given_lacks (given.Word w) fits = number_lacks w fits

pub disk_lacks : (call : ℕ) → Is64 call → Lacks 10 (disk_text call)
disk_lacks call small = number_lacks call small

pub file_lacks : (call : ℕ) → Is64 call → Lacks 10 (file_text call)
file_lacks call small = number_lacks call small

pub stored_lacks : (s : Stored) → StoredFits s → Lacks 10 (stored_text s)
stored_lacks s fits = two_lacks (codes "store ") s.name (octets_text s.bytes) refl fits.0.no_line_feed (octets_lack s.bytes fits.1)

pub crash_lacks : (c : Cut) → Is64 c.calls → Is64 c.pick → Lacks 10 (crash_text c)
crash_lacks c small_calls small_pick = two_lacks (codes "crash ") (decimal c.calls) (decimal c.pick) refl (number_lacks c.calls small_calls) (number_lacks c.pick small_pick)

-- none is empty or a comment
happening_counts : (h : Happening) → HappeningFits h → is_passed_over (happening_text h) ≡ false
happening_counts (happening.Tick now) fits = refl
happening_counts (happening.Joined i k) fits = refl
happening_counts (happening.Piece i k bytes) fits = refl
happening_counts (happening.Gone i k) fits = refl
happening_counts (happening.Room k) fits = refl
happening_counts (happening.Back k bytes) fits = refl
happening_counts (happening.Broken k) fits = refl
happening_counts (happening.InputEnd i) fits = refl
happening_counts happening.Stop fits = refl
happening_counts happening.Failed fits = refl
happening_counts happening.End fits = absurd fits

pub planned_counts : (p : Planned) → PlannedFits p → is_passed_over (planned_text p) ≡ false
planned_counts (Happens h) fits = happening_counts h fits
planned_counts (Ticks first step count) fits = refl
planned_counts (Changes (change.Append path bytes)) fits = refl
planned_counts (Changes (change.Cut path most)) fits = refl

pub given_counts : (g : Given) → is_passed_over (given_text g) ≡ false
given_counts (given.Dial o taken) = refl
given_counts (given.Push o p) = refl
given_counts (given.Reply true) = refl
given_counts (given.Reply false) = refl
given_counts (given.Word w) = refl

-- the line of a loop event begins with a keyword of one event
pub comes : (h : Happening) → HappeningFits h → (rest : List (List ℕ)) → next_is_happening (happening_text h ∷ rest) ≡ true
unfolding keywords
comes (happening.Tick now) fits rest = refl
comes (happening.Joined i k) fits rest = refl
comes (happening.Piece i k bytes) fits rest = refl
comes (happening.Gone i k) fits rest = refl
comes (happening.Room k) fits rest = refl
comes (happening.Back k bytes) fits rest = refl
comes (happening.Broken k) fits rest = refl
comes (happening.InputEnd i) fits rest = refl
comes happening.Stop fits rest = refl
comes happening.Failed fits rest = refl
comes happening.End fits rest = absurd fits
