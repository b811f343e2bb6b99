-- The lines that are written are read back.
use Rattle.std.proofs.Common.{◌≡◌, ℕ, ◌≤◌, Bool, true, false, List, ◌∷◌, ◌++◌, codes, decimal, append_assoc, Some, None, Result, Ok, refl, ◌∙◌, ap, arith}
use Rattle.hex.specs.Hex.{IsBytes}
use Rattle.fwd_base.specs.declared.ids.InputId.{InputId}
use Rattle.fwd_base.specs.declared.ids.OutputId.{OutputId}
use Rattle.fwd_base.specs.declared.ids.ConnId.{ConnId}
use Rattle.fwd_base.specs.declared.ids.LinkId.{LinkId}
use Rattle.fwd_outside.specs.declared.happening.Happening.{Happening}
use Rattle.fwd_outside.specs.declared.happening.Happening.TheVariants as happening
use Rattle.fwd_script.specs.declared.keywords.Keyword.TheVariants as keyword
use Rattle.fwd_script.specs.declared.meaning.LineMeaning.TheVariants.{Plans, Answers, DiskFails, FileFails, Stores, Crashes}
use Rattle.fwd_script.specs.declared.schedule.Cut.{Cut}
use Rattle.fwd_script.specs.declared.schedule.Stored.{Stored}
use Rattle.fwd_script.specs.declared.schedule.Planned.{Planned}
use Rattle.fwd_script.specs.declared.schedule.Planned.TheVariants.{Happens, Ticks, Changes}
use Rattle.fwd_files_mem.specs.declared.change.FileChange.TheVariants as change
use Rattle.fwd_script.specs.declared.schedule.Given.{Given}
use Rattle.fwd_script.specs.declared.schedule.Given.TheVariants as given
use Rattle.fwd_script.specs.declared.schedule.PushWord.{PushWord}
use Rattle.fwd_script.specs.declared.schedule.PushWord.TheVariants as push
use Rattle.fwd_script.specs.declared.refusal.ScheduleKind.{ScheduleKind}
use Rattle.fwd_script.specs.declared.refusal.ScheduleKind.TheVariants.{UnknownWord}
use Rattle.fwd_script.specs.Keywords.{keywords}
use Rattle.fwd_script.specs.Words.{Left, ◌>>=◌, id, judged, number, number_to, octets, over, piece, then_read}
use Rattle.fwd_script.specs.Table.{conn, happens, input, line_meaning, link, whole_line, output, push_word, row, ok_or_word}
use Rattle.fwd_script.specs.Schedule.{ticks_of}
use Rattle.fwd_script.specs.Text.{crash_text, disk_text, file_text, given_text, happening_text, octets_text, planned_text, push_text, stored_text}
use Rattle.fwd_script.specs.Writable.{GivenFits, HappeningFits, Is32, Is64, IsName, PlannedFits, PushFits, StoredFits}
use Rattle.fwd_script.proofs.WrittenWords.{number_is_read, spaced, word_is_read}
use Rattle.fwd_script.proofs.Octets.{octets_read, piece_read}

-- the result of a reader
abbrev Gave : Type 0 → Type 0
Gave X = Result (X × Left) ScheduleKind

number_read : (n : ℕ) → Is64 n → (rest : Left) → number (Some (spaced (decimal n) rest)) ≡ Ok (n, rest)
number_read n small rest = number_is_read n 18446744073709551615 (omega arith) small rest

id_read : (n : ℕ) → Is32 n → (rest : Left) → id (Some (spaced (decimal n) rest)) ≡ Ok (n, rest)
id_read n small rest = number_is_read n 4294967295 (omega arith) (omega arith) rest

input_read : (i : InputId) → Is32 i.0 → (rest : Left) → input (Some (spaced (decimal i.0) rest)) ≡ Ok (i, rest)
input_read i small rest = ap (λ (r : Gave ℕ). then_read (λ (n : ℕ). judged UnknownWord (Some (record { 0 = n }))) r) (id_read i.0 small rest)

output_read : (o : OutputId) → Is32 o.0 → (rest : Left) → output (Some (spaced (decimal o.0) rest)) ≡ Ok (o, rest)
output_read o small rest = ap (λ (r : Gave ℕ). then_read (λ (n : ℕ). judged UnknownWord (Some (record { 0 = n }))) r) (id_read o.0 small rest)

conn_read : (k : ConnId) → Is64 k.0 → (rest : Left) → conn (Some (spaced (decimal k.0) rest)) ≡ Ok (k, rest)
conn_read k small rest = ap (λ (r : Gave ℕ). then_read (λ (n : ℕ). judged UnknownWord (Some (record { 0 = n }))) r) (number_read k.0 small rest)

link_read : (k : LinkId) → Is64 k.0 → (rest : Left) → link (Some (spaced (decimal k.0) rest)) ≡ Ok (k, rest)
link_read k small rest = ap (λ (r : Gave ℕ). then_read (λ (n : ℕ). judged UnknownWord (Some (record { 0 = n }))) r) (number_read k.0 small rest)

-- words with a space between, as they are written
two : (a b : List ℕ) → a ++ codes " " ++ b ≡ spaced a (Some b)
two a b = append_assoc a (codes " ") b

three : (a b c : List ℕ) → a ++ codes " " ++ b ++ codes " " ++ c ≡ spaced a (Some (spaced b (Some c)))
three a b c = append_assoc (a ++ codes " " ++ b) (codes " ") c ∙ append_assoc (a ++ codes " ") b (32 ∷ c) ∙ append_assoc a (codes " ") (b ++ 32 ∷ c)

-- one row each
row_joined : (left : ℕ) (i : InputId) (k : ConnId) → Is32 i.0 → Is64 k.0 → row keyword.Joined left (Some (spaced (decimal i.0) (Some (decimal k.0)))) ≡ Ok (Plans (Happens (happening.Joined i k)), None)
row_joined left i k small_i small_k =
    ap (λ (r : Gave InputId). then_read (λ (a : InputId). conn >>= (λ (b : ConnId). happens (happening.Joined a b))) r) (input_read i small_i (Some (decimal k.0)))
    ∙ ap (λ (r : Gave ConnId). then_read (λ (b : ConnId). happens (happening.Joined i b)) r) (conn_read k small_k None)

row_gone : (left : ℕ) (i : InputId) (k : ConnId) → Is32 i.0 → Is64 k.0 → row keyword.Gone left (Some (spaced (decimal i.0) (Some (decimal k.0)))) ≡ Ok (Plans (Happens (happening.Gone i k)), None)
row_gone left i k small_i small_k =
    ap (λ (r : Gave InputId). then_read (λ (a : InputId). conn >>= (λ (b : ConnId). happens (happening.Gone a b))) r) (input_read i small_i (Some (decimal k.0)))
    ∙ ap (λ (r : Gave ConnId). then_read (λ (b : ConnId). happens (happening.Gone i b)) r) (conn_read k small_k None)

row_piece : (left : ℕ) (i : InputId) (k : ConnId) (bytes : List ℕ) → HappeningFits (happening.Piece i k bytes)
    → row keyword.Piece left (Some (spaced (decimal i.0) (Some (spaced (decimal k.0) (Some (octets_text bytes)))))) ≡ Ok (Plans (Happens (happening.Piece i k bytes)), None)
row_piece left i k bytes fits =
    ap (λ (r : Gave InputId). then_read (λ (a : InputId). conn >>= (λ (b : ConnId). piece >>= (λ (c : List ℕ). happens (happening.Piece a b c)))) r)
    (input_read i fits.0 (Some (spaced (decimal k.0) (Some (octets_text bytes)))))
    ∙ ap (λ (r : Gave ConnId). then_read (λ (b : ConnId). piece >>= (λ (c : List ℕ). happens (happening.Piece i b c))) r) (conn_read k fits.1 (Some (octets_text bytes)))
    ∙ ap (λ (r : Gave (List ℕ)). then_read (λ (c : List ℕ). happens (happening.Piece i k c)) r) (piece_read bytes fits.4 fits.2 fits.3)

row_back : (left : ℕ) (k : LinkId) (bytes : List ℕ) → Is64 k.0 → IsBytes bytes → row keyword.Back left (Some (spaced (decimal k.0) (Some (octets_text bytes)))) ≡ Ok (Plans (Happens (happening.Back k bytes)), None)
row_back left k bytes small is =
    ap (λ (r : Gave LinkId). then_read (λ (a : LinkId). octets >>= (λ (b : List ℕ). happens (happening.Back a b))) r) (link_read k small (Some (octets_text bytes)))
    ∙ ap (λ (r : Gave (List ℕ)). then_read (λ (b : List ℕ). happens (happening.Back k b)) r) (octets_read bytes is)

row_ticks : (left first step count : ℕ) → PlannedFits (Ticks first step count) → count ≤ left
    → row keyword.Ticks left (Some (spaced (decimal first) (Some (spaced (decimal step) (Some (decimal count)))))) ≡ Ok (Plans (Ticks first step count), None)
row_ticks left first step count fits within =
    ap (λ (r : Gave ℕ). then_read (λ (a : ℕ). number >>= (λ (b : ℕ). number_to left >>= (λ (c : ℕ). over (Plans (Ticks a b c))))) r) (number_read first fits.0 (Some (spaced (decimal step) (Some (decimal count)))))
    ∙ ap (λ (r : Gave ℕ). then_read (λ (b : ℕ). number_to left >>= (λ (c : ℕ). over (Plans (Ticks first b c)))) r) (number_read step fits.1 (Some (decimal count)))
    ∙ ap (λ (r : Gave ℕ). then_read (λ (c : ℕ). over (Plans (Ticks first step c))) r) (number_is_read count left within fits.2 None)

row_append : (left : ℕ) (path bytes : List ℕ) → IsName path → IsBytes bytes → row keyword.Append left (Some (spaced path (Some (octets_text bytes)))) ≡ Ok (Plans (Changes (change.Append path bytes)), None)
row_append left path bytes name is =
    ap (λ (r : Gave (List ℕ)). then_read (λ (a : List ℕ). octets >>= (λ (b : List ℕ). over (Plans (Changes (change.Append a b))))) r) (word_is_read path (Some (octets_text bytes)) name.no_space)
    ∙ ap (λ (r : Gave (List ℕ)). then_read (λ (b : List ℕ). over (Plans (Changes (change.Append path b)))) r) (octets_read bytes is)

row_cut : (left : ℕ) (path : List ℕ) (most : ℕ) → IsName path → Is64 most → row keyword.Cut left (Some (spaced path (Some (decimal most)))) ≡ Ok (Plans (Changes (change.Cut path most)), None)
row_cut left path most name small =
    ap (λ (r : Gave (List ℕ)). then_read (λ (a : List ℕ). number >>= (λ (b : ℕ). over (Plans (Changes (change.Cut a b))))) r) (word_is_read path (Some (decimal most)) name.no_space)
    ∙ ap (λ (r : Gave ℕ). then_read (λ (b : ℕ). over (Plans (Changes (change.Cut path b)))) r) (number_read most small None)

row_store : (left : ℕ) (name bytes : List ℕ) → IsName name → IsBytes bytes → row keyword.Store left (Some (spaced name (Some (octets_text bytes)))) ≡ Ok (Stores (record { name = name; bytes = bytes }), None)
row_store left name bytes is_name is =
    ap (λ (r : Gave (List ℕ)). then_read (λ (a : List ℕ). octets >>= (λ (b : List ℕ). over (Stores (record { name = a; bytes = b })))) r) (word_is_read name (Some (octets_text bytes)) is_name.no_space)
    ∙ ap (λ (r : Gave (List ℕ)). then_read (λ (b : List ℕ). over (Stores (record { name = name; bytes = b }))) r) (octets_read bytes is)

row_crash : (left calls pick : ℕ) → Is64 calls → Is64 pick → row keyword.Crash left (Some (spaced (decimal calls) (Some (decimal pick)))) ≡ Ok (Crashes (record { calls = calls; pick = pick }), None)
row_crash left calls pick small_calls small_pick =
    ap (λ (r : Gave ℕ). then_read (λ (a : ℕ). number >>= (λ (b : ℕ). over (Crashes (record { calls = a; pick = b })))) r) (number_read calls small_calls (Some (decimal pick)))
    ∙ ap (λ (r : Gave ℕ). then_read (λ (b : ℕ). over (Crashes (record { calls = calls; pick = b }))) r) (number_read pick small_pick None)

push_read : (p : PushWord) → PushFits p → push_word (Some (push_text p)) ≡ Ok (p, None)
push_read (push.Took taken) small = ap (λ (r : Gave ℕ). then_read (λ (n : ℕ). judged UnknownWord (Some (push.Took n))) r) (number_read taken small None)
push_read push.Again fits = refl
push_read push.Broken fits = refl

row_push : (left : ℕ) (o : OutputId) (p : PushWord) → Is32 o.0 → PushFits p → row keyword.Push left (Some (spaced (decimal o.0) (Some (push_text p)))) ≡ Ok (Answers (given.Push o p), None)
row_push left o p small fits =
    ap (λ (r : Gave OutputId). then_read (λ (a : OutputId). push_word >>= (λ (b : PushWord). over (Answers (given.Push a b)))) r) (output_read o small (Some (push_text p)))
    ∙ ap (λ (r : Gave PushWord). then_read (λ (b : PushWord). over (Answers (given.Push o b))) r) (push_read p fits)

row_dial : (left : ℕ) (o : OutputId) (taken : Bool) (chosen : List ℕ) → ok_or_word (codes "refused") (Some chosen) ≡ Ok (taken, None) → Is32 o.0
    → row keyword.Dial left (Some (spaced (decimal o.0) (Some chosen))) ≡ Ok (Answers (given.Dial o taken), None)
row_dial left o taken chosen is small =
    ap (λ (r : Gave OutputId). then_read (λ (a : OutputId). ok_or_word (codes "refused") >>= (λ (b : Bool). over (Answers (given.Dial a b)))) r) (output_read o small (Some chosen))
    ∙ ap (λ (r : Gave Bool). then_read (λ (b : Bool). over (Answers (given.Dial o b))) r) is

-- the line of each
happening_read : (left : ℕ) (h : Happening) → HappeningFits h → line_meaning left (happening_text h) ≡ Ok (Plans (Happens h))
unfolding keywords
happening_read left (happening.Tick now) fits = ap (λ (r : Gave ℕ). whole_line (then_read (λ (n : ℕ). happens (happening.Tick n)) r)) (number_read now fits None)
happening_read left (happening.Joined i k) fits = ap (λ (l : List ℕ). whole_line (row keyword.Joined left (Some l))) (two (decimal i.0) (decimal k.0)) ∙ ap whole_line (row_joined left i k fits.0 fits.1)
happening_read left (happening.Piece i k bytes) fits =
    ap (λ (l : List ℕ). whole_line (row keyword.Piece left (Some l))) (three (decimal i.0) (decimal k.0) (octets_text bytes)) ∙ ap whole_line (row_piece left i k bytes fits)
happening_read left (happening.Gone i k) fits = ap (λ (l : List ℕ). whole_line (row keyword.Gone left (Some l))) (two (decimal i.0) (decimal k.0)) ∙ ap whole_line (row_gone left i k fits.0 fits.1)
happening_read left (happening.Room k) fits = ap (λ (r : Gave LinkId). whole_line (then_read (λ (n : LinkId). happens (happening.Room n)) r)) (link_read k fits None)
happening_read left (happening.Back k bytes) fits = ap (λ (l : List ℕ). whole_line (row keyword.Back left (Some l))) (two (decimal k.0) (octets_text bytes)) ∙ ap whole_line (row_back left k bytes fits.0 fits.1)
happening_read left (happening.Broken k) fits = ap (λ (r : Gave LinkId). whole_line (then_read (λ (n : LinkId). happens (happening.Broken n)) r)) (link_read k fits None)
happening_read left (happening.InputEnd i) fits = ap (λ (r : Gave InputId). whole_line (then_read (λ (n : InputId). happens (happening.InputEnd n)) r)) (input_read i fits None)
happening_read left happening.Stop fits = refl
happening_read left happening.Failed fits = refl
happening_read left happening.End fits = absurd fits

pub planned_read : (left : ℕ) (p : Planned) → PlannedFits p → ticks_of p ≤ left → line_meaning left (planned_text p) ≡ Ok (Plans p)
unfolding keywords
planned_read left (Happens h) fits within = happening_read left h fits
planned_read left (Ticks first step count) fits within =
    ap (λ (l : List ℕ). whole_line (row keyword.Ticks left (Some l))) (three (decimal first) (decimal step) (decimal count)) ∙ ap whole_line (row_ticks left first step count fits within)
planned_read left (Changes (change.Append path bytes)) fits within =
    ap (λ (l : List ℕ). whole_line (row keyword.Append left (Some l))) (two path (octets_text bytes)) ∙ ap whole_line (row_append left path bytes fits.0 fits.1)
planned_read left (Changes (change.Cut path most)) fits within =
    ap (λ (l : List ℕ). whole_line (row keyword.Cut left (Some l))) (two path (decimal most)) ∙ ap whole_line (row_cut left path most fits.0 fits.1)

pub given_read : (left : ℕ) (g : Given) → GivenFits g → line_meaning left (given_text g) ≡ Ok (Answers g)
unfolding keywords
given_read left (given.Dial o true) fits = ap whole_line (row_dial left o true (codes "ok") refl fits)
given_read left (given.Dial o false) fits = ap whole_line (row_dial left o false (codes "refused") refl fits)
given_read left (given.Push o p) fits = ap (λ (l : List ℕ). whole_line (row keyword.Push left (Some l))) (two (decimal o.0) (push_text p)) ∙ ap whole_line (row_push left o p fits.0 fits.1)
given_read left (given.Reply true) fits = refl
given_read left (given.Reply false) fits = refl
given_read left (given.Word w) fits = ap (λ (r : Gave ℕ). whole_line (then_read (λ (n : ℕ). over (Answers (given.Word n))) r)) (number_read w fits None)

pub disk_read : (left call : ℕ) → Is64 call → line_meaning left (disk_text call) ≡ Ok (DiskFails call)
unfolding keywords
disk_read left call small = ap (λ (r : Gave ℕ). whole_line (then_read (λ (n : ℕ). over (DiskFails n)) r)) (number_read call small None)

pub file_read : (left call : ℕ) → Is64 call → line_meaning left (file_text call) ≡ Ok (FileFails call)
unfolding keywords
file_read left call small = ap (λ (r : Gave ℕ). whole_line (then_read (λ (n : ℕ). over (FileFails n)) r)) (number_read call small None)

pub stored_read : (left : ℕ) (s : Stored) → StoredFits s → line_meaning left (stored_text s) ≡ Ok (Stores s)
unfolding keywords
stored_read left s fits = ap (λ (l : List ℕ). whole_line (row keyword.Store left (Some l))) (two s.name (octets_text s.bytes)) ∙ ap whole_line (row_store left s.name s.bytes fits.0 fits.1)

pub crash_read : (left : ℕ) (c : Cut) → Is64 c.calls → Is64 c.pick → line_meaning left (crash_text c) ≡ Ok (Crashes c)
unfolding keywords
crash_read left c small_calls small_pick =
    ap (λ (l : List ℕ). whole_line (row keyword.Crash left (Some l))) (two (decimal c.calls) (decimal c.pick)) ∙ ap whole_line (row_crash left c.calls c.pick small_calls small_pick)
