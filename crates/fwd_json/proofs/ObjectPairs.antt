-- The pairs of parsed data, case by case.
use Rattle.std.proofs.Common.{◌≡◌, ℕ, ◌<◌, ◌≤◌, suc, ap, Bool, true, false, List, nat_lt, None, Ok, Err, refl, arith}
use Rattle.std.proofs.lemmas.Bool.Decides.{nat_tests}
use Rattle.std.proofs.lemmas.Str.{is_utf8-from_IsUtf8, IsUtf8-from_is_utf8}
use Rattle.std.specs.Str.{IsUtf8, is_utf8}
use Rattle.serde_json.specs.Data.{Members, members_depth}
use Rattle.serde_json.specs.Read.{read}
use Rattle.fwd_json.specs.declared.floats.Floats.{Floats}
use Rattle.fwd_json.specs.declared.reading.JsonErr.TheVariants.{NotJson, NotWhole, TooDeep}
use Rattle.fwd_json.specs.LinePairs.{pairs_of, pairs_or, are_readable, pairs_read, pairs_in}

pub pairs_or-not_whole : (floats : Floats) (ms : Members) → are_readable floats ms ≡ false → pairs_or floats ms ≡ Err NotWhole
pairs_or-not_whole floats ms e = rw e refl

pub pairs_or-too_deep : (floats : Floats) (ms : Members) → are_readable floats ms ≡ true → 62 < members_depth ms → pairs_or floats ms ≡ Err TooDeep
pairs_or-too_deep floats ms e deep =
    let test : nat_lt 63 (suc (members_depth ms)) ≡ true = grind (arith, nat_tests) in
    rw (e, test) refl

pub pairs_or-ok : (floats : Floats) (ms : Members) → are_readable floats ms ≡ true → members_depth ms ≤ 62 → pairs_or floats ms ≡ Ok (pairs_of floats ms)
pairs_or-ok floats ms e shallow =
    let test : nat_lt 63 (suc (members_depth ms)) ≡ false = grind (arith, nat_tests) in
    rw (e, test) refl

pub pairs_in-text : (floats : Floats) (line : List ℕ) → IsUtf8 line → pairs_in floats line ≡ pairs_read floats (read line)
pairs_in-text floats line h = rw (is_utf8-from_IsUtf8 line h)

pairs_in-refused_by : (floats : Floats) (line : List ℕ) (b : Bool) → is_utf8 line ≡ b → (IsUtf8 line → read line ≡ None) → pairs_in floats line ≡ Err NotJson
pairs_in-refused_by floats line true e h = rw e (ap (pairs_read floats) (h (IsUtf8-from_is_utf8 line e)))
pairs_in-refused_by floats line false e h = rw e refl

pub pairs_in-refused : (floats : Floats) (line : List ℕ) → (IsUtf8 line → read line ≡ None) → pairs_in floats line ≡ Err NotJson
pairs_in-refused floats line h = pairs_in-refused_by floats line _ refl h
