-- The result of `str::from_utf8` and the test of UTF-8.
use Rattle.std.proofs.Common.{◌≡◌, ◌⊎◌, inl, inr, ℕ, true, false, List, Result, Ok, Err, MatchResult, is_ok, sym}
use Rattle.std.specs.Borrow.{Bor}
use Rattle.std.specs.declared.str.Utf8Error.{Utf8Error}
use Rattle.std.specs.Str.{IsUtf8, is_utf8, IsValidUpTo, valid_up_to}
use Rattle.std.proofs.lemmas.Str.{IsUtf8-from_is_utf8, is_utf8-from_IsUtf8}
use Rattle.std.proofs.lemmas.Bool.{cases_Bool}

utf8_test : (bytes : List ℕ) → (IsUtf8 bytes → ⊥) → (is_utf8 bytes ≡ true) ⊎ (is_utf8 bytes ≡ false) → is_utf8 bytes ≡ false
utf8_test bytes broken (inl is_so) = absurd (broken (IsUtf8-from_is_utf8 bytes is_so))
utf8_test bytes broken (inr is_not) = is_not

pub utf8_by : (bytes : List ℕ) (r : Result (Bor (List ℕ)) Utf8Error) → MatchResult r (λ s. (s.now ≡ bytes) × IsUtf8 bytes) (λ e. (IsUtf8 bytes → ⊥) × IsValidUpTo bytes (valid_up_to e)) → is_ok r ≡ is_utf8 bytes
utf8_by bytes (Ok s) cases = sym (is_utf8-from_IsUtf8 bytes cases.1)
utf8_by bytes (Err e) cases = sym (utf8_test bytes cases.0 (cases_Bool (is_utf8 bytes)))
