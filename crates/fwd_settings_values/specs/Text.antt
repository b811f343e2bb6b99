-- Texts, words and truth values.
use Rattle.std.specs.Prelude.{ℕ, Bool, true, false, not, ◌==◌, ◌&&◌, ◌||◌, nat_lt, nat_le, if◌then◌else◌, List, [], ◌∷◌, length, drop, codes, Option, Some, None}
use Rattle.std.specs.List.{list_all, list_any, slice_split, before_first}
use Rattle.std.specs.Char.{is_ascii_graphic}
use Rattle.std.specs.Str.{str_eq_ignore_ascii_case, byte, is_utf8}
use Rattle.fwd_base.specs.Blanks.{is_blank, skip_blanks}
use Rattle.fwd_base.specs.Limits.{longest_tag, longest_name}

-- On, True and Yes, case ignored
abbrev pub is_true_word : List ℕ → Bool
is_true_word text =
    str_eq_ignore_ascii_case text (codes "on")
    || (str_eq_ignore_ascii_case text (codes "true") || str_eq_ignore_ascii_case text (codes "yes"))

-- Off, False and No, case ignored
abbrev pub is_false_word : List ℕ → Bool
is_false_word text =
    str_eq_ignore_ascii_case text (codes "off")
    || (str_eq_ignore_ascii_case text (codes "false") || str_eq_ignore_ascii_case text (codes "no"))

abbrev pub truth_of : List ℕ → Option Bool
truth_of text = if is_true_word text then Some true else (if is_false_word text then Some false else None)

-- a tag: bytes of UTF-8, at least one, and at most as many as a tag may have
abbrev pub is_tag_text : List ℕ → Bool
is_tag_text text = nat_lt 0 (length text) && (nat_le (length text) longest_tag && is_utf8 text)

abbrev pub has_blank : List ℕ → Bool
has_blank text = list_any is_blank text

-- the id of an output: bytes of UTF-8 without blanks, at least one, and at most as many as a name may have
abbrev pub is_id_text : List ℕ → Bool
is_id_text text =
    nat_lt 0 (length text) && (nat_le (length text) longest_name && (is_utf8 text && not (has_blank text)))

-- a host name has at most so many bytes
abbrev pub longest_hostname : ℕ
longest_hostname = 255

-- a host name: any bytes, not more than it may have
abbrev pub is_hostname_text : List ℕ → Bool
is_hostname_text text = nat_le (length text) longest_hostname

abbrev pub is_one_of : List ℕ → ℕ → Bool
is_one_of some b = list_any (λ s. b == s) some

-- it has no star
abbrev pub is_plain_text : List ℕ → Bool
is_plain_text text = not (is_one_of text (byte "*"))

-- only visible ASCII characters: bytes from 21 to 7e in hex
abbrev pub is_visible_text : List ℕ → Bool
is_visible_text text = list_all is_ascii_graphic text

-- the URI of a request: a slash, then only visible characters
abbrev pub is_uri_text : List ℕ → Bool
is_uri_text [] = false
is_uri_text (b ∷ bytes) = b == byte "/" && is_visible_text bytes

-- the parts between the separators, also the empty ones
abbrev pub parts_of : List ℕ → List ℕ → List (List ℕ)
parts_of separators text = slice_split (is_one_of separators) text

-- the first word of a text, which ends at a blank
abbrev pub first_word : List ℕ → List ℕ
first_word text = before_first is_blank (skip_blanks text)

-- what follows the first word and the blanks after it
abbrev pub rest : List ℕ → List ℕ
rest text = skip_blanks (drop (length (first_word text)) (skip_blanks text))
