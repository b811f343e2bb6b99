-- Fields of a request's head besides those that it always has.
use Rattle.std.specs.Prelude.{ℕ, Bool, ◌==◌, ◌&&◌, nat_lt, nat_le, List, length, codes, IsTrue}
use Rattle.std.specs.List.{list_all, list_any, AllByRecursion}
use Rattle.httparse.specs.Grammar.{is_token_byte}
use Rattle.fwd_http.specs.declared.fields.HeaderField.{HeaderField}

-- the bytes of a token that are neither letters nor digits
abbrev pub is_mark : ℕ → Bool
is_mark byte = list_any (λ mark. mark == byte) (codes "!#$%&'*+-.^_`|~")

-- a name is a token (RFC 9110, section 5.6.2)
abbrev pub is_field_name : List ℕ → Bool
is_field_name name = nat_lt 0 (length name) && list_all is_token_byte name

-- a value is printable ASCII
abbrev pub is_printable : ℕ → Bool
is_printable byte = nat_le 32 byte && nat_le byte 126

abbrev pub is_field_value : List ℕ → Bool
is_field_value value = list_all is_printable value

abbrev pub IsHeaderField : HeaderField → Type 0
IsHeaderField field = IsTrue (is_field_name field.name) × IsTrue (is_field_value field.value)

abbrev pub AreHeaderFields : List HeaderField → Type 0
AreHeaderFields fields = AllByRecursion IsHeaderField fields
