-- What was read from a message is short enough to be written in another.
use Rattle.std.proofs.Common.{◌≡◌, inl, inr, ℕ, ◌<◌, ◌^◌, Bool, true, false, cond, List, length, take, drop, get_or, Some, Result, Ok, Err, IfOk, sym, subst}
use Rattle.std.proofs.lemmas.List.{take-append-drop}
use Rattle.fwd_value.specs.Val.{Val, nil, truth, whole, text, bin, float32, float64, ext, list, mapping, Vals, no_vals, val, Entries, no_entries, entry}
use Rattle.fwd_value.specs.Keys.{is_text}
use Rattle.fwd_value.specs.Limits.{LengthsFit, AllLengthsFit, EntryLengthsFit}
use Rattle.fwd_msgpack.specs.Encodings.{AllBytes}
use Rattle.fwd_msgpack.specs.DecodeAnswers.{EncodesPrefix}
use Rattle.fwd_msgpack.proofs.Ranges.{all_bytes, bytes_front, encodings_fit}
use Rattle.fwd_msgpack.proofs.Encodable.{fits_lengths}
use Rattle.fwd_handshake.specs.declared.ring.Ring.{Ring}
use Rattle.fwd_handshake.specs.declared.received.Received.{Received}
use Rattle.fwd_handshake.specs.declared.received.Received.TheVariants.{More, Right, Wrong}
use Rattle.fwd_handshake.specs.Messages.{nonce_key}
use Rattle.fwd_handshake.specs.Members.{bytes_of, first_bytes, nonce_of, salt_of}
use Rattle.fwd_handshake.specs.Right.{IsBytes, IsHelo, IsPing}
use Rattle.fwd_handshake.specs.Judgement.{helo_received, ping_received}
use Rattle.fwd_secure.specs.Readable.{HasShortContent}
use Rattle.fwd_handshake.proofs.Judged.{received_right}
use Rattle.fwd_handshake.proofs.RightMessages.{helo_exactly, ping_exactly}

-- the lengths in a value that bytes encode
prefix_fits : (v : Val) (n : ℕ) (b : List ℕ) → ((i : ℕ) → get_or b i 0 < 256) → EncodesPrefix v n b → LengthsFit v
prefix_fits v n b bytes (within, encodes, nested) =
    fits_lengths v (encodings_fit v (take n b) (bytes_front (take n b) (drop n b) (subst AllBytes (sym (take-append-drop n b)) (all_bytes b bytes))) encodes)

bytes_fit : (s : List ℕ) (v : Val) → IsBytes s v → LengthsFit v → length s < 2 ^ 32
bytes_fit s v (inl is) fits = let fit : LengthsFit (text s) = subst LengthsFit is fits in fit
bytes_fit s v (inr is) fits = let fit : LengthsFit (bin s) = subst LengthsFit is fits in fit

first_fit : (v : Val) (vs : Vals) → AllLengthsFit (val v vs) → LengthsFit v
first_fit v vs (first, rest) = first

rest_fit : (v : Val) (vs : Vals) → AllLengthsFit (val v vs) → AllLengthsFit vs
rest_fit v vs (first, rest) = rest

members_fit : (vs : Vals) → LengthsFit (list vs) → AllLengthsFit vs
members_fit vs (count, all) = all

entries_fit : (es : Entries) → LengthsFit (mapping es) → EntryLengthsFit es
entries_fit es (count, all) = all

third_fits : (w h s : Val) (rest : Vals) → LengthsFit (list (val w (val h (val s rest)))) → LengthsFit s
third_fits w h s rest fits = first_fit s rest (rest_fit h (val s rest) (rest_fit w (val h (val s rest)) (members_fit (val w (val h (val s rest))) fits)))

second_fits : (w : Val) (options : Entries) → LengthsFit (list (val w (val (mapping options) no_vals))) → EntryLengthsFit options
second_fits w options fits =
    entries_fit options (first_fit (mapping options) no_vals (rest_fit w (val (mapping options) no_vals) (members_fit (val w (val (mapping options) no_vals)) fits)))

pub salt_fits : (ring : Ring) (nonce salt : List ℕ) (len : ℕ) (b : List ℕ) → ((i : ℕ) → get_or b i 0 < 256) → ping_received ring nonce b ≡ Right len salt → length salt < 2 ^ 32
salt_fits ring nonce salt len b bytes is =
    let found = (received_right (salt_of ring nonce) b len salt).0 is in
    let ping : IsPing ring nonce salt found.0 = (ping_exactly ring nonce salt found.0).0 found.2 in
    bytes_fit salt ping.salt_member ping.salts (third_fits ping.word ping.host_member ping.salt_member (val ping.digest (val ping.user (val ping.password no_vals))) (subst LengthsFit ping.members (prefix_fits found.0 len b bytes found.1)))

same_bytes : (s t : List ℕ) → Some s ≡ Some t → length s < 2 ^ 32 → length t < 2 ^ 32
same_bytes s t is fits = let same : s ≡ t = cc is in subst (λ (l : List ℕ). length l < 2 ^ 32) same fits

value_fits : (v : Val) (s : List ℕ) → bytes_of v ≡ Some s → LengthsFit v → length s < 2 ^ 32
value_fits (text t) s is fits = same_bytes t s is fits
value_fits (bin t) s is fits = same_bytes t s is fits
value_fits nil s is fits = absurd (cc is)
value_fits (truth t) s is fits = absurd (cc is)
value_fits (whole n) s is fits = absurd (cc is)
value_fits (float32 n) s is fits = absurd (cc is)
value_fits (float64 n) s is fits = absurd (cc is)
value_fits (ext t x) s is fits = absurd (cc is)
value_fits (list vs) s is fits = absurd (cc is)
value_fits (mapping es) s is fits = absurd (cc is)

first_fits : (k : List ℕ) (es : Entries) (s : List ℕ) → first_bytes k es ≡ Some s → EntryLengthsFit es → length s < 2 ^ 32
first_fits k no_entries s is fits = absurd (cc is)
first_fits k (entry key v es) s is (of_key, of_value, rest) = by (is_text k key) (λ i. first_fits k es s i rest) is
  where
    by : (b : Bool) → (first_bytes k es ≡ Some s → length s < 2 ^ 32) → cond b (bytes_of v) (first_bytes k es) ≡ Some s → length s < 2 ^ 32
    by true later i = value_fits v s i of_value
    by false later i = later i

pub nonce_fits : (nonce : List ℕ) (len : ℕ) (b : List ℕ) → ((i : ℕ) → get_or b i 0 < 256) → helo_received b ≡ Right len nonce → length nonce < 2 ^ 32
nonce_fits nonce len b bytes is =
    let found = (received_right nonce_of b len nonce).0 is in
    let helo : IsHelo nonce found.0 = (helo_exactly nonce found.0).0 found.2 in
    first_fits nonce_key helo.options nonce helo.challenges (second_fits helo.word helo.options (subst LengthsFit helo.members (prefix_fits found.0 len b bytes found.1)))

-- what `read_ping` and `read_helo` return
pub ping_short : {E : Type 0} (ring : Ring) (nonce b : List ℕ) → ((i : ℕ) → get_or b i 0 < 256) → (r : Result Received E) → IfOk r (λ x. x ≡ ping_received ring nonce b) → IfOk r HasShortContent
ping_short ring nonce b bytes (Ok More) is = tt
ping_short ring nonce b bytes (Ok (Right len content)) is = salt_fits ring nonce content len b bytes (sym is)
ping_short ring nonce b bytes (Ok Wrong) is = tt
ping_short ring nonce b bytes (Err e) is = tt

pub helo_short : {E : Type 0} (b : List ℕ) → ((i : ℕ) → get_or b i 0 < 256) → (r : Result Received E) → IfOk r (λ x. x ≡ helo_received b) → IfOk r HasShortContent
helo_short b bytes (Ok More) is = tt
helo_short b bytes (Ok (Right len content)) is = nonce_fits content len b bytes (sym is)
helo_short b bytes (Ok Wrong) is = tt
helo_short b bytes (Err e) is = tt
