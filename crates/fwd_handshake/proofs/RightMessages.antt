-- The content that is found in a value, and what it says of the value's members.
use Rattle.std.proofs.Common.{◌≡◌, ◌↔◌, inl, inr, Bool, true, false, cond, ◌&&◌, ℕ, ◌<◌, ◌≤◌, List, [], ◌∷◌, length, get_or, map, Option, Some, None, option_map, refl, sym, ap, subst, ◌∙◌, arith}
use Rattle.std.specs.Str.{bytes_eq}
use Rattle.std.proofs.lemmas.Slice.Eq.{bytes_eq-Decides}
use Rattle.fwd_value.specs.Val.{Val, truth, text, bin, list, mapping, no_vals, val, Entries, vals_of, entries_of}
use Rattle.fwd_value.specs.View.{val_of}
use Rattle.fwd_value.specs.declared.value.Value.{Value}
use Rattle.fwd_value.specs.Keys.{is_text, key}
use Rattle.fwd_handshake.specs.declared.ring.Ring.{Ring}
use Rattle.fwd_handshake.specs.Digest.{key_digest}
use Rattle.fwd_handshake.specs.Messages.{helo_word, ping_word, pong_word, nonce_key}
use Rattle.fwd_handshake.specs.Members.{bytes_of, is_bytes, is_true, is_digest, first_bytes, nonce_in, nonce_of, ping_digest, salt_of, pong_digest, host_of}
use Rattle.fwd_handshake.specs.Right.{IsBytes, IsHelo, IsPing, IsPong}

-- ---- texts and bins

some_same : (s t : List ℕ) → ◌≡◌ {A = Option (List ℕ)} (Some s) (Some t) → s ≡ t
some_same s t e = cc

none_some : (s : List ℕ) → ◌≡◌ {A = Option (List ℕ)} None (Some s) → ⊥
none_some s e = cc

false_true : false ≡ true → ⊥
false_true e = cc

bytes_are : (v : Val) (s : List ℕ) → bytes_of v ≡ Some s → IsBytes s v
bytes_are (text t) s e = inl (ap text (some_same t s e))
bytes_are (bin t) s e = inr (ap bin (some_same t s e))
bytes_are v s e = absurd (none_some s e)

are_bytes : (v : Val) (s : List ℕ) → IsBytes s v → bytes_of v ≡ Some s
are_bytes v s (inl e) = ap bytes_of e
are_bytes v s (inr e) = ap bytes_of e

test_bytes : (s : List ℕ) (v : Val) → is_bytes s v ≡ true → IsBytes s v
test_bytes s (text t) e = inl (ap text ((bytes_eq-Decides t s).0 e))
test_bytes s (bin t) e = inr (ap bin ((bytes_eq-Decides t s).0 e))
test_bytes s v e = absurd (false_true e)

bytes_test : (s : List ℕ) (v : Val) → IsBytes s v → is_bytes s v ≡ true
bytes_test s v (inl e) = ap (is_bytes s) e ∙ (bytes_eq-Decides s s).1 refl
bytes_test s v (inr e) = ap (is_bytes s) e ∙ (bytes_eq-Decides s s).1 refl

both_true : (s t : Bool) → (s && t) ≡ true → (s ≡ true) × (t ≡ true)
both_true true true e = (refl, refl)
both_true true false e = absurd (false_true e)
both_true false t e = absurd (false_true e)

true_both : (s t : Bool) → s ≡ true → t ≡ true → (s && t) ≡ true
true_both s t e f = ap (λ (u : Bool). u && t) e ∙ f

if_some : (t : Bool) (o : Option (List ℕ)) (s : List ℕ) → cond t o None ≡ Some s → (t ≡ true) × (o ≡ Some s)
if_some true o s e = (refl, e)
if_some false o s e = absurd (none_some s e)

some_if : (t : Bool) (o : Option (List ℕ)) (s : List ℕ) → t ≡ true → o ≡ Some s → cond t o None ≡ Some s
some_if t o s e f = ap (λ (u : Bool). cond u o None) e ∙ f

-- ---- HELO

options_found : (v : Val) (nonce : List ℕ) → nonce_in v ≡ Some nonce → (options : Entries) × (v ≡ mapping options) × (first_bytes nonce_key options ≡ Some nonce)
options_found (mapping es) nonce e = (es, refl, e)
options_found v nonce e = absurd (none_some nonce e)

helo_by : (w o : Val) (nonce : List ℕ) → cond (is_bytes helo_word w) (nonce_in o) None ≡ Some nonce → IsHelo nonce (list (val w (val o no_vals)))
helo_by w o nonce e =
    let parts = if_some (is_bytes helo_word w) (nonce_in o) nonce e in
    let found = options_found o nonce parts.1 in
    record {
      word = w;
      options = found.0;
      members = ap (λ (m : Val). list (val w (val m no_vals))) found.1;
      begins = test_bytes helo_word w parts.0;
      challenges = found.2;
    }

helo_from : (nonce : List ℕ) (v : Val) → nonce_of v ≡ Some nonce → IsHelo nonce v
helo_from nonce (list (val w (val o no_vals))) e = helo_by w o nonce e
helo_from nonce v e = absurd (none_some nonce e)

helo_to : (nonce : List ℕ) (v : Val) → IsHelo nonce v → nonce_of v ≡ Some nonce
helo_to nonce v h =
    ap nonce_of h.members ∙ some_if (is_bytes helo_word h.word) (first_bytes nonce_key h.options) nonce (bytes_test helo_word h.word h.begins) h.challenges

pub helo_exactly : (nonce : List ℕ) (v : Val) → (nonce_of v ≡ Some nonce) ↔ IsHelo nonce v
helo_exactly nonce v = (helo_from nonce v, helo_to nonce v)

-- ---- PING

ping_shown : (ring : Ring) (nonce : List ℕ) (host salt : Option (List ℕ)) (d : Val) → is_digest (ping_digest ring nonce host salt) d ≡ true
    → (h : List ℕ) × (s : List ℕ) × (host ≡ Some h) × (salt ≡ Some s) × IsBytes (key_digest ring.key s h nonce) d
ping_shown ring nonce (Some h) (Some s) d e = (h, s, refl, refl, test_bytes (key_digest ring.key s h nonce) d e)
ping_shown ring nonce (Some h) None d e = absurd (false_true e)
ping_shown ring nonce None salt d e = absurd (false_true e)

shown_ping : (ring : Ring) (nonce : List ℕ) (host salt : Option (List ℕ)) (h s : List ℕ) (d : Val) → host ≡ Some h → salt ≡ Some s → IsBytes (key_digest ring.key s h nonce) d
    → is_digest (ping_digest ring nonce host salt) d ≡ true
shown_ping ring nonce host salt h s d e f g =
    ap (λ (o : Option (List ℕ)). is_digest (ping_digest ring nonce o salt) d) e ∙ ap (λ (o : Option (List ℕ)). is_digest (ping_digest ring nonce (Some h) o) d) f
    ∙ bytes_test (key_digest ring.key s h nonce) d g

ping_by : (ring : Ring) (nonce salt : List ℕ) (w h s d u p : Val)
    → cond (is_bytes ping_word w && is_digest (ping_digest ring nonce (bytes_of h) (bytes_of s)) d) (bytes_of s) None ≡ Some salt
    → IsPing ring nonce salt (list (val w (val h (val s (val d (val u (val p no_vals)))))))
ping_by ring nonce salt w h s d u p e =
    let shows = is_digest (ping_digest ring nonce (bytes_of h) (bytes_of s)) d in
    let parts = if_some (is_bytes ping_word w && shows) (bytes_of s) salt e in
    let tests = both_true (is_bytes ping_word w) shows parts.0 in
    let shown = ping_shown ring nonce (bytes_of h) (bytes_of s) d tests.1 in
    let same : shown.1 ≡ salt = some_same shown.1 salt (sym shown.3 ∙ parts.1) in
    record {
      host = shown.0;
      word = w;
      host_member = h;
      salt_member = s;
      digest = d;
      user = u;
      password = p;
      members = refl;
      begins = test_bytes ping_word w tests.0;
      names = bytes_are h shown.0 shown.2;
      salts = bytes_are s salt parts.1;
      shows = subst (λ (x : List ℕ). IsBytes (key_digest ring.key x shown.0 nonce) d) same shown.4;
    }

ping_from : (ring : Ring) (nonce salt : List ℕ) (v : Val) → salt_of ring nonce v ≡ Some salt → IsPing ring nonce salt v
ping_from ring nonce salt (list (val w (val h (val s (val d (val u (val p no_vals))))))) e = ping_by ring nonce salt w h s d u p e
ping_from ring nonce salt v e = absurd (none_some salt e)

ping_to : (ring : Ring) (nonce salt : List ℕ) (v : Val) → IsPing ring nonce salt v → salt_of ring nonce v ≡ Some salt
ping_to ring nonce salt v p =
    let salted = are_bytes p.salt_member salt p.salts in
    let shows = shown_ping ring nonce (bytes_of p.host_member) (bytes_of p.salt_member) p.host salt p.digest (are_bytes p.host_member p.host p.names) salted p.shows in
    let begins = bytes_test ping_word p.word p.begins in
    ap (salt_of ring nonce) p.members
    ∙ some_if (is_bytes ping_word p.word && is_digest (ping_digest ring nonce (bytes_of p.host_member) (bytes_of p.salt_member)) p.digest) (bytes_of p.salt_member) salt
    (true_both (is_bytes ping_word p.word) (is_digest (ping_digest ring nonce (bytes_of p.host_member) (bytes_of p.salt_member)) p.digest) begins shows) salted

pub ping_exactly : (ring : Ring) (nonce salt : List ℕ) (v : Val) → (salt_of ring nonce v ≡ Some salt) ↔ IsPing ring nonce salt v
ping_exactly ring nonce salt v = (ping_from ring nonce salt v, ping_to ring nonce salt v)

-- ---- PONG

true_is : (v : Val) → is_true v ≡ true → v ≡ truth true
true_is (truth t) e = ap truth e
true_is v e = absurd (false_true e)

own_or_other : (ring : Ring) (salt nonce h : List ℕ) (d : Val) (t : Bool) → bytes_eq h ring.host ≡ t → is_digest (cond t None (Some (key_digest ring.key salt h nonce))) d ≡ true
    → (h ≡ ring.host → ⊥) × IsBytes (key_digest ring.key salt h nonce) d
own_or_other ring salt nonce h d true own e = absurd (false_true e)
own_or_other ring salt nonce h d false own e = (λ same. false_true (sym own ∙ (bytes_eq-Decides h ring.host).1 same), test_bytes (key_digest ring.key salt h nonce) d e)

pong_shown : (ring : Ring) (salt nonce : List ℕ) (host : Option (List ℕ)) (d : Val) → is_digest (pong_digest ring salt nonce host) d ≡ true
    → (h : List ℕ) × (host ≡ Some h) × (h ≡ ring.host → ⊥) × IsBytes (key_digest ring.key salt h nonce) d
pong_shown ring salt nonce (Some h) d e =
    let other = own_or_other ring salt nonce h d (bytes_eq h ring.host) refl e in
    (h, refl, other.0, other.1)
pong_shown ring salt nonce None d e = absurd (false_true e)

other_host : (h own : List ℕ) (t : Bool) → bytes_eq h own ≡ t → (h ≡ own → ⊥) → t ≡ false
other_host h own true e differs = absurd (differs ((bytes_eq-Decides h own).0 e))
other_host h own false e differs = refl

shown_pong : (ring : Ring) (salt nonce : List ℕ) (host : Option (List ℕ)) (h : List ℕ) (d : Val) → host ≡ Some h → (h ≡ ring.host → ⊥) → IsBytes (key_digest ring.key salt h nonce) d
    → is_digest (pong_digest ring salt nonce host) d ≡ true
shown_pong ring salt nonce host h d e differs g =
    ap (λ (o : Option (List ℕ)). is_digest (pong_digest ring salt nonce o) d) e
    ∙ ap (λ (t : Bool). is_digest (cond t None (Some (key_digest ring.key salt h nonce))) d) (other_host h ring.host (bytes_eq h ring.host) refl differs)
    ∙ bytes_test (key_digest ring.key salt h nonce) d g

pong_by : (ring : Ring) (salt nonce host : List ℕ) (w a r h d : Val)
    → cond (is_true a && (is_bytes pong_word w && is_digest (pong_digest ring salt nonce (bytes_of h)) d)) (bytes_of h) None ≡ Some host
    → IsPong ring salt nonce host (list (val w (val a (val r (val h (val d no_vals))))))
pong_by ring salt nonce host w a r h d e =
    let shows = is_digest (pong_digest ring salt nonce (bytes_of h)) d in
    let parts = if_some (is_true a && (is_bytes pong_word w && shows)) (bytes_of h) host e in
    let tests = both_true (is_true a) (is_bytes pong_word w && shows) parts.0 in
    let more = both_true (is_bytes pong_word w) shows tests.1 in
    let shown = pong_shown ring salt nonce (bytes_of h) d more.1 in
    let same : shown.0 ≡ host = some_same shown.0 host (sym shown.1 ∙ parts.1) in
    record {
      word = w;
      accepted = a;
      reason = r;
      host_member = h;
      digest = d;
      members = refl;
      begins = test_bytes pong_word w more.0;
      accepts = true_is a tests.0;
      names = bytes_are h host parts.1;
      differs = subst (λ (x : List ℕ). x ≡ ring.host → ⊥) same shown.2;
      shows = subst (λ (x : List ℕ). IsBytes (key_digest ring.key salt x nonce) d) same shown.3;
    }

pong_from : (ring : Ring) (salt nonce host : List ℕ) (v : Val) → host_of ring salt nonce v ≡ Some host → IsPong ring salt nonce host v
pong_from ring salt nonce host (list (val w (val a (val r (val h (val d no_vals)))))) e = pong_by ring salt nonce host w a r h d e
pong_from ring salt nonce host v e = absurd (none_some host e)

pong_to : (ring : Ring) (salt nonce host : List ℕ) (v : Val) → IsPong ring salt nonce host v → host_of ring salt nonce v ≡ Some host
pong_to ring salt nonce host v p =
    let named = are_bytes p.host_member host p.names in
    let shows = shown_pong ring salt nonce (bytes_of p.host_member) host p.digest named p.differs p.shows in
    let digest = is_digest (pong_digest ring salt nonce (bytes_of p.host_member)) p.digest in
    let accepts : is_true p.accepted ≡ true = ap is_true p.accepts in
    let begins = bytes_test pong_word p.word p.begins in
    ap (host_of ring salt nonce) p.members
    ∙ some_if (is_true p.accepted && (is_bytes pong_word p.word && digest)) (bytes_of p.host_member) host
    (true_both (is_true p.accepted) (is_bytes pong_word p.word && digest) accepts (true_both (is_bytes pong_word p.word) digest begins shows)) named

pub pong_exactly : (ring : Ring) (salt nonce host : List ℕ) (v : Val) → (host_of ring salt nonce v ≡ Some host) ↔ IsPong ring salt nonce host v
pong_exactly ring salt nonce host v = (pong_from ring salt nonce host v, pong_to ring salt nonce host v)

-- ---- the members by their tests

salt_is : (ring : Ring) (nonce : List ℕ) (w h s d u p : Val) (wanted : Option (List ℕ)) (t : Bool) → wanted ≡ ping_digest ring nonce (bytes_of h) (bytes_of s)
    → t ≡ (is_bytes ping_word w && is_digest wanted d) → cond t (bytes_of s) None ≡ salt_of ring nonce (list (val w (val h (val s (val d (val u (val p no_vals)))))))
salt_is ring nonce w h s d u p wanted t is test =
    ap (λ (b : Bool). cond b (bytes_of s) None) (test ∙ ap (λ (o : Option (List ℕ)). is_bytes ping_word w && is_digest o d) is)

abbrev SaltFrom : Ring → List ℕ → (w h s d : Value) → List Value → Type 0
SaltFrom ring nonce w h s d ms =
    (wanted : Option (List ℕ)) (t : Bool) → w ≡ get_or ms 0 w → h ≡ get_or ms 1 h → s ≡ get_or ms 2 s → d ≡ get_or ms 3 d
    → wanted ≡ ping_digest ring nonce (bytes_of (val_of h)) (bytes_of (val_of s)) → t ≡ (is_bytes ping_word (val_of w) && is_digest wanted (val_of d))
    → cond t (bytes_of (val_of s)) None ≡ salt_of ring nonce (list (vals_of (map val_of ms)))

salt_here : (ring : Ring) (nonce : List ℕ) (w h s d w' h' s' d' u p : Value) → SaltFrom ring nonce w h s d (w' ∷ h' ∷ s' ∷ d' ∷ u ∷ p ∷ [])
salt_here ring nonce w h s d w' h' s' d' u p wanted t x y z k is test =
    salt_is ring nonce (val_of w) (val_of h) (val_of s) (val_of d) (val_of u) (val_of p) wanted t is test
    ∙ ap (λ (a : Value). salt_of ring nonce (list (vals_of (map val_of (a ∷ h ∷ s ∷ d ∷ u ∷ p ∷ []))))) x
    ∙ ap (λ (a : Value). salt_of ring nonce (list (vals_of (map val_of (w' ∷ a ∷ s ∷ d ∷ u ∷ p ∷ []))))) y
    ∙ ap (λ (a : Value). salt_of ring nonce (list (vals_of (map val_of (w' ∷ h' ∷ a ∷ d ∷ u ∷ p ∷ []))))) z
    ∙ ap (λ (a : Value). salt_of ring nonce (list (vals_of (map val_of (w' ∷ h' ∷ s' ∷ a ∷ u ∷ p ∷ []))))) k

pub salt_found : (ring : Ring) (nonce : List ℕ) (w h s d : Value) (ms : List Value) → 6 ≤ length ms → length ms < 7 → SaltFrom ring nonce w h s d ms
salt_found ring nonce w h s d [] low high = absurd (omega arith)
salt_found ring nonce w h s d (a ∷ []) low high = absurd (omega arith)
salt_found ring nonce w h s d (a ∷ b ∷ []) low high = absurd (omega arith)
salt_found ring nonce w h s d (a ∷ b ∷ c ∷ []) low high = absurd (omega arith)
salt_found ring nonce w h s d (a ∷ b ∷ c ∷ e ∷ []) low high = absurd (omega arith)
salt_found ring nonce w h s d (a ∷ b ∷ c ∷ e ∷ f ∷ []) low high = absurd (omega arith)
salt_found ring nonce w h s d (a ∷ b ∷ c ∷ e ∷ f ∷ g ∷ []) low high = salt_here ring nonce w h s d a b c e f g
salt_found ring nonce w h s d (a ∷ b ∷ c ∷ e ∷ f ∷ g ∷ i ∷ ms) low high = absurd (omega arith)

host_is : (ring : Ring) (salt nonce : List ℕ) (w a r h d : Val) (wanted : Option (List ℕ)) (t : Bool) → wanted ≡ pong_digest ring salt nonce (bytes_of h)
    → t ≡ (is_true a && (is_bytes pong_word w && is_digest wanted d)) → cond t (bytes_of h) None ≡ host_of ring salt nonce (list (val w (val a (val r (val h (val d no_vals))))))
host_is ring salt nonce w a r h d wanted t is test =
    ap (λ (b : Bool). cond b (bytes_of h) None) (test ∙ ap (λ (o : Option (List ℕ)). is_true a && (is_bytes pong_word w && is_digest o d)) is)

abbrev HostFrom : Ring → (salt nonce : List ℕ) → (w a h d : Value) → List Value → Type 0
HostFrom ring salt nonce w a h d ms =
    (wanted : Option (List ℕ)) (t : Bool) → w ≡ get_or ms 0 w → a ≡ get_or ms 1 a → h ≡ get_or ms 3 h → d ≡ get_or ms 4 d
    → wanted ≡ pong_digest ring salt nonce (bytes_of (val_of h)) → t ≡ (is_true (val_of a) && (is_bytes pong_word (val_of w) && is_digest wanted (val_of d)))
    → cond t (bytes_of (val_of h)) None ≡ host_of ring salt nonce (list (vals_of (map val_of ms)))

host_here : (ring : Ring) (salt nonce : List ℕ) (w a h d w' a' r h' d' : Value) → HostFrom ring salt nonce w a h d (w' ∷ a' ∷ r ∷ h' ∷ d' ∷ [])
host_here ring salt nonce w a h d w' a' r h' d' wanted t x y z k is test =
    host_is ring salt nonce (val_of w) (val_of a) (val_of r) (val_of h) (val_of d) wanted t is test
    ∙ ap (λ (v : Value). host_of ring salt nonce (list (vals_of (map val_of (v ∷ a ∷ r ∷ h ∷ d ∷ []))))) x
    ∙ ap (λ (v : Value). host_of ring salt nonce (list (vals_of (map val_of (w' ∷ v ∷ r ∷ h ∷ d ∷ []))))) y
    ∙ ap (λ (v : Value). host_of ring salt nonce (list (vals_of (map val_of (w' ∷ a' ∷ r ∷ v ∷ d ∷ []))))) z
    ∙ ap (λ (v : Value). host_of ring salt nonce (list (vals_of (map val_of (w' ∷ a' ∷ r ∷ h' ∷ v ∷ []))))) k

pub host_found : (ring : Ring) (salt nonce : List ℕ) (w a h d : Value) (ms : List Value) → 5 ≤ length ms → length ms < 6 → HostFrom ring salt nonce w a h d ms
host_found ring salt nonce w a h d [] low high = absurd (omega arith)
host_found ring salt nonce w a h d (b ∷ []) low high = absurd (omega arith)
host_found ring salt nonce w a h d (b ∷ c ∷ []) low high = absurd (omega arith)
host_found ring salt nonce w a h d (b ∷ c ∷ e ∷ []) low high = absurd (omega arith)
host_found ring salt nonce w a h d (b ∷ c ∷ e ∷ f ∷ []) low high = absurd (omega arith)
host_found ring salt nonce w a h d (b ∷ c ∷ e ∷ f ∷ g ∷ []) low high = host_here ring salt nonce w a h d b c e f g
host_found ring salt nonce w a h d (b ∷ c ∷ e ∷ f ∷ g ∷ i ∷ ms) low high = absurd (omega arith)

-- ---- lists of another length

pub not_two : (ms : List Value) → (length ms ≡ 2 → ⊥) → nonce_of (list (vals_of (map val_of ms))) ≡ None
not_two [] n = refl
not_two (a ∷ []) n = refl
not_two (a ∷ b ∷ []) n = absurd (n refl)
not_two (a ∷ b ∷ c ∷ ms) n = refl

pub not_six : (ring : Ring) (nonce : List ℕ) (ms : List Value) → (length ms ≡ 6 → ⊥) → salt_of ring nonce (list (vals_of (map val_of ms))) ≡ None
not_six ring nonce [] n = refl
not_six ring nonce (a ∷ []) n = refl
not_six ring nonce (a ∷ b ∷ []) n = refl
not_six ring nonce (a ∷ b ∷ c ∷ []) n = refl
not_six ring nonce (a ∷ b ∷ c ∷ d ∷ []) n = refl
not_six ring nonce (a ∷ b ∷ c ∷ d ∷ e ∷ []) n = refl
not_six ring nonce (a ∷ b ∷ c ∷ d ∷ e ∷ f ∷ []) n = absurd (n refl)
not_six ring nonce (a ∷ b ∷ c ∷ d ∷ e ∷ f ∷ g ∷ ms) n = refl

pub not_five : (ring : Ring) (salt nonce : List ℕ) (ms : List Value) → (length ms ≡ 5 → ⊥) → host_of ring salt nonce (list (vals_of (map val_of ms))) ≡ None
not_five ring salt nonce [] n = refl
not_five ring salt nonce (a ∷ []) n = refl
not_five ring salt nonce (a ∷ b ∷ []) n = refl
not_five ring salt nonce (a ∷ b ∷ c ∷ []) n = refl
not_five ring salt nonce (a ∷ b ∷ c ∷ d ∷ []) n = refl
not_five ring salt nonce (a ∷ b ∷ c ∷ d ∷ e ∷ []) n = absurd (n refl)
not_five ring salt nonce (a ∷ b ∷ c ∷ d ∷ e ∷ f ∷ ms) n = refl

-- ---- the first pair of a key

abbrev pub bytes_at : Option Val → Option (List ℕ)
bytes_at None = None
bytes_at (Some v) = bytes_of v

abbrev second : Option (Val × Val) → Option Val
second o = option_map (λ p. p.1) o

first_by : (k : List ℕ) (p : Val × Val) (ps : List (Val × Val)) (t : Bool) → first_bytes k (entries_of ps) ≡ bytes_at (second (key ps k))
    → cond t (bytes_of p.1) (first_bytes k (entries_of ps)) ≡ bytes_at (second (cond t (Some p) (key ps k)))
first_by k p ps true same = refl
first_by k p ps false same = same

first_is : (k : List ℕ) (ps : List (Val × Val)) → first_bytes k (entries_of ps) ≡ bytes_at (second (key ps k))
first_is k [] = refl
first_is k (p ∷ ps) = first_by k p ps (is_text k p.0) (first_is k ps)

pub nonce_found : (k : List ℕ) (ps : List (Val × Val)) (found : Option Val) → k ≡ nonce_key → found ≡ option_map (λ p. p.1) (key ps k) → nonce_in (mapping (entries_of ps)) ≡ bytes_at found
nonce_found k ps found e f =
    ap (λ (n : List ℕ). first_bytes n (entries_of ps)) (sym e) ∙ first_is k ps ∙ ap bytes_at (sym f)

-- ---- the own host

-- a PONG that names the own host has no content
refused : (ring : Ring) (salt nonce : List ℕ) (w a r h d : Val) (o : Option (List ℕ)) → IsBytes ring.host h → host_of ring salt nonce (list (val w (val a (val r (val h (val d no_vals)))))) ≡ o → o ≡ None
refused ring salt nonce w a r h d None own e = refl
refused ring salt nonce w a r h d (Some host) own e =
    let pong = pong_by ring salt nonce host w a r h d e in
    let same : host ≡ ring.host = some_same host ring.host (sym ((if_some (is_true a && (is_bytes pong_word w && is_digest (pong_digest ring salt nonce (bytes_of h)) d)) (bytes_of h) host e).1) ∙ are_bytes h ring.host own) in
    absurd (pong.differs same)

pub own_host_none : (ring : Ring) (salt nonce : List ℕ) (w a r h d : Val) → IsBytes ring.host h → host_of ring salt nonce (list (val w (val a (val r (val h (val d no_vals)))))) ≡ None
own_host_none ring salt nonce w a r h d own = refused ring salt nonce w a r h d (host_of ring salt nonce (list (val w (val a (val r (val h (val d no_vals))))))) own refl
