-- A stream that goes on.
use Rattle.std.proofs.Common.{◌≡◌, ℕ, ◌≤◌, ◌<◌, List, [], ◌∷◌, ◌++◌, length, map, drop, All, refl, sym, ap, subst, ◌∙◌, arith}
use Rattle.std.proofs.lemmas.List.{drop-append-le, length-take, append-nil}
use Rattle.fwd_base.specs.Limits.{longest_message}
use Rattle.std.proofs.lemmas.List.Elements.{All-push}
use Rattle.fwd_event.proofs.EventLists.{not_empty}
use Rattle.fwd_wire.specs.Message.{MessageContent, says}
use Rattle.fwd_wire.specs.Fits.{ContentFits}
use Rattle.fwd_wire.specs.Answer.{IsAnswer, message, front}
use Rattle.fwd_wire.specs.declared.fault.ConnFault.{ConnFault}
use Rattle.fwd_wire.specs.Stream.{Ending, waiting, broken, IsEnding, Streams}
use Rattle.fwd_in_forward.proofs.MoreBytes.{says_on, breaks_on}

-- a message is within the bytes
pub message_within : (b : List ℕ) (m : MessageContent) (n : ℕ) → IsAnswer b (message m n) → n ≤ length b
message_within b m n h = omega (arith, h.1.0, length-take longest_message b)

-- what follows a message of the earlier bytes, with more bytes appended
behind : (b more : List ℕ) (m : MessageContent) (n : ℕ) → IsAnswer b (message m n) → drop n b ++ more ≡ drop n (b ++ more)
behind b more m n h = sym (drop-append-le n b more (message_within b m n h))

-- the bytes that waited and more bytes give what comes next
pub joined : (before after : List MessageContent) (e : Ending) (rest stream more : List ℕ) → Streams before (waiting rest) stream → Streams after e (rest ++ more) → Streams (before ++ after) e (stream ++ more)
joined [] after e rest stream more h k = subst (λ (s : List ℕ). Streams after e (s ++ more)) (sym h.0) k
joined (m ∷ before) after e rest stream more h k =
    (h.0, says_on stream more h.0 (says m) h.1, subst (Streams (before ++ after) e) (behind stream more m h.0 h.1) (joined before after e rest (drop h.0 stream) more h.2 k))

-- a broken stream stays broken
pub stays_broken : (before : List MessageContent) (fault : ConnFault) (stream more : List ℕ) → Streams before (broken fault) stream → Streams before (broken fault) (stream ++ more)
stays_broken [] fault stream more h = breaks_on fault stream more h
stays_broken (m ∷ before) fault stream more h =
    (h.0, says_on stream more h.0 (says m) h.1, subst (Streams before (broken fault)) (behind stream more m h.0 h.1) (stays_broken before fault (drop h.0 stream) more h.2))

content_push : {M : Type 0} (content : M → MessageContent) (ms : List M) (m : M) (after : List MessageContent) → map content (ms ++ m ∷ []) ++ after ≡ map content ms ++ content m ∷ after
content_push content [] m after = refl
content_push content (n ∷ ms) m after = ap (λ (x : List MessageContent). content n ∷ x) (content_push content ms m after)

-- one more message is read, from the rest of the bytes
pub read_on : {M : Type 0} (content : M → MessageContent) (b rest behind : List ℕ) (n : ℕ) (m : M) (ms more : List M) → more ≡ ms ++ m ∷ [] → behind ≡ drop n rest
    → ((after : List MessageContent) (e : Ending) → Streams after e rest → Streams (map content ms ++ after) e b)
    → IsAnswer rest (message (content m) n)
    → (after : List MessageContent) (e : Ending) → Streams after e behind → Streams (map content more ++ after) e b
read_on {M = M} content b rest behind n m ms more is dropped reads h after e s =
    let one = reads (content m ∷ after) e (n, h, subst (Streams after e) dropped s) in
    let pushed = subst (λ (x : List MessageContent). Streams x e b) (sym (content_push content ms m after)) one in
    subst (λ (x : List M). Streams (map content x ++ after) e b) (sym is) pushed

-- nothing more is read
pub read_all : (b rest : List ℕ) (said : List MessageContent) (e : Ending)
    → ((after : List MessageContent) (f : Ending) → Streams after f rest → Streams (said ++ after) f b)
    → IsEnding e rest → Streams said e b
read_all b rest said e reads h = subst (λ (x : List MessageContent). Streams x e b) (append-nil said) (reads [] e h)

-- a message has at least one byte
pub some_byte : (b : List ℕ) (m : MessageContent) (n : ℕ) → IsAnswer b (message m n) → 0 < n
some_byte b m n h = not_empty h.0 n (front b) h.1

pub all_fit_push : {M : Type 0} (content : M → MessageContent) (m : M) (ms more : List M) → more ≡ ms ++ m ∷ [] → All ContentFits (map content ms) → ContentFits (content m) → All ContentFits (map content more)
all_fit_push content m ms more is h f =
    subst (All ContentFits) (sym (ap (map content) is ∙ content_pushed ms)) (All-push ContentFits (map content ms) (content m) h f)
  where
    content_pushed : (ls : List _) → map content (ls ++ m ∷ []) ≡ map content ls ++ content m ∷ []
    content_pushed [] = refl
    content_pushed (l ∷ ls) = ap (λ (x : List MessageContent). content l ∷ x) (content_pushed ls)

-- one more message has the property of the others
pub all_push : {M : Type 0} (P : M → Type 0) (m : M) (ms more : List M) → more ≡ ms ++ m ∷ [] → All P ms → P m → All P more
all_push P m ms more is h p = subst (All P) (sym is) (All-push P ms m h p)
