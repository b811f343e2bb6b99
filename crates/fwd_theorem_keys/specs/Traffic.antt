-- What came and went over connections and links, by the entries of a call log.
use Rattle.std.specs.Prelude.{◌≡◌, ◌⊎◌, ℕ, ◌==◌, ◌&&◌, Bool, false, List, [], ◌∷◌, ◌++◌, take, if◌then◌else◌}
use Rattle.std.specs.List.{list_any}
use Rattle.fwd_base.specs.declared.ids.InputId.{InputId}
use Rattle.fwd_base.specs.declared.ids.ConnId.{ConnId}
use Rattle.fwd_outside.specs.Loop.{LoopCall, LoopAnswer, LoopEntry, Wait, Push, Close, DropConn, PushAnswer, Took, Again, Broke, MayOccur}
use Rattle.fwd_outside.specs.declared.happening.Happening.{Happening}
use Rattle.fwd_outside.specs.declared.happening.Happening.TheVariants as happening

-- the call was made, with this answer
abbrev pub Includes : LoopEntry → List LoopEntry → Type 0
Includes e [] = ⊥
Includes e (x ∷ xs) = (x ≡ e) ⊎ Includes e xs

-- ---- connections

abbrev pub is_conn : InputId → ConnId → InputId → ConnId → Bool
is_conn input conn i c = i.0 == input.0 && c.0 == conn.0

-- the bytes of an event that came over the connection
abbrev pub piece_bytes : InputId → ConnId → Happening → List ℕ
piece_bytes input conn (happening.Piece i c bytes) = if is_conn input conn i c then bytes else []
piece_bytes input conn _ = []

abbrev pub said_in : InputId → ConnId → (call : LoopCall) → LoopAnswer call → List ℕ
said_in input conn (Wait until paused) brought = piece_bytes input conn brought
said_in input conn call answer = []

-- all bytes that came over the connection
abbrev pub said_by : InputId → ConnId → List LoopEntry → List ℕ
said_by input conn [] = []
said_by input conn (e ∷ es) = said_in input conn e.call e.answer ++ said_by input conn es

abbrev pub is_gone : InputId → ConnId → Happening → Bool
is_gone input conn (happening.Gone i c) = is_conn input conn i c
is_gone input conn _ = false

abbrev pub ends_in : InputId → ConnId → (call : LoopCall) → LoopAnswer call → Bool
ends_in input conn (Wait until paused) brought = is_gone input conn brought
ends_in input conn call answer = false

-- whether the peer ended the connection
abbrev pub has_ended : InputId → ConnId → List LoopEntry → Bool
has_ended input conn entries = list_any (λ e. ends_in input conn e.call e.answer) entries

abbrev pub drops_in : ConnId → LoopCall → Bool
drops_in conn (DropConn c) = c == conn.0
drops_in conn _ = false

-- whether a call dropped the connection
abbrev pub was_dropped : ConnId → List LoopEntry → Bool
was_dropped conn entries = list_any (λ e. drops_in conn e.call) entries

-- ---- links

-- the bytes that a push handed over
abbrev pub taken_of : PushAnswer → List ℕ → List ℕ
taken_of (Took n) bytes = take n bytes
taken_of Again bytes = []
taken_of Broke bytes = []

abbrev pub taken_in : ℕ → (call : LoopCall) → LoopAnswer call → List ℕ
taken_in link (Push l bytes) answer = if l == link then taken_of answer bytes else []
taken_in link call answer = []

-- all bytes that the link took
abbrev pub taken_on : ℕ → List LoopEntry → List ℕ
taken_on link [] = []
taken_on link (e ∷ es) = taken_in link e.call e.answer ++ taken_on link es

-- the bytes of an event that came back over the link
abbrev pub back_bytes : ℕ → Happening → List ℕ
back_bytes link (happening.Back l bytes) = if l.0 == link then bytes else []
back_bytes link _ = []

abbrev pub back_in : ℕ → (call : LoopCall) → LoopAnswer call → List ℕ
back_in link (Wait until paused) brought = back_bytes link brought
back_in link call answer = []

-- all bytes that came back over the link
abbrev pub back_on : ℕ → List LoopEntry → List ℕ
back_on link [] = []
back_on link (e ∷ es) = back_in link e.call e.answer ++ back_on link es

abbrev pub closes_in : ℕ → LoopCall → Bool
closes_in link (Close l) = l == link
closes_in link _ = false

-- whether a call closed the link
abbrev pub was_closed : ℕ → List LoopEntry → Bool
was_closed link entries = list_any (λ e. closes_in link e.call) entries
