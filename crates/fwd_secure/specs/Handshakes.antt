-- The state of a keyed loop between two calls, and how it changes.
use Rattle.std.specs.Prelude.{ℕ, ◌+◌, ◌-◌, ◌^◌, ◌==◌, Bool, true, false, not, min, List, [], ◌∷◌, ◌++◌, map, filter, Option, Some, None, is_some, slice_get, if◌then◌else◌}
use Rattle.std.specs.Ordering.{nat_cmp}
use Rattle.std.specs.Map.{lookup, remove_entry}
use Rattle.std.specs.BTreeMap.{is_at, insert_entry}
use Rattle.fwd_outside.specs.declared.ends.Ends.{Ends}
use Rattle.fwd_outside.specs.declared.ends.InEnd.{InEnd}
use Rattle.fwd_outside.specs.declared.ends.InEnd.TheVariants.{Listen}
use Rattle.fwd_secure.specs.declared.handshakes.HeldConn.{HeldConn}
use Rattle.fwd_secure.specs.declared.handshakes.LinkHandshake.{LinkHandshake}
use Rattle.fwd_secure.specs.declared.handshakes.KeptBytes.{KeptBytes}
use Rattle.fwd_secure.specs.Kept.{is_of_conn, is_of_link, without_first_given}

pub record Handshakes : Type 0 where
  -- whether peers connect to each input, by the endpoints of the start
  pub listens : List Bool
  -- the connections whose PING isn't complete, by their numbers
  pub held : List (ℕ × HeldConn)
  -- the inputs of the connections that were given as joined, by the numbers of the connections
  pub joined : List (ℕ × ℕ)
  -- the links whose PONG isn't complete, by their numbers
  pub links : List (ℕ × LinkHandshake)
  -- the bytes that came after a PING or a PONG, to be given by later waits; the oldest first
  pub kept : List KeptBytes
  -- how many messages of servers were wrong
  pub wrongs : ℕ

-- before the first call
abbrev pub no_handshakes : Handshakes
no_handshakes = record { listens = []; held = []; joined = []; links = []; kept = []; wrongs = 0 }

-- ---- maps by number

abbrev pub at : {X : Type 0} → ℕ → List (ℕ × X) → Option X
at number entries = lookup (is_at (nat_cmp number)) entries

abbrev pub with_entry : {X : Type 0} → ℕ → X → List (ℕ × X) → List (ℕ × X)
with_entry number x entries = insert_entry nat_cmp entries number x

abbrev pub without_entry : {X : Type 0} → ℕ → List (ℕ × X) → List (ℕ × X)
without_entry number entries = remove_entry (is_at (nat_cmp number)) entries

-- ---- inputs

-- whether peers connect to the endpoint
abbrev pub is_listener : InEnd → Bool
is_listener (Listen host port) = true
is_listener _ = false

abbrev pub listening : Handshakes → Ends → Handshakes
listening k ends = record k { listens = map is_listener ends.inputs }

abbrev pub or_false : Option Bool → Bool
or_false (Some b) = b
or_false None = false

abbrev pub listens_at : Handshakes → ℕ → Bool
listens_at k input = or_false (slice_get k.listens input)

-- ---- connections

abbrev pub held_at : Handshakes → ℕ → Option HeldConn
held_at k conn = at conn k.held

abbrev pub is_held : Handshakes → ℕ → Bool
is_held k conn = is_some (held_at k conn)

-- the connection, if it is held under this input
abbrev pub if_under : ℕ → Option HeldConn → Option HeldConn
if_under input None = None
if_under input (Some held) = if held.input.0 == input then Some held else None

abbrev pub held_under : Handshakes → ℕ → ℕ → Option HeldConn
held_under k input conn = if_under input (held_at k conn)

-- the input under which the connection was given as joined, if it is still there
abbrev pub joined_at : Handshakes → ℕ → Option ℕ
joined_at k conn = at conn k.joined

abbrev pub is_input : ℕ → Option ℕ → Bool
is_input input None = false
is_input input (Some other) = other == input

abbrev pub is_joined_under : Handshakes → ℕ → ℕ → Bool
is_joined_under k input conn = is_input input (joined_at k conn)

-- the bytes of the connection are held
abbrev pub holding : Handshakes → ℕ → HeldConn → Handshakes
holding k conn held = record k { held = with_entry conn held k.held }

-- they aren't held any more
abbrev pub released : Handshakes → ℕ → Handshakes
released k conn = record k { held = without_entry conn k.held }

-- the connection was given as joined under this input; one that is there keeps its input
abbrev pub entered : Handshakes → ℕ → ℕ → Handshakes
entered k input conn =
    if is_some (joined_at k conn) then k else record k { joined = with_entry conn input k.joined }

-- the connection of this input has ended
abbrev pub left : Handshakes → ℕ → ℕ → Handshakes
left k input conn = record k {
  held = if is_some (held_under k input conn) then without_entry conn k.held else k.held;
  joined = if is_joined_under k input conn then without_entry conn k.joined else k.joined;
}

-- the connection was dropped
abbrev pub dropped : Handshakes → ℕ → Handshakes
dropped k conn = record k {
  held = without_entry conn k.held;
  joined = without_entry conn k.joined;
  kept = filter (λ bytes. not (is_of_conn conn bytes)) k.kept;
}

-- ---- links

abbrev pub link_at : Handshakes → ℕ → Option LinkHandshake
link_at k link = at link k.links

-- the handshake of the link is under way
abbrev pub greeting : Handshakes → ℕ → LinkHandshake → Handshakes
greeting k link handshake = record k { links = with_entry link handshake k.links }

-- it is not
abbrev pub ungreeted : Handshakes → ℕ → Handshakes
ungreeted k link = record k { links = without_entry link k.links }

-- the link was closed
abbrev pub closed : Handshakes → ℕ → Handshakes
closed k link = record k {
  links = without_entry link k.links;
  kept = filter (λ bytes. not (is_of_link link bytes)) k.kept;
}

-- a message of a server was wrong
abbrev pub counting_wrong : Handshakes → Handshakes
counting_wrong k = record k { wrongs = min (k.wrongs + 1) (2 ^ 64 - 1) }

-- ---- kept bytes

abbrev pub keeping : Handshakes → KeptBytes → Handshakes
keeping k bytes = record k { kept = k.kept ++ bytes ∷ [] }

abbrev pub without_given : Handshakes → ℕ → Handshakes
without_given k paused = record k { kept = without_first_given paused k.kept }
