-- What happened to the flush on one link, by the calls on a loop alone.
use Rattle.std.specs.Prelude.{◌≡◌, ℕ, ◌+◌, ◌==◌, ◌⊎◌, Bool, false, if◌then◌else◌, List, [], ◌∷◌, ◌++◌, Some, None}
use Rattle.fwd_outside.specs.Loop.{LoopCall, LoopAnswer, LoopEntry, Wait, Dial, Push, Close}
use Rattle.fwd_outside.specs.declared.happening.Happening.{Happening}
use Rattle.fwd_outside.specs.declared.happening.Happening.TheVariants as happening
use Rattle.fwd_flush.specs.Outcome.{Event, Dialed, Pushed, Replied, LinkBroke}

-- one of these calls has an answer with this property
abbrev pub AnyCall : ((call : LoopCall) → LoopAnswer call → Type 0) → List LoopEntry → Type 0
AnyCall P [] = ⊥
AnyCall P (e ∷ es) = P e.call e.answer ⊎ AnyCall P es

-- what a dial is for: an output, and the tag of its payload
pub record DialTarget : Type 0 where
  pub output : ℕ
  pub tag : List ℕ

-- a dial for this returned this link
abbrev pub ReturnsLink : DialTarget → ℕ → (call : LoopCall) → LoopAnswer call → Type 0
ReturnsLink to link (Dial output tag) (Some given) =
    (record { output = output; tag = tag } ≡ to) × (given ≡ link)
ReturnsLink to link call answer = ⊥

abbrev pub WasDialled : DialTarget → ℕ → List LoopEntry → Type 0
WasDialled to link es = AnyCall (ReturnsLink to link) es

-- a dial for this was refused
abbrev pub RefusesDial : DialTarget → (call : LoopCall) → LoopAnswer call → Type 0
RefusesDial to (Dial output tag) None = record { output = output; tag = tag } ≡ to
RefusesDial to call answer = ⊥

abbrev pub DialWasRefused : DialTarget → List LoopEntry → Type 0
DialWasRefused to es = AnyCall (RefusesDial to) es

-- whether a call returned this link
abbrev pub returns_link : ℕ → (call : LoopCall) → LoopAnswer call → Bool
returns_link link (Dial output tag) (Some given) = given == link
returns_link link call answer = false

-- what an event of the loop is on a link
abbrev pub event_on : ℕ → Happening → List Event
event_on link (happening.Back other bytes) = if other.0 == link then Replied bytes ∷ [] else []
event_on link (happening.Broken other) = if other.0 == link then LinkBroke ∷ [] else []
event_on link brought = []

-- what a call is on a link: the dial that returned it, a push, or an event
abbrev pub on_link : ℕ → (call : LoopCall) → LoopAnswer call → List Event
on_link link (Dial output tag) (Some given) = if given == link then Dialed (Some given) ∷ [] else []
on_link link (Push other bytes) answer = if other == link then Pushed bytes answer ∷ [] else []
on_link link (Wait until paused) brought = event_on link brought
on_link link call answer = []

abbrev pub all_on_link : ℕ → List LoopEntry → List Event
all_on_link link [] = []
all_on_link link (e ∷ es) = on_link link e.call e.answer ++ all_on_link link es

-- what happened on a link since the dial that returned it; earlier calls don't count
abbrev pub since_dial : ℕ → List LoopEntry → List Event
since_dial link [] = []
since_dial link (e ∷ es) =
    if returns_link link e.call e.answer then all_on_link link (e ∷ es) else since_dial link es

-- how often a link was closed
abbrev pub close_of : ℕ → LoopCall → ℕ
close_of link (Close other) = if other == link then 1 else 0
close_of link call = 0

abbrev pub close_count : ℕ → List LoopEntry → ℕ
close_count link [] = 0
close_count link (e ∷ es) = close_of link e.call + close_count link es
