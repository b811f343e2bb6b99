-- Pushes and closes on open links, by the calls on a loop alone.
use Rattle.std.specs.Prelude.{◌≡◌, ℕ, List, [], ◌∷◌, ◌++◌}
use Rattle.fwd_outside.specs.Loop.{LoopCall, LoopEntry, Push, Close}
use Rattle.fwd_theorem_delivery.specs.Links.{DialTarget, WasDialled, close_count}

-- a link is open after these calls: a dial returned it, and it wasn't closed
pub record IsOpenLink (link : ℕ) (es : List LoopEntry) : Type 0 where
  pub dialed : (to : DialTarget) × WasDialled to link es
  pub unclosed : close_count link es ≡ 0

-- a push and a close need an open link
abbrev pub HasOpenLink : List LoopEntry → LoopCall → Type 0
HasOpenLink before (Push link bytes) = IsOpenLink link before
HasOpenLink before (Close link) = IsOpenLink link before
HasOpenLink before call = Unit {0}

-- each of these calls has the link that it needs, given those before them
abbrev pub AreOnOpenLinks : List LoopEntry → List LoopEntry → Type 0
AreOnOpenLinks before [] = Unit {0}
AreOnOpenLinks before (e ∷ es) = HasOpenLink before e.call × AreOnOpenLinks (before ++ e ∷ []) es
