-- The links that dials returned, and numbers for them.
use Rattle.std.specs.Prelude.{◌≡◌, ◌⊎◌, ℕ, ◌+◌, ◌==◌, if◌then◌else◌, List, [], ◌∷◌, ◌++◌, Some}
use Rattle.fwd_outside.specs.Loop.{LoopCall, LoopAnswer, LoopEntry, Dial}

-- the links that dials returned, in order
abbrev pub dialed_by : (call : LoopCall) → LoopAnswer call → List ℕ
dialed_by (Dial output tag) (Some link) = link ∷ []
dialed_by call answer = []

abbrev pub dialed_links : List LoopEntry → List ℕ
dialed_links [] = []
dialed_links (e ∷ es) = dialed_by e.call e.answer ++ dialed_links es

abbrev pub IsAmong : List ℕ → ℕ → Type 0
IsAmong [] link = ⊥
IsAmong (other ∷ links) link = (other ≡ link) ⊎ IsAmong links link

-- each dialed link gets a number that no other link gets, whether dialed or not
abbrev pub KeepsApart : (ℕ → ℕ) → (ℕ → Type 0) → Type 0
KeepsApart rename IsDialed = (a b : ℕ) → IsDialed a → (rename a == rename b) ≡ (a == b)

-- the place of a link in a list, counted from n; 0 if it isn't there
abbrev pub place_from : ℕ → List ℕ → ℕ → ℕ
place_from n [] link = 0
place_from n (other ∷ links) link = if other == link then n else place_from (n + 1) links link
