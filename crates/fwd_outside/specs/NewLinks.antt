-- Each link of a loop has a number that is greater than all before it.
use Rattle.std.specs.Prelude.{ℕ, ◌<◌, List, [], ◌∷◌, Some, None}
use Rattle.fwd_outside.specs.Loop.{LoopCall, LoopAnswer, LoopEntry, Dial}

-- the greatest number of a link after a call; `greatest` is that before it
abbrev pub greatest_by : ℕ → (call : LoopCall) → LoopAnswer call → ℕ
greatest_by greatest (Dial output tag) (Some link) = link
greatest_by greatest call answer = greatest

-- a dial that returns a link returns a greater number
abbrev pub IsNewLink : ℕ → (call : LoopCall) → LoopAnswer call → Type 0
IsNewLink greatest (Dial output tag) (Some link) = greatest < link
IsNewLink greatest call answer = Unit {0}

-- each dial that returned a link returned a greater number than all before
abbrev pub AreNewLinks : ℕ → List LoopEntry → Type 0
AreNewLinks greatest [] = Unit {0}
AreNewLinks greatest (e ∷ es) =
    IsNewLink greatest e.call e.answer × AreNewLinks (greatest_by greatest e.call e.answer) es

-- the greatest number of a link after some calls
abbrev pub greatest_after : ℕ → List LoopEntry → ℕ
greatest_after greatest [] = greatest
greatest_after greatest (e ∷ es) = greatest_after (greatest_by greatest e.call e.answer) es
