-- What one more buffer does to a stream.
use Rattle.std.proofs.Common.{◌≡◌, ℕ, true, false, List, [], ◌++◌, length, map, take, IfOk, OnErr, is_some, Option, Some, None, Result, Ok, Err, refl, sym, ap, subst, ◌∙◌}
use Rattle.std.proofs.lemmas.List.{append-nil, take_at}
use Rattle.fwd_wire.specs.declared.fault.ConnFault.{ConnFault}
use Rattle.fwd_wire.specs.Message.{MessageContent}
use Rattle.fwd_wire.specs.Answer.{IsAnswer, short}
use Rattle.fwd_wire.specs.Stream.{Ending, waiting, broken, Breaks, Streams}
use Rattle.fwd_in_forward.specs.Conn.{ending_of}
use Rattle.fwd_in_forward.proofs.StreamGrowth.{joined, stays_broken}

-- no messages after others
none_more : {M : Type 0} (content : M → MessageContent) (before : List MessageContent) (ms : List M) → ms ≡ [] → before ++ map content ms ≡ before
none_more {M = M} content before ms e = ap (λ (x : List M). before ++ map content x) e ∙ append-nil before

-- a stream that is broken
pub broken_on : {M : Type 0} (content : M → MessageContent) (rest : List ℕ) (fault : Option ConnFault) (e : Ending) (ms : List M) (more : List ℕ)
    → is_some fault ≡ true → ending_of rest fault ≡ e → ms ≡ []
    → (stream : List ℕ) (before : List MessageContent) → Streams before e stream → Streams (before ++ map content ms) e (stream ++ more)
broken_on content rest None e ms more some is none stream before h = absurd cc
broken_on content rest (Some fault) e ms more some is none stream before h =
    let on = stays_broken before fault stream more (subst (λ (x : Ending). Streams before x stream) (sym is) h) in
    let same = subst (λ (x : Ending). Streams before x (stream ++ more)) is on in
    subst (λ (x : List MessageContent). Streams x e (stream ++ more)) (sym (none_more content before ms none)) same

-- a stream whose next message isn't whole yet
pub waits_on : {M : Type 0} (content : M → MessageContent) (rest more all : List ℕ) (fault : Option ConnFault) (e : Ending) (ms : List M)
    → is_some fault ≡ false → ending_of rest fault ≡ e → all ≡ rest ++ more → IsAnswer all short → ms ≡ []
    → (stream : List ℕ) (before : List MessageContent) → Streams before e stream → Streams (before ++ map content ms) (ending_of all fault) (stream ++ more)
waits_on content rest more all (Some fault) e ms some is joins h none stream before s = absurd cc
waits_on {M = M} content rest more all None e ms some is joins h none stream before s =
    let old = subst (λ (x : Ending). Streams before x stream) (sym is) s in
    let on = joined before [] (waiting all) rest stream more old (sym joins, subst (λ (x : List ℕ). IsAnswer x short) joins h) in
    subst (λ (x : List M). Streams (before ++ map content x) (waiting all) (stream ++ more)) (sym none) on

-- the stream breaks in the buffer
pub breaks_now : {M : Type 0} (content : M → MessageContent) (rest more all : List ℕ) (fault : Option ConnFault) (why : ConnFault) (e new : Ending) (ms : List M)
    → is_some fault ≡ false → ending_of rest fault ≡ e → all ≡ rest ++ more → Breaks why all → new ≡ broken why → ms ≡ []
    → (stream : List ℕ) (before : List MessageContent) → Streams before e stream → Streams (before ++ map content ms) new (stream ++ more)
breaks_now content rest more all (Some fault) why e new ms some is joins h now none stream before s = absurd cc
breaks_now {M = M} content rest more all None why e new ms some is joins h now none stream before s =
    let old = subst (λ (x : Ending). Streams before x stream) (sym is) s in
    let on = joined before [] (broken why) rest stream more old (subst (Breaks why) joins h) in
    let same = subst (λ (x : List M). Streams (before ++ map content x) (broken why) (stream ++ more)) (sym none) on in
    subst (λ (x : Ending). Streams (before ++ map content ms) x (stream ++ more)) (sym now) same

-- messages end in the buffer
pub messages_end : {X E : Type 0} (said : X → List MessageContent) (r : Result X E) (rest more all : List ℕ) (fault : Option ConnFault) (e new : Ending)
    → is_some fault ≡ false → ending_of rest fault ≡ e → all ≡ rest ++ more
    → ((x : List ℕ) → ending_of all fault ≡ waiting x → IfOk r (λ fed. Streams (said fed) new x))
    → (stream : List ℕ) (before : List MessageContent) → Streams before e stream → IfOk r (λ fed. Streams (before ++ said fed) new (stream ++ more))
messages_end said r rest more all (Some fault) e new some is joins h stream before s = absurd cc
messages_end said (Err x) rest more all None e new some is joins h stream before s = tt
messages_end said (Ok fed) rest more all None e new some is joins h stream before s =
    let old = subst (λ (x : Ending). Streams before x stream) (sym is) s in
    joined before (said fed) new rest stream more old (subst (Streams (said fed) new) joins (h all refl))

-- the buffer was removed again
pub buffer_removed : {X E : Type 0} (r : Result X E) (rest more all : List ℕ) (n : ℕ) (fault : Option ConnFault) (e new : Ending)
    → is_some fault ≡ false → ending_of rest fault ≡ e → all ≡ rest ++ more → n ≡ length rest
    → ((x : List ℕ) → ending_of all fault ≡ waiting x → OnErr r (new ≡ waiting (take n x))) → OnErr r (new ≡ e)
buffer_removed r rest more all n (Some fault) e new some is joins size h = absurd cc
buffer_removed (Ok x) rest more all n None e new some is joins size h = tt
buffer_removed (Err x) rest more all n None e new some is joins size h =
    let front : take n all ≡ rest = ap (take n) joins ∙ take_at rest more n (sym size) in
    h all refl ∙ ap waiting front ∙ is
