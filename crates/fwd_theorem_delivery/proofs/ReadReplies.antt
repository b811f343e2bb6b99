-- The replies to the messages of a read.
use Rattle.std.proofs.Common.{◌≡◌, ℕ, Bool, true, false, cond, List, [], ◌∷◌, ◌++◌, append-nil, append_assoc, map, Option, Some, None, refl, sym, ◌∙◌, ap, subst, arith}
use Rattle.std.specs.Prelude.{Contains}
use Rattle.std.proofs.lemmas.List.{map-append}
use Rattle.std.proofs.lemmas.List.Elements.{Contains-append_left, Contains-append_right}
use Rattle.fwd_outside.specs.Program.{entry}
use Rattle.fwd_outside.specs.Loop.{Reply, DropConn}
use Rattle.fwd_wire.specs.Message.{MessageContent}
use Rattle.fwd_settings.specs.declared.settings_types.AllSettings.{AllSettings}
use Rattle.fwd_model.specs.Fact.{Fact, History, Batch, Disconnected, Malformed, Refused}
use Rattle.fwd_model.specs.Trace.{Call, Action, TraceEntry, OnLoop, Note}
use Rattle.fwd_model.specs.Messages.{message_batch, reply_of}
use Rattle.fwd_model.specs.Acceptance.{accepts}
use Rattle.fwd_model.specs.InputActions.{hangs_up, after_reply, replies, acknowledges, accepts_messages}
use Rattle.fwd_theorem_trace.specs.Events.{events_only}
use Rattle.fwd_theorem_delivery.specs.Replies.{replies_in, broken_with, broken_in, drops_in, facts_in, asked_for, replies_to, TakenInOrder, ReadEnds, GoesOn, BreaksOff, IsRefused, ReplyBroke}
use Rattle.fwd_theorem_delivery.proofs.SilentActions.{is_silent, AreSilent}
use Rattle.fwd_theorem_delivery.proofs.CallSequences.{MakesCalls, makes_bind}
use Rattle.fwd_theorem_delivery.proofs.ReplyLists.{replies_both, broken_both, drops_both, notes_both, came_both, still_replies, still_broken, still_drops, still_came, TakenTo, to_more, was_behind, to_last, in_order, answers_both}
use Rattle.fwd_theorem_delivery.proofs.AcceptFacts.{Outcome, Comes, grows_by, makes_accepts}

-- since a start, these messages were taken, the replies that these ask for were sent, and that many
-- replies failed
pub record Answered (s : AllSettings) (input conn : ℕ) (start now : List TraceEntry) (took given : List MessageContent) (broke : List ℕ) : Type 0 where
  pub own : List TraceEntry
  pub is : now ≡ start ++ own
  pub came : events_only (facts_in own) ≡ []
  pub rest : List Fact
  pub taken : TakenTo (facts_in own) (map (message_batch s input) took) rest
  pub replies : replies_in own ≡ replies_to conn given
  pub broken : broken_in own ≡ broke
  pub drops : drops_in own ≡ []

-- the first of all messages were answered since then, and it ended this way
pub record Ended (s : AllSettings) (input conn : ℕ) (all : List MessageContent) (breaks : Bool) (start now : List TraceEntry) : Type 0 where
  pub own : List TraceEntry
  pub is : now ≡ start ++ own
  pub answered : List MessageContent
  pub left : List MessageContent
  pub messages : all ≡ answered ++ left
  pub taken : TakenInOrder (facts_in own) (map (message_batch s input) answered)
  pub replies : replies_in own ≡ replies_to conn answered
  pub ends : ReadEnds s input conn breaks left own

-- what one message asks for
pub asks_nothing : (conn : ℕ) (m : MessageContent) → reply_of m ≡ None → replies_to conn (m ∷ []) ≡ []
asks_nothing conn m is = ap (λ (asked : Option (List ℕ)). map (λ (bytes : List ℕ). (conn, bytes)) (asked_for asked ++ [])) is

pub asks_one : (conn : ℕ) (m : MessageContent) (bytes : List ℕ) → reply_of m ≡ Some bytes → replies_to conn (m ∷ []) ≡ (conn, bytes) ∷ []
asks_one conn m bytes is = ap (λ (asked : Option (List ℕ)). map (λ (bytes : List ℕ). (conn, bytes)) (asked_for asked ++ [])) is

module _ (s : AllSettings) (P : List TraceEntry → Call → Type 0) (holds : (before : List TraceEntry) (call : Call) → is_silent call ≡ true → P before call)
    (input conn : ℕ) (hangs : (before : List TraceEntry) → P before (OnLoop (DropConn conn))) (all : List MessageContent) (start : List TraceEntry)
    (due : (now : List TraceEntry) (earlier : List MessageContent) (m : MessageContent) (later : List MessageContent) (bytes : List ℕ) → all ≡ earlier ++ m ∷ later → reply_of m ≡ Some bytes
    → Answered s input conn start now (earlier ++ m ∷ []) earlier [] → P now (OnLoop (Reply conn bytes))) where
  abbrev After : List ℕ → List TraceEntry → List MessageContent → List MessageContent → Type 0
  After broke now took given = Answered s input conn start now took given broke

  abbrev Now : List TraceEntry → List MessageContent → List MessageContent → Type 0
  Now now took given = After [] now took given

  abbrev Over : Bool → History → List TraceEntry → Type 0
  Over breaks h now = Ended s input conn all breaks start now

  -- the connection is dropped after that, for this reason
  makes_hangs : (breaks : Bool) (broke : List ℕ) (h : History) (now : List TraceEntry) (answered left : List MessageContent) → all ≡ answered ++ left → (at : After broke now answered answered)
      → ((more : List TraceEntry) → replies_in more ≡ [] → broken_in (at.own ++ more) ≡ broke → drops_in (at.own ++ more) ≡ conn ∷ [] → ReadEnds s input conn breaks left (at.own ++ more)) → MakesCalls P (Over breaks) now (hangs_up conn h)
  unfolding hangs_up
  makes_hangs breaks broke h now answered left messages at why = (
    hangs now,
    λ one. (
      holds (now ++ entry (OnLoop (DropConn conn)) one ∷ []) (Note (Disconnected conn)) refl,
      λ two.
          let d : TraceEntry = entry (OnLoop (DropConn conn)) one in
          let u : TraceEntry = entry (Note (Disconnected conn)) two in
          let both : List TraceEntry = d ∷ u ∷ [] in
          record {
            own = at.own ++ both;
            is = append_assoc now (d ∷ []) (u ∷ []) ∙ grows_by start at.own both now at.is;
            answered = answered;
            left = left;
            messages = messages;
            taken =
                in_order (facts_in (at.own ++ both)) (map (message_batch s input) answered) (at.rest ++ facts_in both)
                (subst (λ (l : List Fact). TakenTo l (map (message_batch s input) answered) (at.rest ++ facts_in both)) (sym (notes_both at.own both))
                (to_more (facts_in at.own) (facts_in both) (map (message_batch s input) answered) at.rest at.taken));
            replies = replies_both at.own both ∙ (append-nil (replies_in at.own) ∙ at.replies);
            ends = why both refl (broken_both at.own both ∙ (append-nil (broken_in at.own) ∙ at.broken)) (drops_both at.own both ∙ ap (λ (l : List ℕ). l ++ conn ∷ []) at.drops);
          },
    ),
  )

  -- after an acceptance that took the message
  takes_one : (now later : List TraceEntry) (answered : List MessageContent) (m : MessageContent) (own : List TraceEntry) → Now now answered answered → later ≡ now ++ own → AreSilent own
      → Outcome (message_batch s input m) true (facts_in own) → Now later (answered ++ m ∷ []) answered
  takes_one now later answered m own at is are outcome =
      let bs = map (message_batch s input) answered in
      let was = was_behind at.rest (facts_in own) (message_batch s input m) outcome.0 outcome.1 in
      record {
        own = at.own ++ own;
        is = is ∙ grows_by start at.own own now at.is;
        came = subst (λ (l : List Fact). events_only l ≡ []) (sym (notes_both at.own own)) (came_both (facts_in at.own) (facts_in own) at.came (still_came own are));
        rest = was.0;
        taken =
            subst (λ (l : List Fact). TakenTo l (map (message_batch s input) (answered ++ m ∷ [])) was.0) (sym (notes_both at.own own))
            (subst (λ (l : List Batch). TakenTo (facts_in at.own ++ facts_in own) l was.0) (sym (map-append (message_batch s input) answered (m ∷ [])))
            (to_last (facts_in at.own ++ facts_in own) bs (message_batch s input m) (at.rest ++ facts_in own) was.0 (to_more (facts_in at.own) (facts_in own) bs at.rest at.taken) was.1));
        replies = replies_both at.own own ∙ (ap (λ (l : List (ℕ × List ℕ)). replies_in at.own ++ l) (still_replies own are) ∙ (append-nil (replies_in at.own) ∙ at.replies));
        broken = broken_both at.own own ∙ (ap (λ (l : List ℕ). broken_in at.own ++ l) (still_broken own are) ∙ (append-nil (broken_in at.own) ∙ at.broken));
        drops = drops_both at.own own ∙ (ap (λ (l : List ℕ). drops_in at.own ++ l) (still_drops own are) ∙ (append-nil (drops_in at.own) ∙ at.drops));
      }

  -- after calls without replies
  stays : (now later : List TraceEntry) (took given : List MessageContent) (own : List TraceEntry) → Now now took given → later ≡ now ++ own → AreSilent own → Now later took given
  stays now later took given own at is are =
      let bs = map (message_batch s input) took in
      record {
        own = at.own ++ own;
        is = is ∙ grows_by start at.own own now at.is;
        came = subst (λ (l : List Fact). events_only l ≡ []) (sym (notes_both at.own own)) (came_both (facts_in at.own) (facts_in own) at.came (still_came own are));
        rest = at.rest ++ facts_in own;
        taken = subst (λ (l : List Fact). TakenTo l bs (at.rest ++ facts_in own)) (sym (notes_both at.own own)) (to_more (facts_in at.own) (facts_in own) bs at.rest at.taken);
        replies = replies_both at.own own ∙ (ap (λ (l : List (ℕ × List ℕ)). replies_in at.own ++ l) (still_replies own are) ∙ (append-nil (replies_in at.own) ∙ at.replies));
        broken = broken_both at.own own ∙ (ap (λ (l : List ℕ). broken_in at.own ++ l) (still_broken own are) ∙ (append-nil (broken_in at.own) ∙ at.broken));
        drops = drops_both at.own own ∙ (ap (λ (l : List ℕ). drops_in at.own ++ l) (still_drops own are) ∙ (append-nil (drops_in at.own) ∙ at.drops));
      }

  -- a logged fact stays
  noted_still : (one two three : List TraceEntry) (fact : Fact) → Contains (facts_in two) fact → Contains (facts_in (one ++ two ++ three)) fact
  noted_still one two three fact has =
      subst (λ (l : List Fact). Contains l fact) (sym (notes_both (one ++ two) three))
      (Contains-append_left (facts_in (one ++ two)) (facts_in three) fact (subst (λ (l : List Fact). Contains l fact) (sym (notes_both one two)) (Contains-append_right (facts_in one) (facts_in two) fact has)))

  -- after a reply
  replies_one : (now : List TraceEntry) (answered : List MessageContent) (m : MessageContent) (bytes : List ℕ) (answer : Option (Unit {0})) → reply_of m ≡ Some bytes → Now now (answered ++ m ∷ []) answered
      → After (broken_with conn answer) (now ++ entry (OnLoop (Reply conn bytes)) answer ∷ []) (answered ++ m ∷ []) (answered ++ m ∷ [])
  replies_one now answered m bytes answer asked at =
      let e : TraceEntry = entry (OnLoop (Reply conn bytes)) answer in
      let same : facts_in (at.own ++ e ∷ []) ≡ facts_in at.own = notes_both at.own (e ∷ []) ∙ append-nil (facts_in at.own) in
      record {
        own = at.own ++ e ∷ [];
        is = grows_by start at.own (e ∷ []) now at.is;
        came = subst (λ (l : List Fact). events_only l ≡ []) (sym same) at.came;
        rest = at.rest;
        taken = subst (λ (l : List Fact). TakenTo l (map (message_batch s input) (answered ++ m ∷ [])) at.rest) (sym same) at.taken;
        replies =
            replies_both at.own (e ∷ []) ∙
            (ap (λ (l : List (ℕ × List ℕ)). l ++ (conn, bytes) ∷ []) at.replies ∙
            (ap (λ (l : List (ℕ × List ℕ)). replies_to conn answered ++ l) (sym (asks_one conn m bytes asked)) ∙ sym (answers_both conn answered (m ∷ []))));
        broken = broken_both at.own (e ∷ []) ∙ (ap (λ (l : List ℕ). l ++ (broken_with conn answer ++ [])) at.broken ∙ append-nil (broken_with conn answer));
        drops = drops_both at.own (e ∷ []) ∙ (append-nil (drops_in at.own) ∙ at.drops);
      }

  replies_none : (now : List TraceEntry) (answered : List MessageContent) (m : MessageContent) → reply_of m ≡ None → Now now (answered ++ m ∷ []) answered → Now now (answered ++ m ∷ []) (answered ++ m ∷ [])
  replies_none now answered m asked at = record {
    own = at.own;
    is = at.is;
    came = at.came;
    rest = at.rest;
    taken = at.taken;
    replies =
        at.replies ∙
        (sym (append-nil (replies_to conn answered)) ∙
        (ap (λ (l : List (ℕ × List ℕ)). replies_to conn answered ++ l) (sym (asks_nothing conn m asked)) ∙ sym (answers_both conn answered (m ∷ []))));
    broken = at.broken;
    drops = at.drops;
  }

  module _ (breaks : Bool) (answered : List MessageContent) (m : MessageContent) (ms : List MessageContent) (messages : all ≡ answered ++ m ∷ ms) (next : History → Action History)
      (more : (now : List TraceEntry) (h : History) → Now now (answered ++ m ∷ []) (answered ++ m ∷ []) → MakesCalls P (Over breaks) now (next h)) where
    makes_replied : (bytes : List ℕ) (answer : Option (Unit {0})) (h : History) (now : List TraceEntry) → Now now (answered ++ m ∷ []) answered → reply_of m ≡ Some bytes
        → MakesCalls P (Over breaks) (now ++ entry (OnLoop (Reply conn bytes)) answer ∷ []) (after_reply conn next h answer)
    unfolding replies_one
    makes_replied bytes (Some done) h now at asked = more (now ++ entry (OnLoop (Reply conn bytes)) (Some done) ∷ []) h (replies_one now answered m bytes (Some done) asked at)
    makes_replied bytes None h now at asked =
        let e : TraceEntry = entry (OnLoop (Reply conn bytes)) None in
        let then = replies_one now answered m bytes None asked at in
        makes_hangs breaks (conn ∷ []) h (now ++ e ∷ []) (answered ++ m ∷ []) ms (messages ∙ sym (append_assoc answered (m ∷ []) ms)) then
        (λ others none broken drops. ReplyBroke bytes at.own others (append_assoc at.own (e ∷ []) others) at.broken none drops)

    makes_replies : (asked : Option (List ℕ)) (h : History) (now : List TraceEntry) → reply_of m ≡ asked → Now now (answered ++ m ∷ []) answered → MakesCalls P (Over breaks) now (replies conn asked next h)
    makes_replies None h now is at = more now h (replies_none now answered m is at)
    makes_replies (Some bytes) h now is at = (due now answered m ms bytes messages is at, λ answer. makes_replied bytes answer h now at is)

    makes_answers : (took : Bool) (h : History) (now later own : List TraceEntry) → Now now answered answered → later ≡ now ++ own → AreSilent own → Outcome (message_batch s input m) took (facts_in own)
        → MakesCalls P (Over breaks) later (cond took (replies conn (reply_of m) next h) (hangs_up conn h))
    unfolding stays
    makes_answers true h now later own at is are outcome = makes_replies (reply_of m) h later refl (takes_one now later answered m own at is are outcome)
    makes_answers false h now later own at is are outcome =
        makes_hangs breaks [] h later answered (m ∷ ms) messages (stays now later answered answered own at is are)
        (λ others none broken drops. IsRefused m ms outcome.0 refl (noted_still at.own own others (Refused (message_batch s input m) outcome.0) outcome.1) broken drops)

  pub makes_reads : (breaks : Bool) (answered ms : List MessageContent) (now : List TraceEntry) (h : History) → all ≡ answered ++ ms → Now now answered answered → MakesCalls P (Over breaks) now (accepts_messages s input conn breaks ms h)
  unfolding stays
  makes_reads false answered [] now h messages at = record {
    own = at.own;
    is = at.is;
    answered = answered;
    left = [];
    messages = messages;
    taken = in_order (facts_in at.own) (map (message_batch s input) answered) at.rest at.taken;
    replies = at.replies;
    ends = GoesOn refl refl at.broken at.drops;
  }
  makes_reads true answered [] now h messages at = (
    holds now (Note (Malformed input)) refl,
    λ answer.
        let e : TraceEntry = entry (Note (Malformed input)) answer in
        makes_hangs true [] (Malformed input ∷ h) (now ++ e ∷ []) answered [] messages (stays now (now ++ e ∷ []) answered answered (e ∷ []) at refl (refl, tt))
        (λ others none broken drops. BreaksOff refl refl (noted_still at.own (e ∷ []) others (Malformed input) (0, omega arith, refl)) broken drops),
  )
  makes_reads breaks answered (m ∷ ms) now h messages at =
      makes_bind P (Comes (message_batch s input m) now) (Over breaks) now (accepts s (message_batch s input m) h) (acknowledges conn (reply_of m) (accepts_messages s input conn breaks ms))
      (makes_accepts s P holds (message_batch s input m) h now)
      (λ a later (own, is, are, outcome).
      makes_answers breaks answered m ms messages (accepts_messages s input conn breaks ms)
      (λ then h2 at2. makes_reads breaks (answered ++ m ∷ []) ms then h2 (messages ∙ sym (append_assoc answered (m ∷ []) ms)) at2)
      a.taken a.history now later own at is are outcome)
