-- Calls that are passed on, with keys or without.
use Rattle.std.proofs.Common.{◌≡◌, ℕ, Bool, true, false, List, Option, Some, None, refl, sym, subst}
use Rattle.std.specs.Prelude.{is_some}
use Rattle.fwd_outside.specs.Log.{LogGrew, RunsProgram, log_of_call}
use Rattle.fwd_outside.specs.Loop.{LoopLog, Push, Close, Reply, DropConn, Word, PushAnswer, Again}
use Rattle.fwd_secure.specs.declared.keys.Keys.{Keys}
use Rattle.fwd_secure.specs.Handshakes.{Handshakes, link_at, closed, dropped}
use Rattle.fwd_secure.specs.Outcome.{with_state}
use Rattle.fwd_secure.specs.Rules.{answers_by, pushes_by}
use Rattle.fwd_secure.proofs.RuleSteps.{passed_on, returned}

pub word_passes : (keyed : Bool) (keys : Keys) (k : Handshakes) (a b : LoopLog) (o : Option ℕ) → LogGrew a b (log_of_call Word o) → RunsProgram a b (answers_by keyed keys k Word) (with_state o k)
word_passes true keys k a b o grew = passed_on a b Word k o grew
word_passes false keys k a b o grew = passed_on a b Word k o grew

pub reply_passes : (keyed : Bool) (keys : Keys) (k : Handshakes) (a b : LoopLog) (conn : ℕ) (bytes : List ℕ) (o : Option (Option (Unit {0}))) → LogGrew a b (log_of_call (Reply conn bytes) o)
    → RunsProgram a b (answers_by keyed keys k (Reply conn bytes)) (with_state o k)
reply_passes true keys k a b conn bytes o grew = passed_on a b (Reply conn bytes) k o grew
reply_passes false keys k a b conn bytes o grew = passed_on a b (Reply conn bytes) k o grew

-- a link that was closed, and a connection that was dropped, are forgotten
abbrev pub after_close : Bool → Handshakes → ℕ → Handshakes
after_close true k link = closed k link
after_close false k link = k

abbrev pub after_drop : Bool → Handshakes → ℕ → Handshakes
after_drop true k conn = dropped k conn
after_drop false k conn = k

pub close_passes : (keyed : Bool) (keys : Keys) (k u : Handshakes) (a b : LoopLog) (link : ℕ) → u ≡ after_close keyed k link → LogGrew a b (log_of_call (Close link) (Some tt))
    → RunsProgram a b (answers_by keyed keys k (Close link)) (Some (tt, u))
close_passes true keys k u a b link is grew = subst (λ (x : Handshakes). RunsProgram a b (answers_by true keys k (Close link)) (Some (tt, x))) (sym is) (passed_on a b (Close link) (closed k link) (Some tt) grew)
close_passes false keys k u a b link is grew = subst (λ (x : Handshakes). RunsProgram a b (answers_by false keys k (Close link)) (Some (tt, x))) (sym is) (passed_on a b (Close link) k (Some tt) grew)

pub close_stops : (keyed : Bool) (keys : Keys) (k : Handshakes) (a b : LoopLog) (link : ℕ) → LogGrew a b (log_of_call (Close link) None) → RunsProgram a b (answers_by keyed keys k (Close link)) None
close_stops true keys k a b link grew = passed_on a b (Close link) (closed k link) None grew
close_stops false keys k a b link grew = passed_on a b (Close link) k None grew

pub drop_passes : (keyed : Bool) (keys : Keys) (k u : Handshakes) (a b : LoopLog) (conn : ℕ) → u ≡ after_drop keyed k conn → LogGrew a b (log_of_call (DropConn conn) (Some tt))
    → RunsProgram a b (answers_by keyed keys k (DropConn conn)) (Some (tt, u))
drop_passes true keys k u a b conn is grew = subst (λ (x : Handshakes). RunsProgram a b (answers_by true keys k (DropConn conn)) (Some (tt, x))) (sym is) (passed_on a b (DropConn conn) (dropped k conn) (Some tt) grew)
drop_passes false keys k u a b conn is grew = subst (λ (x : Handshakes). RunsProgram a b (answers_by false keys k (DropConn conn)) (Some (tt, x))) (sym is) (passed_on a b (DropConn conn) k (Some tt) grew)

pub drop_stops : (keyed : Bool) (keys : Keys) (k : Handshakes) (a b : LoopLog) (conn : ℕ) → LogGrew a b (log_of_call (DropConn conn) None) → RunsProgram a b (answers_by keyed keys k (DropConn conn)) None
drop_stops true keys k a b conn grew = passed_on a b (DropConn conn) (dropped k conn) None grew
drop_stops false keys k a b conn grew = passed_on a b (DropConn conn) k None grew

-- a push over a link whose handshake is under way takes nothing; any other is passed on
pub push_waits : (keys : Keys) (k : Handshakes) (a : LoopLog) (link : ℕ) (bytes : List ℕ) (b : Bool) → b ≡ true → b ≡ is_some (link_at k link) → RunsProgram a a (answers_by true keys k (Push link bytes)) (Some (Again, k))
push_waits keys k a link bytes b is under_way =
    subst (λ (x : Bool). RunsProgram a a (pushes_by k link bytes x) (Some (Again, k))) under_way
    (subst (λ (x : Bool). RunsProgram a a (pushes_by k link bytes x) (Some (Again, k))) (sym is) (returned a (Again, k)))

pub push_passes : (keyed : Bool) (keys : Keys) (k : Handshakes) (a b : LoopLog) (link : ℕ) (bytes : List ℕ) (o : Option PushAnswer) → (keyed ≡ true → is_some (link_at k link) ≡ false)
    → LogGrew a b (log_of_call (Push link bytes) o) → RunsProgram a b (answers_by keyed keys k (Push link bytes)) (with_state o k)
push_passes true keys k a b link bytes o free grew =
    subst (λ (x : Bool). RunsProgram a b (pushes_by k link bytes x) (with_state o k)) (sym (free refl)) (passed_on a b (Push link bytes) k o grew)
push_passes false keys k a b link bytes o free grew = passed_on a b (Push link bytes) k o grew
