-- The split of a stream at its line feeds when more bytes follow it.
use Rattle.std.proofs.Common.{◌≡◌, ℕ, ◌+◌, ◌∙◌, sym, ap, cond, eqb, Bool, true, false, ◌||◌, List, [], ◌∷◌, ◌++◌, length, take, drop, refl, arith}
use Rattle.std.proofs.lemmas.List.{append_assoc, drop_at}
use Rattle.std.proofs.lemmas.List.Concat.{flat_map-append}
use Rattle.fwd_frames.specs.Lines.{has_feed, prepend_to_first, ended_parts, rest, line_of, unless_empty, lines, last_line}
use Rattle.fwd_frames.specs.LineSteps.{FirstFeed}
use Rattle.fwd_frames.specs.declared.line.Line.{Line}

-- without a line feed there is no part, and all bytes are the rest
pub ended_parts-none : (s : List ℕ) → has_feed s ≡ false → ended_parts s ≡ []
ended_parts-none [] h = refl
ended_parts-none (b ∷ s) h =
    elim (eqb b 10) as (λ x. (x || has_feed s) ≡ false → cond x ([] ∷ ended_parts s) (prepend_to_first b (ended_parts s)) ≡ []) [
      | true ↦ λ e. cc
      | false ↦ λ e. ap (prepend_to_first b) (ended_parts-none s e)
    ] h

pub rest-none : (s : List ℕ) → has_feed s ≡ false → rest s ≡ s
rest-none [] h = refl
rest-none (b ∷ s) h = ap (λ x. cond x (rest s) (b ∷ s)) h

-- a line feed ends a part
pub ended_parts-some : (s : List ℕ) → has_feed s ≡ true → (p : List ℕ) × (ps : List (List ℕ)) × (ended_parts s ≡ p ∷ ps)
ended_parts-some [] h = cc
ended_parts-some (b ∷ s) h =
    elim (eqb b 10) as (λ x. (x || has_feed s) ≡ true → (p : List ℕ) × (ps : List (List ℕ)) × (cond x ([] ∷ ended_parts s) (prepend_to_first b (ended_parts s)) ≡ p ∷ ps)) [
      | true ↦ λ e. ([], ended_parts s, refl)
      | false ↦ λ e. let found = ended_parts-some s e in (b ∷ found.0, found.1, ap (prepend_to_first b) found.2)
    ] h

-- bytes without a line feed extend the rest
pub ended_parts-append : (s u : List ℕ) → has_feed u ≡ false → ended_parts (s ++ u) ≡ ended_parts s
ended_parts-append [] u h = ended_parts-none u h
ended_parts-append (b ∷ s) u h = ap (λ x. cond (eqb b 10) ([] ∷ x) (prepend_to_first b x)) (ended_parts-append s u h)

has_feed-append : (s u : List ℕ) → has_feed u ≡ false → has_feed (s ++ u) ≡ has_feed s
has_feed-append [] u h = h
has_feed-append (b ∷ s) u h = ap (λ x. eqb b 10 || x) (has_feed-append s u h)

pub rest-append : (s u : List ℕ) → has_feed u ≡ false → rest (s ++ u) ≡ rest s ++ u
rest-append [] u h = rest-none u h
rest-append (b ∷ s) u h =
    rw (has_feed-append s u h)
    (elim (eqb b 10 || has_feed s) as (λ x. cond x (rest (s ++ u)) (b ∷ (s ++ u)) ≡ cond x (rest s) (b ∷ s) ++ u) [
      | true ↦ rest-append s u h
      | false ↦ refl
    ])

has_feed-feed : (s v : List ℕ) → has_feed (s ++ 10 ∷ v) ≡ true
has_feed-feed [] v = refl
has_feed-feed (b ∷ s) v = grind (arith, has_feed-feed s v)

-- a line feed ends the rest with the bytes before it, and a new stream begins after it
pub rest-feed : (s v : List ℕ) → rest (s ++ 10 ∷ v) ≡ rest v
rest-feed [] v = refl
rest-feed (b ∷ s) v = rw (has_feed-feed (b ∷ s) v) (rest-feed s v)

ended_parts-feed_by : (b : ℕ) (s v : List ℕ) (x y : Bool) → eqb b 10 ≡ x → has_feed s ≡ y → ended_parts (s ++ 10 ∷ v) ≡ ended_parts s ++ rest s ∷ ended_parts v → ended_parts ((b ∷ s) ++ 10 ∷ v) ≡ ended_parts (b ∷ s) ++ rest (b ∷ s) ∷ ended_parts v
ended_parts-feed_by b s v true y e f again = rw (e, again) refl
ended_parts-feed_by b s v false true e f again =
    let some = ended_parts-some s f in
    rw (e, f, again, some.2) refl
ended_parts-feed_by b s v false false e f again = rw (e, f, again, ended_parts-none s f, rest-none s f) refl

pub ended_parts-feed : (s v : List ℕ) → ended_parts (s ++ 10 ∷ v) ≡ ended_parts s ++ rest s ∷ ended_parts v
ended_parts-feed [] v = refl
ended_parts-feed (b ∷ s) v = ended_parts-feed_by b s v _ _ refl refl (ended_parts-feed s v)

-- the lines of a stream that ends a part and continues, and of one whose rest grows
pub lines-feed : (s v : List ℕ) → lines (s ++ 10 ∷ v) ≡ lines s ++ (last_line s ++ lines v)
lines-feed s v = rw (ended_parts-feed s v) (flat_map-append (λ part. unless_empty (line_of part)) (ended_parts s) (rest s ∷ ended_parts v))

pub lines-append : (s u : List ℕ) → has_feed u ≡ false → lines (s ++ u) ≡ lines s
lines-append s u h = rw (ended_parts-append s u h) refl

-- the same, after a search for the first line feed
pub lines-found : (s piece : List ℕ) (place : ℕ) → FirstFeed piece place → lines (s ++ piece) ≡ lines s ++ (unless_empty (line_of (rest s ++ take place piece)) ++ lines (drop (place + 1) piece))
lines-found s piece place f =
    let parted : s ++ piece ≡ (s ++ take place piece) ++ 10 ∷ drop (place + 1) piece =
    ap (λ p. s ++ p) f.split ∙ sym (append_assoc s (take place piece) (10 ∷ drop (place + 1) piece)) in
    ap lines parted ∙ lines-feed (s ++ take place piece) (drop (place + 1) piece)
    ∙ ap (λ l. l ++ (last_line (s ++ take place piece) ++ lines (drop (place + 1) piece))) (lines-append s (take place piece) f.none_before)
    ∙ ap (λ r. lines s ++ (unless_empty (line_of r) ++ lines (drop (place + 1) piece))) (rest-append s (take place piece) f.none_before)

pub rest-found : (s piece : List ℕ) (place : ℕ) → FirstFeed piece place → rest (s ++ piece) ≡ rest (drop (place + 1) piece)
rest-found s piece place f =
    let parted : s ++ piece ≡ (s ++ take place piece) ++ 10 ∷ drop (place + 1) piece =
    ap (λ p. s ++ p) f.split ∙ sym (append_assoc s (take place piece) (10 ∷ drop (place + 1) piece)) in
    ap rest parted ∙ rest-feed (s ++ take place piece) (drop (place + 1) piece)

-- the second of two concatenated lists, by dropping the first
pub behind-append : {X : Type 0} (xs ys all : List X) → xs ++ ys ≡ all → ys ≡ drop (length xs) all
behind-append xs ys all e = sym (drop_at xs ys (length xs) refl) ∙ ap (drop (length xs)) e

-- lines appended one after another: that of the rest, unless it is empty, and those after it
pub lines-pushed : (s piece : List ℕ) (place : ℕ) (first : Line) (none one all : List Line) → FirstFeed piece place → none ≡ [] → first ≡ line_of (rest s ++ take place piece) → one ≡ none ++ unless_empty first → all ≡ one ++ lines (drop (place + 1) piece) → lines s ++ all ≡ lines (s ++ piece)
lines-pushed s piece place first none one all found empty is one_is all_is =
    rw (all_is, one_is, empty, is) (sym (lines-found s piece place found))
