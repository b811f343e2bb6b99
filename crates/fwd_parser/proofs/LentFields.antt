-- The event of groups that are lent.
use Rattle.std.proofs.Common.{◌≡◌, ◌∙◌, sym, ap, ℕ, zero, suc, ◌+◌, ◌<◌, ◌^◌, List, [], ◌∷◌, ◌++◌, map, filter, length, get_or, Bool, remove, nat_lt, ltb, cond, true, false, option_map, Option, Some, None, refl, arith}
use Rattle.std.proofs.lemmas.List.{length-map}
use Rattle.std.proofs.lemmas.Bool.Decides.{nat_tests}
use Rattle.std.specs.Int.{w32, to_be_bytes}
use Rattle.std.specs.Prelude.{position, slice_get}
use Rattle.std.specs.Option.{option_map_or}
use Rattle.std.specs.List.{position_or_len}
use Rattle.regex.specs.Patterns.{Match, find}
use Rattle.fwd_base.specs.Pattern.{Captured, captured, captures_of, expression_of, group_names, search_expression, search_names, SearchesFor}
use Rattle.fwd_base.specs.declared.pattern.Pattern.{Pattern}
use Rattle.fwd_base.specs.declared.search.Search.{Search}
use Rattle.fwd_base.specs.declared.search.Capture.{Capture}
use Rattle.fwd_value.specs.Keys.{Record, has_key}
use Rattle.fwd_value.proofs.Edits.{map-remove}
use Rattle.fwd_value.proofs.FirstMatch.{none_found, found}
use Rattle.fwd_value.specs.Val.{Val, entries_of}
use Rattle.fwd_value.specs.Limits.{nesting, entry_nestings, LengthsFit, EntryLengthsFit, entry_count}
use Rattle.fwd_msgpack.specs.Canonical.{canonical, canonical_entries, map_head}
use Rattle.fwd_event.specs.declared.event.Event.{Event}
use Rattle.fwd_event.specs.Event.{event_val, EventFits}
use Rattle.fwd_event.proofs.EventEncodings.{event_bytes}
use Rattle.fwd_json.specs.declared.floats.Floats.{Floats}
use Rattle.fwd_json.specs.declared.floats.Floats.TheVariants.{Tagged, Numbers}
use Rattle.fwd_parser.specs.Field.{field_of, fields_of, is_kept_group, read_as, integer_of, hex_of, truth_of, float_of, typed, kind_of}
use Rattle.fwd_parser.specs.LineEvent.{Moment, at, parsed, timed_event, plain, body_of, without, field_moment, moment_of_value}
use Rattle.fwd_parser.specs.LentFields.{lent_field, lent_record, AreShort}
use Rattle.fwd_parser.specs.EventHead.{event_head}
use Rattle.fwd_parser.specs.declared.parser.FieldType.{FieldType}
use Rattle.fwd_parser.specs.declared.parser.Parser.{Parser}
use Rattle.fwd_parser.specs.declared.parser.Shape.{Shape}
use Rattle.fwd_parser.specs.declared.parser.TypeKind.{TypeKind}
use Rattle.fwd_parser.specs.declared.parser.TimeRule.{TimeRule}
use Rattle.fwd_parser.specs.declared.parser.Shape.TheVariants as shape
use Rattle.fwd_parser.specs.declared.parser.TypeKind.TheVariants as kind

-- a value that a typed field has if it isn't a text
record Plain (v : Val) : Type 0 where
  flat : nesting v ≡ 0
  fits : LengthsFit v
  timeless : (format : List ℕ) → moment_of_value format v ≡ None

mapped : {A : Type 0} (f : A → Val) → ((a : A) → Plain (f a)) → (o : Option A) (v : Val) → option_map f o ≡ Some v → Plain v
mapped f h None v e = cc
mapped f h (Some a) v e = let one : f a ≡ v = cc in rw (← one) (h a)

plain_read : (floats : Floats) (k : TypeKind) (s : List ℕ) (v : Val) → read_as floats k s ≡ Some v → Plain v
unfolding read_as
plain_read floats kind.Integer s v e = mapped _ (λ n. record { flat = refl; fits = tt; timeless = λ f. refl }) (integer_of s) v e
plain_read floats kind.Hex s v e = mapped _ (λ n. record { flat = refl; fits = tt; timeless = λ f. refl }) (hex_of s) v e
plain_read floats kind.Bool s v e = mapped _ (λ n. record { flat = refl; fits = tt; timeless = λ f. refl }) (truth_of s) v e
plain_read Tagged kind.Float s v e = cc
plain_read Numbers kind.Float s v e = mapped _ (λ n. record { flat = refl; fits = tt; timeless = λ f. refl }) (float_of s) v e
plain_read floats kind.Text s v e = cc

pub read_is_flat : (floats : Floats) (k : TypeKind) (s : List ℕ) (v : Val) → read_as floats k s ≡ Some v → nesting v ≡ 0
read_is_flat floats k s v e = (plain_read floats k s v e).flat

pub read_fits : (floats : Floats) (k : TypeKind) (s : List ℕ) (v : Val) → read_as floats k s ≡ Some v → LengthsFit v
read_fits floats k s v e = (plain_read floats k s v e).fits

pub read_has_no_time : (floats : Floats) (k : TypeKind) (s : List ℕ) (v : Val) → read_as floats k s ≡ Some v → (format : List ℕ) → moment_of_value format v ≡ None
read_has_no_time floats k s v e = (plain_read floats k s v e).timeless

typed_by : (floats : Floats) (k : TypeKind) (s : List ℕ) → length s < 2 ^ 32 → (o : Option Val) → read_as floats k s ≡ o → (nesting (typed floats k s) ≡ 0) × LengthsFit (typed floats k s)
unfolding typed
typed_by floats k s short None e = rw e (refl, short)
typed_by floats k s short (Some v) e = let p = plain_read floats k s v e in rw e (p.flat, p.fits)

module _ (floats : Floats) (types : List FieldType) where
  lengths_fit : (cs : List Capture) → AreShort cs → EntryLengthsFit (entries_of (lent_record floats types cs))
  lengths_fit [] h = tt
  lengths_fit (c ∷ cs) h = (h.0, (typed_by floats (kind_of types c.name.now) c.bytes.now h.1 _ refl).1, lengths_fit cs h.2)

  flat : (cs : List Capture) → AreShort cs → entry_nestings (entries_of (lent_record floats types cs)) ≡ 0
  flat [] h = refl
  flat (c ∷ cs) h = rw ((typed_by floats (kind_of types c.name.now) c.bytes.now h.1 _ refl).0, flat cs h.2) refl

  pub count : (cs : List Capture) → entry_count (entries_of (lent_record floats types cs)) ≡ length cs
  count [] = refl
  count (c ∷ cs) = ap suc (count cs)

  pub lent_fits : (moment : Moment) (cs : List Capture) → length cs < 16 → AreShort cs → EventFits (at moment (lent_record floats types cs))
  lent_fits moment cs few short = record {
    meta_nested = omega arith;
    body_nested = omega (arith, flat cs short);
    meta_lengths = (omega arith, tt);
    body_lengths = (omega (arith, count cs), lengths_fit cs short);
  }

  head_of : (n : ℕ) → n < 16 → map_head n ≡ (128 + n) ∷ []
  unfolding map_head
  head_of n few = let small : nat_lt n 16 ≡ true = grind (arith, nat_tests, few) in rw small refl

  pub lent_bytes : (moment : Moment) (cs : List Capture) → length cs < 16 → canonical (event_val (at moment (lent_record floats types cs))) ≡ event_head moment (length cs) ++ canonical_entries (entries_of (lent_record floats types cs))
  lent_bytes moment cs few =
      let body = lent_record floats types cs in
      let head : map_head (entry_count (entries_of body)) ≡ (128 + length cs) ∷ [] = ap map_head (count cs) ∙ head_of (length cs) few in
      let tail = canonical_entries (entries_of body) in
      let pair : (map_head 0 ++ []) ++ (map_head (entry_count (entries_of body)) ++ tail) ≡ 128 ∷ (128 + length cs) ∷ tail = ap (λ (h : List ℕ). (h ++ []) ++ (map_head (entry_count (entries_of body)) ++ tail)) (head_of 0 (omega arith)) ∙ ap (λ (h : List ℕ). 128 ∷ (h ++ tail)) head in
      event_bytes (at moment body) ∙ ap (λ (t : List ℕ). (146 ∷ 146 ∷ 215 ∷ 0 ∷ (to_be_bytes w32 moment.0 ++ to_be_bytes w32 moment.1)) ++ t) pair

  joined : (cs : List Capture) → map (field_of floats types) (map captured cs) ≡ lent_record floats types cs
  joined [] = refl
  joined (c ∷ cs) = ap (λ (fs : List (Val × Val)). lent_field floats types c ∷ fs) (joined cs)

  kept_of : (pattern : Pattern) (skip : Bool) (line : List ℕ) (o : Option Match) (gs cs : List Capture) → Some (map captured gs) ≡ option_map (captures_of (group_names pattern) line) o
      → map captured cs ≡ filter (is_kept_group skip) (map captured gs)
      → lent_record floats types cs ≡ option_map_or (λ m. fields_of floats types skip (captures_of (group_names pattern) line m)) o (plain line)
  kept_of pattern skip line None gs cs e kept = cc
  kept_of pattern skip line (Some m) gs cs e kept =
      let one : map captured gs ≡ captures_of (group_names pattern) line m = cc in
      sym (joined cs) ∙ ap (map (field_of floats types)) (kept ∙ ap (filter (is_kept_group skip)) one)

  -- the groups that become fields, as the record of a line
  pub kept_body : (pattern : Pattern) (skip : Bool) (line : List ℕ) (search : Search) (gs cs : List Capture)
      → SearchesFor pattern search
      → Some (map captured gs) ≡ option_map (captures_of (search_names search) line) (find (search_expression search) line 0)
      → map captured cs ≡ filter (is_kept_group skip) (map captured gs)
      → lent_record floats types cs ≡ body_of floats (shape.Groups pattern types skip) line
  unfolding body_of
  kept_body pattern skip line search gs cs for is kept = kept_of pattern skip line (find (expression_of pattern) line 0) gs cs (rw (← for.expression, ← for.names) is) kept

  nothing_kept : (pattern : Pattern) (skip : Bool) (line : List ℕ) (o : Option Match) (r : Option (List Captured)) → r ≡ None → r ≡ option_map (captures_of (group_names pattern) line) o
      → plain line ≡ option_map_or (λ m. fields_of floats types skip (captures_of (group_names pattern) line m)) o (plain line)
  nothing_kept pattern skip line None r none e = refl
  nothing_kept pattern skip line (Some m) r none e = cc

  -- the record of a line that the pattern doesn't match
  pub unmatched_body : (pattern : Pattern) (skip : Bool) (line : List ℕ) (search : Search)
      → SearchesFor pattern search
      → None ≡ option_map (captures_of (search_names search) line) (find (search_expression search) line 0)
      → plain line ≡ body_of floats (shape.Groups pattern types skip) line
  unfolding body_of
  unmatched_body pattern skip line search for is = nothing_kept pattern skip line (find (expression_of pattern) line 0) None refl (rw (← for.expression, ← for.names) is)

  -- no group is left out if empty ones are kept
  pub all_fields : (cs : List Capture) → fields_of floats types false (map captured cs) ≡ lent_record floats types cs
  all_fields [] = refl
  all_fields (c ∷ cs) = ap (λ (fs : List (Val × Val)). lent_field floats types c ∷ fs) (all_fields cs)

  get_at : (cs : List Capture) (i : ℕ) (g : Capture) → i < length cs → g ≡ get_or cs i g → slice_get (lent_record floats types cs) i ≡ Some (lent_field floats types g)
  get_at [] i g lt e = absurd (omega arith)
  get_at (c ∷ cs) zero g lt e = rw e refl
  get_at (c ∷ cs) (suc i) g lt e = get_at cs i g (omega arith) e

  pub no_field : (rule : TimeRule) (cs : List Capture) → position (has_key rule.key) (lent_record floats types cs) ≡ None → field_moment rule (lent_record floats types cs) ≡ None
  unfolding field_moment
  no_field rule cs none = rw (none_found (has_key rule.key) (lent_record floats types cs) none) refl

  pub its_moment : (rule : TimeRule) (cs : List Capture) (i : ℕ) (g : Capture) → position (has_key rule.key) (lent_record floats types cs) ≡ Some i → i < length cs → g ≡ get_or cs i g
      → field_moment rule (lent_record floats types cs) ≡ moment_of_value rule.format (typed floats (kind_of types g.name.now) g.bytes.now)
  unfolding field_moment
  its_moment rule cs i g place lt e = rw (found (has_key rule.key) (lent_record floats types cs) i (lent_field floats types g) place (get_at cs i g lt e)) refl

  pub taken_out : (rule : TimeRule) (cs : List Capture) (i : ℕ) → position (has_key rule.key) (lent_record floats types cs) ≡ Some i → lent_record floats types (remove cs i) ≡ without rule.key (lent_record floats types cs)
  unfolding without
  taken_out rule cs i place = rw place (map-remove (lent_field floats types) cs i)

-- the event of a line whose record these groups give
pub parsed_lent : (parser : Parser) (line : List ℕ) (clock : ℕ) (s : Shape) (lent : Record) (event : Event) → parser.shape ≡ s → lent ≡ body_of parser.floats s line → event ≡ timed_event parser.time clock lent → event ≡ parsed parser line clock
unfolding parsed
parsed_lent parser line clock s lent event is body timed = timed ∙ ap (timed_event parser.time clock) (body ∙ ap (λ t. body_of parser.floats t line) (sym is))

pub place_within : (floats : Floats) (types : List FieldType) (test : Val × Val → Bool) (cs : List Capture) (i : ℕ) → position test (lent_record floats types cs) ≡ Some i → i < length cs
place_within floats types test cs i e = omega (arith, position-within test (lent_record floats types cs) i e, length-map cs (lent_field floats types))
  where
    position-within : (test : Val × Val → Bool) (xs : Record) (i : ℕ) → position test xs ≡ Some i → i < length xs
    position-within test xs i e = by_test _ refl e
      where
        by_test : (b : Bool) → ltb (position_or_len test xs) (length xs) ≡ b → cond b (Some (position_or_len test xs)) None ≡ Some i → i < length xs
        by_test true lt e = let same : position_or_len test xs ≡ i = cc in grind (arith, nat_tests)
        by_test false lt e = cc
