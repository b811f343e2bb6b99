-- The events of a recorded schedule.
use Rattle.std.proofs.Common.{◌≡◌, ℕ, ◌+◌, ◌-◌, ◌^◌, ◌≤◌, ◌&&◌, nat_le, Bool, true, false, if◌then◌else◌, List, [], ◌∷◌, ◌++◌, length, map, refl, sym, ap, subst, arith}
use Rattle.std.specs.Prelude.{All}
use Rattle.std.proofs.lemmas.Bool.{le-leb}
use Rattle.std.proofs.lemmas.List.Elements.{All-head, All-tail}
use Rattle.fwd_base.specs.Limits.{longest_piece}
use Rattle.fwd_outside.specs.declared.happening.Happening.{Happening}
use Rattle.fwd_outside.specs.declared.happening.Happening.TheVariants as happening
use Rattle.fwd_script_loop.specs.PauseMask.{comes, happening_of, place_of}
use Rattle.fwd_script_loop.specs.Lines.{coming, given_of}
use Rattle.fwd_script_loop.specs.Place.{IsPlayed, ArePlayed}
use Rattle.fwd_outside.specs.NewLinks.{AreNewLinks}
use Rattle.fwd_record.specs.Seen.{Seen, calls_of}
use Rattle.fwd_record.specs.Links.{no_links, links_in, number_of}
use Rattle.fwd_record.specs.Recorded.{heard_in, happening_named, line_of, recorded}
use Rattle.fwd_record.specs.Allowed.{IsLine, AreAllowed}
use Rattle.fwd_record.specs.Played.{replayed, AreReplayable}
use Rattle.fwd_record.proofs.AllowedCalls.{heard_lines, new_links_rise}
use Rattle.fwd_record.proofs.Playing.{plays}

module _ (links : List ℕ) where
  abbrev named : Happening → Happening
  named brought = happening_named (number_of links) brought

  both_true : (a b : Bool) → a ≡ true → b ≡ true → (a && b) ≡ true
  both_true true b first second = second
  both_true false b first second = first

  line_comes : (brought : Happening) → IsLine brought → comes (named brought) ≡ true
  line_comes (happening.Tick now) line = refl
  line_comes (happening.Joined input conn) line = refl
  line_comes (happening.Piece input conn bytes) line =
      both_true (nat_le 1 (length bytes)) (nat_le (length bytes) longest_piece) (le-leb 1 (length bytes) (omega (arith, line.0))) (le-leb (length bytes) longest_piece line.1)
  line_comes (happening.Gone input conn) line = refl
  line_comes (happening.Room link) line = refl
  line_comes (happening.Back link bytes) line = refl
  line_comes (happening.Broken link) line = refl
  line_comes (happening.InputEnd input) line = refl
  line_comes happening.Stop line = refl
  line_comes happening.End line = refl
  line_comes happening.Failed line = refl

  -- each line brings its event
  lines_bring : (line : ℕ) (heard : List Happening) → All IsLine heard → map happening_of (coming line (map (line_of links) heard)) ≡ map named heard
  lines_bring line [] lines = refl
  lines_bring line (brought ∷ heard) lines =
      by (comes (named brought)) (line_comes brought (All-head IsLine brought heard lines)) (lines_bring (line + 1) heard (All-tail IsLine brought heard lines))
    where
      by : (b : Bool) → b ≡ true → map happening_of (coming (line + 1) (map (line_of links) heard)) ≡ map named heard
          → map happening_of ((if b then record { line = line; behind = 0; happening = named brought } ∷ [] else []) ++ coming (line + 1) (map (line_of links) heard)) ≡ named brought ∷ map named heard
      by true is rest = ap (λ (l : List Happening). named brought ∷ l) rest
      by false is rest = absurd (cc is)

pub recorded_plays : (endless : Bool) (seen : List Seen) (failed : List ℕ) (until paused : ℕ) → AreAllowed endless (calls_of seen) → AreNewLinks 0 (calls_of seen)
    → length (links_in (calls_of seen)) ≤ 2 ^ 64 - 1 → AreReplayable no_links seen
    → IsPlayed (given_of (recorded seen failed)) (replayed (number_of (links_in (calls_of seen))) until paused seen)
recorded_plays endless seen failed until paused allowed new few can =
    let all = links_in (calls_of seen) in
    let places = map place_of (coming 0 (recorded seen failed).lines) in
    let brought : map happening_of (coming 0 (recorded seen failed).lines) ≡ map (happening_named (number_of all)) (heard_in seen) = lines_bring all 0 (heard_in seen) (heard_lines endless seen allowed) in
    subst (λ (l : List Happening). ArePlayed (record { left = record (given_of (recorded seen failed)) { happenings = l }; links = [] }) (replayed (number_of all) until paused seen)) (sym brought)
    (plays endless all (new_links_rise 0 (calls_of seen) new) few until paused places no_links seen refl refl allowed can)
