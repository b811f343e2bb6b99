-- What filters leave of events in range is in range.
use Rattle.std.proofs.Common.{Bool, true, false, List, [], ◌∷◌, Option, Some, None, IfSome}
use Rattle.std.specs.Prelude.{if◌then◌else◌, option_and_then}
use Rattle.std.specs.List.{filter_map, cons_option}
use Rattle.fwd_grep.specs.Grep.{kept}
use Rattle.fwd_event.specs.declared.event.Event.{Event}
use Rattle.fwd_value.specs.Keys.{Record}
use Rattle.fwd_reshape.specs.Rules.{modified}
use Rattle.fwd_reshape.specs.Moves.{nested, lifted}
use Rattle.fwd_filters.specs.declared.filter_step.FilterKind.{FilterKind}
use Rattle.fwd_filters.specs.declared.filter_step.FilterKind.TheVariants.{Grep, Modify, Nest, Lift}
use Rattle.fwd_filters.specs.Step.{step_of, through}
use Rattle.fwd_theorem_depth.specs.Ranges.{NumbersFit}
use Rattle.fwd_theorem_depth.proofs.RecordRanges.{IsRanged, AllRanged}
use Rattle.fwd_theorem_depth.proofs.ReshapeRanges.{ranged-modified, ranged-nested, ranged-lifted}

-- all but the record is unchanged
with_body : (e : Event) (body : Record) → NumbersFit e → IsRanged body → NumbersFit (record e { body = body })
with_body e body r h = record { sec = r.sec; nsec = r.nsec; meta = r.meta; body = h }

keeps_ranged : (b : Bool) (e : Event) → NumbersFit e → IfSome (if b then Some e else None) NumbersFit
keeps_ranged true e r = r
keeps_ranged false e r = tt

step_ranged : (kind : FilterKind) (e : Event) → NumbersFit e → IfSome (step_of kind e) NumbersFit
step_ranged (Grep rules) e r = keeps_ranged (kept rules e.body) e r
step_ranged (Modify rules) e r = with_body e (modified rules e.body) r (ranged-modified rules e.body r.body)
step_ranged (Nest rule) e r = with_body e (nested rule e.body) r (ranged-nested rule e.body r.body)
step_ranged (Lift rule) e r = with_body e (lifted rule e.body) r (ranged-lifted rule e.body r.body)

then_ranged : (f : Event → Option Event) (o : Option Event) → ((e : Event) → NumbersFit e → IfSome (f e) NumbersFit) → IfSome o NumbersFit → IfSome (option_and_then f o) NumbersFit
then_ranged f None more r = tt
then_ranged f (Some e) more r = more e r

through_ranged : (kinds : List FilterKind) (e : Event) → NumbersFit e → IfSome (through kinds e) NumbersFit
through_ranged [] e r = r
through_ranged (kind ∷ kinds) e r = then_ranged (through kinds) (step_of kind e) (through_ranged kinds) (step_ranged kind e r)

before_ranged : (o : Option Event) (es : List Event) → IfSome o NumbersFit → AllRanged es → AllRanged (cons_option o es)
before_ranged None es r more = more
before_ranged (Some e) es r more = (r, more)

pub filtered_ranged : (kinds : List FilterKind) (es : List Event) → AllRanged es → AllRanged (filter_map (through kinds) es)
filtered_ranged kinds [] r = tt
filtered_ranged kinds (e ∷ es) r = before_ranged (through kinds e) (filter_map (through kinds) es) (through_ranged kinds e r.0) (filtered_ranged kinds es r.1)
