-- What filters leave of shallow events is shallow.
use Rattle.std.proofs.Common.{◌≤◌, Bool, true, false, List, [], ◌∷◌, Option, Some, None, IfSome, arith}
use Rattle.std.specs.Prelude.{if◌then◌else◌, option_and_then}
use Rattle.std.specs.List.{filter_map, cons_option}
use Rattle.fwd_grep.specs.Grep.{kept}
use Rattle.fwd_event.specs.declared.event.Event.{Event}
use Rattle.fwd_value.specs.Keys.{Record}
use Rattle.fwd_reshape.specs.Rules.{modified}
use Rattle.fwd_reshape.specs.Moves.{nested, lifted}
use Rattle.fwd_filters.specs.declared.filter_step.FilterKind.{FilterKind}
use Rattle.fwd_filters.specs.declared.filter_step.FilterKind.TheVariants.{Grep, Modify, Nest, Lift}
use Rattle.fwd_filters.specs.Step.{step_of, through}
use Rattle.fwd_theorem_depth.proofs.Shallow.{Shallow, AllShallow}
use Rattle.fwd_theorem_depth.proofs.RecordDepth.{deep}
use Rattle.fwd_theorem_depth.proofs.ReshapeDepth.{deep-modified, deep-nested, deep-lifted}

-- all but the record is unchanged
with_body : (e : Event) (body : Record) → Shallow e → deep body ≤ 62 → Shallow (record e { body = body })
with_body e body s h = record { meta = s.meta; body = omega (arith, h) }

within : (e : Event) → Shallow e → deep e.body ≤ 62
within e s = omega (arith, s.body)

keeps_shallow : (b : Bool) (e : Event) → Shallow e → IfSome (if b then Some e else None) Shallow
keeps_shallow true e s = s
keeps_shallow false e s = tt

step_shallow : (kind : FilterKind) (e : Event) → Shallow e → IfSome (step_of kind e) Shallow
step_shallow (Grep rules) e s = keeps_shallow (kept rules e.body) e s
step_shallow (Modify rules) e s = with_body e (modified rules e.body) s (omega (arith, deep-modified rules e.body, within e s))
step_shallow (Nest rule) e s = with_body e (nested rule e.body) s (deep-nested rule e.body (within e s))
step_shallow (Lift rule) e s = with_body e (lifted rule e.body) s (deep-lifted rule e.body (within e s))

then_shallow : (f : Event → Option Event) (o : Option Event) → ((e : Event) → Shallow e → IfSome (f e) Shallow) → IfSome o Shallow → IfSome (option_and_then f o) Shallow
then_shallow f None more s = tt
then_shallow f (Some e) more s = more e s

through_shallow : (kinds : List FilterKind) (e : Event) → Shallow e → IfSome (through kinds e) Shallow
through_shallow [] e s = s
through_shallow (kind ∷ kinds) e s = then_shallow (through kinds) (step_of kind e) (through_shallow kinds) (step_shallow kind e s)

before_shallow : (o : Option Event) (es : List Event) → IfSome o Shallow → AllShallow es → AllShallow (cons_option o es)
before_shallow None es s more = more
before_shallow (Some e) es s more = (s, more)

pub filtered_shallow : (kinds : List FilterKind) (es : List Event) → AllShallow es → AllShallow (filter_map (through kinds) es)
filtered_shallow kinds [] s = tt
filtered_shallow kinds (e ∷ es) s = before_shallow (through kinds e) (filter_map (through kinds) es) (through_shallow kinds e s.0) (filtered_shallow kinds es s.1)
