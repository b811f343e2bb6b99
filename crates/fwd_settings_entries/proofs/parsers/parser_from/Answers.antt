use Rattle.std.proofs.Common.{◌≡◌, List, Option, Result, Ok, Err, ap, subst, ◌∙◌}
use Rattle.std.specs.Result.{IsErrAnd}
use Rattle.fwd_parser.specs.Floats.{Tagged}
use Rattle.fwd_parser.specs.declared.parser.Parser.{Parser}
use Rattle.fwd_parser.specs.declared.parser.Shape.{Shape}
use Rattle.fwd_parser.specs.declared.parser.TimeRule.{TimeRule}
use Rattle.fwd_config.specs.declared.section.Place.{Place}
use Rattle.fwd_settings_entries.specs.declared.read_err.ReadErr.{ReadErr}
use Rattle.fwd_settings_schema.specs.declared.keys.Key.TheVariants as key
use Rattle.fwd_settings_schema.specs.declared.properties.Property.{Property}
use Rattle.fwd_settings_values.specs.declared.words.LineFormat.{LineFormat}
use Rattle.fwd_settings_schema.specs.Property.{format_at}
use Rattle.fwd_settings_entries.specs.Reading.{Reading, Checked, known, ReturnsResult}
use Rattle.fwd_settings_entries.specs.Parsers.{time_of, parser_by, shape_by, with_time, parser_from}
use Rattle.fwd_settings_entries.proofs.Readings.{returns_refused, stopped}
use Rattle.fwd_settings_entries.proofs.parsers.parser_from.Goals as goal

module _ (place : Place) (properties : List Property) where
  abbrev with_shape : Shape → Reading Parser
  with_shape shape = known (Ok (parser_by properties shape))

  shape_refused : (shape : Checked Shape) (s : ReadErr) → ReturnsResult (known shape) (Err s) → ReturnsResult (known (with_time properties shape)) (Err s)
  shape_refused (Ok shape) s gives = returns_refused (known (Ok shape)) with_shape s gives
  shape_refused (Err refusal) s gives = returns_refused (known (Err refusal)) with_shape s gives

  module _ (format : Option LineFormat) (of_said : format ≡ format_at key.Format properties) where
    refused : (s : ReadErr) (r : Result Parser ReadErr) → IsErrAnd r (λ e. e ≡ s) → ReturnsResult (known (shape_by place properties format)) (Err s) → ReturnsResult (known (parser_from place properties)) r
    refused s r is gives =
        stopped (known (parser_from place properties)) s r is
        (shape_refused (shape_by place properties (format_at key.Format properties)) s
        (subst (λ (f : Option LineFormat). ReturnsResult (known (shape_by place properties f)) (Err s)) of_said gives))

    made : (shape : Shape) (time : Option TimeRule) → time ≡ time_of properties → ◌≡◌ {A = Checked Shape} (Ok shape) (shape_by place properties format) → ◌≡◌ {A = Checked Parser} (Ok (record { shape = shape; time = time; floats = Tagged })) (parser_from place properties)
    made shape time timed is =
        ap (λ (t : Option TimeRule). Ok (record { shape = shape; time = t; floats = Tagged })) timed
        ∙ ap (with_time properties) (is ∙ ap (shape_by place properties) of_said)

pub returns-in_err-shape : goal.returns-in_err-shape
returns-in_err-shape c =
    refused c.args.place.now c.args.properties c.format_at-format.result (c.format_at-format.ensures ∙ ap (format_at key.Format) c.as_slice-2.ensures) c.in_err-shape.field-0.0
    c.from_residual-in_err-shape.result c.from_residual-in_err-shape.ensures.1 c.in_err-shape.ensures

pub returns : goal.returns
returns c =
    made c.args.place.now c.args.properties c.format_at-format.result (c.format_at-format.ensures ∙ ap (format_at key.Format) c.as_slice-2.ensures) c.in_ok-shape.shape c.in_ok-time.time
    (c.in_ok-time.ensures ∙ ap time_of c.as_slice.ensures) c.in_ok-shape.ensures
