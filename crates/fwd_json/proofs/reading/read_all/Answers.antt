use Rattle.std.proofs.Common.{◌≡◌, [], Some, sym, ap, ◌∙◌, rules}
use Rattle.json.specs.Lex.{tokens}
use Rattle.json.specs.Json.{value}
use Rattle.serde_json.specs.Read.{of_json, converted}
use Rattle.fwd_json.proofs.TokenTurns.{whole_read}
use Rattle.fwd_json.proofs.reading.read_all.Goals as goal

pub returns-clause-ok : goal.returns-clause-ok
returns-clause-ok c =
    let none : c.read.new.reader ≡ [] = search rules in
    let d = c.in_ok-value.ensures.ok in
    let parsed = ap (λ ts. converted of_json (value 127 ts)) (sym c.in-Ok.ensures.ok) ∙ d.1 ∙ ap (λ r. Some (d.0, r)) none in
    (d.0, whole_read (value 127 (tokens c.args.text.now)) d.0 parsed, d.2)
