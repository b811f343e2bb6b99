use Rattle.std.proofs.Common.{◌≡◌, [], ap, ◌∙◌}
use Rattle.std.proofs.lemmas.Result.{err_from_is_err_and}
use Rattle.fwd_outside.proofs.Executions.{no_call_made}
use Rattle.fwd_config.specs.Variables.{environment}
use Rattle.fwd_config.specs.Text.{sections_of}
use Rattle.fwd_config.specs.Sections.{with_file, with_files, parser_files, with_parser_files, return_sections, load_program, reads_files}
use Rattle.fwd_config.proofs.Steps.{out_of_memory_inside, then_did, then_refused, goes_after, refused_after}
use Rattle.fwd_config.proofs.loader.read_all.Goals as goal

pub returns-in_default-clause-calls : goal.returns-in_default-clause-calls
returns-in_default-clause-calls g c =
    let all = reads_files (load_program (environment c.args.env.now) c.args.path.now) in
    out_of_memory_inside _ _ all all c.out_of_memory.result c.out_of_memory.ensures (no_call_made _ all)

pub returns-in_err-read_file-clause-calls : goal.returns-in_err-read_file-clause-calls
returns-in_err-read_file-clause-calls g c =
    let env = environment c.args.env.now in
    let p = err_from_is_err_and c.from_residual.result c.from_residual.ensures.1 in
    rw (p.1, p.2) (then_refused (with_file env 9 c.args.path.now []) (with_parser_files env) _ _ c.in_err-read_file.field-0.0 (c.in_err-read_file.ensures.calls env [] c.in-Ok.ensures))

pub returns-in_default-parser_files-clause-calls : goal.returns-in_default-parser_files-clause-calls
returns-in_default-parser_files-clause-calls g c =
    let env = environment c.args.env.now in
    let main = c.in_ok-read_file.ensures.calls env [] c.in-Ok.ensures in
    out_of_memory_inside _ _ (reads_files (load_program env c.args.path.now)) (reads_files (with_parser_files env main.0)) c.out_of_memory-in_default-parser_files.result c.out_of_memory-in_default-parser_files.ensures
    (then_did (with_file env 9 c.args.path.now []) (with_parser_files env) _ _ main.0 main.1)

pub returns-in_err-read_files-clause-calls : goal.returns-in_err-read_files-clause-calls
returns-in_err-read_files-clause-calls g c =
    let env = environment c.args.env.now in
    let main = c.in_ok-read_file.ensures.calls env [] c.in-Ok.ensures in
    let named : c.in-Ok-parser_files.parsers ≡ parser_files (sections_of main.0) = c.in-Ok-parser_files.ensures ∙ ap parser_files main.2.sections in
    let before = then_did (with_file env 9 c.args.path.now []) (with_parser_files env) _ _ main.0 main.1 in
    let p = err_from_is_err_and c.from_residual-in_err-read_files.result c.from_residual-in_err-read_files.ensures.1 in
    rw (p.1, p.2)
    (refused_after (with_files env 8 (parser_files (sections_of main.0)) main.0) return_sections _ _ _ (reads_files (load_program env c.args.path.now)) before c.in_err-read_files.field-0.0
    (rw named at (c.in_err-read_files.ensures.calls env main.0 main.2)))

pub returns-clause-calls : goal.returns-clause-calls
returns-clause-calls g c =
    let env = environment c.args.env.now in
    let main = c.in_ok-read_file.ensures.calls env [] c.in-Ok.ensures in
    let named : c.in-Ok-parser_files.parsers ≡ parser_files (sections_of main.0) = c.in-Ok-parser_files.ensures ∙ ap parser_files main.2.sections in
    let before = then_did (with_file env 9 c.args.path.now []) (with_parser_files env) _ _ main.0 main.1 in
    let all = rw named at (c.in_ok-read_files.ensures.calls env main.0 main.2) in
    rw (c.into_sections.ensures, all.2.sections)
    (goes_after (with_files env 8 (parser_files (sections_of main.0)) main.0) return_sections _ _ _ (reads_files (load_program env c.args.path.now)) before all.0 all.1)
