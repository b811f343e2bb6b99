use Rattle.std.proofs.Common.{◌≡◌, ◌++◌, ℕ, List, Ok, sym, ◌∙◌, ap, subst}
use Rattle.std.specs.List.{flat_map}
use Rattle.fwd_script.specs.declared.schedule.Life.{Life}
use Rattle.fwd_script.specs.Schedule.{schedule_of}
use Rattle.fwd_script.specs.Text.{ended_lines, life_lines, text_of}
use Rattle.fwd_script.proofs.RoundTrip.{written_reads}
use Rattle.fwd_script.proofs.writer.write_schedule.Goals as goal

pub returns-clause-read_back : goal.returns-clause-read_back
returns-clause-read_back c =
    let text : c.write_lives.new.text ≡ text_of c.args.s.now =
    c.in_ok-write_lives.ensures ∙ ap (λ (t : List ℕ). t ++ flat_map (λ (life : Life). ended_lines (life_lines life)) c.as_slice.result.now) c.new-text.ensures
    ∙ ap (λ (l : List Life). flat_map (λ (life : Life). ended_lines (life_lines life)) l) c.as_slice.ensures in
    λ writable. subst (λ (t : List ℕ). schedule_of t ≡ Ok c.args.s.now) (sym text) (written_reads c.args.s.now writable)
