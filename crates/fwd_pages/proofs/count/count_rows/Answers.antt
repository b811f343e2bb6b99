use Rattle.std.proofs.Common.{ℕ, ◌+◌, ◌-◌, min, sym, ◌∙◌, ap, arith}
use Prim.Native.Nat.{◌^◌}
use Rattle.fwd_table.proofs.SlotRows.{all_places}
use Rattle.fwd_pages.specs.Count.{count_of}
use Rattle.fwd_pages.proofs.Counts.{count_more, count_same}
use Rattle.fwd_pages.proofs.count.count_rows.Goals as goal
use Rattle.fwd_pages.proofs.count.count_rows.Goals.{in-Some, in_default}

pub loop-place-preserved : goal.loop-place-preserved
loop-place-preserved c =
    elim c.match-row.branch [
      | in-Some w ↦
          count_more c.args.which c.args.table.now.places c.loop-place.place w.in-Some.row c.loop-place.count c.match-row.count w.in-Some.ensures.value c.loop-place.invariant
          (w.count-is ∙ w.saturating_add-count.ensures ∙ ap (λ (k : ℕ). min (c.loop-place.count + k) (2 ^ 64 - 1)) w.one_of.ensures)
      | in_default w ↦ count_same c.args.which c.args.table.now.places c.loop-place.place c.loop-place.count c.match-row.count (sym w.in_default.is ∙ c.row.ensures.value) c.loop-place.invariant w.count-is
    ]

pub returns : goal.returns
returns c =
    let all = all_places c.args.table.now.places c.loop-place.place (omega (arith, c.places-place-end.ensures.count)) in
    c.loop-place.invariant ∙ ap (count_of c.args.which) (all ∙ sym c.places-place-end.ensures.rows)
