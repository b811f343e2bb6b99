use Rattle.fwd_engine_state.proofs.state.State.count_refused.Goals as goal

pub returns-clause-batch : goal.returns-clause-batch
returns-clause-batch c b why to s h out before = record {
  rows = before.rows;
  top = before.top;
  flights = before.flights;
  time = before.time;
  ticks = before.ticks;
  closing = before.closing;
  stopped = before.stopped;
  tally = c.add_refused.ensures.batch s h b why to before.tally;
  numbers = before.numbers;
  fresh = before.fresh;
  open_owed = before.open_owed;
}

pub returns-clause-misread : goal.returns-clause-misread
returns-clause-misread c s h out before = record {
  rows = before.rows;
  top = before.top;
  flights = before.flights;
  time = before.time;
  ticks = before.ticks;
  closing = before.closing;
  stopped = before.stopped;
  tally = c.add_refused.ensures.misread s h before.tally;
  numbers = before.numbers;
  fresh = before.fresh;
  open_owed = before.open_owed;
}
