use Rattle.fwd.proofs.run_words.Given as goal

abbrev pub ghost-run : goal.ghost-run
ghost-run g a = g.given
