use Rattle.wasi_race.proofs.tests.a_request_grows_while_the_source_is_read.Given as goal

abbrev pub ghosts-passes_the_gate : goal.ghosts-passes_the_gate
ghosts-passes_the_gate g a = record { name = a.blank.name; parts = a.blank.parts }
