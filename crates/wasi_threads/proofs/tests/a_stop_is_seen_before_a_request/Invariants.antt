use Rattle.wasi_threads.proofs.tests.a_stop_is_seen_before_a_request.Given as goal

abbrev pub ghosts-stopped : goal.ghosts-stopped
ghosts-stopped g a = record { name = a.blank.name; parts = a.blank.parts }
