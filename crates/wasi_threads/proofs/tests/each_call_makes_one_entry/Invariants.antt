use Rattle.wasi_threads.proofs.tests.each_call_makes_one_entry.Given as goal

abbrev pub ghosts-called : goal.ghosts-called
ghosts-called g a = record { name = a.blank.name; parts = a.blank.parts }
