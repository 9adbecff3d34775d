use Rattle.wasi_threads.proofs.tests.a_pass_that_is_not_handed_in_leaves_the_history_open.Given as goal

abbrev pub ghosts-one_of_two : goal.ghosts-one_of_two
ghosts-one_of_two g a = record { name = a.blank.name; parts = a.blank.parts }
