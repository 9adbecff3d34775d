use Rattle.wasi_race.proofs.tests.many_readers_share_a_file.Given as goal

abbrev pub ghosts-pieces_of_many : goal.ghosts-pieces_of_many
ghosts-pieces_of_many g a = record { name = a.blank.name; parts = a.blank.parts }
