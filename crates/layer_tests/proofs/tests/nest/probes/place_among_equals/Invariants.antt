use Rattle.layer_tests.proofs.tests.nest.probes.place_among_equals.Given as goal

abbrev pub ghosts-watched_place : goal.ghosts-watched_place
ghosts-watched_place g a = record { name = a.blank.name; parts = a.blank.parts }
