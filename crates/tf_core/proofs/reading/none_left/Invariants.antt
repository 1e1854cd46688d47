use Rattle.tf_core.proofs.reading.none_left.Given as goal

abbrev pub ghosts-none_after : goal.ghosts-none_after
ghosts-none_after a = record { name = a.blank.name; parts = a.blank.parts }
