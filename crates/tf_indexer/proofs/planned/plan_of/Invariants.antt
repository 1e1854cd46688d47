use Rattle.tf_indexer.proofs.planned.plan_of.Given as goal

abbrev pub ghosts-plan_from : goal.ghosts-plan_from
ghosts-plan_from a = record { name = a.blank.name; parts = a.blank.parts }
