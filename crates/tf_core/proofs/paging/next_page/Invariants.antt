use Rattle.tf_core.proofs.paging.next_page.Given as goal

abbrev pub ghosts-page_from : goal.ghosts-page_from
ghosts-page_from a = record { name = a.blank.name; parts = a.blank.parts }
