use Rattle.std.proofs.Common.{◌≡◌, [], ◌∷◌, ◌++◌, ◌∙◌, is_ok}
use Rattle.tf_disk.specs.declared.change.Change.TheVariants.{Trim}
use Rattle.tf_disk.proofs.Changes.{cuts, makes_cut}
use Rattle.tf_disk.proofs.memory.MemDiskDisk.cut.Goals as goal

pub returns-in-Ok-clause-cut : goal.returns-in-Ok-clause-cut
returns-in-Ok-clause-cut c =
    let pushed : c.make.new.self.changes ≡ c.args.self.now.changes ++ Trim c.args.len (is_ok c.begin-begun.result) ∷ [] =
    cc (c.in-Ok.ensures.ok, c.begin-begun.ensures.file.1, c.is_ok-is_done.ensures.value) in
    cuts c.args.self.now c.make.new.self (c.in-Ok.ensures.rest.0 ∙ c.begin-begun.ensures.file.0) c.args.len c.begin-begun.result pushed

pub returns-in-Ok-clause-model : goal.returns-in-Ok-clause-model
returns-in-Ok-clause-model c =
    let pushed : c.make.new.self.changes ≡ c.args.self.now.changes ++ Trim c.args.len (is_ok c.begin-begun.result) ∷ [] =
    cc (c.in-Ok.ensures.ok, c.begin-begun.ensures.file.1, c.is_ok-is_done.ensures.value) in
    makes_cut c.args.self.now c.make.new.self (c.in-Ok.ensures.rest.0 ∙ c.begin-begun.ensures.file.0) c.args.len (is_ok c.begin-begun.result) pushed
