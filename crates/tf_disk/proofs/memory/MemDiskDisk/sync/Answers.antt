use Rattle.std.proofs.Common.{◌≡◌, [], ◌∷◌, ◌++◌, ◌∙◌, ap, Some}
use Rattle.tf_disk.specs.declared.change.Change.TheVariants.{Sync}
use Rattle.tf_disk.proofs.Changes.{makes_sync, durable, contents_after}
use Rattle.tf_disk.proofs.memory.MemDiskDisk.sync.Goals as goal

pub returns-in-Ok-clause-durable : goal.returns-in-Ok-clause-durable
returns-in-Ok-clause-durable c =
    let pushed : c.make.new.self.changes ≡ c.args.self.now.changes ++ Sync ∷ [] = cc (c.in-Ok.ensures.ok, c.begin.ensures.file.1) in
    durable c.args.self.now c.make.new.self (c.in-Ok.ensures.rest.0 ∙ c.begin.ensures.file.0) pushed

pub returns-in-Ok-clause-same : goal.returns-in-Ok-clause-same
returns-in-Ok-clause-same c =
    let pushed : c.make.new.self.changes ≡ c.args.self.now.changes ++ Sync ∷ [] = cc (c.in-Ok.ensures.ok, c.begin.ensures.file.1) in
    ap Some (contents_after c.args.self.now c.make.new.self Sync (c.in-Ok.ensures.rest.0 ∙ c.begin.ensures.file.0) pushed)

pub returns-in-Ok-clause-model : goal.returns-in-Ok-clause-model
returns-in-Ok-clause-model c =
    let pushed : c.make.new.self.changes ≡ c.args.self.now.changes ++ Sync ∷ [] = cc (c.in-Ok.ensures.ok, c.begin.ensures.file.1) in
    makes_sync c.args.self.now c.make.new.self (c.in-Ok.ensures.rest.0 ∙ c.begin.ensures.file.0) pushed
