use Rattle.std.proofs.Math.Logic.{∥∥₁_map}
use Rattle.tf_store.specs.Standing.{IsKnown}
use Rattle.tf_store.proofs.state.Store.core.Goals as goal

pub returns-clause-spelled : goal.returns-clause-spelled
returns-clause-spelled g c =
    let store = c.args.self.now in
    ∥∥₁_map store.known (λ (known : IsKnown g.D.Disk.meaning store.opened_with.value store.core.history store.failed.value store.journal). known.spelled)
