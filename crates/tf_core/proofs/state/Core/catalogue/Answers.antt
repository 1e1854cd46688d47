use Rattle.std.proofs.Common.{sym, subst}
use Rattle.tf_core.specs.Kept.{past_in}
use Rattle.tf_core.specs.Sources.{AreNamedOnce}
use Rattle.tf_core.specs.Standing.{shared}
use Rattle.tf_core.proofs.AllowedKinds.{named_once}
use Rattle.tf_core.proofs.state.Core.catalogue.Goals as goal

pub catalogue_of-requires : goal.catalogue_of-requires
catalogue_of-requires c =
    let inside = c.self.inside in
    subst AreNamedOnce (sym c.as_slice.ensures.value)
    (named_once (past_in inside.entries.items) inside.indices.items (shared inside.docs.items) inside.transforms.items c.self.invariant.stands)
