-- How a transform stands, by what is kept of it.
use Rattle.std.proofs.Common.{◌≡◌, List, Option, Some, None, ◌&&◌, refl, sym, ap}
use Rattle.std.specs.Prelude.{nat_lt}
use Rattle.std.specs.Option.{option_map}
use Rattle.tf_model.specs.declared.doc.Doc.{Doc}
use Rattle.tf_history.specs.Lives.{Life}
use Rattle.tf_core.specs.declared.transform.Transform.{Transform}
use Rattle.tf_core.specs.Allowing.{is_over}
use Rattle.tf_core.specs.Summary.{IsSummary}
use Rattle.tf_core.specs.Table.{Tells}
use Rattle.tf_core.proofs.AllowedTransforms.{batch_is}
use Rattle.tf_decide.specs.declared.standing.Standing.{Standing}
use Rattle.tf_decide.specs.Asking.{standing_of}

abbrev pub kept_standing : Transform → Standing
kept_standing t = record { state = t.state; is_over = is_over t }

stands_as : (docs : List Doc) (t : Transform) (l : Life) → IsSummary docs t l → kept_standing t ≡ standing_of l
stands_as docs t l sum = λ i. record { state = sum.state i; is_over = sym (batch_is docs t l sum) i && nat_lt 0 (sum.finished i) }

pub none_stands : (docs : List Doc) (o : Option Life) → Tells docs None o → ◌≡◌ {A = Option Standing} None (option_map standing_of o)
none_stands docs None tells = refl
none_stands docs (Some l) tells = absurd tells

pub one_stands : (docs : List Doc) (t : Transform) (o : Option Life) → Tells docs (Some t) o → Some (kept_standing t) ≡ option_map standing_of o
one_stands docs t None tells = absurd tells
one_stands docs t (Some l) tells = ap Some (stands_as docs t l tells)
